-- The report on a farm's outcome, as a plain function of it (this project's own lines), over
-- the definitions of the one-thread ring.
use Rattle.std.specs.Prelude.{ℕ, ◌+◌, Bool, true, false, List, [], ◌∷◌, ◌++◌, map, length, sum_by, count_by, codes}
use Rattle.std.specs.Fmt.{decimal}
use Rattle.std.specs.List.{range_with_len}
use Rattle.text_lines.specs.Spelling.{list_text}
use Rattle.ring_model.specs.Ring.{bound}
use Rattle.ring_model.specs.History.{opening, after}
use Rattle.ring_model.specs.Surveys.{granted_count, corrupted_count, survey_at}
use Rattle.ring_model.specs.Grants.{grants_of, settled_grants_of}
use Rattle.ring_model.specs.Resources.{till}
use Rattle.ring_model.specs.declared.events.Reply.{Reply}
use Rattle.ring_model.specs.declared.events.Reply.TheVariants.{Granted, NotPrivileged, Corrupted}
use Rattle.ring_model.specs.declared.events.Event.{Event}
use Rattle.ring_model.specs.declared.events.Survey.{Survey}
use Rattle.ring_book.specs.BookView.{BookView}
use Rattle.ring_farm.specs.Log.{Log}
use Rattle.ring_farm.specs.declared.outcomes.Outcome.{Outcome}
use Rattle.ring_logs.specs.declared.outcomes.RingOutcome.{RingOutcome}
use Rattle.one_thread_ring.specs.declared.counts.Totals.{Totals}
use Rattle.one_thread_ring.specs.Counts.{survey_count}
use Rattle.ring_text.specs.declared.counts.Counts.{Counts}
use Rattle.one_thread_ring.specs.declared.counts.Totals.{Totals}

-- ---- the counts

-- the reply to a pass that found no privilege, and how many such passes a history has
abbrev pub is_refused : Reply → Bool
is_refused (Granted number result) = false
is_refused NotPrivileged = true
is_refused (Corrupted old) = false

abbrev pub refused_count : List Event → ℕ
refused_count h = count_by (λ (e : Event). is_refused e.reply) h

-- the surveys in logs, and all entries in them
abbrev pub surveys_in : List Log → ℕ
surveys_in logs = sum_by (λ (l : Log). survey_count l.entries.items) logs

abbrev pub entries_of : List Log → ℕ
entries_of logs = sum_by (λ (l : Log). length l.entries.items) logs

-- the entries in all logs of rings, and of an outcome
abbrev pub entries_among : List RingOutcome → ℕ
entries_among rings = sum_by (λ (r : RingOutcome). entries_of r.logs.items) rings

abbrev pub entries_in : Outcome → ℕ
entries_in o = entries_among o.rings.items

-- the counts of a ring: its events, among them the granted passes, the passes that found no
-- privilege and the corruptions, and the surveys in its logs
abbrev pub counts_of : RingOutcome → Counts
counts_of r = record {
  events = length r.book.history;
  granted = granted_count r.book.history;
  refused = refused_count r.book.history;
  corrupted = corrupted_count r.book.history;
  surveys = surveys_in r.logs.items;
}

-- the sums over rings
abbrev pub totals_of : List RingOutcome → Totals
totals_of rings = record {
  events = sum_by (λ (r : RingOutcome). length r.book.history) rings;
  granted = sum_by (λ (r : RingOutcome). granted_count r.book.history) rings;
  surveys = sum_by (λ (r : RingOutcome). surveys_in r.logs.items) rings;
}

-- ---- the lines

-- a ring's place and its size
abbrev pub size_words : ℕ → ℕ → ℕ → List ℕ
size_words place n k =
    codes "ring " ++ (decimal place ++ (codes " n " ++ (decimal n ++ (codes " k " ++ decimal k))))

-- the counts, and the end of the line
abbrev pub count_words : Counts → List ℕ
count_words c =
    codes " events "
    ++ (decimal c.events
    ++ (codes " granted "
    ++ (decimal c.granted
    ++ (codes " refused "
    ++ (decimal c.refused
    ++ (codes " corrupted "
    ++ (decimal c.corrupted
    ++ (codes " surveys " ++ (decimal c.surveys ++ codes "\n")))))))))

-- the first line of a ring
abbrev pub counts_line : ℕ → ℕ → ℕ → Counts → List ℕ
counts_line place n k c = size_words place n k ++ count_words c

-- the values of its machines
abbrev pub states_line : List ℕ → List ℕ
states_line values = codes "states " ++ (list_text values ++ codes "\n")

-- the survey, and the bound of the rest
abbrev pub standing_line : Survey → ℕ → List ℕ
standing_line s limit =
    codes "privileged "
    ++ (decimal s.privileged
    ++ (codes " first "
    ++ (decimal s.first
    ++ (codes " calm "
    ++ (decimal s.calm
    ++ (codes " rest "
    ++ (decimal s.rest ++ (codes " bound " ++ (decimal limit ++ codes "\n")))))))))

-- the granted passes of each machine: in all, and in the settled run
abbrev pub grants_line : List ℕ → List ℕ → List ℕ
grants_line each settled =
    codes "grants " ++ (list_text each ++ (codes " settled " ++ (list_text settled ++ codes "\n")))

-- the number of rings, and the sums over them
abbrev pub total_line : ℕ → Totals → List ℕ
total_line rings t =
    codes "total rings "
    ++ (decimal rings
    ++ (codes " events "
    ++ (decimal t.events
    ++ (codes " granted "
    ++ (decimal t.granted ++ (codes " surveys " ++ (decimal t.surveys ++ codes "\n")))))))

-- ---- the report

-- one number for each machine of a ring of n
abbrev pub each_machine : ℕ → (ℕ → ℕ) → List ℕ
each_machine n number = map number (range_with_len 0 n)

-- The end of a book: the state after its whole history, the survey there with the bound, and
-- the grants of each machine.
abbrev pub end_lines : BookView ℕ → List ℕ
end_lines b =
    let n = length b.start.values in let first = opening b.start 0 in states_line
    (after till first b.history).ring.values
    ++ (standing_line (survey_at till first b.history (length b.history)) (bound n)
    ++ grants_line (each_machine n (λ i. grants_of i b.history))
    (each_machine n (λ i. settled_grants_of till first i b.history)))

-- the four lines of the ring at a place
abbrev pub ring_lines : ℕ → RingOutcome → List ℕ
ring_lines place r =
    counts_line place (length r.book.start.values) r.book.start.k (counts_of r) ++ end_lines r.book

-- the lines of rings, the first at the given place
abbrev pub rings_from : ℕ → List RingOutcome → List ℕ
rings_from place [] = []
rings_from place (r ∷ rs) = ring_lines place r ++ rings_from (place + 1) rs

-- the line of the farm
abbrev pub farm_line : Outcome → List ℕ
farm_line o = total_line (length o.rings.items) (totals_of o.rings.items)

-- the lines of each ring, and the line of the farm
abbrev pub report : Outcome → List ℕ
report o = rings_from 0 o.rings.items ++ farm_line o
