-- The report on a saved history, as a plain function of it: the lines that a farm's report has of a
-- ring, what each seat did, and the sums (this project's own).
use Rattle.std.specs.Prelude.{◌≡◌, ℕ, ◌<◌, ◌==◌, ◌&&◌, List, ◌++◌, map, length, codes, slice_get, Some}
use Rattle.std.specs.List.{count_by, flat_map, range_with_len}
use Rattle.text_lines.specs.Spelling.{list_text}
use Rattle.ring_model.specs.Ring.{ring_with}
use Rattle.ring_model.specs.Limits.{event_limit, seat_limit}
use Rattle.ring_model.specs.History.{opening, after}
use Rattle.ring_model.specs.Resources.{till}
use Rattle.ring_model.specs.Surveys.{is_granted, granted_count, corrupted_count}
use Rattle.ring_model.specs.declared.events.Event.{Event}
use Rattle.ring_book.specs.BookView.{BookView}
use Rattle.saved_history.specs.declared.saved.SavedSurvey.{SavedSurvey}
use Rattle.saved_history.specs.Content.{Content, Block}
use Rattle.ring_check.specs.declared.answers.Summary.{Summary}
use Rattle.ring_check.specs.Legal.{history, summary_of}
use Rattle.one_thread_ring.specs.declared.counts.Totals.{Totals}
use Rattle.ring_text.specs.declared.counts.Counts.{Counts}
use Rattle.ring_text.specs.Report.{refused_count, counts_line, end_lines, total_line}
use Rattle.ring_text.specs.declared.reports.ReportFault.{ReportFault}
use Rattle.ring_text.specs.declared.reports.ReportFault.TheVariants as report

-- the counts of a block: its events by their kinds, and its surveys
abbrev pub block_counts : Block → Counts
block_counts b = record {
  events = length b.events;
  granted = granted_count (history b);
  refused = refused_count (history b);
  corrupted = corrupted_count (history b);
  surveys = length b.surveys;
}

-- a seat's calls, those of them that were granted, and its surveys
abbrev pub calls_by : List Event → ℕ → ℕ
calls_by h seat = count_by (λ (e : Event). e.seat == seat) h

abbrev pub grants_to : List Event → ℕ → ℕ
grants_to h seat = count_by (λ (e : Event). (e.seat == seat) && is_granted e.reply) h

abbrev pub surveys_by : List SavedSurvey → ℕ → ℕ
surveys_by ss seat = count_by (λ (s : SavedSurvey). s.seat == seat) ss

-- one number for each seat that a ring can have
abbrev pub each_seat : (ℕ → ℕ) → List ℕ
each_seat number = map number (range_with_len 0 seat_limit)

-- what each seat did
abbrev pub seats_line : List Event → List SavedSurvey → List ℕ
seats_line h surveys =
    codes "seats calls "
    ++ (list_text (each_seat (calls_by h))
    ++ (codes " granted "
    ++ (list_text (each_seat (grants_to h))
    ++ (codes " surveys " ++ (list_text (each_seat (surveys_by surveys)) ++ codes "\n")))))

-- the book of a block's ring
abbrev pub book_of : Block → BookView ℕ
book_of b = record {
  start = ring_with b.k b.start;
  now = after till (opening (ring_with b.k b.start) 0) (history b);
  history = history b;
  room = 0;
}

-- the five lines of a block
abbrev pub block_lines : Block → List ℕ
block_lines b =
    counts_line b.index (length b.start) b.k (block_counts b)
    ++ (end_lines (book_of b) ++ seats_line (history b) b.surveys)

-- the sums of the last line
abbrev pub totals : Summary → Totals
totals s = record { events = s.events; granted = s.granted; surveys = s.surveys }

-- the lines of each block, and the sums over all
abbrev pub report_of : Content → List ℕ
report_of c =
    flat_map block_lines c.rings ++ total_line (length c.rings) (totals (summary_of c))

-- Why there is no report of a legal text: one of its rings has more events than are replayed, or
-- there is no memory.
abbrev pub IsReportFault : Content → ReportFault → Type 0
IsReportFault c (report.Full place) =
    (b : Block)
    × (slice_get c.rings place ≡ Some b)
    × (event_limit < length b.events)
IsReportFault c report.OutOfMemory = Unit {0}
