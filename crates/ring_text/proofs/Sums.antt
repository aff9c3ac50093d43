-- The counts of one ring: how they add up, and that they are within the known limits of all.
use Rattle.std.proofs.Common.{◌≡◌, ◌+◌, ◌<◌, ◌≤◌, ◌∙◌, ℕ, List, length, take, get_or, sum_by, ap, sym, arith}
use Rattle.std.proofs.lemmas.List.Sums.{sum_by_more, sum_by_more_le_part, sum_by-le-sum_by, count_by-le-length}
use Rattle.ring_model.specs.Surveys.{granted_count}
use Rattle.ring_farm.specs.Log.{Log}
use Rattle.ring_logs.specs.declared.outcomes.RingOutcome.{RingOutcome}
use Rattle.ring_text.specs.declared.counts.Counts.{Counts}
use Rattle.one_thread_ring.specs.declared.counts.Totals.{Totals}
use Rattle.ring_text.specs.Report.{entries_of, counts_of, surveys_in, totals_of}
use Rattle.one_thread_ring.specs.Counts.{is_survey, survey_count}

-- ---- surveys are entries

few_surveys : (l : Log) → survey_count l.entries.items ≤ length l.entries.items
few_surveys l = count_by-le-length is_survey l.entries.items

pub surveys_within : (logs : List Log) (i : ℕ) (d : Log) → i < length logs → surveys_in (take i logs) + survey_count (get_or logs i d).entries.items ≤ entries_of logs
surveys_within logs i d lt =
    let few = few_surveys (get_or logs i d) in
    let all = sum_by_more_le_part (λ (l : Log). survey_count l.entries.items) (λ (l : Log). length l.entries.items) logs i d lt few_surveys in
    omega (arith, few, all)

few_of_ring : (r : RingOutcome) → surveys_in r.logs.items ≤ entries_of r.logs.items
few_of_ring r = sum_by-le-sum_by (λ (l : Log). survey_count l.entries.items) (λ (l : Log). length l.entries.items) r.logs.items few_surveys

module _ (rings : List RingOutcome) (i : ℕ) (d : RingOutcome) (lt : i < length rings) where
  pub ring_surveys_within : (totals_of (take i rings)).surveys + (counts_of (get_or rings i d)).surveys ≤ sum_by (λ (r : RingOutcome). entries_of r.logs.items) rings
  ring_surveys_within =
      let few = few_of_ring (get_or rings i d) in
      let all = sum_by_more_le_part (λ (r : RingOutcome). surveys_in r.logs.items) (λ (r : RingOutcome). entries_of r.logs.items) rings i d lt few_of_ring in
      omega (arith, few, all)

  -- ---- one ring more

  abbrev totals : ℕ → ℕ → ℕ → Totals
  totals events granted surveys = record { events = events; granted = granted; surveys = surveys }

  pub totals_next : (t : Totals) (c : Counts) → t ≡ totals_of (take i rings) → c ≡ counts_of (get_or rings i d) →
      totals (t.events + c.events) (t.granted + c.granted) (t.surveys + c.surveys) ≡ totals_of (take (i + 1) rings)
  totals_next t c is_t is_c =
      ap (λ (x : Totals). totals (x.events + c.events) (x.granted + c.granted) (x.surveys + c.surveys)) is_t
      ∙ ap (λ (x : Counts). totals ((totals_of (take i rings)).events + x.events) ((totals_of (take i rings)).granted + x.granted) ((totals_of (take i rings)).surveys + x.surveys)) is_c
      ∙ ap (λ (n : ℕ). totals n ((totals_of (take i rings)).granted + (counts_of (get_or rings i d)).granted) ((totals_of (take i rings)).surveys + (counts_of (get_or rings i d)).surveys)) (sym (sum_by_more (λ (r : RingOutcome). length r.book.history) rings i d lt))
      ∙ ap (λ (n : ℕ). totals (totals_of (take (i + 1) rings)).events n ((totals_of (take i rings)).surveys + (counts_of (get_or rings i d)).surveys)) (sym (sum_by_more (λ (r : RingOutcome). granted_count r.book.history) rings i d lt))
      ∙ ap (λ (n : ℕ). totals (totals_of (take (i + 1) rings)).events (totals_of (take (i + 1) rings)).granted n) (sym (sum_by_more (λ (r : RingOutcome). surveys_in r.logs.items) rings i d lt))
