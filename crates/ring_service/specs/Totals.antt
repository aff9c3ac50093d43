-- The sums over rings that are served (this project's own).
use Rattle.std.specs.Prelude.{ℕ, ◌+◌, ◌^◌, ◌≤◌, List, length, ◌⊎◌}
use Rattle.std.specs.List.{sum_by}
use Rattle.ring_model.specs.Surveys.{granted_count}
use Rattle.ring_logs.specs.LogView.{LogView}
use Rattle.one_thread_ring.specs.declared.counts.Totals.{Totals}
use Rattle.one_thread_ring.specs.Counts.{survey_count}
use Rattle.ring_service.specs.Standings.{Standing}

-- the surveys that clients were given
abbrev pub surveys_among : List LogView → ℕ
surveys_among cs = sum_by (λ (c : LogView). survey_count c.log) cs

-- the events and the granted passes of all rings, from the first of all, and the surveys of their
-- segments
abbrev pub totals_of : List Standing → Totals
totals_of rs = record {
  events = sum_by (λ (r : Standing). r.base.events + length r.history) rs;
  granted = sum_by (λ (r : Standing). r.base.grants + granted_count r.history) rs;
  surveys = sum_by (λ (r : Standing). surveys_among r.clients) rs;
}

-- these sums with one ring more
abbrev pub with_ring : Totals → Standing → Totals
with_ring all r = record {
  events = all.events + (r.base.events + length r.history);
  granted = all.granted + (r.base.grants + granted_count r.history);
  surveys = all.surveys + surveys_among r.clients;
}

-- one of these sums has more than 64 bits
abbrev pub AreTooLarge : Totals → Type 0
AreTooLarge all = (2 ^ 64 ≤ all.events) ⊎ ((2 ^ 64 ≤ all.granted) ⊎ (2 ^ 64 ≤ all.surveys))
