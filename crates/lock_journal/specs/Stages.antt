-- When a segment of locks is to end, and whether lines are answered before that (this project's
-- own).
use Rattle.std.specs.Prelude.{ℕ, Bool, true, false, Option, None, Some, ◌&&◌, if◌then◌else◌, is_some}
use Rattle.lock_journal.specs.declared.stages.Stage.{Stage}
use Rattle.lock_journal.specs.declared.terms.Terms.{Terms}
use Rattle.lock_journal.specs.Counting.{SegmentView}
use Rattle.lock_journal.specs.Due.{is_due}
use Rattle.lock_journal.specs.declared.stages.Stage.TheVariants as stage

-- how many lines the journal of a segment may have
abbrev pub limit_of : Option ℕ → ℕ
limit_of None = 0
limit_of (Some limit) = limit

-- the segment is to end; and no line is answered before that
abbrev pub is_to_end : Stage → Bool
is_to_end stage.Open = false
is_to_end _ = true

abbrev pub is_over : Stage → Bool
is_over stage.Due = true
is_over _ = false

-- ---- the service

-- whether its segment is due, where segments have a limit
abbrev pub is_past : Terms → SegmentView → Bool
is_past terms s = is_some terms.limit && is_due s.remaining s.short

-- A segment that is due is over, but one that was kept on stays so.
abbrev pub stage_after : Stage → Bool → Stage
stage_after stage.KeptOn past = stage.KeptOn
stage_after stage.Open past = if past then stage.Due else stage.Open
stage_after stage.Due past = if past then stage.Due else stage.Open
