use Rattle.std.proofs.Common.{◌≡◌, ℕ, ◌≤◌, ◌<◌, All, take, length, get_or}
use Rattle.ring_model.specs.History.{opening}
use Rattle.ring_model.specs.Logs.{IsSurvey}
use Rattle.ring_model.specs.declared.events.Survey.{Survey}
use Rattle.ring_logs.proofs.judge.are_right.Given as goal

-- the surveys so far are right, and no other is before the place of the replay
abbrev pub invariant-loop-survey : goal.invariant-loop-survey
invariant-loop-survey g l = record {
  same_book : l.replay.book.now ≡ l.book;
  right : All (IsSurvey g.R.Resource.works (opening l.book.start g.R.Resource.first) l.book.history) (take l.survey-index l.surveys);
  ahead : (k : ℕ) (d : Survey) → l.survey-index ≤ k → k < length l.surveys → l.replay.place ≤ (get_or l.surveys k d).position;
}
