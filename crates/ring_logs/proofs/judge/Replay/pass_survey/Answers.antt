use Rattle.ring_logs.proofs.Replaying.{surveyed_there}
use Rattle.ring_logs.proofs.judge.Replay.pass_survey.Goals as goal

pub returns-then-advance-clause-right : goal.returns-then-advance-clause-right
returns-then-advance-clause-right g c =
    let ahead = c.advance.ensures.ahead.0 c.if-advance.true in
    let is = surveyed_there g.R.Resource.works g.R.Resource.first c.args.self.now.book.now c.advance.new.self.book.now c.advance.new.self.place c.args.survey.position c.args.survey c.is_surveyed.result
    c.advance.ensures.book (c.advance.ensures.there c.if-advance.true) c.is_surveyed.ensures in (
      λ t. (ahead.0, (ahead.1, (is.0 t).0, (is.0 t).1)),
      λ t. is.1 (t.1.1, t.1.2),
    )
