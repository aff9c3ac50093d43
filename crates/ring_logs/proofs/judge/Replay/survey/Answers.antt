use Rattle.std.proofs.Common.{◌∙◌}
use Rattle.ring_model.specs.History.{opening}
use Rattle.ring_logs.proofs.Replaying.{survey_there}
use Rattle.ring_logs.proofs.judge.Replay.survey.Goals as goal

pub returns : goal.returns
returns g c =
    c.survey_here.ensures
    ∙ survey_there g.R.Resource.works (opening c.args.self.now.book.now.start g.R.Resource.first) c.args.self.now.book.now.history c.args.self.now.place
    c.args.self.now.ring c.args.self.now.calm c.args.self.now.ring_is c.args.self.now.calm_is
