use Rattle.std.proofs.lemmas.Option.{slice_get-get_or}
use Rattle.ring_model.specs.History.{opening}
use Rattle.ring_logs.proofs.Replaying.{call_there, ring_there, calm_there, left_there}
use Rattle.ring_logs.proofs.judge.Replay.step.Goals as goal

pub play-requires : goal.play-requires
play-requires g c =
    let at = slice_get-get_or c.args.self.now.book.now.history c.args.self.now.place _ c.requires in
    rw c.history.ensures.is (call_there g.R.Resource.works (opening c.args.self.now.book.now.start g.R.Resource.first) c.args.self.now.book.now.history c.args.self.now.place _ c.args.self.now.ring c.history.ensures.book.legal at c.args.self.now.ring_is)

pub invariant_of-self-clause-ring_is : goal.invariant_of-self-clause-ring_is
invariant_of-self-clause-ring_is g c =
    let at = slice_get-get_or c.args.self.now.book.now.history c.args.self.now.place _ c.requires in
    rw (c.play.ensures, c.history.ensures.is) (ring_there g.R.Resource.works (opening c.args.self.now.book.now.start g.R.Resource.first) c.args.self.now.book.now.history c.args.self.now.place _ c.args.self.now.ring at c.args.self.now.ring_is)

pub invariant_of-self-clause-calm_is : goal.invariant_of-self-clause-calm_is
invariant_of-self-clause-calm_is g c =
    let at = slice_get-get_or c.args.self.now.book.now.history c.args.self.now.place _ c.requires in
    rw (c.calm_behind-self.ensures.is, c.history.ensures.is) (calm_there c.args.self.now.book.now.history c.args.self.now.place _ c.args.self.now.calm at c.args.self.now.calm_is)

pub invariant_of-self-clause-left_is : goal.invariant_of-self-clause-left_is
invariant_of-self-clause-left_is g c =
    let at = slice_get-get_or c.args.self.now.book.now.history c.args.self.now.place _ c.requires in
    rw (c.left_of-self.ensures, c.history.ensures.is) (left_there c.args.self.now.book.now.history c.args.self.now.place _ at)
