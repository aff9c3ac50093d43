use Rattle.held_locks.specs.Locks.{Leave}
use Rattle.held_locks.specs.Holding.{IsSameBut}
use Rattle.held_locks.specs.Parts.{views_of}
use Rattle.held_locks.proofs.Listing.{done_same, as_many, holders_known}
use Rattle.held_locks.proofs.leaving.leave_and_follow.Goals as goal

pub follow-requires : goal.follow-requires
follow-requires c =
    let new = c.leave_among-answers.new.locks.items in
    let same : IsSameBut c.args.lock (views_of c.args.locks.now.items) (views_of new) = done_same (views_of c.args.locks.now.items) (views_of new) c.args.client c.args.lock Leave c.leave_among-answers.result c.leave_among-answers.ensures.done.0 in
    as_many c.args.locks.now.items new c.deref.result.now c.args.holds.now c.args.lock c.deref.ensures.value c.requires.holders same

pub returns-clause-holders : goal.returns-clause-holders
returns-clause-holders c =
    let new = c.leave_among-answers.new.locks.items in
    let same : IsSameBut c.args.lock (views_of c.args.locks.now.items) (views_of new) = done_same (views_of c.args.locks.now.items) (views_of new) c.args.client c.args.lock Leave c.leave_among-answers.result c.leave_among-answers.ensures.done.0 in
    holders_known c.args.locks.now.items new c.deref.result.now c.args.holds.now c.follow.new.holds c.args.lock c.deref.ensures.value c.requires.holders same c.follow.ensures
