use Rattle.std.proofs.Common.{arith}
use Rattle.std.proofs.lemmas.Bool.{both_ways}
use Rattle.ring_book.proofs.Replaying.{replay_more, first_wrong}
use Rattle.ring_book.proofs.open_books.OpenBook.replay.Goals as goal

pub returns-then-not-follow-clause-wrong : goal.returns-then-not-follow-clause-wrong
returns-then-not-follow-clause-wrong g c =
    let l = c.loop-place-test.true in
    first_wrong _ _ _ c.args.events.now _ _ c.loop-place.place _ l c.loop-place.invariant.replayed
    (λ given. both_ways c.follow.result c.if-not-follow.true (c.follow.ensures.given.1 given))

pub loop-place-preserved : goal.loop-place-preserved
loop-place-preserved g c =
    let l = c.loop-place-test.true in
    let yes = c.if-not-follow.false in
    let more = c.follow.ensures.follows yes in
    let room = more.room in
    let was = c.loop-place.invariant.room in
    record {
      replayed = replay_more _ _ _ c.args.events.now _ _ _ _ c.loop-place.place _ l c.loop-place.invariant.replayed (c.follow.ensures.given.0 yes) more;
      room = omega (arith, room, was);
    }
