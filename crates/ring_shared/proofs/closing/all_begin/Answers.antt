use Rattle.std.proofs.Common.{rules, All, subst, arith, List}
use Rattle.std.proofs.lemmas.List.{take_all}
use Rattle.std.proofs.lemmas.List.Elements.{All-more}
use mathlib.Core.List.{IsPrefix}
use Rattle.ring_shared.specs.Client.{Client}
use Rattle.ring_shared.proofs.closing.all_begin.Goals as goal

pub loop-seat-preserved : goal.loop-seat-preserved
loop-seat-preserved g c =
    All-more (λ (s : Client). IsPrefix s.seen c.args.front.now) c.args.seats.now c.loop-seat.seat-index c.seat-item.result c.loop-seat-test.true c.loop-seat.invariant (search rules)

pub returns : goal.returns
returns g c =
    let past = c.loop-seat-test.false in
    subst (λ (ss : List Client). All (λ (s : Client). IsPrefix s.seen c.args.front.now) ss) (take_all c.loop-seat.seat-index c.args.seats.now (omega arith)) c.loop-seat.invariant
