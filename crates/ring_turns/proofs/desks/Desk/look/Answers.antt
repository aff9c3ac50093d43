use Rattle.std.proofs.Common.{◌≢◌, ℕ, subst, arith}
use Rattle.ring_model.specs.History.{opening}
use Rattle.ring_turns.specs.Looking.{IsGrantedPass}
use Rattle.ring_turns.specs.Spared.{on_order}
use Rattle.ring_turns.specs.Waiting.{HasWaited}
use Rattle.ring_turns.proofs.Looks.{granted_from}
use Rattle.ring_turns.proofs.desks.Desk.look.Goals as goal

pub returns-then-first-number-clause-look : goal.returns-then-first-number-clause-look
returns-then-first-number-clause-look g c =
    let works = g.R.Resource.works in
    let a = opening g.N.Name.start g.R.Resource.first in
    let before = c.args.seat.now in
    let seen = c.first_privileged-first.new.seat in
    let after = c.turn.new.seat in
    let r = c.in_ok-receipt.receipt in
    let f = c.first_privileged-first.ensures in
    let here = granted_from works a before seen after seen.number c.args.order r c.in_ok-receipt.ensures.told f.number f.log f.room in (
      subst (λ (m : ℕ). IsGrantedPass works a before after m c.args.order r) f.number here,
      subst (λ (i : ℕ). HasWaited works a after.seen i c.args.asked_at r.position) f.number c.in_ok-receipt.ensures.waited,
    )

pub returns-clause-look : goal.returns-clause-look
returns-clause-look g c =
    let works = g.R.Resource.works in
    let a = opening g.N.Name.start g.R.Resource.first in
    let f = c.first_privileged-first.ensures in
    let apart : c.first_privileged-first.result ≢ c.args.seat.now.number = λ q. omega (arith, q, c.if-first-number.false, c.number.ensures.is, f.number) in (
      c.first_privileged-first.result,
      apart,
      granted_from works a c.args.seat.now c.first_privileged-first.new.seat c.pass_on.new.seat c.first_privileged-first.result on_order c.in_ok-receipt-2.receipt c.in_ok-receipt-2.ensures.told f.number f.log f.room,
    )
