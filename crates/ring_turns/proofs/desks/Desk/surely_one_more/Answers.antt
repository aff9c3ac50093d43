use Rattle.std.proofs.Common.{◌≡◌, ◌+◌, ◌≤◌, ℕ, length, subst, arith}
use Rattle.std.specs.Prelude.{Some, slice_get}
use Rattle.ring_turns.proofs.Waits.{one_more}
use Rattle.ring_turns.proofs.desks.Desk.surely_one_more.Goals as goal

pub returns-then-receipt-len : goal.returns-then-receipt-len
returns-then-receipt-len g c =
    let last = c.args.self.now.last in
    let seen = c.args.seen.now in
    let at : c.args.receipt.position ≡ length last = omega (arith, c.if-receipt-len.true, c.len.ensures.length) in
    let n : length seen ≡ length last + 1 = omega (arith, c.requires.length, at) in
    let le : length last ≤ length seen = omega (arith, n) in
    one_more last seen c.args.receipt.event (c.compare.ensures.shorter le) n (subst (λ (p : ℕ). slice_get seen p ≡ Some c.args.receipt.event) at c.requires.event)
