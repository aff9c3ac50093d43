use Rattle.std.proofs.Common.{◌≡◌, ℕ, ◌≤◌, length, refl, subst, arith}
use Rattle.name_check.proofs.Scanning.{SameBefore, same_all}
use Rattle.name_check.proofs.scans.are_same.Goals as goal

pub returns : goal.returns
returns c =
    let known = c.args.known.now in
    let rings = c.args.rings.now in
    let many : length known ≡ length rings = omega arith in
    let all : c.loop-i.i ≡ length known = omega arith in
    (λ u. same_all known rings many (subst (λ (n : ℕ). SameBefore n known rings) all c.loop-i.invariant), λ e. refl)
