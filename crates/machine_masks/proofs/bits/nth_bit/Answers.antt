use Rattle.std.proofs.Common.{◌≡◌, ℕ, subst, arith}
use Rattle.machine_masks.proofs.Ones.{AreLeft, one_gone, nth_left}
use Rattle.machine_masks.proofs.bits.nth_bit.Goals as goal

pub loop-preserved : goal.loop-preserved
loop-preserved c = one_gone c.args.word c.loop.left c.loop.counter c.loop.invariant (omega arith)

pub returns-clause-below : goal.returns-clause-below
returns-clause-below c =
    let all : c.loop.counter ≡ c.args.place = omega arith in
    (nth_left c.args.word c.loop.left c.args.place (subst (λ (i : ℕ). AreLeft c.args.word c.loop.left i) all c.loop.invariant) c.requires).below

pub returns-clause-set : goal.returns-clause-set
returns-clause-set c =
    let all : c.loop.counter ≡ c.args.place = omega arith in
    (nth_left c.args.word c.loop.left c.args.place (subst (λ (i : ℕ). AreLeft c.args.word c.loop.left i) all c.loop.invariant) c.requires).set

pub returns-clause-place : goal.returns-clause-place
returns-clause-place c =
    let all : c.loop.counter ≡ c.args.place = omega arith in
    (nth_left c.args.word c.loop.left c.args.place (subst (λ (i : ℕ). AreLeft c.args.word c.loop.left i) all c.loop.invariant) c.requires).place
