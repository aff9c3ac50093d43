use Rattle.std.proofs.Common.{◌≡◌, ℕ, suc, ◌+◌, ◌-◌, ◌/◌, ◌∙◌, ap, arith}
use Rattle.repair_picture.specs.Growth.{halvings}
use Rattle.repair_picture.proofs.Levels.{halved_no_more, halved_once_more}
use Rattle.repair_picture.proofs.growth.halvings.Goals as goal

pub returns-then-left-lt2-clause-is : goal.returns-then-left-lt2-clause-is
returns-then-left-lt2-clause-is c =
    let none = halved_no_more (64 - c.loop-turn.turn) c.loop-turn.left c.if-left-lt2.true in
    let is = c.loop-turn.invariant in
    omega arith

pub loop-turn-preserved : goal.loop-turn-preserved
loop-turn-preserved c =
    let left = c.loop-turn.left in
    let more : ℕ = 64 - (c.loop-turn.turn + 1) in
    let one : 64 - c.loop-turn.turn ≡ suc more = omega arith in
    let step : halvings (64 - c.loop-turn.turn) left ≡ halvings more (left / 2) + 1 =
    ap (λ (m : ℕ). halvings m left) one ∙ halved_once_more more left (omega arith) in
    let is = c.loop-turn.invariant in
    omega arith

pub returns-clause-is : goal.returns-clause-is
returns-clause-is c =
    let end : 64 - c.loop-turn.turn ≡ 0 = omega arith in
    let none : halvings (64 - c.loop-turn.turn) c.loop-turn.left ≡ halvings 0 c.loop-turn.left = ap (λ (m : ℕ). halvings m c.loop-turn.left) end in
    let is = c.loop-turn.invariant in
    omega arith
