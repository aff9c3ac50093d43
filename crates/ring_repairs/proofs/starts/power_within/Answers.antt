use Rattle.std.proofs.Common.{◌≡◌, ℕ, ◌+◌, ◌*◌, ◌^◌, ◌<◌, sym, ◌∙◌, ap, arith}
use Rattle.std.proofs.lemmas.Grind.{pow_more}
use Rattle.ring_repairs.specs.Limits.{state_limit}
use Rattle.ring_repairs.proofs.Numbering.{power_over}
use Rattle.ring_repairs.proofs.starts.power_within.Goals as goal

pub returns-then-power-gt-STATE_LIMIT : goal.returns-then-power-gt-STATE_LIMIT
returns-then-power-gt-STATE_LIMIT c =
    let b : ℕ = c.args.base in
    let i : ℕ = c.loop.counter in
    let more : b ^ (i + 1) ≡ c.loop.power * b = pow_more b i ∙ ap (λ (x : ℕ). x * b) (sym c.loop.invariant.is) in
    let over = c.if-power-gt-STATE_LIMIT.true in
    let test = c.loop-test.true in
    power_over b (i + 1) c.args.exponent state_limit c.requires (omega arith) (omega arith)
