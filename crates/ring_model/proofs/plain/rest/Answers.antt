use Rattle.std.proofs.Common.{◌*◌, ◌≤◌, ◌+◌, length, arith}
use Rattle.std.proofs.Math.Nat.{mul-le-mul_left}
use Rattle.ring_model.specs.Limits.{value_limit}
use Rattle.ring_model.proofs.plain.rest.Goals as goal

pub overflow_add-result : goal.overflow_add-result
overflow_add-result c =
    let fits = c.ranges.k.fits in
    let top : length c.args.values.now * c.lead.result ≤ length c.args.values.now * (c.args.k + 1) = mul-le-mul_left (length c.args.values.now) c.lead.ensures.within in
    let wide : (c.args.k + 1) * length c.args.values.now ≤ (c.args.k + 1) * value_limit = mul-le-mul_left (c.args.k + 1) c.requires.short in
    omega arith
