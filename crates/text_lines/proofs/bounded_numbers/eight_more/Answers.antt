use Rattle.std.proofs.Common.{◌≡◌, ◌≢◌, ◌+◌, ◌-◌, ◌*◌, ◌<◌, ◌≤◌, ◌^◌, true, get_or, sym, ap, ◌∙◌, arith}
use Rattle.std.proofs.Math.Nat.{pow-le-pow_right}
use Rattle.std.proofs.lemmas.Bool.{both_ways}
use Rattle.std.proofs.lemmas.Grind.{pow_more}
use Rattle.text_lines.specs.Reading.{is_digit}
use Rattle.text_lines.proofs.Steps.{digits_more}
use Rattle.text_lines.proofs.Decimals.{digit_is, grows_at}
use Rattle.text_lines.proofs.bounded_numbers.eight_more.Goals as goal

pub loop-i-preserved : goal.loop-i-preserved
loop-i-preserved c =
    let b = get_or c.args.bytes.now c.loop-i.i 0 in
    let is : is_digit b ≡ true = c.are_eight_digits.ensures c.if-not-are_eight_digits.false c.loop-i.i (omega arith) in
    let digit = digit_is b is in
    let low = digit.low in
    let high = digit.high in
    let some = c.loop-i.invariant.some in
    let below = c.loop-i.invariant.below in
    let more : 10 ^ (c.loop-i.i + 1 + 1) ≡ 10 ^ (c.loop-i.i + 1) * 10 = pow_more 10 (c.loop-i.i + 1) in
    let places : c.loop-i.i + 1 + 1 ≤ 9 = omega arith in
    let least : 10 ^ (c.loop-i.i + 1 + 1) ≤ 10 ^ 9 = pow-le-pow_right (omega arith) places in
    let next : c.loop-i.value * 10 + (b - 48) < 10 ^ (c.loop-i.i + 1 + 1) = omega (arith, below, more, high) in
    record {
      some = omega arith;
      below = next;
      goes_on = λ limit stop most other.
          let apart : b ≢ stop = λ same. both_ways (is_digit stop) other (ap is_digit (sym same) ∙ is) in
          digits_more limit stop c.loop-i.value c.args.bytes.now c.loop-i.i (omega arith) apart (grows_at limit c.loop-i.value b (record { some = omega arith; digit = digit; below = omega (arith, next, least, most) }))
          ∙ c.loop-i.invariant.goes_on limit stop most other;
    }
