use Rattle.std.proofs.Common.{◌≡◌, ℕ, ◌+◌, ◌-◌, ◌<◌, List, [], ◌∷◌, ◌++◌, take, length, Ok, sym, ap, subst, ◌∙◌, arith}
use Rattle.std.proofs.Math.ListN.{set, length-set}
use Rattle.std.proofs.lemmas.List.{take_more_set, take_all}
use Rattle.std.proofs.lemmas.Result.{err_from_is_err_and}
use Rattle.segment_files.specs.Spelling.{digest_digits}
use Rattle.segment_files.specs.Reading.{digit_at, repeat_at, digits_at}
use Rattle.segment_files.proofs.Repeated.{with_values, repeat_more, repeat_fault, repeat_done}
use Rattle.segment_files.proofs.read.digits.Goals as goal

pub returns-in_err-one : goal.returns-in_err-one
unfolding digits_at
returns-in_err-one c =
    let p = err_from_is_err_and c.from_residual.result c.from_residual.ensures.1 in
    rw (p.1, p.2) (repeat_fault digit_at (take c.loop-i.i c.loop-i.found) digest_digits c.loop-i.i c.loop-i.rest.now (repeat_at digit_at digest_digits c.args.bytes.now) c.loop-i.invariant.0 c.in_err-one.field-0.0 c.loop-i-test.true c.in_err-one.ensures)

pub loop-i-preserved : goal.loop-i-preserved
loop-i-preserved c =
    let found = c.loop-i.found in
    let i = c.loop-i.i in
    let long : length found ≡ digest_digits = c.loop-i.invariant.1 in
    let lt : i < length found = omega (arith, long, c.loop-i-test.true) in
    let e : take (i + 1) (set found i c.in_ok-one.one) ≡ take i found ++ c.in_ok-one.one ∷ [] = take_more_set found i c.in_ok-one.one lt in
    let more : with_values (take i found ++ c.in_ok-one.one ∷ []) (repeat_at digit_at (digest_digits - (i + 1)) c.in_ok-one.after.now) ≡ repeat_at digit_at digest_digits c.args.bytes.now =
    repeat_more digit_at (take i found) digest_digits i c.loop-i.rest.now (repeat_at digit_at digest_digits c.args.bytes.now) c.loop-i.invariant.0 c.in_ok-one.one c.in_ok-one.after.now c.loop-i-test.true c.in_ok-one.ensures in
    (subst (λ (xs : List ℕ). with_values xs (repeat_at digit_at (digest_digits - (i + 1)) c.in_ok-one.after.now) ≡ repeat_at digit_at digest_digits c.args.bytes.now) (sym e) more, length-set found i c.in_ok-one.one ∙ long)

pub returns : goal.returns
unfolding digits_at
returns c =
    let found = c.loop-i.found in
    let i = c.loop-i.i in
    let long : length found ≡ digest_digits = c.loop-i.invariant.1 in
    let all : take i found ≡ found = take_all i found (omega (arith, long, c.loop-i-test.false)) in
    repeat_done digit_at (take i found) digest_digits i c.loop-i.rest.now (repeat_at digit_at digest_digits c.args.bytes.now) c.loop-i.invariant.0 c.loop-i-test.false
    ∙ ap (λ (xs : List ℕ). Ok (xs, c.loop-i.rest.now)) all
