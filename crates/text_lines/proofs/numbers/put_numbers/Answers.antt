use Rattle.std.proofs.Common.{◌≡◌, ℕ, ◌+◌, ◌-◌, ◌<◌, List, [], ◌++◌, length, drop, get_or, sym, ap, ◌∙◌, subst, arith}
use Rattle.std.specs.Fmt.{decimal}
use Rattle.text_lines.specs.Spelling.{numbers_text, stop_text}
use Rattle.text_lines.specs.Writing.{Wrote}
use Rattle.text_lines.proofs.NumbersText.{numbers_next, one_more}
use Rattle.text_lines.proofs.Writing.{wrote_piece, wrote_fault}
use Rattle.text_lines.proofs.numbers.put_numbers.Goals as goal

pub returns-in-Err-clause-text : goal.returns-in-Err-clause-text
returns-in-Err-clause-text g c = λ numbers are.
    let here : c.number.result ≡ get_or numbers c.loop-i.i 0 = are.each c.loop-i.i c.number.result c.loop-i-test.true c.number.ensures in
    let inside : c.loop-i.i < length numbers = omega (arith, are.many, c.loop-i-test.true) in
    let piece = c.as_bytes-digits.result.now ++ (c.stop.result.now ++ []) in
    let is_next : piece ≡ decimal (get_or numbers c.loop-i.i 0) ++ (stop_text c.args.between.now c.args.behind.now (length numbers - c.loop-i.i - 1) ++ []) = rw (are.many, ← here, c.as_bytes-digits.ensures.value, c.format.ensures.text, c.stop.ensures) in
    let split : numbers_text c.args.between.now c.args.behind.now (drop c.loop-i.i numbers) ≡ piece ++ numbers_text c.args.between.now c.args.behind.now (drop (c.loop-i.i + 1) numbers) = numbers_next c.args.between.now c.args.behind.now numbers c.loop-i.i inside ∙ ap (λ (t : List ℕ). t ++ numbers_text c.args.between.now c.args.behind.now (drop (c.loop-i.i + 1) numbers)) (sym is_next) in
    let left : Wrote (g.W.Write.contents c.args.out.now) (g.W.Write.contents c.loop-i.out) (numbers_text c.args.between.now c.args.behind.now numbers) (piece ++ numbers_text c.args.between.now c.args.behind.now (drop (c.loop-i.i + 1) numbers)) =
    subst (λ (u : List ℕ). Wrote (g.W.Write.contents c.args.out.now) (g.W.Write.contents c.loop-i.out) (numbers_text c.args.between.now c.args.behind.now numbers) u) split (c.loop-i.invariant.wrote numbers are) in
    wrote_fault _ _ _ c.in-Err.fault (numbers_text c.args.between.now c.args.behind.now numbers) piece (numbers_text c.args.between.now c.args.behind.now (drop (c.loop-i.i + 1) numbers)) left c.in-Err.ensures

pub loop-i-preserved : goal.loop-i-preserved
loop-i-preserved g c = record {
  wrote = λ numbers are.
      let here : c.number.result ≡ get_or numbers c.loop-i.i 0 = are.each c.loop-i.i c.number.result c.loop-i-test.true c.number.ensures in
      let inside : c.loop-i.i < length numbers = omega (arith, are.many, c.loop-i-test.true) in
      let piece = c.as_bytes-digits.result.now ++ (c.stop.result.now ++ []) in
      let is_next : piece ≡ decimal (get_or numbers c.loop-i.i 0) ++ (stop_text c.args.between.now c.args.behind.now (length numbers - c.loop-i.i - 1) ++ []) = rw (are.many, ← here, c.as_bytes-digits.ensures.value, c.format.ensures.text, c.stop.ensures) in
      let split : numbers_text c.args.between.now c.args.behind.now (drop c.loop-i.i numbers) ≡ piece ++ numbers_text c.args.between.now c.args.behind.now (drop (c.loop-i.i + 1) numbers) = numbers_next c.args.between.now c.args.behind.now numbers c.loop-i.i inside ∙ ap (λ (t : List ℕ). t ++ numbers_text c.args.between.now c.args.behind.now (drop (c.loop-i.i + 1) numbers)) (sym is_next) in
      let left : Wrote (g.W.Write.contents c.args.out.now) (g.W.Write.contents c.loop-i.out) (numbers_text c.args.between.now c.args.behind.now numbers) (piece ++ numbers_text c.args.between.now c.args.behind.now (drop (c.loop-i.i + 1) numbers)) =
      subst (λ (u : List ℕ). Wrote (g.W.Write.contents c.args.out.now) (g.W.Write.contents c.loop-i.out) (numbers_text c.args.between.now c.args.behind.now numbers) u) split (c.loop-i.invariant.wrote numbers are) in
      wrote_piece _ _ _ (numbers_text c.args.between.now c.args.behind.now numbers) piece (numbers_text c.args.between.now c.args.behind.now (drop (c.loop-i.i + 1) numbers)) left c.in-Ok.ensures;
  asked = one_more (λ i. (answer : ℕ) × goal.F-post g c.args.number i answer) c.loop-i.i c.loop-i.invariant.asked (c.number.result, c.number.ensures);
}

pub returns-clause-asked : goal.returns-clause-asked
returns-clause-asked g c = λ i lt. c.loop-i.invariant.asked i (omega (arith, lt, c.loop-i-test.false))
