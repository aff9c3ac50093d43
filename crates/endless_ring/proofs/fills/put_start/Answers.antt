use Rattle.std.proofs.Common.{◌≡◌, ◌≤◌, ◌∷◌, [], length, drop, ap, subst, arith, List, ℕ}
use Rattle.std.specs.Prelude.{codes}
use Rattle.std.proofs.lemmas.List.{drop_all}
use Rattle.text_lines.specs.Spelling.{numbers_text, row}
use Rattle.text_lines.proofs.NumbersText.{row_is}
use Rattle.ring_state.specs.Sizes.{Size}
use Rattle.endless_ring.proofs.Filled.{FilledUpTo, up_to_none, up_to_all, number_more, fills_then, fills_same}
use Rattle.endless_ring.proofs.fills.put_start.Goals as goal

pub loop-i-init : goal.loop-i-init
loop-i-init c = up_to_none _ _ _ c.put-behind.type_inv

pub loop-i-preserved : goal.loop-i-preserved
loop-i-preserved c =
    let values = c.args.start.now.values in
    let long : c.n-n.result ≡ length values = omega (arith, ap (λ (s : Size). s.n) c.params.ensures.is, c.n-n.ensures.is) in
    number_more (32 ∷ []) (10 ∷ []) values c.loop-i.i _ _ _ _ _ _ _ _ (omega (arith, long, c.loop-i-test.true)) c.get.ensures.is (omega (arith, long)) c.loop-i.invariant c.put_number-behind.ensures

pub returns : goal.returns
returns c =
    let values = c.args.start.now.values in
    let over : length values ≤ c.loop-i.i = omega (arith, ap (λ (s : Size). s.n) c.params.ensures.is, c.n-n.ensures.is, c.loop-i-test.false) in
    let none : numbers_text (32 ∷ []) (10 ∷ []) (drop c.loop-i.i values) ≡ [] = ap (numbers_text (32 ∷ []) (10 ∷ [])) (drop_all c.loop-i.i values over) in
    let whole = up_to_all _ _ _ _ (numbers_text (32 ∷ []) (10 ∷ []) values) (subst (λ (t : List ℕ). FilledUpTo c.put-behind.new.out c.loop-i.out c.put-behind.result c.loop-i.behind (numbers_text (32 ∷ []) (10 ∷ []) values) t) none c.loop-i.invariant) in
    fills_then (codes "start ") (row values) c.put-behind.ensures (fills_same _ (row values) (row_is values) whole)
