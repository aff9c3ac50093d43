use lib.Pointwise.{pointwise}
use Rattle.std.proofs.Common.{nat_eq, ◌≡◌, ◌∙◌, ℕ, ◌<◌, ◌^◌, true, false, List, [], ◌∷◌, Ok, ap, sym, refl, arith}
use Rattle.std.specs.Prelude.{decimal}
use Rattle.std.proofs.lemmas.Bool.Decides.{nat_tests}
use Rattle.std.proofs.lemmas.Fmt.{parse-decimal}
use Rattle.text_lines.proofs.number_texts.read_decimal.Goals as goal

nat_itself : (n : ℕ) → nat_eq n n ≡ true
nat_itself n = grind (arith, nat_tests)

-- a list is equal to itself
itself : (xs ys : List ℕ) → xs ≡ ys → pointwise nat_eq xs ys ≡ true
itself xs ys e = rw e (each ys)
  where
    each : (zs : List ℕ) → pointwise nat_eq zs zs ≡ true
    each [] = refl
    each (z ∷ zs) = rw (nat_itself z, each zs) refl

pub returns-in_default-clause-none : goal.returns-in_default-clause-none
returns-in_default-clause-none c = λ none n low spelled.
    let small : n < 2 ^ 64 = omega (arith, low) in
    c.in_default.not-Ok n (parse-decimal 32 n c.args.text.now c.parse.result low small (sym spelled) c.parse.ensures.value.0)

pub returns-else-eq-clause-none : goal.returns-else-eq-clause-none
returns-else-eq-clause-none c = λ none n low spelled.
    let small : n < 2 ^ 64 = omega (arith, low) in
    let parsed : c.parse.result ≡ Ok n = parse-decimal 32 n c.args.text.now c.parse.result low small (sym spelled) c.parse.ensures.value.0 in
    let all : Ok c.in-Ok.number ≡ Ok n = sym c.in-Ok.is ∙ parsed in
    let number : c.in-Ok.number ≡ n = cc in
    let same : c.format.result.now ≡ c.args.text.now = c.format.ensures.text ∙ ap decimal number ∙ spelled in
    let bad : false ≡ true = c.if-eq.ensures ∙ itself c.format.result.now c.args.text.now same in
    absurd cc
