-- The effect of operations on the list that is shown.
use Rattle.std.proofs.Common.{◌≡◌, ◌+◌, ◌<◌, nat_lt, true, false, List, [], ◌∷◌, ◌++◌, length, length-append, ap, sym, subst, ◌∙◌, fold, arith}
use Rattle.std.proofs.lemmas.Bool.{eq-eqb}
use Rattle.std.proofs.lemmas.Bool.Decides.{nat_tests}
use Rattle.std.proofs.lemmas.List.Sums.{fold-append}
use Rattle.ring_model.specs.declared.events.Event.{Event}
use Rattle.ring_shared.specs.Stepping.{Target, pick, stepped}

-- an event more
abbrev pub event_told : List Event → Target
event_told list = record { list = list; block = false }

-- a block more
abbrev pub block_told : List Event → Target
block_told list = record { list = list; block = true }

stepped_next : (xs : List Event) (e : Event) → stepped xs (event_told (xs ++ e ∷ [])) ≡ xs ++ e ∷ []
stepped_next xs e =
    let one : length (xs ++ e ∷ []) ≡ length xs + 1 = omega (arith, length-append xs (e ∷ [])) in
    ap (λ b. pick b (xs ++ e ∷ []) xs) (eq-eqb _ _ one)

pub stepped_one : (xs ys : List Event) (e : Event) → ys ≡ xs ++ e ∷ [] → stepped xs (event_told ys) ≡ ys
stepped_one xs ys e p = subst (λ (l : List Event). stepped xs (event_told l) ≡ l) (sym p) (stepped_next xs e)

pub stepped_block : (xs ys : List Event) → length xs < length ys → stepped xs (block_told ys) ≡ ys
stepped_block xs ys l =
    let longer : nat_lt (length xs) (length ys) ≡ true = grind (arith, nat_tests) in
    ap (λ b. pick b ys xs) longer

-- the pending operations, and one that is next
pub stepped_last : (xs : List Event) (os : List Target) (o : Target) → stepped (fold stepped xs os) o ≡ o.list → fold stepped xs (os ++ o ∷ []) ≡ o.list
stepped_last xs os o p = fold-append stepped xs os (o ∷ []) ∙ p

-- an operation with an empty list changes nothing
pub stepped_still : (os : List Target) → fold stepped [] os ≡ [] → fold stepped [] (os ++ event_told [] ∷ []) ≡ []
stepped_still os p = fold-append stepped [] os (event_told [] ∷ []) ∙ ap (λ l. stepped l (event_told [])) p
