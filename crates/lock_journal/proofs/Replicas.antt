-- What a replica says of lines after others.
use Rattle.std.proofs.Common.{◌≡◌, ℕ, Bool, true, false, List, [], ◌∷◌, ◌++◌, refl, sym, ◌∙◌, ap, subst, append_assoc, cond}
use Rattle.std.specs.Prelude.{not}
use Rattle.std.specs.List.{AllByRecursion}
use Rattle.line_service.specs.Answering.{IsLine}
use Rattle.line_replica.specs.Log.{given, Numbers, given_of, numbers_after}
use Rattle.line_replica.specs.Reading.{heard}
use Rattle.line_replica.specs.State.{is_state}
use Rattle.lock_journal.specs.Replicas.{AreToldAround, AreToldAfter, others_of}

-- ---- lines after others

-- the last numbers after lines
abbrev pub numbers_all : Numbers → List (List ℕ) → Numbers
numbers_all numbers [] = numbers
numbers_all numbers (line ∷ lines) = numbers_all (numbers_after (heard line) numbers) lines

pub given_then : (numbers : Numbers) (xs ys : List (List ℕ)) → given numbers (xs ++ ys) ≡ given numbers xs ++ given (numbers_all numbers xs) ys
given_then numbers [] ys = refl
given_then numbers (x ∷ xs) ys =
    ap (λ (u : List (List ℕ)). given_of (heard x) numbers x ++ u) (given_then (numbers_after (heard x) numbers) xs ys)
    ∙ sym (append_assoc (given_of (heard x) numbers x) (given (numbers_after (heard x) numbers) xs) (given (numbers_all (numbers_after (heard x) numbers) xs) ys))

pub around_then : (numbers : Numbers) (xs ys : List (List ℕ)) (said later told more : List ℕ) → AreToldAround numbers xs said told → AreToldAround (numbers_all numbers xs) ys later more → AreToldAround numbers (xs ++ ys) (said ++ later) (told ++ more)
around_then numbers [] ys said later told more a b =
    subst (λ (u : List ℕ). AreToldAround numbers ys (u ++ later) (told ++ more)) (sym a.0)
    (subst (λ (u : List ℕ). AreToldAround numbers ys later (u ++ more)) (sym a.1) b)
around_then numbers (x ∷ xs) ys said later told more a b = (
  a.0,
  a.1,
  a.2 ++ later,
  a.3 ++ more,
  ap (λ (u : List ℕ). u ++ later) a.4 ∙ append_assoc a.0 a.2 later,
  ap (λ (u : List ℕ). u ++ more) a.5 ∙ append_assoc a.1 a.3 more,
  a.6,
  around_then (numbers_after (heard x) numbers) xs ys a.2 later a.3 more a.7 b,
)

pub after_then : (xs ys : List (List ℕ)) (said later told more : List ℕ) → AreToldAfter xs said told → AreToldAfter ys later more → AreToldAfter (xs ++ ys) (said ++ later) (told ++ more)
after_then [] ys said later told more a b =
    subst (λ (u : List ℕ). AreToldAfter ys (u ++ later) (told ++ more)) (sym a.0)
    (subst (λ (u : List ℕ). AreToldAfter ys later (u ++ more)) (sym a.1) b)
after_then (x ∷ xs) ys said later told more a b = (
  a.0,
  a.1,
  a.2 ++ later,
  a.3 ++ more,
  ap (λ (u : List ℕ). u ++ later) a.4 ∙ append_assoc a.0 a.2 later,
  ap (λ (u : List ℕ). u ++ more) a.5 ∙ append_assoc a.1 a.3 more,
  a.6,
  after_then xs ys a.2 later a.3 more a.7 b,
)

kept_if : (b : Bool) (line : List ℕ) (more : List (List ℕ)) → IsLine line → AllByRecursion IsLine more → AllByRecursion IsLine (cond (not b) (line ∷ more) more)
kept_if true line more is all = all
kept_if false line more is all = (is, all)

pub each_other : (lines : List (List ℕ)) → AllByRecursion IsLine lines → AllByRecursion IsLine (others_of lines)
each_other [] all = tt
each_other (line ∷ lines) all = kept_if (is_state line) line (others_of lines) all.0 (each_other lines all.1)
