-- The bytes that were read are one list.
use Rattle.std.proofs.Common.{◌≡◌, ℕ, ◌+◌, List, [], length, Option, Some, None, ◌∙◌, ap, arith, length-append}
use Rattle.std.specs.Prelude.{IsSome}
use Rattle.std.proofs.lemmas.Bool.{false≢true}
use Rattle.std.specs.Io.KnownBytes.{Consumes}
use Rattle.tool_parts.specs.Reading.{IsWithin, IsOver}

-- of one length
pub one_length : (o n : Option (List ℕ)) (x y : List ℕ) → IsSome o → Consumes o n x → Consumes o n y → length x ≡ length y
one_length None n x y known h k = absurd (false≢true known)
one_length (Some xs) None x y known h k = absurd h
one_length (Some xs) (Some ys) x y known h k =
    let a : length xs ≡ length x + length ys = ap length h ∙ length-append x ys in
    let b : length xs ≡ length y + length ys = ap length k ∙ length-append y ys in
    omega (arith, a, b)

-- and over one limit
pub one_limit : (limit other : ℕ) (o n : Option (List ℕ)) → IsSome o → IsOver limit o n → IsOver other o n → limit ≡ other
one_limit limit other o n known h k =
    let e = one_length o n h.0 k.0 known h.2 k.2 in
    let a = h.1 in
    let b = k.1 in
    omega (arith, e, a, b)

-- an input over a limit is not empty
pub not_empty : (limit : ℕ) (o n : Option (List ℕ)) (bytes : List ℕ) → IsSome o → IsOver limit o n → bytes ≡ [] → Consumes o n bytes → ⊥
not_empty limit o n bytes known h none k =
    let e = one_length o n h.0 bytes known h.2 k in
    let a = h.1 in
    let b : length bytes ≡ 0 = ap length none in
    omega (arith, e, a, b)

-- an input over a limit is not within it
pub not_within : (limit : ℕ) (o n : Option (List ℕ)) → IsSome o → IsOver limit o n → IsWithin limit o n → ⊥
not_within limit o n known h k =
    let e = one_length o n h.0 k.0 known h.2 k.2 in
    let a = h.1 in
    let b = k.1 in
    omega (arith, e, a, b)
