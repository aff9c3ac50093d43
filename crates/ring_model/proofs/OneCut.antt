-- There is one way to cut a whole history: the shorter of two first pieces would end inside the other.
use Rattle.std.proofs.Common.{◌≡◌, ℕ, ◌+◌, ◌<◌, ◌≤◌, List, [], ◌∷◌, ◌++◌, length, take, length-append, refl, sym, ◌∙◌, ap, inl, inr, arith}
use Rattle.std.proofs.lemmas.Bool.{cases_lt}
use Rattle.std.proofs.lemmas.List.{append_cancel_left, take-append-le}
use Rattle.std.proofs.Math.Seq.{take-append_seam}
use Rattle.ring_model.specs.Groups.{IsPiece, joined, left_after}
use Rattle.ring_model.specs.GroupLaws.{OneWayToCut}
use Rattle.ring_model.specs.declared.events.Event.{Event}
use Rattle.ring_model.proofs.Wholes.{members_length, piece_open, piece_done}

piece_some : (n : ℕ) (p : List Event) → IsPiece n p → 1 ≤ length p
piece_some n p (inl w) = let q : length p ≡ 1 = ap (λ (x : List Event). length x) w.1 in omega arith
piece_some n p (inr b) =
    let size : length p ≡ length b.machines = members_length b.seat b.order b.machines p b.is.members in
    let some : 1 ≤ length b.machines = b.is.in_order.some in
    omega arith

-- a piece is not a prefix of a longer one
not_shorter : (n : ℕ) (x y front back : List Event) → IsPiece n x → IsPiece n y → x ++ front ≡ y ++ back → length x < length y → ⊥
not_shorter n x y front back a b e l =
    let inside : 1 ≤ left_after (take (length x) y) = piece_open n y (length x) b (piece_some n x a) l in
    let same : take (length x) y ≡ x = sym (take-append-le (length x) y back (omega arith)) ∙ sym (ap (λ (z : List Event). take (length x) z) e) ∙ take-append_seam x front in
    let done : left_after (take (length x) y) ≡ 0 = ap (λ (z : List Event). left_after z) same ∙ piece_done n x a in
    omega arith

none_is_no_piece : (n : ℕ) (x front : List Event) → IsPiece n x → [] ≡ x ++ front → ⊥
none_is_no_piece n x front a e =
    let some : 1 ≤ length x = piece_some n x a in
    let all : 0 ≡ length x + length front = ap (λ (z : List Event). length z) e ∙ length-append x front in
    omega arith

same_first : (x y front back : List Event) → x ++ front ≡ y ++ back → length x ≡ length y → x ≡ y
same_first x y front back e size =
    sym (take-append_seam x front) ∙ ap (λ (z : List Event). take (length x) z) e ∙ ap (λ (i : ℕ). take i (y ++ back)) size ∙ take-append_seam y back

pub one_way_to_cut : OneWayToCut
one_way_to_cut n [] [] a b e = refl
one_way_to_cut n [] (y ∷ qs) a b e = absurd (none_is_no_piece n y (joined qs) b.0 e)
one_way_to_cut n (x ∷ ps) [] a b e = absurd (none_is_no_piece n x (joined ps) a.0 (sym e))
one_way_to_cut n (x ∷ ps) (y ∷ qs) a b e = elim (cases_lt (length x) (length y)) [
  | inl l ↦ absurd (not_shorter n x y (joined ps) (joined qs) a.0 b.0 e l)
  | inr ge ↦ elim (cases_lt (length y) (length x)) [
    | inl l ↦ absurd (not_shorter n y x (joined qs) (joined ps) b.0 a.0 (sym e) l)
    | inr le ↦
        let first : x ≡ y = same_first x y (joined ps) (joined qs) e (omega arith) in
        let back : joined ps ≡ joined qs = append_cancel_left x (joined ps) (joined qs) (e ∙ ap (λ (z : List Event). z ++ joined qs) (sym first)) in
        ap (λ (z : List Event). z ∷ ps) first ∙ ap (λ (zs : List (List Event)). y ∷ zs) (one_way_to_cut n ps qs a.1 b.1 back)
  ]
]
