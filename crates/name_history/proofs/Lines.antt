-- The bindings that lines say, one line after the other.
use Rattle.std.proofs.Common.{◌≡◌, ℕ, Bool, true, false, List, [], ◌∷◌, ◌++◌, length, Option, None, Some, refl, ap, sym, ◌∙◌, append_assoc, arith}
use Rattle.std.proofs.lemmas.Bool.{false≢true}
use Rattle.segment_files.specs.Remarks.{lines_in}
use Rattle.name_remarks.specs.Remarks.{Remark, bind, free, top, IsRemark, BeginsAsOne}
use Rattle.name_remarks.proofs.Spelled.{same_remark, begins_as_one}
use Rattle.name_history.specs.Said.{RingBinding, binding_of, IsSaid, AreSaid, with_said}

-- ---- a line that binds no ring

abbrev is_binding : Remark → Bool
is_binding (bind ring b) = true
is_binding (free ring) = false
is_binding (top grants) = false

other_remark : (line : List ℕ) (r : Remark) → IsRemark r line → is_binding r ≡ false → IsSaid line None
other_remark line r is other ring b so = false≢true (sym other ∙ ap is_binding (same_remark line r (bind ring b) is so))

pub said_by : (line : List ℕ) (r : Remark) (found : Option RingBinding) → IsRemark r line → found ≡ binding_of r → IsSaid line found
said_by line (bind ring b) found is same = rw same is
said_by line (free ring) found is same = rw same (other_remark line (free ring) is refl)
said_by line (top grants) found is same = rw same (other_remark line (top grants) is refl)

pub no_remark : (line : List ℕ) → (¬ BeginsAsOne line) → IsSaid line None
no_remark line none ring b so = none (begins_as_one line (bind ring b) so)

-- ---- lines

appended : (first : Option RingBinding) (xs ys : List RingBinding) → with_said first (xs ++ ys) ≡ with_said first xs ++ ys
appended None xs ys = refl
appended (Some e) xs ys = refl

pub both_said : (ks ls : List (List ℕ)) (xs ys : List RingBinding) → AreSaid ks xs → AreSaid ls ys → AreSaid (ks ++ ls) (xs ++ ys)
both_said [] ls xs ys none said = rw none said
both_said (k ∷ ks) ls xs ys (first, more, one, others, is) said =
    (first, more ++ ys, one, both_said ks ls more ys others said, ap (λ (zs : List RingBinding). zs ++ ys) is ∙ sym (appended first more ys))

-- the next line is taken from those that are left
pub one_more : (all front rest : List (List ℕ)) (line : List ℕ) (said one : List RingBinding) (left : List (List ℕ)) → all ≡ front ++ rest → rest ≡ line ∷ left → AreSaid front said → AreSaid (line ∷ []) one
    → (all ≡ (front ++ line ∷ []) ++ left) × AreSaid (front ++ line ∷ []) (said ++ one)
one_more all front rest line said one left is next before now =
    (is ∙ ap (λ (ls : List (List ℕ)). front ++ ls) next ∙ sym (append_assoc front (line ∷ []) left), both_said front (line ∷ []) said one before now)

pub empty_lines : (text : List ℕ) → length text ≡ 0 → lines_in text ≡ []
unfolding lines_in
empty_lines [] e = refl
empty_lines (b ∷ bs) e = absurd (omega (arith, e))
