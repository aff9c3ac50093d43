-- The names of segments, read and spelled.
use Rattle.std.proofs.Common.{◌≡◌, ◌≢◌, ℕ, zero, suc, ◌+◌, ◌-◌, ◌<◌, ◌≤◌, ◌^◌, List, [], ◌∷◌, ◌++◌, length, take, drop, replicate, get_or, codes, Ok, Result, refl, sym, ap, subst, ◌∙◌, append_assoc, arith, ◌⊎◌, inl, inr, length-append, length-drop}
use Rattle.std.specs.Fmt.{decimal}
use Rattle.std.proofs.lemmas.Fmt.{first_decimal, decimal_nonempty, decimal_digit}
use Rattle.std.proofs.lemmas.Bool.{cases_lt}
use Rattle.std.proofs.lemmas.List.{get_or-replicate, length-replicate, get_or_append_left, get_or-append-add, get_or-drop}
use Rattle.std.proofs.Math.Seq.{drop-append-add, drop-append_seam}
use Rattle.text_lines.specs.declared.fault.Fault.{Fault}
use Rattle.text_lines.proofs.Basics.{ok_is}
use Rattle.text_lines.specs.Reading.{number_at}
use Rattle.text_lines.specs.Spelling.{Below}
use Rattle.text_lines.specs.Grammar.{Reads}
use Rattle.text_lines.proofs.Decimals.{number_reads}
use Rattle.line_service.specs.SegmentNames.{padded, segment_name, IsNumber, IsSegmentName}
use Rattle.line_service.specs.NameReading.{IsPadded}

-- a list whose first bytes are zeros
pub zeros_front : (name : List ℕ) (z : ℕ) → z ≤ length name → ((k : ℕ) → k < z → get_or name k 0 ≡ 48) → name ≡ replicate z 48 ++ drop z name
zeros_front name zero within zeros = refl
zeros_front [] (suc z) within zeros = absurd (omega arith)
zeros_front (b ∷ bs) (suc z) within zeros =
    let first : b ≡ 48 = zeros 0 (omega arith) in
    let others = zeros_front bs z (omega arith) (λ k h. zeros (suc k) (omega arith)) in
    ap (λ x. x ∷ bs) first ∙ ap (λ (x : List ℕ). 48 ∷ x) others

reads : Reads (Below (2 ^ 64)) (λ n. decimal n ++ 46 ∷ []) (number_at (2 ^ 64) 46)
reads = number_reads (2 ^ 64) 46 (omega arith) (omega arith) (omega arith)

-- ---- from what is read

-- how long the name is
long : (name back : List ℕ) (z n : ℕ) → z ≤ length name → drop z name ≡ back → back ≡ (decimal n ++ 46 ∷ []) ++ codes "ring" → length name ≡ z + (length (decimal n) + 5)
long name back z n within is spelled =
    let parts : length name ≡ length (drop z name) + z = omega (arith, length-drop z name) in
    let whole : length back ≡ length (decimal n ++ 46 ∷ []) + 4 = ap length spelled ∙ length-append (decimal n ++ 46 ∷ []) (codes "ring") in
    let front : length (decimal n ++ 46 ∷ []) ≡ length (decimal n) + 1 = length-append (decimal n) (46 ∷ []) in
    let same : length (drop z name) ≡ length back = ap length is in
    omega arith

pub padded_by : (len z digits : ℕ) → len ≡ (10 - digits) + (digits + 5) → z ≡ 10 - digits → IsPadded len z
padded_by len z digits is same = elim (cases_lt 10 digits) [ inl h ↦ inr (omega arith, omega arith) | inr h ↦ inl (omega arith) ]

zeros_needed : (len z digits : ℕ) → len ≡ z + (digits + 5) → IsPadded len z → z ≡ 10 - digits
zeros_needed len z digits is (inl e) = omega arith
zeros_needed len z digits is (inr e) = omega (arith, e.0, e.1)

-- what follows the zeros begins with another byte
first_after : (name : List ℕ) (z : ℕ) → get_or (drop z name) 0 0 ≡ get_or name z 0
first_after name z = get_or-drop z name 0 0 ∙ ap (λ k. get_or name k 0) (omega arith)

no_zero : (name w : List ℕ) (z n : ℕ) → get_or name z 0 ≢ 48 → drop z name ≡ decimal n ++ w → 0 < n
no_zero name w z zero next is = absurd (next (sym (first_after name z) ∙ ap (λ (x : List ℕ). get_or x 0 0) (is ∙ ap (λ (x : List ℕ). x ++ w) (decimal_digit 0 (omega arith)))))
no_zero name w z (suc n) next is = omega arith

pub named : (name : List ℕ) (z n : ℕ) → z ≤ length name → ((k : ℕ) → k < z → get_or name k 0 ≡ 48) → get_or name z 0 ≢ 48
    → number_at (2 ^ 64) 46 (drop z name) ≡ Ok (n, codes "ring") → IsPadded (length name) z → IsSegmentName name n
named name z n within zeros next read padding =
    let t = reads.takes (drop z name) n (codes "ring") read in
    let behind : drop z name ≡ decimal n ++ codes ".ring" = t.1 ∙ append_assoc (decimal n) (46 ∷ []) (codes "ring") in
    let needed : z ≡ 10 - length (decimal n) = zeros_needed (length name) z (length (decimal n)) (long name (drop z name) z n within refl t.1) padding in
    record {
      number = (no_zero name (codes ".ring") z n next behind, t.0);
      spelled =
          zeros_front name z within zeros
          ∙ ap (λ (x : List ℕ). replicate z 48 ++ x) behind
          ∙ ap (λ y. replicate y 48 ++ (decimal n ++ codes ".ring")) needed
          ∙ sym (append_assoc (replicate (10 - length (decimal n)) 48) (decimal n) (codes ".ring"));
    }

-- ---- from what is spelled

module _ (name digits w : List ℕ) (y : ℕ) (is : name ≡ replicate y 48 ++ (digits ++ w)) (some : 0 < length digits) where
  before : (k : ℕ) → k < y → get_or name k 0 ≡ 48
  before k h =
      ap (λ (x : List ℕ). get_or x k 0) is
      ∙ get_or_append_left (replicate y 48) (digits ++ w) 0 k (omega (arith, length-replicate {A = ℕ} y 48))
      ∙ get_or-replicate y k 48 0 h

  at_end : get_or name y 0 ≡ get_or digits 0 0
  at_end =
      ap (λ (x : List ℕ). get_or x y 0) is
      ∙ ap (λ k. get_or (replicate y 48 ++ (digits ++ w)) k 0) (omega (arith, length-replicate {A = ℕ} y 48))
      ∙ get_or-append-add (replicate y 48) (digits ++ w) 0 0
      ∙ get_or_append_left digits w 0 0 some

  pub same_zeros : (z : ℕ) → ((k : ℕ) → k < z → get_or name k 0 ≡ 48) → get_or name z 0 ≢ 48 → 48 < get_or digits 0 0 → z ≡ y
  same_zeros z zeros next large =
      let few : z < y → ⊥ = λ h. next (before z h) in
      let many : y < z → ⊥ = λ h. omega (arith, zeros y h, at_end) in
      omega (arith, few, many)

  pub after_zeros : drop y name ≡ digits ++ w
  after_zeros =
      ap (λ (x : List ℕ). drop y x) is
      ∙ ap (λ k. drop k (replicate y 48 ++ (digits ++ w))) (sym (length-replicate {A = ℕ} y 48))
      ∙ drop-append_seam (replicate y 48) (digits ++ w)

same_ok : (r : Result (ℕ × List ℕ) Fault) (m n : ℕ) (x : List ℕ) → r ≡ Ok (m, x) → r ≡ Ok (n, x) → m ≡ n
same_ok r m n x d e = ap (λ (p : ℕ × List ℕ). p.0) (ok_is (m, x) (n, x) (sym d ∙ e))

-- the number is read of a segment's name
pub spelled_read : (name : List ℕ) (z n : ℕ) → ((k : ℕ) → k < z → get_or name k 0 ≡ 48) → get_or name z 0 ≢ 48 → IsSegmentName name n
    → (number_at (2 ^ 64) 46 (drop z name) ≡ Ok (n, codes "ring")) × IsPadded (length name) z
spelled_read name z n zeros next is =
    let y = 10 - length (decimal n) in
    let small = is.number.1 in
    let some : 0 < length (decimal n) = decimal_nonempty n small in
    let spelled : name ≡ replicate y 48 ++ (decimal n ++ codes ".ring") = is.spelled ∙ append_assoc (replicate y 48) (decimal n) (codes ".ring") in
    let same : z ≡ y = same_zeros name (decimal n) (codes ".ring") y spelled some z zeros next (first_decimal n is.number.0 small) in
    let behind : drop z name ≡ (decimal n ++ 46 ∷ []) ++ codes "ring" =
    ap (λ k. drop k name) same ∙ after_zeros name (decimal n) (codes ".ring") y spelled some ∙ sym (append_assoc (decimal n) (46 ∷ []) (codes "ring")) in
    let whole : length name ≡ y + (length (decimal n) + 5) =
    ap length spelled ∙ length-append (replicate y 48) (decimal n ++ codes ".ring")
    ∙ ap (λ k. k + length (decimal n ++ codes ".ring")) (length-replicate {A = ℕ} y 48)
    ∙ ap (λ k. y + k) (length-append (decimal n) (codes ".ring")) in
    (ap (λ (x : List ℕ). number_at (2 ^ 64) 46 x) behind ∙ reads.again n (codes "ring") small, padded_by (length name) z (length (decimal n)) whole same)

-- a name is that of one segment
pub one_number : (name : List ℕ) (m n : ℕ) → IsSegmentName name m → IsSegmentName name n → m ≡ n
one_number name m n is also =
    let y = 10 - length (decimal m) in
    let small = is.number.1 in
    let some : 0 < length (decimal m) = decimal_nonempty m small in
    let spelled : name ≡ replicate y 48 ++ (decimal m ++ codes ".ring") = is.spelled ∙ append_assoc (replicate y 48) (decimal m) (codes ".ring") in
    let zeros = before name (decimal m) (codes ".ring") y spelled some in
    let next : get_or name y 0 ≢ 48 = λ e. let first = first_decimal m is.number.0 small in omega (arith, e, at_end name (decimal m) (codes ".ring") y spelled some) in
    same_ok _ m n (codes "ring") (spelled_read name y m zeros next is).0 (spelled_read name y n zeros next also).0
