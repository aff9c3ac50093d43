-- The names of files that are being made.
use Rattle.std.proofs.Common.{◌≡◌, ◌≢◌, ℕ, zero, suc, ◌+◌, ◌-◌, ◌<◌, ◌≤◌, List, [], ◌∷◌, ◌++◌, length, take, drop, get_or, codes, refl, sym, ap, subst, ◌∙◌, append_assoc, arith, IsTrue, Bool, true, false, length-append, length-drop, take-append-drop, drop-drop}
use Rattle.std.specs.List.{AllByRecursion}
use Rattle.std.proofs.lemmas.Bool.{false≢true}
use Rattle.std.proofs.lemmas.List.{get_or-append-add, get_or-drop, get_or_append_left}
use Rattle.std.proofs.Math.Seq.{drop-append-add, drop-append_seam, take-append_seam}
use Rattle.text_lines.specs.Reading.{is_digit}
use Rattle.line_service.specs.SegmentNames.{IsPartName}

-- each byte of a list, by its places
by_places : (ds : List ℕ) → ((k : ℕ) → k < length ds → IsTrue (is_digit (get_or ds k 0))) → AllByRecursion (λ d. IsTrue (is_digit d)) ds
by_places [] each = tt
by_places (d ∷ ds) each = (each 0 (omega arith), by_places ds (λ k h. each (suc k) (omega arith)))

at_place : (ds : List ℕ) → AllByRecursion (λ d. IsTrue (is_digit d)) ds → (k : ℕ) → k < length ds → IsTrue (is_digit (get_or ds k 0))
at_place [] all k h = absurd (omega arith)
at_place (d ∷ ds) all zero h = all.0
at_place (d ∷ ds) all (suc k) h = at_place ds all.1 k (omega arith)

module _ (name : List ℕ) (end : ℕ) (within : end ≤ length name) (digits : (k : ℕ) → end ≤ k → k < length name → IsTrue (is_digit (get_or name k 0))) where
  pub part_is : 5 ≤ end → take (end - (end - 5)) (drop (end - 5) name) ≡ codes ".part" → IsPartName name
  part_is long is = let five : (end - 5) + 5 ≡ end = omega arith in let short : 5 ≡ end - (end - 5) = omega arith in record {
    front = take (end - 5) name;
    digits = drop end name;
    all = by_places (drop end name) (λ k h. subst (λ b. IsTrue (is_digit b)) (sym (get_or-drop end name k 0)) (digits (end + k) (omega arith) (omega (arith, length-drop end name))));
    spelled =
        sym (take-append-drop (end - 5) name)
        ∙ ap (λ (x : List ℕ). take (end - 5) name ++ x)
        (sym (take-append-drop 5 (drop (end - 5) name))
        ∙ ap (λ (x : List ℕ). x ++ drop 5 (drop (end - 5) name)) (ap (λ k. take k (drop (end - 5) name)) short ∙ is)
        ∙ ap (λ (x : List ℕ). codes ".part" ++ x) (drop-drop 5 (end - 5) name ∙ ap (λ k. drop k name) five));
  }

  module _ (last : 0 < end → IsTrue (is_digit (get_or name (end - 1) 0)) → ⊥) (p : IsPartName name) where
    spelled : name ≡ (p.front ++ codes ".part") ++ p.digits
    spelled = p.spelled ∙ sym (append_assoc p.front (codes ".part") p.digits)

    size : length (p.front ++ codes ".part") ≡ length p.front + 5
    size = length-append p.front (codes ".part")

    whole : length name ≡ length p.front + 5 + length p.digits
    whole = ap length spelled ∙ length-append (p.front ++ codes ".part") p.digits ∙ ap (λ k. k + length p.digits) size

    -- the last byte of `.part` is not a digit
    no_digit : get_or name (length p.front + 4) 0 ≡ 116
    no_digit = ap (λ (x : List ℕ). get_or x (length p.front + 4) 0) p.spelled ∙ get_or-append-add p.front (codes ".part" ++ p.digits) 4 0

    in_digits : (k : ℕ) → k < length p.digits → IsTrue (is_digit (get_or name (length p.front + 5 + k) 0))
    in_digits k h =
        subst (λ b. IsTrue (is_digit b))
        (sym (ap (λ (x : List ℕ). get_or x (length p.front + 5 + k) 0) spelled ∙ ap (λ m. get_or ((p.front ++ codes ".part") ++ p.digits) (m + k) 0) (sym size) ∙ get_or-append-add (p.front ++ codes ".part") p.digits k 0))
        (at_place p.digits p.all k h)

    not_less : end ≤ length p.front + 4 → ⊥
    not_less h = let d = digits (length p.front + 4) h (omega (arith, whole)) in false≢true (subst (λ b. IsTrue (is_digit b)) no_digit d)

    not_more : length p.front + 5 < end → ⊥
    not_more h =
        let k : ℕ = end - 1 - (length p.front + 5) in
        last (omega arith) (subst (λ m. IsTrue (is_digit (get_or name m 0))) (omega arith) (in_digits k (omega (arith, whole))))

    pub end_is : end ≡ length p.front + 5
    end_is = omega (arith, not_less, not_more)

    pub part_stands : take (end - (end - 5)) (drop (end - 5) name) ≡ codes ".part"
    part_stands =
        (let many : end - (end - 5) ≡ 5 = omega (arith, end_is) in
        let start : end - 5 ≡ length p.front = omega (arith, end_is) in
        ap (λ k. take k (drop (end - 5) name)) many ∙ ap (λ k. take 5 (drop k name)) start)
        ∙ ap (λ (x : List ℕ). take 5 (drop (length p.front) x)) p.spelled
        ∙ ap (λ (x : List ℕ). take 5 x) (drop-append_seam p.front (codes ".part" ++ p.digits))
        ∙ take-append_seam (codes ".part") p.digits
