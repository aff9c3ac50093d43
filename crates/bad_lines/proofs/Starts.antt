-- The first start value that is too large, value by value.
use Rattle.std.proofs.Common.{◌≡◌, ℕ, zero, suc, ◌+◌, ◌<◌, ◌≤◌, List, [], ◌∷◌, length, drop, get_or, Bool, true, false, cond, refl, sym, ◌∙◌, ap, subst, arith}
use Rattle.std.specs.Prelude.{nat_lt, ◌&&◌}
use Rattle.std.specs.List.{list_all}
use Rattle.std.proofs.lemmas.List.{drop_more, drop_all}
use Rattle.ring_check.proofs.Booleans.{lt_true, lt_false}
use Rattle.bad_lines.specs.Wrongs.{first_over}

-- the answers for a list are those for its rest from a place on
pub record AreFrom (k : ℕ) (s : List ℕ) (i : ℕ) : Type 0 where
  pub first : first_over k s ≡ first_over k (drop i s)
  pub all : list_all (λ v. nat_lt v k) s ≡ list_all (λ v. nat_lt v k) (drop i s)

module _ (k : ℕ) (s : List ℕ) (i : ℕ) (l : i < length s) (from : AreFrom k s i) where
  pub over_here : k ≤ get_or s i 0 → (get_or s i 0 ≡ first_over k s) × (list_all (λ v. nat_lt v k) s ≡ false)
  over_here le =
      let f : nat_lt (get_or s i 0) k ≡ false = lt_false (get_or s i 0) k le in
      let cut = drop_more s i 0 l in (
        sym (from.first ∙ ap (λ (u : List ℕ). first_over k u) cut ∙ ap (λ (b : Bool). cond b (first_over k (drop (i + 1) s)) (get_or s i 0)) f),
        from.all ∙ ap (λ (u : List ℕ). list_all (λ v. nat_lt v k) u) cut ∙ ap (λ (b : Bool). b && list_all (λ v. nat_lt v k) (drop (i + 1) s)) f,
      )

  pub over_next : get_or s i 0 < k → AreFrom k s (i + 1)
  over_next lt =
      let t : nat_lt (get_or s i 0) k ≡ true = lt_true (get_or s i 0) k lt in
      let cut = drop_more s i 0 l in
      record {
        first = from.first ∙ ap (λ (u : List ℕ). first_over k u) cut ∙ ap (λ (b : Bool). cond b (first_over k (drop (i + 1) s)) (get_or s i 0)) t;
        all = from.all ∙ ap (λ (u : List ℕ). list_all (λ v. nat_lt v k) u) cut ∙ ap (λ (b : Bool). b && list_all (λ v. nat_lt v k) (drop (i + 1) s)) t;
      }

pub over_none : (k : ℕ) (s : List ℕ) (i : ℕ) → length s ≤ i → AreFrom k s i → list_all (λ v. nat_lt v k) s ≡ true
over_none k s i l from = from.all ∙ ap (λ (u : List ℕ). list_all (λ v. nat_lt v k) u) (drop_all i s l)
