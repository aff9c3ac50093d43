-- What is kept of the bindings of each ring, after one more.
use Rattle.std.proofs.Common.{◌≡◌, ℕ, zero, suc, ◌<◌, ◌≤◌, ◌==◌, eqb, Bool, true, false, cond, List, [], ◌∷◌, ◌++◌, length, replicate, slice_get, slice_set, Some, refl, ap, sym, subst, ◌∙◌, arith}
use Rattle.std.proofs.lemmas.Bool.{eqb-true, eqb-false, eq-eqb, ne_eqb}
use Rattle.std.proofs.lemmas.List.{length-set, length-replicate}
use Rattle.std.proofs.lemmas.List.Sums.{fold-append}
use Rattle.name_remarks.specs.Remarks.{Binding}
use Rattle.name_history.specs.Kept.{with_binding, kept}
use Rattle.name_history.specs.Said.{RingBinding, of_ring, AreKept}

-- ---- places of a list

at_set : {X : Type 0} (xs : List X) (i : ℕ) (y : X) → i < length xs → slice_get (slice_set xs i y) i ≡ Some y
at_set [] i y lt = absurd (omega (arith, lt))
at_set (x ∷ xs) zero y lt = refl
at_set (x ∷ xs) (suc i) y lt = at_set xs i y (omega (arith, lt))

other_set : {X : Type 0} (xs : List X) (i j : ℕ) (y : X) → ¬ (i ≡ j) → slice_get (slice_set xs i y) j ≡ slice_get xs j
other_set [] i j y ne = refl
other_set (x ∷ xs) zero zero y ne = absurd (ne refl)
other_set (x ∷ xs) zero (suc j) y ne = refl
other_set (x ∷ xs) (suc i) zero y ne = refl
other_set (x ∷ xs) (suc i) (suc j) y ne = other_set xs i j y (λ e. ne (ap suc e))

at_replicate : (n ring : ℕ) → ring < n → slice_get (replicate n []) ring ≡ Some (kept [])
at_replicate zero ring lt = absurd (omega (arith, lt))
at_replicate (suc n) zero lt = refl
at_replicate (suc n) (suc ring) lt = at_replicate n ring (omega (arith, lt))

-- ---- one binding more

abbrev if_of : Bool → Binding → List Binding → List Binding
if_of t b bs = cond t (b ∷ bs) bs

abbrev then_if : Bool → Binding → List Binding → List Binding
then_if t b bs = cond t (bs ++ b ∷ []) bs

swapped : (s t : Bool) (a b : Binding) (bs : List Binding) → if_of s a (then_if t b bs) ≡ then_if t b (if_of s a bs)
swapped true true a b bs = refl
swapped true false a b bs = refl
swapped false true a b bs = refl
swapped false false a b bs = refl

of_more : (ring : ℕ) (said : List RingBinding) (e : RingBinding) → of_ring ring (said ++ e ∷ []) ≡ then_if (e.0 == ring) e.1 (of_ring ring said)
of_more ring [] e = refl
of_more ring (x ∷ said) e =
    ap (if_of (x.0 == ring) x.1) (of_more ring said e)
    ∙ swapped (x.0 == ring) (e.0 == ring) x.1 e.1 (of_ring ring said)

same_ring : (ring : ℕ) (said : List RingBinding) (e : RingBinding) → e.0 ≡ ring → kept (of_ring ring (said ++ e ∷ [])) ≡ with_binding (kept (of_ring ring said)) e.1
same_ring ring said e is =
    ap kept (of_more ring said e ∙ ap (λ (t : Bool). then_if t e.1 (of_ring ring said)) (eq-eqb e.0 ring is))
    ∙ fold-append with_binding [] (of_ring ring said) (e.1 ∷ [])

other_ring : (ring : ℕ) (said : List RingBinding) (e : RingBinding) → ¬ (e.0 ≡ ring) → of_ring ring (said ++ e ∷ []) ≡ of_ring ring said
other_ring ring said e ne = of_more ring said e ∙ ap (λ (t : Bool). then_if t e.1 (of_ring ring said)) (ne_eqb e.0 ring ne)

-- ---- all rings

pub none_kept : (n : ℕ) (each : List (List Binding)) → each ≡ replicate n [] → AreKept n [] each
none_kept n each is = record {
  many = ap length is ∙ length-replicate n [];
  each_ring = λ ring lt. ap (λ (ls : List (List Binding)). slice_get ls ring) is ∙ at_replicate n ring lt;
}

pub kept_past : (n : ℕ) (said : List RingBinding) (each : List (List Binding)) (e : RingBinding) → n ≤ e.0 → AreKept n said each → AreKept n (said ++ e ∷ []) each
kept_past n said each e past k = record {
  many = k.many;
  each_ring = λ ring lt. k.each_ring ring lt ∙ ap (λ (bs : List Binding). Some (kept bs)) (sym (other_ring ring said e (λ same. omega (arith, past, lt, same))));
}

module _ (n : ℕ) (said : List RingBinding) (each new : List (List Binding)) (e : RingBinding) (within : e.0 < n) (k : AreKept n said each) (is : new ≡ slice_set each e.0 (with_binding (kept (of_ring e.0 said)) e.1)) where
  abbrev bound : List Binding
  bound = with_binding (kept (of_ring e.0 said)) e.1

  here : slice_get new e.0 ≡ Some (kept (of_ring e.0 (said ++ e ∷ [])))
  here =
      let many = k.many in
      ap (λ (ls : List (List Binding)). slice_get ls e.0) is
      ∙ at_set each e.0 bound (omega (arith, many, within))
      ∙ ap Some (sym (same_ring e.0 said e refl))

  there : (ring : ℕ) → ring < n → ¬ (e.0 ≡ ring) → slice_get new ring ≡ Some (kept (of_ring ring (said ++ e ∷ [])))
  there ring lt ne =
      ap (λ (ls : List (List Binding)). slice_get ls ring) is
      ∙ other_set each e.0 ring bound ne
      ∙ k.each_ring ring lt
      ∙ ap (λ (bs : List Binding). Some (kept bs)) (sym (other_ring ring said e ne))

  by : (ring : ℕ) (t : Bool) → ring < n → eqb e.0 ring ≡ t → slice_get new ring ≡ Some (kept (of_ring ring (said ++ e ∷ [])))
  by ring true lt same = subst (λ (r : ℕ). slice_get new r ≡ Some (kept (of_ring r (said ++ e ∷ [])))) (eqb-true e.0 ring same) here
  by ring false lt other = there ring lt (eqb-false e.0 ring other)

  pub kept_one_more : AreKept n (said ++ e ∷ []) new
  kept_one_more = record {
    many = ap length is ∙ length-set each e.0 bound ∙ k.many;
    each_ring = λ ring lt. by ring (eqb e.0 ring) lt refl;
  }
