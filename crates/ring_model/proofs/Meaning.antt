-- The meaning of the prefix test, of the lead and of a rest of 0.
use Rattle.std.proofs.Common.{◌≡◌, ℕ, zero, suc, ◌+◌, ◌-◌, ◌%◌, ◌<◌, ◌≤◌, Bool, true, List, length, get_or, ◌∙◌, ap, inl, inr, arith}
use Rattle.std.proofs.lemmas.Bool.{cases_eq, cases_lt, cond-false}
use Rattle.ring_model.specs.Numbers.{least}
use Rattle.ring_model.specs.Ring.{is_absent, first_value_is_prefix, lead, IsPrefix}
use Rattle.ring_model.specs.Laws.{SomePrivileged, RestIsZero, FrontMeans, LeadMeans}
use Rattle.ring_model.proofs.Below.{least_from, least_passes, least_below_fails}
use Rattle.ring_model.proofs.Lead.{IsFront, front_true, front_from}
use Rattle.ring_model.proofs.Bound.{lead_le}
use Rattle.ring_model.proofs.Settled.{count_positive, first_is, rest_settled, rest_zero}

pub prefix_front : (s : List ℕ) (p : ℕ) → IsPrefix s p → first_value_is_prefix s ≡ true
prefix_front s p h = front_from s (λ k l e. (h k (omega arith)).1 (let q : suc k ≤ p = (h (suc k) l).0 e in omega arith))

-- in a prefix, a place below one that has S0 has it too
pub front_down : (s : List ℕ) → IsFront s → (d k : ℕ) → k + d < length s → get_or s (k + d) 0 ≡ get_or s 0 0 → get_or s k 0 ≡ get_or s 0 0
front_down s f zero k l e = let q : k ≡ k + 0 = omega arith in ap (λ x. get_or s x 0) q ∙ e
front_down s f (suc d) k l e =
    let q : suc (k + d) ≡ k + suc d = omega arith in
    front_down s f d k (omega arith) (f (k + d) (omega arith) (ap (λ x. get_or s x 0) q ∙ e))

-- the first place past m that has not S0, or the end
pub front_end : (s : List ℕ) → IsFront s → (m : ℕ) → m < length s → ((i : ℕ) → i ≤ m → get_or s i 0 ≡ get_or s 0 0) → (d : ℕ) → m + suc d ≡ length s →
    (p : ℕ) × (p < length s) × IsPrefix s p
front_end s f m l h zero e = (m, l, λ i li. ((λ _. omega arith), h i))
front_end s f m l h (suc d) e = elim (cases_eq (get_or s (suc m) 0) (get_or s 0 0)) [
  | inl q ↦ front_end s f (suc m) (omega arith)
      (λ i le. elim (cases_eq i (suc m)) [ inl at ↦ ap (λ x. get_or s x 0) at ∙ q | inr ne ↦ h i (omega arith) ]) d (omega arith)
  | inr ne ↦ (
    m,
    l,
    λ i li. (
      (λ at. elim (cases_lt m i) [
        | inl past ↦
            let sum : suc m + (i - suc m) ≡ i = omega arith in
            absurd (ne (front_down s f (i - suc m) (suc m) (omega arith) (ap (λ x. get_or s x 0) sum ∙ at)))
        | inr le ↦ le
      ]),
      h i,
    ),
  )
]

pub front_means : FrontMeans
front_means s one = (
  (λ e. front_end s (front_true s e) 0 one (λ i le. let z : i ≡ 0 = omega arith in ap (λ x. get_or s x 0) z) (length s - 1) (omega arith)),
  (λ p h. prefix_front s p h),
)

pub lead_means : LeadMeans
lead_means r g f =
    let p : ℕ → Bool = λ j. is_absent r.values ((get_or r.values 0 0 + j) % r.k) in
    let enough = g.enough in
    let a : lead r ≡ least p 1 r.k = cond-false (first_value_is_prefix r.values) 0 (least p 1 r.k) f in
    let low : 1 ≤ least p 1 r.k = least_from p 1 r.k in
    let small : lead r + 1 ≤ length r.values = lead_le r g in (
      omega arith,
      omega arith,
      ap p a ∙ least_passes p 1 r.k (omega arith),
      λ j o l. least_below_fails p 1 r.k j o (omega arith),
    )

pub some_privileged : SomePrivileged
some_privileged r g =
    let two = g.two in
    let f = first_is r.values (omega arith) in
    (count_positive r.values (omega arith), f.0, f.1)

pub rest_is_zero : RestIsZero
rest_is_zero r g = let two = g.two in ((λ z. rest_zero r (omega arith) z), λ u. rest_settled r u)
