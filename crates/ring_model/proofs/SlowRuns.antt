-- For each n of at least 4 a ring that 2n - 4 complete rounds do not settle. It begins with (0,2,1,0,..,0); in each round the
-- machines that are not privileged are asked first.
use Rattle.std.proofs.Common.{◌≡◌, ℕ, zero, suc, ◌+◌, ◌-◌, ◌*◌, ◌<◌, ◌≤◌, ◌≢◌, true, false, cond, List, [], ◌∷◌, ◌++◌, length, get_or, replicate, refl, sym, ◌∙◌, ap, subst, inl, inr, arith}
use Rattle.std.proofs.lemmas.Bool.{cases_eq, cases_lt, cases_Bool, cond-true, cond-false, or_left, or_right, both_ways, false_from_ne_true}
use Rattle.std.proofs.lemmas.List.{get_or-replicate, length-replicate}
use Rattle.ring_model.specs.Ring.{Ring, ring_with, IsRing, is_privileged, is_settled}
use Rattle.ring_model.specs.Runs.{passed, after_passes, AreBelow}
use Rattle.ring_model.specs.Groups.{has}
use Rattle.ring_model.specs.Progress.{AreAllAsked, HasRounds}
use Rattle.ring_model.specs.RepairLaws.{FewRoundsAreSharp}
use Rattle.ring_model.proofs.Settled.{only_one}
use Rattle.ring_model.proofs.Runs.{pass_idle}
use Rattle.ring_model.proofs.Groups.{has_first, has_later, has_append}
use Rattle.ring_model.proofs.Rounds.{after_passes-append}
use Rattle.ring_model.proofs.Labels.{pass_other}
use Rattle.ring_model.proofs.PassedValues.{below_append, IsOn, on_pass, copied, zero_off, other_on, other_off, stepped}

-- the machines below m that are not privileged, and a round that asks them first

abbrev idle : List ℕ → ℕ → List ℕ
idle s zero = []
idle s (suc i) = cond (is_privileged s i) (idle s i) (i ∷ idle s i)

idle_stays : (r : Ring) (m : ℕ) → after_passes r (idle r.values m) ≡ r
idle_stays r zero = refl
idle_stays r (suc i) = elim (cases_Bool (is_privileged r.values i)) [
  | inl y ↦ ap (after_passes r) (cond-true (is_privileged r.values i) (idle r.values i) (i ∷ idle r.values i) y) ∙ idle_stays r i
  | inr off ↦ ap (after_passes r) (cond-false (is_privileged r.values i) (idle r.values i) (i ∷ idle r.values i) off)
      ∙ (ap (λ (t : Ring). after_passes t (idle r.values i)) (pass_idle r i off) ∙ idle_stays r i)
]

idle_below : (n : ℕ) (s : List ℕ) (m : ℕ) → m ≤ n → AreBelow n (idle s m)
idle_below n s zero l = tt
idle_below n s (suc i) l = elim (cases_Bool (is_privileged s i)) [
  | inl y ↦ subst (λ (x : List ℕ). AreBelow n x) (sym (cond-true (is_privileged s i) (idle s i) (i ∷ idle s i) y)) (idle_below n s i (omega arith))
  | inr off ↦ subst (λ (x : List ℕ). AreBelow n x) (sym (cond-false (is_privileged s i) (idle s i) (i ∷ idle s i) off)) (omega arith, idle_below n s i (omega arith))
]

found : (m i : ℕ) (ms : List ℕ) → i ≡ m → has (m ∷ ms) i ≡ true
found m i ms e = subst (λ (x : ℕ). has (m ∷ ms) x ≡ true) (sym e) (has_first m ms)

idle_has : (s : List ℕ) (m i : ℕ) → i < m → is_privileged s i ≡ false → has (idle s m) i ≡ true
idle_has s zero i l off = absurd (omega arith)
idle_has s (suc m) i l off = elim (cases_Bool (is_privileged s m)) [
  | inl y ↦
      let ne : i ≢ m = λ q. both_ways (is_privileged s i) off (ap (is_privileged s) q ∙ y) in
      ap (λ (x : List ℕ). has x i) (cond-true (is_privileged s m) (idle s m) (m ∷ idle s m) y) ∙ idle_has s m i (omega arith) off
  | inr off' ↦ ap (λ (x : List ℕ). has x i) (cond-false (is_privileged s m) (idle s m) (m ∷ idle s m) off') ∙ elim (cases_eq i m) [
    | inl e ↦ found m i (idle s m) e
    | inr ne ↦ has_later m i (idle s m) (idle_has s m i (omega arith) off)
  ]
]

-- a run of this many rounds from the ring r that does not settle it
record Stays (n rounds : ℕ) (r : Ring) : Type 0 where
  choices : List ℕ
  below : AreBelow n choices
  has_rounds : HasRounds n rounds choices
  unsettled : is_settled (after_passes r choices).values ≡ false

-- one round more before it, in which the passes of the machines ms move, and of the others none
stays_longer : (n rounds : ℕ) (r : Ring) (ms : List ℕ) → AreBelow n ms → ((i : ℕ) → i < n → is_privileged r.values i ≡ true → has ms i ≡ true) →
    Stays n rounds (after_passes r ms) → Stays n (suc rounds) r
stays_longer n rounds r ms b cover more =
    let front : List ℕ = idle r.values n in
    let round : List ℕ = front ++ ms in
    let asked : AreAllAsked n round = λ i l. has_append front ms i ∙ elim (cases_Bool (is_privileged r.values i)) [
      | inl y ↦ or_right (has front i) (has ms i) (cover i l y)
      | inr off ↦ or_left (has front i) (has ms i) (idle_has r.values n i l off)
    ] in
    let state : after_passes r round ≡ after_passes r ms = after_passes-append r front ms ∙ ap (λ (t : Ring). after_passes t ms) (idle_stays r n) in
    record {
      choices = round ++ more.choices;
      below = below_append n round more.choices (below_append n front ms (idle_below n r.values n (omega arith)) b) more.below;
      has_rounds = (round, more.choices, refl, asked, more.has_rounds);
      unsettled = ap (λ (t : Ring). is_settled t.values) (after_passes-append r round more.choices ∙ ap (λ (t : Ring). after_passes t more.choices) state) ∙ more.unsettled;
    }

module _ (n k : ℕ) (four : 4 ≤ n) (enough : n ≤ k) where
  -- (3,..,3,2,1,..,1) with 2 at machine p
  record IsLate (p : ℕ) (r : Ring) : Type 0 where
    on : IsOn n k r
    low : (i : ℕ) → i < p → get_or r.values i 0 ≡ 3
    at : get_or r.values p 0 ≡ 2
    high : (i : ℕ) → p < i → i < n → get_or r.values i 0 ≡ 1

  late_last : (r : Ring) (p : ℕ) → 1 ≤ p → p + 2 ≡ n → IsLate p r → is_settled r.values ≡ false
  late_last r p one e h =
      let size' = h.on.size in
      let v = h.at in
      let w = h.low (p - 1) (omega arith) in
      let u = h.high (p + 1) (omega arith) (omega arith) in
      let a : is_privileged r.values p ≡ true = other_on n k r p one (omega arith) in
      let q : get_or r.values (p + 1 - 1) 0 ≡ get_or r.values p 0 = (let at : p + 1 - 1 ≡ p = omega arith in ap (λ x. get_or r.values x 0) at) in
      let b : is_privileged r.values (p + 1) ≡ true = other_on n k r (p + 1) (omega arith) (omega arith) in
      false_from_ne_true (is_settled r.values) (λ y.
      let same : p ≡ p + 1 = only_one r.values p (p + 1) y (omega arith) (omega arith) a b in
      absurd (omega arith))

  late_next : (r : Ring) (p : ℕ) → 1 ≤ p → p + 2 < n → IsLate p r → IsLate (p + 1) (passed (passed r (p + 1)) p)
  late_next r p one l h =
      let s : Ring = passed r (p + 1) in
      let o = on_pass n k r (p + 1) (omega arith) h.on in
      let q : get_or r.values (p + 1 - 1) 0 ≡ get_or r.values p 0 = (let at : p + 1 - 1 ≡ p = omega arith in ap (λ x. get_or r.values x 0) at) in
      let v = h.at in
      let first : get_or s.values (p + 1) 0 ≡ 2 = copied n k r (p + 1) h.on (omega arith) (omega arith) ∙ (q ∙ v) in
      let second : get_or (passed s p).values p 0 ≡ 3 = copied n k s p o one (omega arith) ∙ (pass_other r (p + 1) (p - 1) (omega arith) ∙ h.low (p - 1) (omega arith)) in
      record {
        on = on_pass n k s p (omega arith) o;
        low = λ i li. elim (cases_eq i p) [
          | inl e ↦ ap (λ x. get_or (passed s p).values x 0) e ∙ second
          | inr ne ↦ pass_other s p i ne ∙ (pass_other r (p + 1) i (omega arith) ∙ h.low i (omega arith))
        ];
        at = pass_other s p (p + 1) (omega arith) ∙ first;
        high = λ i li ln. pass_other s p i (omega arith) ∙ (pass_other r (p + 1) i (omega arith) ∙ h.high i (omega arith) ln);
      }

  late_cover : (r : Ring) (p : ℕ) → 1 ≤ p → p + 2 < n → IsLate p r → (i : ℕ) → i < n → is_privileged r.values i ≡ true → has ((p + 1) ∷ p ∷ []) i ≡ true
  late_cover r p one l h i li y = elim (cases_eq i (p + 1)) [
    | inl e ↦ found (p + 1) i (p ∷ []) e
    | inr ne ↦ elim (cases_eq i p) [
      | inl e ↦ has_later (p + 1) i (p ∷ []) (found p i [] e)
      | inr ne' ↦ absurd (both_ways (is_privileged r.values i) (elim (cases_eq i 0) [
        | inl z ↦
            let u = h.high (n - 1) (omega arith) (omega arith) in
            let v = h.low 0 (omega arith) in
            ap (is_privileged r.values) z ∙ zero_off n k r h.on (omega arith)
        | inr nz ↦ other_off n k r i (omega arith) (elim (cases_lt i p) [
          | inl before ↦ h.low (i - 1) (omega arith) ∙ sym (h.low i before)
          | inr past ↦ h.high (i - 1) (omega arith) (omega arith) ∙ sym (h.high i (omega arith) li)
        ])
      ]) y)
    ]
  ]

  late_stays : (d : ℕ) (r : Ring) (p : ℕ) → 1 ≤ p → p + d + 2 ≡ n → IsLate p r → Stays n d r
  late_stays zero r p one e h = record { choices = []; below = tt; has_rounds = tt; unsettled = late_last r p one (omega arith) h }
  late_stays (suc d) r p one e h =
      stays_longer n d r ((p + 1) ∷ p ∷ []) (omega arith, (omega arith, tt)) (late_cover r p one (omega arith) h)
      (late_stays d (passed (passed r (p + 1)) p) (p + 1) (omega arith) (omega arith) (late_next r p one (omega arith) h))

  -- (2,1,..,1,2)
  record IsTurned (r : Ring) : Type 0 where
    on : IsOn n k r
    first : get_or r.values 0 0 ≡ 2
    middle : (i : ℕ) → 1 ≤ i → i + 1 < n → get_or r.values i 0 ≡ 1
    last : get_or r.values (n - 1) 0 ≡ 2

  turned_stays : (r : Ring) → IsTurned r → Stays n (n - 2) r
  turned_stays r h =
      let s : Ring = passed r 1 in
      let t : Ring = passed s 0 in
      let u : Ring = passed t (n - 1) in
      let os = on_pass n k r 1 (omega arith) h.on in
      let ot = on_pass n k s 0 (omega arith) os in
      let a : get_or s.values 1 0 ≡ 2 = copied n k r 1 h.on (omega arith) (omega arith) ∙ h.first in
      let b : get_or t.values 0 0 ≡ 3 =
      stepped n k s 2 os (pass_other r 1 (n - 1) (omega arith) ∙ h.last) (pass_other r 1 0 (omega arith) ∙ h.first) (omega arith) in
      let c : get_or u.values (n - 1) 0 ≡ 1 = copied n k t (n - 1) ot (omega arith) (omega arith)
      ∙ (pass_other s 0 (n - 1 - 1) (omega arith) ∙ (pass_other r 1 (n - 1 - 1) (omega arith) ∙ h.middle (n - 1 - 1) (omega arith) (omega arith))) in
      let late : IsLate 1 u = record {
        on = on_pass n k t (n - 1) (omega arith) ot;
        low = λ i li. (let z : i ≡ 0 = omega arith in ap (λ x. get_or u.values x 0) z) ∙ (pass_other t (n - 1) 0 (omega arith) ∙ b);
        at = pass_other t (n - 1) 1 (omega arith) ∙ (pass_other s 0 1 (omega arith) ∙ a);
        high = λ i li ln. elim (cases_eq i (n - 1)) [
          | inl e ↦ ap (λ x. get_or u.values x 0) e ∙ c
          | inr ne ↦ pass_other t (n - 1) i ne ∙ (pass_other s 0 i (omega arith) ∙ (pass_other r 1 i (omega arith) ∙ h.middle i (omega arith) (omega arith)))
        ];
      } in
      let cover : (i : ℕ) → i < n → is_privileged r.values i ≡ true → has (1 ∷ 0 ∷ (n - 1) ∷ []) i ≡ true = λ i li y. elim (cases_eq i 1) [
        | inl e ↦ found 1 i (0 ∷ (n - 1) ∷ []) e
        | inr n1 ↦ elim (cases_eq i 0) [
          | inl e ↦ has_later 1 i (0 ∷ (n - 1) ∷ []) (found 0 i ((n - 1) ∷ []) e)
          | inr n0 ↦ elim (cases_eq i (n - 1)) [
            | inl e ↦ has_later 1 i (0 ∷ (n - 1) ∷ []) (has_later 0 i ((n - 1) ∷ []) (found (n - 1) i [] e))
            | inr nl ↦ absurd (both_ways (is_privileged r.values i)
                (other_off n k r i (omega arith) (h.middle (i - 1) (omega arith) (omega arith) ∙ sym (h.middle i (omega arith) (omega arith)))) y)
          ]
        ]
      ] in
      let rounds : suc (n - 3) ≡ n - 2 = omega arith in
      subst (λ (x : ℕ). Stays n x r) rounds
      (stays_longer n (n - 3) r (1 ∷ 0 ∷ (n - 1) ∷ []) (omega arith, (omega arith, (omega arith, tt))) cover
      (late_stays (n - 3) u 1 (omega arith) (omega arith) late))

  -- (1,..,1,2,1,0,..,0) with 2 at machine p
  record IsEarly (p : ℕ) (r : Ring) : Type 0 where
    on : IsOn n k r
    low : (i : ℕ) → i < p → get_or r.values i 0 ≡ 1
    at : get_or r.values p 0 ≡ 2
    next : get_or r.values (p + 1) 0 ≡ 1
    high : (i : ℕ) → p + 1 < i → i < n → get_or r.values i 0 ≡ 0

  -- where 1 has come to the last machine
  early_last : (r : Ring) (p : ℕ) → 2 ≤ p → p + 2 ≡ n → IsEarly p r → Stays n (n - 1) r
  early_last r p two e h =
      let s : Ring = passed r 0 in
      let t : Ring = passed s (p + 1) in
      let u : Ring = passed t p in
      let os = on_pass n k r 0 (omega arith) h.on in
      let ot = on_pass n k s (p + 1) (omega arith) os in
      let end : p + 1 ≡ n - 1 = omega arith in
      let q : get_or s.values (p + 1 - 1) 0 ≡ get_or s.values p 0 = (let at : p + 1 - 1 ≡ p = omega arith in ap (λ x. get_or s.values x 0) at) in
      let a : get_or s.values 0 0 ≡ 2 = stepped n k r 1 h.on (sym (ap (λ x. get_or r.values x 0) end) ∙ h.next) (h.low 0 (omega arith)) (omega arith) in
      let b : get_or t.values (p + 1) 0 ≡ 2 = copied n k s (p + 1) os (omega arith) (omega arith) ∙ (q ∙ (pass_other r 0 p (omega arith) ∙ h.at)) in
      let c : get_or u.values p 0 ≡ 1 = copied n k t p ot (omega arith) (omega arith)
      ∙ (pass_other s (p + 1) (p - 1) (omega arith) ∙ (pass_other r 0 (p - 1) (omega arith) ∙ h.low (p - 1) (omega arith))) in
      let turned : IsTurned u = record {
        on = on_pass n k t p (omega arith) ot;
        first = pass_other t p 0 (omega arith) ∙ (pass_other s (p + 1) 0 (omega arith) ∙ a);
        middle = λ i li ln. elim (cases_eq i p) [
          | inl e' ↦ ap (λ x. get_or u.values x 0) e' ∙ c
          | inr ne ↦ pass_other t p i ne ∙ (pass_other s (p + 1) i (omega arith) ∙ (pass_other r 0 i (omega arith) ∙ h.low i (omega arith)))
        ];
        last = sym (ap (λ x. get_or u.values x 0) end) ∙ (pass_other t p (p + 1) (omega arith) ∙ b);
      } in
      let cover : (i : ℕ) → i < n → is_privileged r.values i ≡ true → has (0 ∷ (p + 1) ∷ p ∷ []) i ≡ true = λ i li y. elim (cases_eq i 0) [
        | inl e' ↦ found 0 i ((p + 1) ∷ p ∷ []) e'
        | inr n0 ↦ elim (cases_eq i (p + 1)) [
          | inl e' ↦ has_later 0 i ((p + 1) ∷ p ∷ []) (found (p + 1) i (p ∷ []) e')
          | inr n1 ↦ elim (cases_eq i p) [
            | inl e' ↦ has_later 0 i ((p + 1) ∷ p ∷ []) (has_later (p + 1) i (p ∷ []) (found p i [] e'))
            | inr np ↦ absurd (both_ways (is_privileged r.values i) (other_off n k r i (omega arith) (h.low (i - 1) (omega arith) ∙ sym (h.low i (omega arith)))) y)
          ]
        ]
      ] in
      let rounds : suc (n - 2) ≡ n - 1 = omega arith in
      subst (λ (x : ℕ). Stays n x r) rounds
      (stays_longer n (n - 2) r (0 ∷ (p + 1) ∷ p ∷ []) (omega arith, (omega arith, (omega arith, tt))) cover (turned_stays u turned))

  early_next : (r : Ring) (p : ℕ) → 2 ≤ p → p + 2 < n → IsEarly p r → IsEarly (p + 1) (passed (passed (passed r (p + 2)) (p + 1)) p)
  early_next r p two l h =
      let s : Ring = passed r (p + 2) in
      let t : Ring = passed s (p + 1) in
      let u : Ring = passed t p in
      let os = on_pass n k r (p + 2) l h.on in
      let ot = on_pass n k s (p + 1) (omega arith) os in
      let q : get_or r.values (p + 2 - 1) 0 ≡ get_or r.values (p + 1) 0 = (let at : p + 2 - 1 ≡ p + 1 = omega arith in ap (λ x. get_or r.values x 0) at) in
      let q' : get_or s.values (p + 1 - 1) 0 ≡ get_or s.values p 0 = (let at : p + 1 - 1 ≡ p = omega arith in ap (λ x. get_or s.values x 0) at) in
      let a : get_or s.values (p + 2) 0 ≡ 1 = copied n k r (p + 2) h.on (omega arith) l ∙ (q ∙ h.next) in
      let b : get_or t.values (p + 1) 0 ≡ 2 = copied n k s (p + 1) os (omega arith) (omega arith) ∙ (q' ∙ (pass_other r (p + 2) p (omega arith) ∙ h.at)) in
      let c : get_or u.values p 0 ≡ 1 = copied n k t p ot (omega arith) (omega arith)
      ∙ (pass_other s (p + 1) (p - 1) (omega arith) ∙ (pass_other r (p + 2) (p - 1) (omega arith) ∙ h.low (p - 1) (omega arith))) in
      let after : p + 1 + 1 ≡ p + 2 = omega arith in
      record {
        on = on_pass n k t p (omega arith) ot;
        low = λ i li. elim (cases_eq i p) [
          | inl e ↦ ap (λ x. get_or u.values x 0) e ∙ c
          | inr ne ↦ pass_other t p i ne ∙ (pass_other s (p + 1) i (omega arith) ∙ (pass_other r (p + 2) i (omega arith) ∙ h.low i (omega arith)))
        ];
        at = pass_other t p (p + 1) (omega arith) ∙ b;
        next = ap (λ x. get_or u.values x 0) after ∙ (pass_other t p (p + 2) (omega arith) ∙ (pass_other s (p + 1) (p + 2) (omega arith) ∙ a));
        high = λ i li ln. pass_other t p i (omega arith) ∙ (pass_other s (p + 1) i (omega arith) ∙ (pass_other r (p + 2) i (omega arith) ∙ h.high i (omega arith) ln));
      }

  early_cover : (r : Ring) (p : ℕ) → 2 ≤ p → p + 2 < n → IsEarly p r → (i : ℕ) → i < n → is_privileged r.values i ≡ true →
      has ((p + 2) ∷ (p + 1) ∷ p ∷ []) i ≡ true
  early_cover r p two l h i li y = elim (cases_eq i (p + 2)) [
    | inl e ↦ found (p + 2) i ((p + 1) ∷ p ∷ []) e
    | inr n2 ↦ elim (cases_eq i (p + 1)) [
      | inl e ↦ has_later (p + 2) i ((p + 1) ∷ p ∷ []) (found (p + 1) i (p ∷ []) e)
      | inr n1 ↦ elim (cases_eq i p) [
        | inl e ↦ has_later (p + 2) i ((p + 1) ∷ p ∷ []) (has_later (p + 1) i (p ∷ []) (found p i [] e))
        | inr n0 ↦ absurd (both_ways (is_privileged r.values i) (elim (cases_eq i 0) [
          | inl z ↦
              let u = h.high (n - 1) (omega arith) (omega arith) in
              let v = h.low 0 (omega arith) in
              ap (is_privileged r.values) z ∙ zero_off n k r h.on (omega arith)
          | inr nz ↦ other_off n k r i (omega arith) (elim (cases_lt i p) [
            | inl before ↦ h.low (i - 1) (omega arith) ∙ sym (h.low i before)
            | inr past ↦ h.high (i - 1) (omega arith) (omega arith) ∙ sym (h.high i (omega arith) li)
          ])
        ]) y)
      ]
    ]
  ]

  early_stays : (d : ℕ) (r : Ring) (p : ℕ) → 2 ≤ p → p + d + 2 ≡ n → IsEarly p r → Stays n (d + (n - 1)) r
  early_stays zero r p two e h = (let q : n - 1 ≡ 0 + (n - 1) = omega arith in subst (λ (x : ℕ). Stays n x r) q (early_last r p two (omega arith) h))
  early_stays (suc d) r p two e h =
      let q : suc (d + (n - 1)) ≡ suc d + (n - 1) = omega arith in
      subst (λ (x : ℕ). Stays n x r) q
      (stays_longer n (d + (n - 1)) r ((p + 2) ∷ (p + 1) ∷ p ∷ []) (omega arith, (omega arith, (omega arith, tt))) (early_cover r p two (omega arith) h)
      (early_stays d (passed (passed (passed r (p + 2)) (p + 1)) p) (p + 1) (omega arith) (omega arith) (early_next r p two (omega arith) h)))

  -- (0,2,1,0,..,0)
  record IsSlow (r : Ring) : Type 0 where
    on : IsOn n k r
    first : get_or r.values 0 0 ≡ 0
    second : get_or r.values 1 0 ≡ 2
    third : get_or r.values 2 0 ≡ 1
    high : (i : ℕ) → 3 ≤ i → i < n → get_or r.values i 0 ≡ 0

  slow_stays : (r : Ring) → IsSlow r → Stays n (2 * n - 4) r
  slow_stays r h =
      let s : Ring = passed r 0 in
      let t : Ring = passed s 3 in
      let u : Ring = passed t 2 in
      let v : Ring = passed u 1 in
      let os = on_pass n k r 0 (omega arith) h.on in
      let ot = on_pass n k s 3 (omega arith) os in
      let ou = on_pass n k t 2 (omega arith) ot in
      let a : get_or s.values 0 0 ≡ 1 = stepped n k r 0 h.on (h.high (n - 1) (omega arith) (omega arith)) h.first (omega arith) in
      let b : get_or t.values 3 0 ≡ 1 = copied n k s 3 os (omega arith) (omega arith) ∙ (pass_other r 0 2 (omega arith) ∙ h.third) in
      let c : get_or u.values 2 0 ≡ 2 = copied n k t 2 ot (omega arith) (omega arith) ∙ (pass_other s 3 1 (omega arith) ∙ (pass_other r 0 1 (omega arith) ∙ h.second)) in
      let d : get_or v.values 1 0 ≡ 1 = copied n k u 1 ou (omega arith) (omega arith) ∙ (pass_other t 2 0 (omega arith) ∙ (pass_other s 3 0 (omega arith) ∙ a)) in
      let early : IsEarly 2 v = record {
        on = on_pass n k u 1 (omega arith) ou;
        low = λ i li. elim (cases_eq i 1) [
          | inl e ↦ ap (λ x. get_or v.values x 0) e ∙ d
          | inr ne ↦ (let z : i ≡ 0 = omega arith in ap (λ x. get_or v.values x 0) z)
              ∙ (pass_other u 1 0 (omega arith) ∙ (pass_other t 2 0 (omega arith) ∙ (pass_other s 3 0 (omega arith) ∙ a)))
        ];
        at = pass_other u 1 2 (omega arith) ∙ c;
        next = pass_other u 1 3 (omega arith) ∙ (pass_other t 2 3 (omega arith) ∙ b);
        high = λ i li ln. pass_other u 1 i (omega arith) ∙ (pass_other t 2 i (omega arith) ∙ (pass_other s 3 i (omega arith) ∙ (pass_other r 0 i (omega arith) ∙ h.high i (omega arith) ln)));
      } in
      let cover : (i : ℕ) → i < n → is_privileged r.values i ≡ true → has (0 ∷ 3 ∷ 2 ∷ 1 ∷ []) i ≡ true = λ i li y. elim (cases_lt i 4) [
        | inl few ↦ one_of_four i few
        | inr more ↦ absurd (both_ways (is_privileged r.values i)
            (other_off n k r i (omega arith) (h.high (i - 1) (omega arith) (omega arith) ∙ sym (h.high i (omega arith) li))) y)
      ] in
      let rounds : suc ((n - 4) + (n - 1)) ≡ 2 * n - 4 = omega arith in
      subst (λ (x : ℕ). Stays n x r) rounds
      (stays_longer n ((n - 4) + (n - 1)) r (0 ∷ 3 ∷ 2 ∷ 1 ∷ []) (omega arith, (omega arith, (omega arith, (omega arith, tt)))) cover
      (early_stays (n - 4) v 2 (omega arith) (omega arith) early))
    where
      one_of_four : (i : ℕ) → i < 4 → has (0 ∷ 3 ∷ 2 ∷ 1 ∷ []) i ≡ true
      one_of_four zero l = refl
      one_of_four (suc zero) l = refl
      one_of_four (suc (suc zero)) l = refl
      one_of_four (suc (suc (suc zero))) l = refl
      one_of_four (suc (suc (suc (suc i)))) l = absurd (omega arith)

-- that ring of m + 3 machines

abbrev slow_values : ℕ → List ℕ
slow_values m = 0 ∷ 2 ∷ 1 ∷ replicate m 0

slow_length : (m : ℕ) → length (slow_values m) ≡ m + 3
slow_length m =
    let a : length (replicate {A = ℕ} m 0) ≡ m = length-replicate m 0 in
    let b : length {A = ℕ} (slow_values m) ≡ suc (suc (suc (length (replicate {A = ℕ} m 0)))) = refl in
    omega arith

slow_high : (m i : ℕ) → 3 ≤ i → i < m + 3 → get_or (slow_values m) i 0 ≡ 0
slow_high m zero l li = absurd (omega arith)
slow_high m (suc zero) l li = absurd (omega arith)
slow_high m (suc (suc zero)) l li = absurd (omega arith)
slow_high m (suc (suc (suc i))) l li = get_or-replicate m i 0 0 (omega arith)

slow_ring : (m k : ℕ) → 1 ≤ m → m + 3 ≤ k → IsRing (ring_with k (slow_values m))
slow_ring m k one enough =
    let n = slow_length m in
    record { two = omega arith; enough = omega arith; below = λ i l. small i (omega arith) }
  where
    small : (i : ℕ) → i < m + 3 → get_or (slow_values m) i 0 < k
    small zero l = omega arith
    small (suc zero) l = omega arith
    small (suc (suc zero)) l = omega arith
    small (suc (suc (suc i))) l = let z = slow_high m (suc (suc (suc i))) (omega arith) l in omega arith

pub few_rounds_are_sharp : FewRoundsAreSharp
few_rounds_are_sharp n k four enough =
    let m : ℕ = n - 3 in
    let r : Ring = ring_with k (slow_values m) in
    let g : IsRing r = slow_ring m k (omega arith) (omega arith) in
    let size : length r.values ≡ n = (let q : m + 3 ≡ n = omega arith in slow_length m ∙ q) in
    let slow : IsSlow n k four enough r = record {
      on = record { ring = g; size = size; same = refl };
      first = refl;
      second = refl;
      third = refl;
      high = λ i li ln. slow_high m i li (omega arith);
    } in
    let run = slow_stays n k four enough r slow in
    (r, run.choices, g, refl, size, run.below, run.has_rounds, run.unsettled)
