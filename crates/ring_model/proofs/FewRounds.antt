-- 2n - 3 complete rounds settle every ring: n - 1 of them spread labels of at least n - 1, after which machine 0 is privileged
-- only in a settled ring, and n - 2 more spread its value.
use Rattle.std.proofs.Common.{◌≡◌, ℕ, zero, suc, ◌+◌, ◌-◌, ◌*◌, ◌%◌, ◌<◌, ◌≤◌, ◌≢◌, true, false, List, [], ◌∷◌, length, get_or, refl, sym, ◌∙◌, ap, subst, inl, inr, arith, eqb}
use Rattle.std.specs.Prelude.{◌⊎◌}
use Rattle.std.proofs.lemmas.Bool.{cases_eq, cases_Bool, eq-eqb, ne_eqb, not_from_true, not_from_false, both_ways}
use Rattle.ring_model.specs.Numbers.{bit}
use Rattle.ring_model.specs.Ring.{Ring, IsRing, is_privileged, privileged_count, is_settled}
use Rattle.ring_model.specs.Runs.{passed, after_passes, AreBelow}
use Rattle.ring_model.specs.Groups.{has}
use Rattle.ring_model.specs.Progress.{HasRounds, FewRoundsSettle}
use Rattle.ring_model.proofs.Below.{sum_only, bit_at, wrap}
use Rattle.ring_model.proofs.Lead.{all_settled}
use Rattle.ring_model.proofs.Settled.{settled_stays}
use Rattle.ring_model.proofs.Runs.{pass_granted, pass_idle, pass_ring, length_pass}
use Rattle.ring_model.proofs.Groups.{has_parts}
use Rattle.ring_model.proofs.Rounds.{after_passes-append, below_parts, rounds_parts}
use Rattle.ring_model.proofs.Labels.{IsLabelled, relabel, start_value, start_labels, zero_is_last}

-- What each pass keeps, and a pass of the next machine takes one further, each complete round takes one further.
module _ (n top : ℕ) (P : ℕ → Ring → Type 0) (within : top < n)
    (keep : (k : ℕ) (r : Ring) (i : ℕ) → i < n → P k r → P k (passed r i))
    (more : (k : ℕ) (r : Ring) → suc k ≤ top → P k r → P (suc k) (passed r (suc k))) where
  pub kept_run : (k : ℕ) (r : Ring) (choices : List ℕ) → AreBelow n choices → P k r → P k (after_passes r choices)
  kept_run k r [] b p = p
  kept_run k r (i ∷ is) b p = kept_run k (passed r i) is b.1 (keep k r i b.0 p)

  round_more : (k : ℕ) (r : Ring) (choices : List ℕ) → suc k ≤ top → AreBelow n choices → has choices (suc k) ≡ true → P k r → P (suc k) (after_passes r choices)
  round_more k r [] l b h p = absurd (both_ways false refl h)
  round_more k r (i ∷ is) l b h p = elim (has_parts i (suc k) is h) [
    | inl at ↦ kept_run (suc k) (passed r i) is b.1 (subst (λ (x : ℕ). P (suc k) (passed r x)) at (more k r l p))
    | inr later ↦ round_more k (passed r i) is l b.1 later (keep k r i b.0 p)
  ]

  pub rounds_more : (rounds k : ℕ) (r : Ring) (choices : List ℕ) → k + rounds ≤ top → AreBelow n choices → HasRounds n rounds choices → P k r →
      P (k + rounds) (after_passes r choices)
  rounds_more zero k r choices l b h p = let q : k ≡ k + 0 = omega arith in subst (λ (x : ℕ). P x (after_passes r choices)) q (kept_run k r choices b p)
  rounds_more (suc rounds) k r choices l b h p =
      let below = below_parts n h.0 h.1 (subst (λ (x : List ℕ). AreBelow n x) h.2 b) in
      let one : P (suc k) (after_passes r h.0) = round_more k r h.0 (omega arith) below.0 (h.3 (suc k) (omega arith)) p in
      let all : P (suc k + rounds) (after_passes (after_passes r h.0) h.1) = rounds_more rounds (suc k) (after_passes r h.0) h.1 (omega arith) below.1 h.4 one in
      let state : after_passes (after_passes r h.0) h.1 ≡ after_passes r choices = sym (ap (after_passes r) h.2 ∙ after_passes-append r h.0 h.1) in
      let q : suc k + rounds ≡ k + suc rounds = omega arith in
      subst (λ (x : ℕ). P x (after_passes r choices)) q (subst (λ (t : Ring). P (suc k + rounds) t) state all)

-- more rounds than these hold these
rounds_less : (n a b : ℕ) (machines : List ℕ) → HasRounds n (a + b) machines → HasRounds n a machines
rounds_less n zero b machines h = tt
rounds_less n (suc a) b machines h =
    let q : suc a + b ≡ suc (a + b) = omega arith in
    let more : HasRounds n (suc (a + b)) machines = subst (λ (m : ℕ). HasRounds n m machines) q h in
    (more.0, more.1, more.2, more.3, rounds_less n a b more.1 more.4)

module _ (m : ℕ) (value : ℕ → ℕ) where
  -- the labels of machines 0 to k are at least m
  pub record IsRisen (k : ℕ) (r : Ring) : Type 0 where
    pub label : ℕ → ℕ
    pub labelled : IsLabelled m value r label
    pub place : k ≤ m
    pub risen : m ≤ label k

  risen_kept : (k : ℕ) (r : Ring) (i : ℕ) → i < suc m → IsRisen k r → IsRisen k (passed r i)
  risen_kept k r i l p =
      let new = relabel m value r p.label i (omega arith) p.labelled in
      let up = new.rises k p.place in
      let high = p.risen in
      record { label = new.new; labelled = new.labelled; place = p.place; risen = omega arith }

  risen_more : (k : ℕ) (r : Ring) → suc k ≤ m → IsRisen k r → IsRisen (suc k) (passed r (suc k))
  risen_more k r l p =
      let new = relabel m value r p.label (suc k) l p.labelled in
      let at = new.follows k refl in
      let high = p.risen in
      record { label = new.new; labelled = new.labelled; place = l; risen = omega arith }

  -- labels at least as high as a machine's are to its left
  falls_by : (r : Ring) (label : ℕ → ℕ) → IsLabelled m value r label → (d i : ℕ) → i + d ≤ m → label (i + d) ≤ label i
  falls_by r label g zero i l = let q : label (i + 0) ≡ label i = (let e : i + 0 ≡ i = omega arith in ap label e) in omega arith
  falls_by r label g (suc d) i l =
      let e : i + suc d ≡ suc (i + d) = omega arith in
      let q : label (i + suc d) ≡ label (suc (i + d)) = ap label e in
      let one = g.falls (i + d) (omega arith) in
      let ih = falls_by r label g d i (omega arith) in
      omega arith

  falls_to : (r : Ring) (label : ℕ → ℕ) → IsLabelled m value r label → (i j : ℕ) → i ≤ j → j ≤ m → label j ≤ label i
  falls_to r label g i j l lj =
      let e : i + (j - i) ≡ j = omega arith in
      let q : label (i + (j - i)) ≡ label j = ap label e in
      let d = falls_by r label g (j - i) i (omega arith) in
      omega arith

  -- where machine k has machine 0's label, those between have its value
  level_values : (r : Ring) (label : ℕ → ℕ) → IsLabelled m value r label → (k : ℕ) → k ≤ m → label k ≡ label 0 →
      (i : ℕ) → i ≤ k → get_or r.values i 0 ≡ get_or r.values 0 0
  level_values r label g k l e i li =
      let a = falls_to r label g i k li l in
      let b = falls_to r label g 0 i (omega arith) (omega arith) in
      let q : label i ≡ label 0 = omega arith in
      g.values i (omega arith) ∙ (ap value q ∙ sym (g.values 0 (omega arith)))

  -- where all labels are at least m, machine 0 is privileged only in a settled ring
  high_settled : (r : Ring) (label : ℕ → ℕ) → IsLabelled m value r label → m ≤ label m → is_privileged r.values 0 ≡ true → is_settled r.values ≡ true
  high_settled r label g high y =
      let size = g.size in
      let enough = g.ring.enough in
      let near = g.near in
      let down = falls_to r label g 0 m (omega arith) (omega arith) in
      let d : ℕ = label 0 - label m in
      let same : value (label m) ≡ value (label 0) = sym (g.values m (omega arith)) ∙ (zero_is_last m r g.size y ∙ g.values 0 (omega arith)) in
      let sum : label m + d ≡ label 0 = omega arith in
      let counted : value (label 0) ≡ (value (label m) + d) % r.k = sym (ap value sum) ∙ g.counts (label m) d high in
      let first : get_or r.values m 0 ≡ value (label m) = g.values m (omega arith) in
      let small : get_or r.values m 0 < r.k = g.ring.below m (omega arith) in
      let level : label m ≡ label 0 = elim (wrap r.k (value (label m)) d (omega arith) (omega arith)) [
        | inl w ↦ omega arith
        | inr w ↦ absurd (g.idle (omega arith) (sym same))
      ] in
      all_settled r.values (omega arith) y (λ k lk. level_values r label g m (omega arith) level k (omega arith))

  -- a settled ring
  pub record IsDone (r : Ring) : Type 0 where
    pub ring : IsRing r
    pub size : length r.values ≡ suc m
    pub settled : is_settled r.values ≡ true

  -- all labels are at least m, and those of machines 0 to k are machine 0's
  pub record IsLevel (k : ℕ) (r : Ring) : Type 0 where
    pub label : ℕ → ℕ
    pub labelled : IsLabelled m value r label
    pub place : k ≤ m
    pub high : m ≤ label m
    pub level : label k ≡ label 0

  done_kept : (r : Ring) (i : ℕ) → i < suc m → IsDone r → IsDone (passed r i)
  done_kept r i l p =
      let size = p.size in
      record {
        ring = pass_ring r i p.ring (omega arith);
        size = length_pass r i ∙ p.size;
        settled = elim (cases_Bool (is_privileged r.values i)) [
          | inl y ↦ ap (λ (t : Ring). is_settled t.values) (pass_granted r i y) ∙ settled_stays r i p.ring (omega arith) y p.settled
          | inr off ↦ ap (λ (t : Ring). is_settled t.values) (pass_idle r i off) ∙ p.settled
        ];
      }

  -- settled, or level
  abbrev pub IsSpread : ℕ → Ring → Type 0
  IsSpread k r = IsDone r ⊎ IsLevel k r

  spread_kept : (k : ℕ) (r : Ring) (i : ℕ) → i < suc m → IsSpread k r → IsSpread k (passed r i)
  spread_kept k r i l (inl p) = inl (done_kept r i l p)
  spread_kept k r i l (inr p) = elim (cases_Bool (is_privileged r.values 0)) [
    | inl y ↦ inl (done_kept r i l (record { ring = p.labelled.ring; size = p.labelled.size; settled = high_settled r p.label p.labelled p.high y }))
    | inr off ↦
        let new = relabel m value r p.label i (omega arith) p.labelled in
        let zero' : new.new 0 ≡ p.label 0 = new.stays off in
        let up = new.rises k p.place in
        let last = new.rises m (omega arith) in
        let down = falls_to (passed r i) new.new new.labelled 0 k (omega arith) p.place in
        let was = p.level in
        let all = p.high in
        inr (record { label = new.new; labelled = new.labelled; place = p.place; high = omega arith; level = omega arith })
  ]

  spread_more : (k : ℕ) (r : Ring) → suc k ≤ m → IsSpread k r → IsSpread (suc k) (passed r (suc k))
  spread_more k r l (inl p) = inl (done_kept r (suc k) (omega arith) p)
  spread_more k r l (inr p) = elim (cases_Bool (is_privileged r.values 0)) [
    | inl y ↦ inl (done_kept r (suc k) (omega arith) (record { ring = p.labelled.ring; size = p.labelled.size; settled = high_settled r p.label p.labelled p.high y }))
    | inr off ↦
        let new = relabel m value r p.label (suc k) l p.labelled in
        let zero' : new.new 0 ≡ p.label 0 = new.stays off in
        let at : new.new (suc k) ≡ p.label k = new.follows k refl in
        let last = new.rises m (omega arith) in
        let was = p.level in
        let all = p.high in
        inr (record { label = new.new; labelled = new.labelled; place = l; high = omega arith; level = omega arith })
  ]

-- where all machines but the last have one value, the ring is settled
settled_front : (s : List ℕ) (m : ℕ) → length s ≡ suc (suc m) → ((i : ℕ) → i ≤ m → get_or s i 0 ≡ get_or s 0 0) → is_settled s ≡ true
settled_front s m n h =
    let last : length s - 1 ≡ suc m = omega arith in
    elim (cases_eq (get_or s (suc m) 0) (get_or s 0 0)) [
      | inl e ↦
          let y : is_privileged s 0 ≡ true = eq-eqb (get_or s (length s - 1) 0) (get_or s 0 0) (ap (λ x. get_or s x 0) last ∙ e) in
          all_settled s (omega arith) y (λ k l. elim (cases_eq k (suc m)) [
            | inl at ↦ ap (λ x. get_or s x 0) at ∙ e
            | inr ne ↦ h k (omega arith)
          ])
      | inr ne ↦
          let off : (k : ℕ) → k < length s → k ≢ suc m → bit (is_privileged s k) ≡ 0 = λ k l other. unprivileged k l other ne in
          let c : privileged_count s ≡ bit (is_privileged s (suc m)) = sum_only (λ k. bit (is_privileged s k)) (suc m) (length s) (omega arith) off in
          let on : is_privileged s (suc m) ≡ true = not_from_false (eqb (get_or s m 0) (get_or s (suc m) 0))
          (ne_eqb (get_or s m 0) (get_or s (suc m) 0) (λ q. ne (sym q ∙ h m (omega arith)))) in
          let b : bit (is_privileged s (suc m)) ≡ 1 = bit_at (is_privileged s (suc m)) true on in
          eq-eqb (privileged_count s) 1 (c ∙ b)
    ]
  where
    unprivileged : (k : ℕ) → k < length s → k ≢ suc m → get_or s (suc m) 0 ≢ get_or s 0 0 → bit (is_privileged s k) ≡ 0
    unprivileged zero l other ne =
        let last : length s - 1 ≡ suc m = omega arith in
        bit_at (is_privileged s 0) false (ne_eqb (get_or s (length s - 1) 0) (get_or s 0 0) (λ q. ne (sym (ap (λ x. get_or s x 0) last) ∙ q)))
    unprivileged (suc k) l other ne = bit_at (is_privileged s (suc k)) false
        (not_from_true (eqb (get_or s k 0) (get_or s (suc k) 0)) (eq-eqb (get_or s k 0) (get_or s (suc k) 0) (h k (omega arith) ∙ sym (h (suc k) (omega arith)))))

-- n - 1 rounds, and then n - 2
spread_settles : (m : ℕ) (value : ℕ → ℕ) (r : Ring) → IsSpread (suc m) value m r → is_settled r.values ≡ true
spread_settles m value r (inl p) = p.settled
spread_settles m value r (inr p) = settled_front r.values m p.labelled.size
    (level_values (suc m) value r p.label p.labelled m p.place p.level)

few_rounds : (m extra : ℕ) (r : Ring) (choices : List ℕ) → IsRing r → length r.values ≡ suc (suc m) → AreBelow (suc (suc m)) choices →
    HasRounds (suc (suc m)) (suc m + (m + extra)) choices → is_settled (after_passes r choices).values ≡ true
few_rounds m extra r choices g s b h =
    let n : ℕ = suc (suc m) in
    let value : ℕ → ℕ = start_value r (suc m) in
    let parts = rounds_parts n (suc m) (m + extra) choices h in
    let below = below_parts n parts.0 parts.1 (subst (λ (x : List ℕ). AreBelow n x) parts.2 b) in
    let start : IsRisen (suc m) value 0 r = record { label = λ i. suc m - i; labelled = start_labels (suc m) r g s; place = omega arith; risen = omega arith } in
    let t : Ring = after_passes r parts.0 in
    let risen : IsRisen (suc m) value (suc m) t =
    subst (λ (k : ℕ). IsRisen (suc m) value k t) (let q : 0 + suc m ≡ suc m = omega arith in q)
    (rounds_more n (suc m) (IsRisen (suc m) value) (omega arith) (risen_kept (suc m) value) (risen_more (suc m) value)
    (suc m) 0 r parts.0 (omega arith) below.0 parts.3 start) in
    let level : IsSpread (suc m) value 0 t = inr (record { label = risen.label; labelled = risen.labelled; place = omega arith; high = risen.risen; level = refl }) in
    let spread : IsSpread (suc m) value m (after_passes t parts.1) =
    subst (λ (k : ℕ). IsSpread (suc m) value k (after_passes t parts.1)) (let q : 0 + m ≡ m = omega arith in q)
    (rounds_more n (suc m) (IsSpread (suc m) value) (omega arith) (spread_kept (suc m) value) (spread_more (suc m) value)
    m 0 t parts.1 (omega arith) below.1 (rounds_less n m extra parts.1 parts.4) level) in
    let state : after_passes r choices ≡ after_passes t parts.1 = ap (after_passes r) parts.2 ∙ after_passes-append r parts.0 parts.1 in
    ap (λ (u : Ring). is_settled u.values) state ∙ spread_settles m value (after_passes t parts.1) spread

pub few_rounds_settle : FewRoundsSettle
few_rounds_settle r choices rounds g b h enough =
    let two = g.two in
    let m : ℕ = length r.values - 2 in
    let s : length r.values ≡ suc (suc m) = omega arith in
    let q : rounds ≡ suc m + (m + (rounds - (2 * length r.values - 3))) = omega arith in
    few_rounds m (rounds - (2 * length r.values - 3)) r choices g s (subst (λ (n : ℕ). AreBelow n choices) s b)
    (subst (λ (n : ℕ). HasRounds n (suc m + (m + (rounds - (2 * length r.values - 3)))) choices) s
    (subst (λ (x : ℕ). HasRounds (length r.values) x choices) q h))
