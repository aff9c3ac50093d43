-- Labels of the machines, which show how far a value has come: at first n - 1 for machine 0, and one less from machine to
-- machine. Whoever is asked takes its left neighbour's label, with its value, also where it has the value already; a step of
-- machine 0 adds 1. Here m is the last machine, n - 1.
use Rattle.std.proofs.Common.{◌≡◌, ℕ, zero, suc, ◌+◌, ◌-◌, ◌%◌, ◌<◌, ◌≤◌, ◌≢◌, true, false, cond, ◌==◌, length, get_or, refl, sym, ◌∙◌, ap, subst, inl, inr, arith, eqb}
use Rattle.std.proofs.lemmas.Bool.{cases_eq, cases_Bool, cond-true, cond-false, eq-eqb, eqb-true, ne_eqb, not-false, both_ways}
use Rattle.std.proofs.Math.Nat.{mod-add-mod, mod-eq_of_lt}
use Rattle.ring_model.specs.Ring.{Ring, IsRing, is_privileged}
use Rattle.ring_model.specs.Runs.{passed}
use Rattle.ring_model.proofs.Below.{wrap}
use Rattle.ring_model.proofs.Moves.{at_mover, at_other, last_is_first}
use Rattle.ring_model.proofs.Runs.{pass_granted, pass_idle, pass_ring, length_pass}

-- the values after a pass, granted or not

pub pass_other : (r : Ring) (i k : ℕ) → k ≢ i → get_or (passed r i).values k 0 ≡ get_or r.values k 0
pass_other r i k ne = elim (cases_Bool (is_privileged r.values i)) [
  | inl y ↦ ap (λ (t : Ring). get_or t.values k 0) (pass_granted r i y) ∙ at_other r i k ne
  | inr off ↦ ap (λ (t : Ring). get_or t.values k 0) (pass_idle r i off)
]

pub pass_copies : (r : Ring) (i : ℕ) → suc i < length r.values → get_or (passed r (suc i)).values (suc i) 0 ≡ get_or r.values i 0
pass_copies r i l = elim (cases_Bool (is_privileged r.values (suc i))) [
  | inl y ↦ ap (λ (t : Ring). get_or t.values (suc i) 0) (pass_granted r (suc i) y) ∙ at_mover r (suc i) l
  | inr off ↦
      ap (λ (t : Ring). get_or t.values (suc i) 0) (pass_idle r (suc i) off)
      ∙ sym (eqb-true (get_or r.values i 0) (get_or r.values (suc i) 0) (not-false (eqb (get_or r.values i 0) (get_or r.values (suc i) 0)) off))
]

-- labels after a pass

abbrev pub put : (ℕ → ℕ) → ℕ → ℕ → ℕ → ℕ
put label i v x = cond (x == i) v (label x)

pub put_same : (label : ℕ → ℕ) (i v : ℕ) → put label i v i ≡ v
put_same label i v = cond-true (i == i) v (label i) (eq-eqb i i refl)

pub put_other : (label : ℕ → ℕ) (i v x : ℕ) → x ≢ i → put label i v x ≡ label x
put_other label i v x ne = cond-false (x == i) v (label x) (ne_eqb x i ne)

-- a label from m on says how many steps of machine 0 made the value
abbrev pub Counts : ℕ → ℕ → (ℕ → ℕ) → Type 0
Counts m k value = (l d : ℕ) → m ≤ l → value (l + d) ≡ (value l + d) % k

-- the labels fall to the right, equal ones have equal values, and machine 0 is at most n ahead of the last machine, and then
-- it is not privileged
pub record IsLabelled (m : ℕ) (value : ℕ → ℕ) (r : Ring) (label : ℕ → ℕ) : Type 0 where
  pub ring : IsRing r
  pub size : length r.values ≡ suc m
  pub counts : Counts m r.k value
  pub values : (i : ℕ) → i ≤ m → get_or r.values i 0 ≡ value (label i)
  pub falls : (i : ℕ) → suc i ≤ m → label (suc i) ≤ label i
  pub high : m ≤ label 0
  pub near : label 0 ≤ label m + suc m
  pub idle : label 0 ≡ label m + suc m → value (label 0) ≢ value (label m)

-- the state after a pass of machine i, with its labels: none falls, machine 0's rises only where it is privileged, and
-- another's to that of its left neighbour
pub record IsRelabelled (m : ℕ) (value : ℕ → ℕ) (r : Ring) (label : ℕ → ℕ) (i : ℕ) : Type 0 where
  pub new : ℕ → ℕ
  pub labelled : IsLabelled m value (passed r i) new
  pub rises : (x : ℕ) → x ≤ m → label x ≤ new x
  pub stays : is_privileged r.values 0 ≡ false → new 0 ≡ label 0
  pub follows : (j : ℕ) → i ≡ suc j → new i ≡ label j

pub same_k : (r : Ring) (i : ℕ) → (passed r i).k ≡ r.k
same_k r i = elim (cases_Bool (is_privileged r.values i)) [
  | inl y ↦ ap (λ (t : Ring). t.k) (pass_granted r i y)
  | inr off ↦ ap (λ (t : Ring). t.k) (pass_idle r i off)
]

counts_on : (m : ℕ) (value : ℕ → ℕ) (r : Ring) (i : ℕ) → Counts m r.k value → Counts m (passed r i).k value
counts_on m value r i c = subst (λ (k : ℕ). Counts m k value) (sym (same_k r i)) c

-- machine 0 is privileged where the last machine has its value
pub zero_is_last : (m : ℕ) (r : Ring) → length r.values ≡ suc m → is_privileged r.values 0 ≡ true → get_or r.values m 0 ≡ get_or r.values 0 0
zero_is_last m r s y = let at : m ≡ length r.values - 1 = omega arith in ap (λ x. get_or r.values x 0) at ∙ last_is_first r.values y

pub relabel_copy : (m : ℕ) (value : ℕ → ℕ) (r : Ring) (label : ℕ → ℕ) (j : ℕ) → suc j ≤ m → IsLabelled m value r label → IsRelabelled m value r label (suc j)
relabel_copy m value r label j l g =
    let new : ℕ → ℕ = put label (suc j) (label j) in
    let size = g.size in
    let at : new (suc j) ≡ label j = put_same label (suc j) (label j) in
    let other : (x : ℕ) → x ≢ suc j → new x ≡ label x = λ x ne. put_other label (suc j) (label j) x ne in
    let fall : label (suc j) ≤ label j = g.falls j l in
    let zero' : new 0 ≡ label 0 = other 0 (omega arith) in
    let rises : (x : ℕ) → x ≤ m → label x ≤ new x = λ x lx. elim (cases_eq x (suc j)) [
      | inl e ↦
          let a : label x ≡ label (suc j) = ap label e in
          let b : new x ≡ new (suc j) = ap new e in
          omega arith
      | inr ne ↦ let b = other x ne in omega arith
    ] in
    let near = g.near in
    let last = rises m (omega arith) in
    record {
      new = new;
      labelled = record {
        ring = pass_ring r (suc j) g.ring (omega arith);
        size = length_pass r (suc j) ∙ g.size;
        counts = counts_on m value r (suc j) g.counts;
        values = λ i li. elim (cases_eq i (suc j)) [
          | inl e ↦
              let a : get_or (passed r (suc j)).values i 0 ≡ get_or r.values j 0 = ap (λ x. get_or (passed r (suc j)).values x 0) e ∙ pass_copies r j (omega arith) in
              a ∙ (g.values j (omega arith) ∙ ap value (sym (ap new e ∙ at)))
          | inr ne ↦ pass_other r (suc j) i ne ∙ (g.values i li ∙ ap value (sym (other i ne)))
        ];
        falls = λ i li. elim (cases_eq (suc i) (suc j)) [
          | inl e ↦
              let a : new (suc i) ≡ label j = ap new e ∙ at in
              let b : new i ≡ label i = other i (omega arith) in
              let c : label i ≡ label j = let q : i ≡ j = omega arith in ap label q in
              omega arith
          | inr ne ↦
              let a : new (suc i) ≡ label (suc i) = other (suc i) ne in
              let f = g.falls i li in
              let up = rises i (omega arith) in
              omega arith
        ];
        high = let h = g.high in omega arith;
        near = omega arith;
        idle = λ q e.
            let low : label m ≤ new m = last in
            let same : new m ≡ label m = omega arith in
            g.idle (omega arith) (sym (ap value zero') ∙ (e ∙ ap value same));
      };
      rises = rises;
      stays = λ off. zero';
      follows = λ i e. at ∙ (let q : j ≡ i = omega arith in ap label q);
    }

pub relabel_step : (m : ℕ) (value : ℕ → ℕ) (r : Ring) (label : ℕ → ℕ) → is_privileged r.values 0 ≡ true → IsLabelled m value r label → IsRelabelled m value r label 0
relabel_step m value r label y g =
    let new : ℕ → ℕ = put label 0 (label 0 + 1) in
    let size = g.size in
    let two = g.ring.two in
    let enough = g.ring.enough in
    let at : new 0 ≡ label 0 + 1 = put_same label 0 (label 0 + 1) in
    let other : (x : ℕ) → x ≢ 0 → new x ≡ label x = λ x ne. put_other label 0 (label 0 + 1) x ne in
    let last : new m ≡ label m = other m (omega arith) in
    let same : value (label m) ≡ value (label 0) = sym (g.values m (omega arith)) ∙ (zero_is_last m r g.size y ∙ g.values 0 (omega arith)) in
    let before : label 0 ≢ label m + suc m = λ q. g.idle q (sym same) in
    let near = g.near in
    let first : get_or r.values 0 0 ≡ value (label 0) = g.values 0 (omega arith) in
    let steps : value (label 0 + 1) ≡ (value (label 0) + 1) % r.k = g.counts (label 0) 1 g.high in
    let small : get_or r.values 0 0 < r.k = g.ring.below 0 (omega arith) in
    record {
      new = new;
      labelled = record {
        ring = pass_ring r 0 g.ring (omega arith);
        size = length_pass r 0 ∙ g.size;
        counts = counts_on m value r 0 g.counts;
        values = λ i li. elim (cases_eq i 0) [
          | inl e ↦
              let a : get_or (passed r 0).values 0 0 ≡ (get_or r.values 0 0 + 1) % r.k = ap (λ (t : Ring). get_or t.values 0 0) (pass_granted r 0 y) ∙ at_mover r 0 (omega arith) in
              let b : (get_or r.values 0 0 + 1) % r.k ≡ value (label 0 + 1) = ap (λ x. (x + 1) % r.k) first ∙ sym steps in
              ap (λ x. get_or (passed r 0).values x 0) e ∙ (a ∙ (b ∙ ap value (sym (ap new e ∙ at))))
          | inr ne ↦ pass_other r 0 i ne ∙ (g.values i li ∙ ap value (sym (other i ne)))
        ];
        falls = λ i li.
            let a : new (suc i) ≡ label (suc i) = other (suc i) (omega arith) in
            let f = g.falls i li in
            let up : label i ≤ new i = elim (cases_eq i 0) [
              | inl e ↦
                  let b : new i ≡ new 0 = ap new e in
                  let c : label i ≡ label 0 = ap label e in
                  omega arith
              | inr ne ↦ let b = other i ne in omega arith
            ] in
            omega arith;
        high = let h = g.high in omega arith;
        near = omega arith;
        idle = λ q e.
            let moved_on : value (label 0 + 1) ≡ value (label 0) = sym (ap value at) ∙ (e ∙ (ap value last ∙ same)) in
            elim (wrap r.k (value (label 0)) 1 (omega arith) (omega arith)) [ inl w ↦ omega arith | inr w ↦ omega arith ];
      };
      rises = λ x lx. elim (cases_eq x 0) [
        | inl e ↦
            let b : new x ≡ new 0 = ap new e in
            let c : label x ≡ label 0 = ap label e in
            omega arith
        | inr ne ↦ let b = other x ne in omega arith
      ];
      stays = λ off. absurd (both_ways (is_privileged r.values 0) off y);
      follows = λ j e. absurd (omega arith);
    }

-- a pass of machine i
pub relabel : (m : ℕ) (value : ℕ → ℕ) (r : Ring) (label : ℕ → ℕ) (i : ℕ) → i ≤ m → IsLabelled m value r label → IsRelabelled m value r label i
relabel m value r label zero l g = elim (cases_Bool (is_privileged r.values 0)) [
  | inl y ↦ relabel_step m value r label y g
  | inr off ↦ record {
    new = label;
    labelled = subst (λ (t : Ring). IsLabelled m value t label) (sym (pass_idle r 0 off)) g;
    rises = λ x lx. omega arith;
    stays = λ _. refl;
    follows = λ j e. absurd (omega arith);
  }
]
relabel m value r label (suc j) l g = relabel_copy m value r label j l g

-- the labels at the start

unfoldable pub start_value : Ring → ℕ → ℕ → ℕ
start_value r m l = (get_or r.values (m - l) 0 + (l - m)) % r.k

pub start_labels : (m : ℕ) (r : Ring) → IsRing r → length r.values ≡ suc m → IsLabelled m (start_value r m) r (λ i. m - i)
unfolding start_value
start_labels m r g s =
    let two = g.two in
    record {
      ring = g;
      size = s;
      counts = λ l d high.
          let a : m - (l + d) ≡ m - l = omega arith in
          let b : l + d - m ≡ (l - m) + d = omega arith in
          ap (λ x. (get_or r.values x 0 + (l + d - m)) % r.k) a
          ∙ (ap (λ x. (get_or r.values (m - l) 0 + x) % r.k) b
          ∙ (ap (λ x. x % r.k) (let q : get_or r.values (m - l) 0 + ((l - m) + d) ≡ get_or r.values (m - l) 0 + (l - m) + d = omega arith in q)
          ∙ sym (mod-add-mod (get_or r.values (m - l) 0 + (l - m)) r.k d)));
      values = λ i li.
          let a : m - (m - i) ≡ i = omega arith in
          let b : m - i - m ≡ 0 = omega arith in
          let small : get_or r.values i 0 < r.k = g.below i (omega arith) in
          sym (ap (λ x. (get_or r.values x 0 + (m - i - m)) % r.k) a
          ∙ (ap (λ x. (get_or r.values i 0 + x) % r.k) b
          ∙ (ap (λ x. x % r.k) (let q : get_or r.values i 0 + 0 ≡ get_or r.values i 0 = omega arith in q) ∙ mod-eq_of_lt small)));
      falls = λ i li. omega arith;
      high = omega arith;
      near = omega arith;
      idle = λ q. absurd (omega arith);
    }
