-- The choices of a daemon, one by one.
use Rattle.std.proofs.Common.{◌≡◌, ℕ, zero, suc, ◌+◌, ◌-◌, ◌%◌, ◌<◌, ◌≤◌, Bool, true, false, cond, List, [], ◌∷◌, length, refl, sym, ◌∙◌, ap, subst, inl, inr, arith}
use Rattle.std.specs.Prelude.{nat_lt, nat_le, ◌&&◌}
use Rattle.std.proofs.lemmas.Bool.{cases_Bool, cases_lt, cond-true, cond-false, both_ways, le-leb, lt-leb}
use Rattle.std.proofs.Math.Dec.{leb}
use Rattle.std.proofs.lemmas.Nat.{mod_below}
use Rattle.rand_pcg.specs.Lcg.{Lcg}
use Rattle.ring_model.specs.Numbers.{bit, count_below, least}
use Rattle.ring_model.specs.Ring.{Ring, IsRing, is_privileged, privileged_count, first_privileged, moved, is_settled}
use Rattle.ring_model.specs.Runs.{passed, granted_passes}
use Rattle.ring_model.proofs.Runs.{pass_granted, pass_ring, length_pass}
use Rattle.ring_model.proofs.Settled.{first_is, count_positive}
use Rattle.ring_repairs.specs.Draws.{word, is_fair, draw_within, draw, redraw_limit}
use Rattle.ring_repairs.specs.Daemons.{greatest_below, nth, last_privileged, privileged_at, privileged_from, next_privileged, rest_after, slower, slowest_below, slowest, choice, remembered, choices, passes}
use Rattle.ring_repairs.specs.declared.daemons.Daemon.{Daemon}
use Rattle.ring_repairs.specs.declared.daemons.Daemon.TheVariants.{First, Last, Random, Turn, Slow, Groups}
use Rattle.ring_repairs.specs.declared.daemons.Memory.{Memory}

-- ---- the machine is one of the ring's

cond_less : (b : Bool) (m n t : ℕ) → m < t → n < t → cond b m n < t
cond_less true m n t l k = l
cond_less false m n t l k = k

pub greatest_less : (p : ℕ → Bool) (n : ℕ) → 0 < n → greatest_below p n < n
greatest_less p zero some = some
greatest_less p (suc zero) some = cond_less (p 0) 0 0 1 (omega arith) (omega arith)
greatest_less p (suc (suc n)) some =
    let ih : greatest_below p (suc n) < suc n = greatest_less p (suc n) (omega arith) in
    cond_less (p (suc n)) (suc n) (greatest_below p (suc n)) (suc (suc n)) (omega arith) (omega arith)

pub nth_less : (p : ℕ → Bool) (from turns j n : ℕ) → from + turns ≤ n → 0 < n → nth p from turns j < n
nth_less p from zero j n all some = some
nth_less p from (suc turns) zero n all some =
    cond_less (p from) from (nth p (suc from) turns zero) n (omega arith) (nth_less p (suc from) turns zero n (omega arith) some)
nth_less p from (suc turns) (suc j) n all some =
    cond_less (p from) (nth p (suc from) turns j) (nth p (suc from) turns (suc j)) n
    (nth_less p (suc from) turns j n (omega arith) some) (nth_less p (suc from) turns (suc j) n (omega arith) some)

-- ---- the machine is privileged

below_last : (k n : ℕ) → k < suc n → (k ≡ n → ⊥) → k < n
below_last k n l ne = elim (cases_lt k n) [ inl less ↦ less | inr more ↦ absurd (ne (omega arith)) ]

pub greatest_passes : (p : ℕ → Bool) (n k : ℕ) → k < n → p k ≡ true → p (greatest_below p n) ≡ true
greatest_passes p zero k l e = absurd (omega arith)
greatest_passes p (suc n) k l e = elim (cases_Bool (p n)) [
  | inl on ↦ ap p (cond-true (p n) n (greatest_below p n) on) ∙ on
  | inr off ↦
      let ne : k ≡ n → ⊥ = λ q. both_ways (p n) off (ap p (sym q) ∙ e) in
      ap p (cond-false (p n) n (greatest_below p n) off) ∙ greatest_passes p n k (below_last k n l ne) e
]

-- how many of the `turns` numbers from `from` on pass
abbrev count_from : (ℕ → Bool) → ℕ → ℕ → ℕ
count_from p from zero = 0
count_from p from (suc turns) = bit (p from) + count_from p (suc from) turns

count_joined : (p : ℕ → Bool) (from turns n : ℕ) → from + turns ≡ n → count_below p from + count_from p from turns ≡ count_below p n
count_joined p from zero n e = let to : count_below p from ≡ count_below p n = let is : from ≡ n = omega arith in ap (count_below p) is in omega arith
count_joined p from (suc turns) n e =
    let ih : count_below p (suc from) + count_from p (suc from) turns ≡ count_below p n = count_joined p (suc from) turns n (omega arith) in
    omega arith

nth_passes : (p : ℕ → Bool) (from turns j : ℕ) → j < count_from p from turns → p (nth p from turns j) ≡ true
nth_passes p from zero j l = absurd (omega arith)
nth_passes p from (suc turns) zero l = elim (cases_Bool (p from)) [
  | inl on ↦ ap p (cond-true (p from) from (nth p (suc from) turns 0) on) ∙ on
  | inr off ↦
      let none : bit (p from) ≡ 0 = ap bit off in
      ap p (cond-false (p from) from (nth p (suc from) turns 0) off) ∙ nth_passes p (suc from) turns 0 (omega arith)
]
nth_passes p from (suc turns) (suc j) l = elim (cases_Bool (p from)) [
  | inl on ↦
      let one : bit (p from) ≡ 1 = ap bit on in
      ap p (cond-true (p from) (nth p (suc from) turns j) (nth p (suc from) turns (suc j)) on) ∙ nth_passes p (suc from) turns j (omega arith)
  | inr off ↦
      let none : bit (p from) ≡ 0 = ap bit off in
      ap p (cond-false (p from) (nth p (suc from) turns j) (nth p (suc from) turns (suc j)) off) ∙ nth_passes p (suc from) turns (suc j) (omega arith)
]

pub draw_within_less : (more m : ℕ) (g : Lcg) → 0 < m → (draw_within more m g).0 < m
unfolding draw_within
draw_within_less zero m g some = mod_below (word g).0 m some
draw_within_less (suc more) m g some = elim (cases_Bool (is_fair m (word g).0)) [
  | inl on ↦
      let is : (draw_within (suc more) m g).0 ≡ (word g).0 % m =
      ap (λ (t : ℕ × Lcg). t.0) (cond-true (is_fair m (word g).0) ((word g).0 % m, (word g).1) (draw_within more m (word g).1) on) in
      let less = mod_below (word g).0 m some in
      omega arith
  | inr off ↦
      let is : (draw_within (suc more) m g).0 ≡ (draw_within more m (word g).1).0 =
      ap (λ (t : ℕ × Lcg). t.0) (cond-false (is_fair m (word g).0) ((word g).0 % m, (word g).1) (draw_within more m (word g).1) off) in
      let less = draw_within_less more m (word g).1 some in
      omega arith
]

pub draw_less : (m : ℕ) (g : Lcg) → 0 < m → (draw m g).0 < m
unfolding draw
draw_less m g some = draw_within_less redraw_limit m g some

-- ---- the next one around the ring

least_passes : (p : ℕ → Bool) (from turns : ℕ) → least p from turns < from + turns → p (least p from turns) ≡ true
least_passes p from zero l = absurd (omega arith)
least_passes p from (suc turns) l = elim (cases_Bool (p from)) [
  | inl on ↦ ap p (cond-true (p from) from (least p (suc from) turns) on) ∙ on
  | inr off ↦
      let is : least p from (suc turns) ≡ least p (suc from) turns = cond-false (p from) from (least p (suc from) turns) off in
      ap p is ∙ least_passes p (suc from) turns (omega arith)
]

record IsAble (s : List ℕ) (i : ℕ) : Type 0 where
  below : i < length s
  on : is_privileged s i ≡ true

first_able : (s : List ℕ) → 1 ≤ length s → IsAble s (first_privileged s)
first_able s one = let f = first_is s one in record { below = f.0; on = f.1 }

able_is : (s : List ℕ) (i j : ℕ) → i ≡ j → IsAble s j → IsAble s i
able_is s i j e h = subst (λ (x : ℕ). IsAble s x) (sym e) h

next_able : (s : List ℕ) (i : ℕ) → 1 ≤ length s → i ≤ length s → IsAble s (next_privileged s i)
next_able s i one l = elim (cases_lt (privileged_from s i) (length s)) [
  | inl less ↦
      let on : nat_lt (privileged_from s i) (length s) ≡ true = le-leb (suc (privileged_from s i)) (length s) (omega arith) in
      let is : next_privileged s i ≡ privileged_from s i = cond-true (nat_lt (privileged_from s i) (length s)) (privileged_from s i) (first_privileged s) on in
      let all : i + (length s - i) ≡ length s = omega arith in
      able_is s (next_privileged s i) (privileged_from s i) is
      (record { below = less; on = least_passes (is_privileged s) i (length s - i) (omega arith) })
  | inr more ↦
      let off : nat_lt (privileged_from s i) (length s) ≡ false = lt-leb (suc (privileged_from s i)) (length s) (omega arith) in
      able_is s (next_privileged s i) (first_privileged s)
      (cond-false (nat_lt (privileged_from s i) (length s)) (privileged_from s i) (first_privileged s) off) (first_able s one)
]

-- ---- the slowest one

pub slower_off : (r : Ring) (i j : ℕ) → is_privileged r.values j ≡ false → slower r i j ≡ i
slower_off r i j e = ap (λ (b : Bool). cond (b && nat_lt (rest_after r i) (rest_after r j)) j i) e

pub slower_on : (r : Ring) (i j : ℕ) → is_privileged r.values j ≡ true → slower r i j ≡ cond (nat_lt (rest_after r i) (rest_after r j)) j i
slower_on r i j e = ap (λ (b : Bool). cond (b && nat_lt (rest_after r i) (rest_after r j)) j i) e

pub slower_takes : (r : Ring) (i j : ℕ) → is_privileged r.values j ≡ true → rest_after r i < rest_after r j → slower r i j ≡ j
slower_takes r i j e l =
    let on : leb (suc (rest_after r i)) (rest_after r j) ≡ true = le-leb (suc (rest_after r i)) (rest_after r j) (omega arith) in
    slower_on r i j e ∙ cond-true (leb (suc (rest_after r i)) (rest_after r j)) j i on

pub slower_keeps : (r : Ring) (i j : ℕ) → is_privileged r.values j ≡ true → rest_after r j ≤ rest_after r i → slower r i j ≡ i
slower_keeps r i j e l =
    let off : leb (suc (rest_after r i)) (rest_after r j) ≡ false = lt-leb (suc (rest_after r i)) (rest_after r j) (omega arith) in
    slower_on r i j e ∙ cond-false (leb (suc (rest_after r i)) (rest_after r j)) j i off

slowest_able : (r : Ring) (n : ℕ) → 1 ≤ length r.values → n ≤ length r.values → IsAble r.values (slowest_below r n)
slowest_able r zero one l = first_able r.values one
slowest_able r (suc n) one l =
    let i : ℕ = slowest_below r n in
    let ih : IsAble r.values i = slowest_able r n one (omega arith) in
    elim (cases_Bool (is_privileged r.values n)) [
      | inr off ↦ able_is r.values (slower r i n) i (slower_off r i n off) ih
      | inl on ↦ elim (cases_lt (rest_after r i) (rest_after r n)) [
        | inl less ↦ able_is r.values (slower r i n) n (slower_takes r i n on less) (record { below = omega arith; on = on })
        | inr more ↦ able_is r.values (slower r i n) i (slower_keeps r i n on more) ih
      ]
    ]

-- ---- what a daemon chooses

turn_below : (m n : ℕ) → 2 ≤ n → m % n ≤ n
turn_below m n two = let l = mod_below m n (omega arith) in omega arith

pub choice_below : (d : Daemon) (m : Memory) (r : Ring) → IsRing r → choice d m r < length r.values
unfolding choice
choice_below First m r g = let two = g.two in (first_is r.values (omega arith)).0
choice_below Last m r g = let two = g.two in greatest_less (is_privileged r.values) (length r.values) (omega arith)
choice_below Random m r g =
    let two = g.two in
    nth_less (is_privileged r.values) 0 (length r.values) (draw (privileged_count r.values) m.words).0 (length r.values) (omega arith) (omega arith)
choice_below Turn m r g =
    let two = g.two in
    (next_able r.values (m.asked % length r.values) (omega arith) (turn_below m.asked (length r.values) two)).below
choice_below Slow m r g = let two = g.two in (slowest_able r (length r.values) (omega arith) (omega arith)).below
choice_below Groups m r g = let two = g.two in (first_is r.values (omega arith)).0

pub choice_privileged : (d : Daemon) (m : Memory) (r : Ring) → IsRing r → is_privileged r.values (choice d m r) ≡ true
unfolding choice
choice_privileged First m r g = let two = g.two in (first_is r.values (omega arith)).1
choice_privileged Last m r g =
    let two = g.two in
    let first = first_is r.values (omega arith) in
    greatest_passes (is_privileged r.values) (length r.values) (first_privileged r.values) first.0 first.1
choice_privileged Random m r g =
    let two = g.two in
    let some : 1 ≤ privileged_count r.values = count_positive r.values (omega arith) in
    let less = draw_less (privileged_count r.values) m.words (omega arith) in
    let all : count_below (is_privileged r.values) 0 + count_from (is_privileged r.values) 0 (length r.values) ≡ privileged_count r.values =
    count_joined (is_privileged r.values) 0 (length r.values) (length r.values) (omega arith) in
    nth_passes (is_privileged r.values) 0 (length r.values) (draw (privileged_count r.values) m.words).0 (omega arith)
choice_privileged Turn m r g =
    let two = g.two in
    (next_able r.values (m.asked % length r.values) (omega arith) (turn_below m.asked (length r.values) two)).on
choice_privileged Slow m r g = let two = g.two in (slowest_able r (length r.values) (omega arith) (omega arith)).on
choice_privileged Groups m r g = let two = g.two in (first_is r.values (omega arith)).1

-- so it is granted
pub choice_passes : (d : Daemon) (m : Memory) (r : Ring) → IsRing r → passed r (choice d m r) ≡ moved r (choice d m r)
choice_passes d m r g = pass_granted r (choice d m r) (choice_privileged d m r g)

pub choice_ring : (d : Daemon) (m : Memory) (r : Ring) → IsRing r → IsRing (passed r (choice d m r))
choice_ring d m r g = pass_ring r (choice d m r) g (choice_below d m r g)

-- ---- choices

pub choices_none : (d : Daemon) (m : Memory) (r : Ring) → choices d 0 m r ≡ []
unfolding choices
choices_none d m r = refl

pub choices_settled : (d : Daemon) (most : ℕ) (m : Memory) (r : Ring) → is_settled r.values ≡ true → choices d most m r ≡ []
unfolding choices
choices_settled d zero m r e = refl
choices_settled d (suc most) m r e =
    cond-true (is_settled r.values) [] (choice d m r ∷ choices d most (remembered d m r) (passed r (choice d m r))) e

pub choices_go_on : (d : Daemon) (most : ℕ) (m : Memory) (r : Ring) → is_settled r.values ≡ false →
    choices d (suc most) m r ≡ choice d m r ∷ choices d most (remembered d m r) (passed r (choice d m r))
unfolding choices
choices_go_on d most m r e =
    cond-false (is_settled r.values) [] (choice d m r ∷ choices d most (remembered d m r) (passed r (choice d m r))) e

-- each is granted
pub granted_next : (r : Ring) (i : ℕ) (is : List ℕ) → is_privileged r.values i ≡ true → granted_passes r (i ∷ is) ≡ i ∷ granted_passes (passed r i) is
granted_next r i is e = cond-true (is_privileged r.values i) (i ∷ granted_passes (passed r i) is) (granted_passes (passed r i) is) e

pub passes_none : (d : Daemon) (m : Memory) (r : Ring) → passes d 0 m r ≡ 0
unfolding passes choices
passes_none d m r = refl

pub passes_settled : (d : Daemon) (most : ℕ) (m : Memory) (r : Ring) → is_settled r.values ≡ true → passes d most m r ≡ 0
unfolding passes
passes_settled d most m r e = ap (λ (x : List ℕ). length (granted_passes r x)) (choices_settled d most m r e)

pub passes_more : (d : Daemon) (most : ℕ) (m : Memory) (r : Ring) → IsRing r → is_settled r.values ≡ false →
    passes d (suc most) m r ≡ suc (passes d most (remembered d m r) (passed r (choice d m r)))
unfolding passes
passes_more d most m r g e =
    ap (λ (x : List ℕ). length (granted_passes r x)) (choices_go_on d most m r e)
    ∙ ap (λ (x : List ℕ). length x) (granted_next r (choice d m r) (choices d most (remembered d m r) (passed r (choice d m r))) (choice_privileged d m r g))

-- ---- the loop of a repair

-- after i of the choices the ring is r, and the memory m
pub record Repairs (d : Daemon) (most done : ℕ) (m0 m : Memory) (r0 r : Ring) (i : ℕ) : Type 0 where
  pub ring : IsRing r
  pub size : length r.values ≡ length r0.values
  pub same : r.k ≡ r0.k
  pub all : done + passes d (most - i) m r ≡ passes d most m0 r0
  pub counts : done ≡ i

pub repairs_start : (d : Daemon) (most : ℕ) (m : Memory) (r : Ring) → IsRing r → Repairs d most 0 m m r r 0
repairs_start d most m r g =
    let less : most - 0 ≡ most = omega arith in
    let all' : passes d (most - 0) m r ≡ passes d most m r = ap (λ (x : ℕ). passes d x m r) less in
    record { ring = g; size = refl; same = refl; all = omega arith; counts = refl }

-- one choice more
pub repairs_more : (d : Daemon) (most done i : ℕ) (m0 m m' : Memory) (r0 r t : Ring) (at : ℕ) →
    Repairs d most done m0 m r0 r at → at < most → is_settled r.values ≡ false → m' ≡ remembered d m r → i ≡ choice d m r → t ≡ moved r i →
    Repairs d most (done + 1) m0 m' r0 t (at + 1)
repairs_more d most done i m0 m m' r0 r t at inv l e em ei et =
    let left : ℕ = most - (at + 1) in
    let one : most - at ≡ suc left = omega arith in
    let g : IsRing r = inv.ring in
    let to : t ≡ passed r (choice d m r) = et ∙ ap (moved r) ei ∙ sym (choice_passes d m r g) in
    let next : passes d (most - at) m r ≡ suc (passes d left m' t) =
    ap (λ (x : ℕ). passes d x m r) one ∙ passes_more d left m r g e
    ∙ ap (λ (x : Memory). suc (passes d left x (passed r (choice d m r)))) (sym em) ∙ ap (λ (x : Ring). suc (passes d left m' x)) (sym to) in
    let all' = inv.all in
    let counts' = inv.counts in
    record {
      ring = subst (λ (x : Ring). IsRing x) (sym to) (choice_ring d m r g);
      size = ap (λ (x : Ring). length x.values) to ∙ length_pass r (choice d m r) ∙ inv.size;
      same = ap (λ (x : Ring). x.k) et ∙ inv.same;
      all = omega arith;
      counts = omega arith;
    }

-- the ring is settled, or no choice is left
pub repairs_end : (d : Daemon) (most done : ℕ) (m0 m : Memory) (r0 r : Ring) (i : ℕ) →
    Repairs d most done m0 m r0 r i → is_settled r.values ≡ true → done ≡ passes d most m0 r0
repairs_end d most done m0 m r0 r i inv e = let all' = inv.all in let none = passes_settled d (most - i) m r e in omega arith

pub repairs_out : (d : Daemon) (most done : ℕ) (m0 m : Memory) (r0 r : Ring) (i : ℕ) →
    Repairs d most done m0 m r0 r i → most ≤ i → done ≡ passes d most m0 r0
repairs_out d most done m0 m r0 r i inv l =
    let out : most - i ≡ 0 = omega arith in
    let none : passes d (most - i) m r ≡ 0 = ap (λ (x : ℕ). passes d x m r) out ∙ passes_none d m r in
    let all' = inv.all in
    omega arith
