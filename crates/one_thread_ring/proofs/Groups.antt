-- Groups as tests that compute.
use Rattle.std.proofs.Common.{◌≡◌, ℕ, suc, ◌+◌, ◌≤◌, Bool, true, false, ◌&&◌, ◌||◌, eqb, ltb, leb, List, [], ◌∷◌, length, Some, None, refl, sym, ap, subst, ◌∙◌, ◌⊎◌, inl, inr, arith}
use Rattle.std.proofs.lemmas.Bool.{false≢true, eqb-true, eq-eqb, leb-true, ltb-true, le-leb, lt-ltb}
use Rattle.ring_model.specs.Ring.{is_privileged}
use Rattle.ring_model.specs.Groups.{has, Rises}
use Rattle.ring_model.specs.GroupLaws.{AreAllPrivileged}
use Rattle.ring_book.specs.GroupView.{IsLeastWithout}
use Rattle.one_thread_ring.specs.Refusals.{rise, first_without}

pub both : (a b : Bool) → (a && b) ≡ true → (a ≡ true) × (b ≡ true)
both true b e = (refl, e)
both false b e = absurd (false≢true e)

-- ---- rising numbers

pub rise_is : (low high : ℕ) (ms : List ℕ) → rise low high ms ≡ true → Rises low high ms
rise_is low high [] e = tt
rise_is low high (m ∷ ms) e =
    let x = both (leb low m) (ltb m high && rise (suc m) high ms) e in
    let y = both (ltb m high) (rise (suc m) high ms) x.1 in
    (leb-true low m x.0, ltb-true m high y.0, rise_is (suc m) high ms y.1)

pub rise_at : (low high : ℕ) (ms : List ℕ) → Rises low high ms → rise low high ms ≡ true
rise_at low high [] r = refl
rise_at low high (m ∷ ms) r = rw (le-leb low m r.0, lt-ltb m high r.1) (rise_at (suc m) high ms r.2)

-- no more of them than fit
pub rises_few : (low high : ℕ) (ms : List ℕ) → low ≤ high → Rises low high ms → low + length ms ≤ high
rises_few low high [] l r = omega arith
rises_few low high (m ∷ ms) l r =
    let low_is = r.0 in
    let below = r.1 in
    let more = rises_few (suc m) high ms (omega arith) r.2 in
    omega (arith, more, low_is)

-- ---- the first that is not privileged

pub all_able : (s ms : List ℕ) → AreAllPrivileged s ms → first_without s ms ≡ None
all_able s [] a = refl
all_able s (m ∷ ms) a =
    let here : is_privileged s m ≡ true = a m (head m (has ms m)) in
    rw here (all_able s ms (λ i h. a i (tail (eqb i m) (has ms i) h)))
  where
    head : (m : ℕ) (b : Bool) → (eqb m m || b) ≡ true
    head m b = rw (eq-eqb m m refl) refl

    tail : (a b : Bool) → b ≡ true → (a || b) ≡ true
    tail true b e = refl
    tail false b e = e

either : (a b : Bool) → (a || b) ≡ true → (a ≡ true) ⊎ (b ≡ true)
either true b e = inl refl
either false b e = inr e

-- a number of a rising list is not below its least
has_low : (low high : ℕ) (ms : List ℕ) (m : ℕ) → Rises low high ms → has ms m ≡ true → low ≤ m
has_low low high [] m r h = absurd (false≢true h)
has_low low high (x ∷ ms) m r h = elim (either (eqb m x) (has ms m) h) [
  | inl e ↦ let same : m ≡ x = eqb-true m x e in let l = r.0 in omega (arith, same, l)
  | inr e ↦ let l = r.0 in let k = has_low (suc x) high ms m r.2 e in omega (arith, l, k)
]

later : (a b : Bool) → b ≡ true → (a || b) ≡ true
later true b e = refl
later false b e = e

pub least_first : (s : List ℕ) (low high : ℕ) (ms : List ℕ) (m : ℕ) → Rises low high ms → IsLeastWithout s ms m → first_without s ms ≡ Some m
least_first s low high [] m r w = absurd (false≢true w.member)
least_first s low high (x ∷ ms) m r w = elim (either (eqb m x) (has ms m) w.member) [
  | inl e ↦
      let same : m ≡ x = eqb-true m x e in
      let out : is_privileged s x ≡ false = subst (λ (k : ℕ). is_privileged s k ≡ false) same w.without in
      rw out (ap (λ (k : ℕ). Some k) (sym same))
  | inr e ↦
      let k : suc x ≤ m = has_low (suc x) high ms m r.2 e in
      let able : is_privileged s x ≡ true = w.least x (rw (eq-eqb x x refl) refl) (omega (arith, k)) in
      rw able (least_first s (suc x) high ms m r.2 (record { member = e; without = w.without; least = λ j h l. w.least j (later (eqb j x) (has ms j) h) l }))
]

-- ---- where none is the first, all are privileged; the first is the least

both_some : {A : Type 0} (a : A) → None ≡ Some a → ⊥
both_some a e = cc

all_with : (s : List ℕ) (m : ℕ) (ms : List ℕ) (b : Bool) → is_privileged s m ≡ b → first_without s (m ∷ ms) ≡ None →
    (first_without s ms ≡ None → AreAllPrivileged s ms) → AreAllPrivileged s (m ∷ ms)
all_with s m ms false q e more =
    let here : first_without s (m ∷ ms) ≡ Some m = rw q refl in
    absurd (both_some m (sym e ∙ here))
all_with s m ms true q e more =
    let same : first_without s (m ∷ ms) ≡ first_without s ms = rw q refl in
    λ i h. elim (either (eqb i m) (has ms i) h) [
      | inl w ↦ subst (λ (k : ℕ). is_privileged s k ≡ true) (sym (eqb-true i m w)) q
      | inr w ↦ more (sym same ∙ e) i w
    ]

pub none_all : (s ms : List ℕ) → first_without s ms ≡ None → AreAllPrivileged s ms
none_all s [] e = λ i h. absurd (false≢true h)
none_all s (m ∷ ms) e = all_with s m ms (is_privileged s m) refl e (λ e. none_all s ms e)

least_with : (s : List ℕ) (low high m : ℕ) (ms : List ℕ) (x : ℕ) (b : Bool) → Rises low high (m ∷ ms) → is_privileged s m ≡ b →
    first_without s (m ∷ ms) ≡ Some x → (first_without s ms ≡ Some x → IsLeastWithout s ms x) → IsLeastWithout s (m ∷ ms) x
least_with s low high m ms x false r q e more =
    let here : first_without s (m ∷ ms) ≡ Some m = rw q refl in
    let same : m ≡ x = the_some m x (sym here ∙ e) in
    let rising : Rises m high (m ∷ ms) = (omega arith, r.1, r.2) in
    subst (λ (k : ℕ). IsLeastWithout s (m ∷ ms) k) same (record {
      member = rw (eq-eqb m m refl) refl;
      without = q;
      least = λ j h l. let k = has_low m high (m ∷ ms) j rising h in absurd (omega (arith, k, l));
    })
  where
    the_some : (a b : ℕ) → Some a ≡ Some b → a ≡ b
    the_some a b e = cc
least_with s low high m ms x true r q e more =
    let same : first_without s (m ∷ ms) ≡ first_without s ms = rw q refl in
    let w = more (sym same ∙ e) in
    record {
      member = later (eqb x m) (has ms x) w.member;
      without = w.without;
      least = λ j h l. elim (either (eqb j m) (has ms j) h) [
        | inl y ↦ subst (λ (k : ℕ). is_privileged s k ≡ true) (sym (eqb-true j m y)) q
        | inr y ↦ w.least j y l
      ];
    }

pub first_is_least : (s : List ℕ) (low high : ℕ) (ms : List ℕ) (x : ℕ) → Rises low high ms → first_without s ms ≡ Some x → IsLeastWithout s ms x
first_is_least s low high [] x r e = absurd (both_some x e)
first_is_least s low high (m ∷ ms) x r e = least_with s low high m ms x (is_privileged s m) r refl e (λ e. first_is_least s (suc m) high ms x r.2 e)
