-- The bits of a word: the lowest one taken away, and how many there are.
use Rattle.std.proofs.Common.{◌≡◌, ◌≢◌, ℕ, zero, suc, ◌+◌, ◌-◌, ◌*◌, ◌/◌, ◌%◌, ◌^◌, ◌<◌, ◌≤◌, min, Bool, true, false, eqb, bit_and, bit_or, count_ones, refl, sym, ◌∙◌, ap, inl, inr, arith}
use Rattle.std.specs.Int.{bit_at, bit_not, w64, trailing_zeros, from_bool}
use Rattle.std.proofs.lemmas.Bool.{cases_lt, eqb-true, both_ways}
use Rattle.std.proofs.lemmas.Nat.{ones-le, and_le_l}
use Rattle.std.proofs.lemmas.Nat.Bits.{bit_at_lowest, bit_at-suc, bit_at_and, bit_at_or, bit_at-zero, bit_at-trailing_zeros, bit_at_set_same, bit_at_set_other, bit_at_clear_same, bit_at_clear_other}
use lib.Count.{ones_step}
use Rattle.ring_model.specs.Numbers.{bit, count_below}
use Rattle.ring_model.proofs.Below.{sum_same, sum_but_one, sum_zero}
use Rattle.machine_masks.specs.Members.{is_set}

-- ---- counting

-- the first number counted apart
pub count_front : (p : ℕ → Bool) (m : ℕ) → count_below p (suc m) ≡ bit (p 0) + count_below (λ i. p (suc i)) m
count_front p zero = omega arith
count_front p (suc m) = let ih = count_front p m in omega arith

pub count_same : (p q : ℕ → Bool) (n : ℕ) → ((i : ℕ) → i < n → p i ≡ q i) → count_below p n ≡ count_below q n
count_same p q n same = sum_same (λ i. bit (p i)) (λ i. bit (q i)) n (λ i l. ap bit (same i l))

-- two stretches, one after the other
pub count_split : (p : ℕ → Bool) (a b : ℕ) → count_below p (a + b) ≡ count_below p a + count_below (λ i. p (a + i)) b
count_split p a zero = let e : a + 0 ≡ a = omega arith in let same = ap (count_below p) e in omega arith
count_split p a (suc b) =
    let e : a + suc b ≡ suc (a + b) = omega arith in
    let same : count_below p (a + suc b) ≡ count_below p (suc (a + b)) = ap (count_below p) e in
    let ih = count_split p a b in
    omega arith

bit_of : (b : ℕ) → b < 2 → bit (eqb b 1) ≡ b
bit_of zero l = refl
bit_of (suc zero) l = refl
bit_of (suc (suc b)) l = absurd (omega arith)

-- the ones of a word are its bits
pub ones_count : (m w : ℕ) → w < 2 ^ m → count_ones w ≡ count_below (is_set w) m
ones_count zero w l = let none = ones-le 0 w l in omega arith
ones_count (suc m) w l =
    let step : count_ones w ≡ w % 2 + count_ones (w / 2) = ones_step w in
    let ih : count_ones (w / 2) ≡ count_below (is_set (w / 2)) m = ones_count m (w / 2) (omega arith) in
    let front : count_below (is_set w) (suc m) ≡ bit (is_set w 0) + count_below (λ i. is_set w (suc i)) m = count_front (is_set w) m in
    let lowest : bit (is_set w 0) ≡ w % 2 = ap (λ (x : ℕ). bit (eqb x 1)) (bit_at_lowest w) ∙ bit_of (w % 2) (omega arith) in
    let rest : count_below (λ i. is_set w (suc i)) m ≡ count_below (is_set (w / 2)) m =
    count_same (λ i. is_set w (suc i)) (is_set (w / 2)) m (λ i li. ap (λ (x : ℕ). eqb x 1) (bit_at-suc w i)) in
    omega arith

-- ---- the lowest bit

-- in the number before a number, the lowest bit that is set is clear, and those above it are the same
before_at : (w t : ℕ) → ((j : ℕ) → j < t → bit_at w j ≡ 0) → bit_at w t ≡ 1 → bit_at (w - 1) t ≡ 0
before_at w zero none one =
    let odd : w % 2 ≡ 1 = sym (bit_at_lowest w) ∙ one in
    let lowest : bit_at (w - 1) 0 ≡ (w - 1) % 2 = bit_at_lowest (w - 1) in
    omega arith
before_at w (suc t) none one =
    let even : w % 2 ≡ 0 = sym (bit_at_lowest w) ∙ none 0 (omega arith) in
    let half : (w - 1) / 2 ≡ w / 2 - 1 = omega arith in
    bit_at-suc (w - 1) t ∙ ap (λ (x : ℕ). bit_at x t) half
    ∙ before_at (w / 2) t (λ j l. sym (bit_at-suc w j) ∙ none (suc j) (omega arith)) (sym (bit_at-suc w t) ∙ one)

before_above : (w t i : ℕ) → ((j : ℕ) → j < t → bit_at w j ≡ 0) → bit_at w t ≡ 1 → t < i → bit_at (w - 1) i ≡ bit_at w i
before_above w t zero none one l = absurd (omega arith)
before_above w zero (suc i) none one l =
    let odd : w % 2 ≡ 1 = sym (bit_at_lowest w) ∙ one in
    let half : (w - 1) / 2 ≡ w / 2 = omega arith in
    bit_at-suc (w - 1) i ∙ ap (λ (x : ℕ). bit_at x i) half ∙ sym (bit_at-suc w i)
before_above w (suc t) (suc i) none one l =
    let even : w % 2 ≡ 0 = sym (bit_at_lowest w) ∙ none 0 (omega arith) in
    let half : (w - 1) / 2 ≡ w / 2 - 1 = omega arith in
    bit_at-suc (w - 1) i ∙ ap (λ (x : ℕ). bit_at x i) half
    ∙ before_above (w / 2) t i (λ j l. sym (bit_at-suc w j) ∙ none (suc j) (omega arith)) (sym (bit_at-suc w t) ∙ one) (omega arith)
    ∙ sym (bit_at-suc w i)

-- so a bitwise and with it takes away that bit, and no other
pub lowest_gone : (w t : ℕ) → ((j : ℕ) → j < t → bit_at w j ≡ 0) → bit_at w t ≡ 1 → bit_at (bit_and w (w - 1)) t ≡ 0
lowest_gone w t none one =
    let both : bit_at (bit_and w (w - 1)) t ≡ min (bit_at w t) (bit_at (w - 1) t) = bit_at_and w (w - 1) t in
    let before = before_at w t none one in
    omega arith

pub others_stay : (w t i : ℕ) → ((j : ℕ) → j < t → bit_at w j ≡ 0) → bit_at w t ≡ 1 → i ≢ t → bit_at (bit_and w (w - 1)) i ≡ bit_at w i
others_stay w t i none one ne =
    let both : bit_at (bit_and w (w - 1)) i ≡ min (bit_at w i) (bit_at (w - 1) i) = bit_at_and w (w - 1) i in
    elim (cases_lt i t) [
      | inl less ↦ let clear = none i less in omega arith
      | inr more ↦ let above : t < i = below_or_same i t more ne in let same = before_above w t i none one above in omega arith
    ]
  where
    below_or_same : (i t : ℕ) → t ≤ i → (i ≡ t → ⊥) → t < i
    below_or_same i t l ne = elim (cases_lt t i) [ inl less ↦ less | inr more ↦ absurd (ne (omega arith)) ]

-- ---- the bits that are left of a word

-- of the bits of a word, i are gone, and these are the lowest
pub record AreLeft (word left i : ℕ) : Type 0 where
  pub fits : left < 2 ^ 64
  pub count : count_ones left + i ≡ count_ones word
  pub each : (b : ℕ) → b < 64 → is_set left b ≡ true → (is_set word b ≡ true) × (count_below (is_set left) b + i ≡ count_below (is_set word) b)

pub all_left : (word : ℕ) → word < 2 ^ 64 → AreLeft word word 0
all_left word l = record { fits = l; count = omega arith; each = λ b lb on. (on, omega arith) }

set_is : (w b : ℕ) → is_set w b ≡ true → bit_at w b ≡ 1
set_is w b on = eqb-true (bit_at w b) 1 on

clear_is : (w b : ℕ) → bit_at w b ≡ 0 → is_set w b ≡ false
clear_is w b e = ap (λ (x : ℕ). eqb x 1) e

-- a word with a bit is not 0
positive : (n : ℕ) → 1 ≤ count_ones n → 0 < n
positive zero l = let none = ones-le 0 0 (omega arith) in absurd (omega arith)
positive (suc n) l = omega arith

-- nothing is counted below the lowest
none_counted : (p : ℕ → Bool) (n : ℕ) → ((i : ℕ) → i < n → p i ≡ false) → count_below p n ≡ 0
none_counted p n none = sum_zero (λ i. bit (p i)) n (λ i l. ap bit (none i l))

-- one that changes to false is one less
one_less : (p q : ℕ → Bool) (t n : ℕ) → t < n → p t ≡ true → q t ≡ false → ((i : ℕ) → i < n → i ≢ t → q i ≡ p i) → count_below q n + 1 ≡ count_below p n
one_less p q t n l on off same =
    let a : bit (p t) ≡ 1 = ap bit on in
    let b : bit (q t) ≡ 0 = ap bit off in
    let sums = sum_but_one (λ i. bit (q i)) (λ i. bit (p i)) t n l (λ i li ne. ap bit (same i li ne)) in
    omega arith

pub one_gone : (word left i : ℕ) → AreLeft word left i → i < count_ones word → AreLeft word (bit_and left (left - 1)) (i + 1)
one_gone word left i inv more =
    let t : ℕ = trailing_zeros w64 left in
    let count' = inv.count in
    let some : 0 < left = positive left (omega arith) in
    let low = bit_at-trailing_zeros w64 left some inv.fits in
    let next : ℕ = bit_and left (left - 1) in
    let gone : is_set next t ≡ false = clear_is next t (lowest_gone left t low.2 low.1) in
    let stay : (b : ℕ) → b ≢ t → is_set next b ≡ is_set left b = λ b ne. ap (λ (x : ℕ). eqb x 1) (others_stay left t b low.2 low.1 ne) in
    let on : is_set left t ≡ true = ap (λ (x : ℕ). eqb x 1) low.1 in
    let small = and_le_l left (left - 1) in
    let fits' = inv.fits in
    let fits : next < 2 ^ 64 = omega arith in
    let all : count_ones left ≡ count_below (is_set left) 64 = ones_count 64 left inv.fits in
    let all' : count_ones next ≡ count_below (is_set next) 64 = ones_count 64 next fits in
    let less : count_below (is_set next) 64 + 1 ≡ count_below (is_set left) 64 = one_less (is_set left) (is_set next) t 64 low.0 on gone (λ b l ne. stay b ne) in
    record {
      fits = fits;
      count = omega arith;
      each = λ b lb set.
          let ne : b ≢ t = λ e. both_ways (is_set next b) (ap (is_set next) e ∙ gone) set in
          let was : is_set left b ≡ true = sym (stay b ne) ∙ set in
          let above : t < b = over left t b low.2 was ne in
          let before = inv.each b lb was in
          let fewer : count_below (is_set next) b + 1 ≡ count_below (is_set left) b = one_less (is_set left) (is_set next) t b above on gone (λ j l nj. stay j nj) in
          let same' = before.1 in
          (before.0, omega arith);
    }
  where
    over : (w t b : ℕ) → ((j : ℕ) → j < t → bit_at w j ≡ 0) → is_set w b ≡ true → b ≢ t → t < b
    over w t b none on ne = elim (cases_lt t b) [
      | inl less ↦ less
      | inr more ↦ elim (cases_lt b t) [
        | inl under ↦ absurd (both_ways (is_set w b) (clear_is w b (none b under)) on)
        | inr same ↦ absurd (ne (omega arith))
      ]
    ]

-- the lowest that is left is the one that was looked for
pub record IsNth (word j b : ℕ) : Type 0 where
  pub below : b < 64
  pub set : is_set word b ≡ true
  pub place : count_below (is_set word) b ≡ j

pub nth_left : (word left place : ℕ) → AreLeft word left place → place < count_ones word → IsNth word place (trailing_zeros w64 left)
nth_left word left place inv more =
    let t : ℕ = trailing_zeros w64 left in
    let count' = inv.count in
    let some : 0 < left = positive left (omega arith) in
    let low = bit_at-trailing_zeros w64 left some inv.fits in
    let on : is_set left t ≡ true = ap (λ (x : ℕ). eqb x 1) low.1 in
    let before = inv.each t low.0 on in
    let none : count_below (is_set left) t ≡ 0 = none_counted (is_set left) t (λ i l. clear_is left i (low.2 i l)) in
    let same' = before.1 in
    record { below = low.0; set = before.0; place = omega arith }

-- ---- a bit that is written

-- the word with bit k clear, or set where `on` is
abbrev pub cleared : ℕ → ℕ → ℕ
cleared word k = bit_and word (bit_not w64 (1 * 2 ^ k % 2 ^ 64))

nothing : (n : ℕ) → 0 * 2 ^ n % 2 ^ 64 ≡ 0
nothing n = omega arith

or_none : (v b : ℕ) → bit_at (bit_or v 0) b ≡ bit_at v b
or_none v b = let both = bit_at_or v 0 b in let none = bit_at-zero b in omega arith

or_nothing : (v k b : ℕ) → bit_at (bit_or v (0 * 2 ^ k % 2 ^ 64)) b ≡ bit_at v b
or_nothing v k b = ap (λ (x : ℕ). bit_at (bit_or v x) b) (nothing k) ∙ or_none v b

pub written_at : (word k v : ℕ) (on : Bool) → k < 64 → v ≡ bit on → is_set (bit_or (cleared word k) (v * 2 ^ k % 2 ^ 64)) k ≡ on
written_at word k v true l is =
    ap (λ (x : ℕ). is_set (bit_or (cleared word k) (x * 2 ^ k % 2 ^ 64)) k) is ∙ ap (λ (x : ℕ). eqb x 1) (bit_at_set_same w64 (cleared word k) k l)
written_at word k v false l is =
    ap (λ (x : ℕ). is_set (bit_or (cleared word k) (x * 2 ^ k % 2 ^ 64)) k) is
    ∙ ap (λ (x : ℕ). eqb x 1) (or_nothing (cleared word k) k k ∙ bit_at_clear_same w64 word k l)

pub written_other : (word k v b : ℕ) (on : Bool) → k < 64 → v ≡ bit on → b < 64 → b ≢ k → is_set (bit_or (cleared word k) (v * 2 ^ k % 2 ^ 64)) b ≡ is_set word b
written_other word k v b true l is lb ne =
    ap (λ (x : ℕ). is_set (bit_or (cleared word k) (x * 2 ^ k % 2 ^ 64)) b) is
    ∙ ap (λ (x : ℕ). eqb x 1) (bit_at_set_other w64 (cleared word k) k l b ne ∙ bit_at_clear_other w64 word k l b lb ne)
written_other word k v b false l is lb ne =
    ap (λ (x : ℕ). is_set (bit_or (cleared word k) (x * 2 ^ k % 2 ^ 64)) b) is
    ∙ ap (λ (x : ℕ). eqb x 1) (or_nothing (cleared word k) k b ∙ bit_at_clear_other w64 word k l b lb ne)

pub from_bit : (b : Bool) (v : ℕ) → v ≡ from_bool b → v ≡ bit b
from_bit true v e = e
from_bit false v e = e
