-- Masks of the machines of a ring.
use Rattle.std.proofs.Common.{◌≡◌, ℕ, zero, suc, ◌+◌, ◌-◌, ◌*◌, ◌/◌, ◌%◌, ◌^◌, ◌<◌, ◌≤◌, Bool, true, false, cond, map, refl, sym, ap, ◌∙◌, subst, arith, lt-ltb, le-ltb, add-zero, zero-add}
use Rattle.std.proofs.Math.Nat.{two-pow-succ, add-mul-div_left, div-eq_of_lt, one-le-pow}
use lib.Pow.{pow_mono}
use Rattle.std.specs.List.{range_with_len}
use Rattle.std.specs.Int.{bit_at}
use Rattle.std.specs.Simd.Lanes.{mask_l}
use Rattle.std.proofs.lemmas.List.FromFn.{length-map-range_with_len, get_or-map-range_with_len}
use Rattle.std.proofs.lemmas.Simd.{mask_l-lt, bit_mask_l}
use Rattle.ring_lanes.specs.Hits.{mask_from, within}

pub mask_from-lt : (p : ℕ → Bool) (a n : ℕ) → mask_from p a n < 2 ^ n
unfolding mask_from
mask_from-lt p a n = subst (λ k. mask_l (map p (range_with_len a n)) < 2 ^ k) (length-map-range_with_len p a n) (mask_l-lt (map p (range_with_len a n)))

pub mask_from_none : (p : ℕ → Bool) (a : ℕ) → mask_from p a 0 ≡ 0
unfolding mask_from
mask_from_none p a = refl

pub mask_from-cons : (p : ℕ → Bool) (a n : ℕ) → mask_from p a (suc n) ≡ cond (p a) 1 0 + 2 * mask_from p (a + 1) n
unfolding mask_from
mask_from-cons p a n = refl

pub mask_from-same : (p q : ℕ → Bool) (a n : ℕ) → ((k : ℕ) → a ≤ k → k < a + n → p k ≡ q k) → mask_from p a n ≡ mask_from q a n
mask_from-same p q a zero h = mask_from_none p a ∙ sym (mask_from_none q a)
mask_from-same p q a (suc n) h =
    mask_from-cons p a n ∙ ap (λ b. cond b 1 0 + 2 * mask_from p (a + 1) n) (h a (omega arith) (omega arith))
    ∙ ap (λ m. cond (q a) 1 0 + 2 * m) (mask_from-same p q (a + 1) n (λ k low high. h k (omega arith) (omega arith))) ∙ sym (mask_from-cons q a n)

pub mask_from-append : (p : ℕ → Bool) (a m n b : ℕ) → b ≡ a + m → mask_from p a (m + n) ≡ mask_from p a m + 2 ^ m * mask_from p b n
mask_from-append p a zero n b e =
    let z : 0 + n ≡ n = omega arith in
    let f : b ≡ a = omega arith in
    let same = ap (λ x. mask_from p x n) f in
    let none = mask_from_none p a in
    let last : mask_from p a n ≡ mask_from p a 0 + 1 * mask_from p b n = omega arith in
    ap (mask_from p a) z ∙ last
mask_from-append p a (suc m) n b e =
    let z : suc m + n ≡ suc (m + n) = omega arith in
    let ih = mask_from-append p (a + 1) m n b (omega arith) in
    let left = mask_from-cons p a (m + n) in
    let right = mask_from-cons p a m in
    let power = ap (λ x. x * mask_from p b n) (two-pow-succ m) in
    let last : mask_from p a (suc (m + n)) ≡ mask_from p a (suc m) + 2 ^ suc m * mask_from p b n = omega arith in
    ap (mask_from p a) z ∙ last

pub bit_in_mask : (p : ℕ → Bool) (a n k j : ℕ) → k < n → a + k ≡ j → bit_at (mask_from p a n) k ≡ cond (p j) 1 0
unfolding mask_from
bit_in_mask p a n k j lt e = bit_mask_l (map p (range_with_len a n)) k ∙ ap (λ b. cond b 1 0) (get_or-map-range_with_len p a n k j false lt e)

pub within_yes : (n : ℕ) (p : ℕ → Bool) (k : ℕ) → k < n → within n p k ≡ p k
unfolding within
within_yes n p k lt = rw (lt-ltb _ _ lt) refl

pub within_no : (n : ℕ) (p : ℕ → Bool) (k : ℕ) → n ≤ k → within n p k ≡ false
unfolding within
within_no n p k le = rw (le-ltb _ _ le) refl

pub within_mask : (n : ℕ) (p : ℕ → Bool) (a m : ℕ) → a + m ≤ n → mask_from (within n p) a m ≡ mask_from p a m
within_mask n p a m le = mask_from-same (within n p) p a m (λ k low high. within_yes n p k (omega arith))

pub mask_small : (p : ℕ → Bool) (a n b : ℕ) → n ≤ 32 → b ≡ mask_from p a n → b < 4294967296
mask_small p a n b le e =
    let lt = mask_from-lt p a n in
    let power : 2 ^ n ≤ 2 ^ 32 = pow_mono {i = n} {j = 32} le in
    omega arith

-- the bits above the lowest m
pub mask_from-shift : (p : ℕ → Bool) (a m n b : ℕ) → b ≡ a + m → mask_from p a (m + n) / 2 ^ m ≡ mask_from p b n
mask_from-shift p a m n b e =
    ap (λ x. x / 2 ^ m) (mask_from-append p a m n b e) ∙ add-mul-div_left (mask_from p a m) (mask_from p b n) (one-le-pow m 2 (omega arith))
    ∙ ap (λ x. x + mask_from p b n) (div-eq_of_lt (mask_from-lt p a m)) ∙ zero-add _

-- of the last w machines, those from i on
pub mask_rest : (w : ℕ) (p : ℕ → Bool) (n i b : ℕ) → w + 1 ≤ n → i ≤ n → n < i + w → b ≡ mask_from p (n - w) w → b / 2 ^ (w - (n - i)) ≡ mask_from p i (n - i)
mask_rest w p n i b long high near e =
    let f : w ≡ w - (n - i) + (n - i) = omega arith in
    ap (λ x. x / 2 ^ (w - (n - i))) (e ∙ ap (mask_from p (n - w)) f) ∙ mask_from-shift p (n - w) (w - (n - i)) (n - i) i (omega arith)

-- the first half word, from the block that begins at machine 1
pub first_half : (n : ℕ) (p : ℕ → Bool) (m f : ℕ) → 33 ≤ n → m ≡ mask_from p 1 32 → f ≡ cond (p 0) 1 0 → (m * 2 + f) % 4294967296 ≡ mask_from (within n p) 0 32
first_half n p m f le e h =
    let w = within_mask n p 0 32 (omega arith) in
    let lt : mask_from p 0 32 < 4294967296 = mask_from-lt p 0 32 in
    let left : mask_from p 0 33 ≡ cond (p 0) 1 0 + 2 * mask_from p 1 32 = mask_from-cons p 0 32 in
    let right : mask_from p 0 33 ≡ mask_from p 0 32 + 4294967296 * mask_from p 32 1 = mask_from-append p 0 32 1 32 refl in
    let whole : m * 2 + f ≡ mask_from p 0 32 + 4294967296 * mask_from p 32 1 = omega arith in
    let low : (m * 2 + f) % 4294967296 ≡ mask_from p 0 32 = omega arith in
    low ∙ sym w

half_more : (p : ℕ → Bool) (base k bits : ℕ) (b : Bool) → 0 < k → k ≤ 32 → bits ≡ mask_from p (base + k) (32 - k) → p (base + (k - 1)) ≡ b
    → mask_from p (base + (k - 1)) (32 - (k - 1)) ≡ bits * 2 + cond b 1 0
half_more p base k bits b low high e h =
    let f : 32 - (k - 1) ≡ suc (32 - k) = omega arith in
    let g : base + (k - 1) + 1 ≡ base + k = omega arith in
    let cons = mask_from-cons p (base + (k - 1)) (32 - k) in
    let next = ap (λ x. mask_from p x (32 - k)) g in
    let bit = ap (λ (x : Bool). cond {A = ℕ} x 1 0) h in
    let last : mask_from p (base + (k - 1)) (suc (32 - k)) ≡ bits * 2 + cond b 1 0 = omega arith in
    ap (mask_from p (base + (k - 1))) f ∙ last

pub half_yes : (p : ℕ → Bool) (n base k bits : ℕ) → 0 < k → k ≤ 32 → bits ≡ mask_from (within n p) (base + k) (32 - k) → base + (k - 1) < n → p (base + (k - 1)) ≡ true
    → bits * 2 + 1 ≡ mask_from (within n p) (base + (k - 1)) (32 - (k - 1))
half_yes p n base k bits low high e lt h = sym (half_more (within n p) base k bits true low high e (within_yes n p _ lt ∙ h))

pub half_no : (p : ℕ → Bool) (n base k bits : ℕ) → 0 < k → k ≤ 32 → bits ≡ mask_from (within n p) (base + k) (32 - k) → base + (k - 1) < n → p (base + (k - 1)) ≡ false
    → bits * 2 ≡ mask_from (within n p) (base + (k - 1)) (32 - (k - 1))
half_no p n base k bits low high e lt h = sym (half_more (within n p) base k bits false low high e (within_yes n p _ lt ∙ h) ∙ add-zero _)

pub half_past : (p : ℕ → Bool) (n base k bits : ℕ) → 0 < k → k ≤ 32 → bits ≡ mask_from (within n p) (base + k) (32 - k) → n ≤ base + (k - 1)
    → bits * 2 ≡ mask_from (within n p) (base + (k - 1)) (32 - (k - 1))
half_past p n base k bits low high e le = sym (half_more (within n p) base k bits false low high e (within_no n p _ le) ∙ add-zero _)

pub word_is : (p : ℕ → Bool) (base lo hi : ℕ) → lo ≡ mask_from p base 32 → hi ≡ mask_from p (base + 32) 32 → lo + hi * 4294967296 ≡ mask_from p base 64
word_is p base lo hi e f =
    let right = mask_from-append p base 32 32 (base + 32) refl in
    let last : lo + hi * 4294967296 ≡ mask_from p base 64 = omega arith in
    last

-- a machine's bit, in the word that has it
pub bit_of_machine : (n : ℕ) (p : ℕ → Bool) (i x : ℕ) → x ≡ mask_from (within n p) (64 * (i / 64)) 64 → bit_at x (i % 64) ≡ cond (within n p i) 1 0
bit_of_machine n p i x e = ap (λ y. bit_at y (i % 64)) e ∙ bit_in_mask (within n p) (64 * (i / 64)) 64 (i % 64) i (omega arith) (omega arith)

pub ruleset halving = (mask_small, half_yes, half_no, half_past, mask_from_none)
