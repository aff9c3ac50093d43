-- The places of the bits of a mask, and the weight of a block.
use Rattle.std.proofs.Common.{◌≡◌, ℕ, zero, suc, ◌+◌, ◌-◌, ◌*◌, ◌/◌, ◌%◌, ◌<◌, ◌≤◌, Bool, true, false, cond, ◌&&◌, length, map, refl, ap, ◌∙◌, arith, List, [], ◌∷◌, ◌++◌, bit_and, add-zero, zero-add, eqb}
use Rattle.std.proofs.Math.Nat.{mul-le-mul}
use Rattle.std.specs.List.{range_with_len}
use Rattle.std.specs.Simd.Lanes.{mask_l, zip2}
use Rattle.std.specs.Int.RustNames.{count_ones}
use Rattle.std.proofs.lemmas.List.Sums.{sum_by-cons, sum_by-append}
use Rattle.std.proofs.lemmas.Nat.{and_block}
use Rattle.std.proofs.lemmas.Simd.{ones-mask_l, ones-mask_l_cons}
use lib.Bits.{and_zero_l, and_zero_r}
use Rattle.ring_lanes.specs.Hits.{mask_from, count_from, weight_from}
use Rattle.ring_lanes.proofs.Blocks.{range-append, ones-mask_from, count_from-le}

-- the weights at the places that are set
abbrev pub picked : List Bool → List ℕ → ℕ
picked [] ws = 0
picked (m ∷ ms) [] = 0
picked (m ∷ ms) (w ∷ ws) = cond m w 0 + picked ms ws

and_num : (x y r s t : ℕ) → r < 2 → s < 2 → bit_and r s ≡ t → bit_and (r + 2 * x) (s + 2 * y) ≡ t + 2 * bit_and x y
and_num x y r s t hr hs e =
    let ex : r + 2 * x ≡ x * 2 + r = omega arith in
    let ey : s + 2 * y ≡ y * 2 + s = omega arith in
    let last : bit_and x y * 2 + bit_and r s ≡ t + 2 * bit_and x y = omega arith in
    ap (λ u. bit_and u (s + 2 * y)) ex ∙ ap (λ v. bit_and (x * 2 + r) v) ey ∙ and_block 1 x y r s hr hs ∙ last

and_bit : (a b : Bool) (x y : ℕ) → bit_and (cond a 1 0 + 2 * x) (cond b 1 0 + 2 * y) ≡ cond (a && b) 1 0 + 2 * bit_and x y
and_bit true true x y = and_num x y 1 1 1 (omega arith) (omega arith) refl
and_bit true false x y = and_num x y 1 0 0 (omega arith) (omega arith) refl
and_bit false true x y = and_num x y 0 1 0 (omega arith) (omega arith) refl
and_bit false false x y = and_num x y 0 0 0 (omega arith) (omega arith) refl

and_masks : (ms qs : List Bool) → bit_and (mask_l ms) (mask_l qs) ≡ mask_l (zip2 (λ a b. a && b) ms qs)
and_masks [] qs = and_zero_l (mask_l qs)
and_masks (m ∷ ms) [] = and_zero_r (mask_l (m ∷ ms))
and_masks (m ∷ ms) (q ∷ qs) = and_bit m q (mask_l ms) (mask_l qs) ∙ ap (λ x. cond (m && q) 1 0 + 2 * x) (and_masks ms qs)

pick_bit : (m q : Bool) (u : ℕ) → cond (m && q) u 0 ≡ cond m (cond q u 0) 0
pick_bit true q u = refl
pick_bit false q u = refl

ones_picked : (ms qs : List Bool) → count_ones (mask_l (zip2 (λ a b. a && b) ms qs)) ≡ picked ms (map (λ q. cond q 1 0) qs)
ones_picked [] qs = ones-mask_l (λ (b : Bool). b) []
ones_picked (m ∷ ms) [] = ones-mask_l (λ (b : Bool). b) []
ones_picked (m ∷ ms) (q ∷ qs) =
    ones-mask_l_cons (m && q) (zip2 (λ a b. a && b) ms qs) ∙ ap (λ x. x + count_ones (mask_l (zip2 (λ a b. a && b) ms qs))) (pick_bit m q 1)
    ∙ ap (λ x. cond m (cond q 1 0) 0 + x) (ones_picked ms qs)

cond_add : (m : Bool) (u v : ℕ) → cond m u 0 + cond m v 0 ≡ cond m (u + v) 0
cond_add true u v = refl
cond_add false u v = refl

cond_twice : (m : Bool) (u : ℕ) → 2 * cond m u 0 ≡ cond m (2 * u) 0
cond_twice true u = refl
cond_twice false u = refl

picked-add : (ms : List Bool) (us vs : List ℕ) → length us ≡ length vs → picked ms us + picked ms vs ≡ picked ms (zip2 (λ a b. a + b) us vs)
picked-add [] us vs e = refl
picked-add (m ∷ ms) [] [] e = refl
picked-add (m ∷ ms) [] (v ∷ vs) e = absurd (omega arith)
picked-add (m ∷ ms) (u ∷ us) [] e = absurd (omega arith)
picked-add (m ∷ ms) (u ∷ us) (v ∷ vs) e =
    let ih = picked-add ms us vs (omega arith) in
    let here = cond_add m u v in
    omega arith

picked-twice : (ms : List Bool) (us : List ℕ) → 2 * picked ms us ≡ picked ms (map (λ u. 2 * u) us)
picked-twice [] us = refl
picked-twice (m ∷ ms) [] = refl
picked-twice (m ∷ ms) (u ∷ us) =
    let ih = picked-twice ms us in
    let here = cond_twice m u in
    omega arith

pub weigh_step : (b : Bool) (n a o r w k c : ℕ) → a < n → r ≡ n - a + o → w + k ≡ c * r → cond b (n - a) 0 + w + (cond b o 0 + k) ≡ (cond b 1 0 + c) * r
weigh_step true n a o r w k c lt e h = omega arith
weigh_step false n a o r w k c lt e h = omega arith

small_cond : (b : Bool) (x y : ℕ) → x ≤ y → cond b x 0 ≤ y
small_cond true x y le = le
small_cond false x y le = omega arith

-- a block's weight, from the sum of the places of its bits
pub weigh_picked : (p : ℕ → Bool) (n a m o l r : ℕ) → a + m ≤ n → m ≤ l → r ≡ n - a + o
    → weight_from p n a m + picked (map p (range_with_len a m)) (range_with_len o l) ≡ count_from p a m * r
unfolding weight_from count_from
weigh_picked p n a zero o l r le short e = let z : 0 ≡ 0 * r = omega arith in z
weigh_picked p n a (suc m) o zero r le short e = absurd (omega arith)
weigh_picked p n a (suc m) o (suc l) r le short e =
    let ih = weigh_picked p n (a + 1) m (o + 1) l r (omega arith) (omega arith) (omega arith) in
    rw (sum_by-cons (λ i. cond (p i) (n - i) 0) a (range_with_len (a + 1) m), sum_by-cons (λ i. cond (p i) 1 0) a (range_with_len (a + 1) m))
    (weigh_step (p a) n a o r _ _ _ (omega arith) e ih)

join_planes : (a b c d e v w x y z v3 v2 v1 v0 : ℕ) → a ≡ v → b ≡ w → c ≡ x → d ≡ y → e ≡ z → y + 2 * z ≡ v3 → x + 2 * v3 ≡ v2 → w + 2 * v2 ≡ v1 → v + 2 * v1 ≡ v0
    → a + 2 * (b + 2 * (c + 2 * (d + 2 * e))) ≡ v0
join_planes a b c d e v w x y z v3 v2 v1 v0 ea eb ec ed ee j3 j2 j1 j0 = omega arith

-- the planes of the numbers below 32
odd : ℕ → Bool
odd x = eqb (x % 2) 1

pub places_picked : (ms : List Bool)
    → count_ones (bit_and (mask_l ms) 0xAAAA_AAAA) + 2 * (count_ones (bit_and (mask_l ms) 0xCCCC_CCCC) + 2 * (count_ones (bit_and (mask_l ms) 0xF0F0_F0F0) + 2 * (count_ones (bit_and (mask_l ms) 0xFF00_FF00) + 2 * count_ones (bit_and (mask_l ms) 0xFFFF_0000))))
    ≡ picked ms (range_with_len 0 32)
unfolding odd
places_picked ms =
    let plane = λ (d : ℕ). map (λ k. odd (k / d)) (range_with_len 0 32) in
    let bits = λ (d : ℕ). map (λ q. cond q 1 0) (plane d) in
    let double = λ (us : List ℕ). map (λ u. 2 * u) us in
    let plus = λ (us vs : List ℕ). zip2 (λ a b. a + b) us vs in
    let one = λ (d : ℕ). and_masks ms (plane d) in
    let pick = λ (d : ℕ). ap count_ones (one d) ∙ ones_picked ms (plane d) in
    let join = λ (us : List ℕ) (d : ℕ) (same : length (bits d) ≡ length (double us)). ap (λ x. picked ms (bits d) + x) (picked-twice ms us) ∙ picked-add ms (bits d) (double us) same in
    let v4 = bits 16 in
    let v3 = plus (bits 8) (double v4) in
    let v2 = plus (bits 4) (double v3) in
    let v1 = plus (bits 2) (double v2) in
    let c : count_ones (bit_and (mask_l ms) 0xAAAA_AAAA) ≡ picked ms (bits 1) = pick 1 in
    let c2 : count_ones (bit_and (mask_l ms) 0xCCCC_CCCC) ≡ picked ms (bits 2) = pick 2 in
    let c4 : count_ones (bit_and (mask_l ms) 0xF0F0_F0F0) ≡ picked ms (bits 4) = pick 4 in
    let c8 : count_ones (bit_and (mask_l ms) 0xFF00_FF00) ≡ picked ms (bits 8) = pick 8 in
    let c16 : count_ones (bit_and (mask_l ms) 0xFFFF_0000) ≡ picked ms v4 = pick 16 in
    let j8 : picked ms (bits 8) + 2 * picked ms v4 ≡ picked ms v3 = join v4 8 refl in
    let j4 : picked ms (bits 4) + 2 * picked ms v3 ≡ picked ms v2 = join v3 4 refl in
    let j2 : picked ms (bits 2) + 2 * picked ms v2 ≡ picked ms v1 = join v2 2 refl in
    let j1 : picked ms (bits 1) + 2 * picked ms v1 ≡ picked ms (range_with_len 0 32) = join v1 1 refl in
    join_planes _ _ _ _ _ _ _ _ _ _ _ _ _ _ c c2 c4 c8 c16 j8 j4 j2 j1

pub places_weigh : (p : ℕ → Bool) (n a m hits : ℕ) → m ≤ 32 → a + m ≤ n → hits ≡ mask_from p a m
    → weight_from p n a m + (count_ones (bit_and hits 0xAAAA_AAAA) + 2 * (count_ones (bit_and hits 0xCCCC_CCCC) + 2 * (count_ones (bit_and hits 0xF0F0_F0F0) + 2 * (count_ones (bit_and hits 0xFF00_FF00) + 2 * count_ones (bit_and hits 0xFFFF_0000)))))
    ≡ count_from p a m * (n - a)
unfolding mask_from
places_weigh p n a m hits short le e =
    let five : ℕ → ℕ = λ h. count_ones (bit_and h 0xAAAA_AAAA) + 2 * (count_ones (bit_and h 0xCCCC_CCCC) + 2 * (count_ones (bit_and h 0xF0F0_F0F0) + 2 * (count_ones (bit_and h 0xFF00_FF00) + 2 * count_ones (bit_and h 0xFFFF_0000)))) in
    let ms = map p (range_with_len a m) in
    ap (λ x. weight_from p n a m + x) (ap five e ∙ places_picked ms) ∙ weigh_picked p n a m 0 32 (n - a) le short (omega arith)

pub weight_from-more : (p : ℕ → Bool) (n i m : ℕ) → 1 ≤ i → weight_from p n 1 (i + m - 1) ≡ weight_from p n 1 (i - 1) + weight_from p n i m
unfolding weight_from
weight_from-more p n i m low =
    let e : i + m - 1 ≡ i - 1 + m = omega arith in
    let f : 1 + (i - 1) ≡ i = omega arith in
    let g = range-append 1 (i - 1) m ∙ ap (λ b. range_with_len 1 (i - 1) ++ range_with_len b m) f in
    rw (e, g) (sum_by-append (λ k. cond (p k) (n - k) 0) (range_with_len 1 (i - 1)) (range_with_len i m))

pub weight_from-le : (p : ℕ → Bool) (n a m : ℕ) → n ≤ 65536 → weight_from p n a m ≤ 65536 * m
unfolding weight_from
weight_from-le p n a zero le = omega arith
weight_from-le p n a (suc m) le =
    let ih = weight_from-le p n (a + 1) m le in
    let here = small_cond (p a) (n - a) 65536 (omega arith) in
    rw (sum_by-cons (λ i. cond (p i) (n - i) 0) a (range_with_len (a + 1) m)) (omega arith)

pub weight_from_none : (p : ℕ → Bool) (n a : ℕ) → weight_from p n a 0 ≡ 0
unfolding weight_from
weight_from_none p n a = refl

pub weight_from-one : (p : ℕ → Bool) (n i : ℕ) → weight_from p n i 1 ≡ cond (p i) (n - i) 0
unfolding weight_from
weight_from-one p n i = zero-add (cond (p i) (n - i) 0)

pub weigh_yes : (p : ℕ → Bool) (n i : ℕ) → 1 ≤ i → p i ≡ true → weight_from p n 1 (i + 1 - 1) ≡ weight_from p n 1 (i - 1) + (n - i)
weigh_yes p n i low e = weight_from-more p n i 1 low ∙ ap (λ x. weight_from p n 1 (i - 1) + x) (weight_from-one p n i ∙ ap (λ b. cond b (n - i) 0) e)

pub weigh_no : (p : ℕ → Bool) (n i : ℕ) → 1 ≤ i → p i ≡ false → weight_from p n 1 (i + 1 - 1) ≡ weight_from p n 1 (i - 1)
weigh_no p n i low e = weight_from-more p n i 1 low ∙ ap (λ x. weight_from p n 1 (i - 1) + x) (weight_from-one p n i ∙ ap (λ b. cond b (n - i) 0) e) ∙ add-zero _

-- a block of m machines from its mask, and the sum of the places of its bits
pub weigh_block : (p : ℕ → Bool) (n i m hits off : ℕ) → 1 ≤ i → hits ≡ mask_from p i m → weight_from p n i m + off ≡ count_from p i m * (n - i)
    → weight_from p n 1 (i + m - 1) + off ≡ weight_from p n 1 (i - 1) + count_ones hits * (n - i)
weigh_block p n i m hits off low e h =
    let same = ap (λ c. c * (n - i)) (ap count_ones e ∙ ones-mask_from p i m) in
    let more = weight_from-more p n i m low in
    omega arith

pub block_small : (p : ℕ → Bool) (n i m hits : ℕ) → n ≤ 65536 → m ≤ 32 → hits ≡ mask_from p i m → count_ones hits * (n - i) ≤ 32 * 65536
block_small p n i m hits le short e =
    let few : count_ones hits ≤ 32 = omega (arith, ap count_ones e ∙ ones-mask_from p i m, count_from-le p i m) in
    let near : n - i ≤ 65536 = omega arith in
    mul-le-mul few near

pub block_le : (p : ℕ → Bool) (n i m hits off : ℕ) → hits ≡ mask_from p i m → weight_from p n i m + off ≡ count_from p i m * (n - i) → off ≤ count_ones hits * (n - i)
block_le p n i m hits off e h =
    let same = ap (λ c. c * (n - i)) (ap count_ones e ∙ ones-mask_from p i m) in
    omega arith
