-- One block of lanes, as the numbers of its machines.
use Rattle.std.proofs.Common.{◌≡◌, ◌≢◌, ℕ, zero, suc, ◌+◌, ◌-◌, ◌*◌, ◌^◌, ◌%◌, ◌<◌, ◌≤◌, Bool, true, false, cond, not, eqb, List, [], ◌∷◌, ◌++◌, length, get_or, replicate, map, refl, sym, ap, ◌∙◌, subst, arith, ⊎_elim, eq-eqb, add-zero, zero-add}
use Rattle.std.specs.List.{range_with_len, prefix_len}
use Rattle.std.specs.Simd.Lanes.{mask_l, zip2, top, chunk}
use Rattle.std.specs.Int.RustNames.{count_ones}
use Rattle.std.proofs.lemmas.List.{same_lists}
use Rattle.std.proofs.lemmas.List.FromFn.{length-range_with_len, get_or-range_with_len, length-map-range_with_len, get_or-map-range_with_len}
use Rattle.std.proofs.lemmas.List.Sums.{sum_by-append, count_by-le-length, prefix_len-le-length, prefix_len_passes, prefix_len_stops}
use Rattle.std.proofs.lemmas.Simd.{length-zip2, get_or-zip2, tops_compared, mask_l-mod, ones-mask_l, length-chunk, get_or-chunk, length-replicate, get_or-replicate, trailing_mask_l, leading_from_mask_l}
use Rattle.std.specs.Int.Count.{count_trailing_zeros}
use Rattle.std.proofs.lemmas.Bool.{not-true, not-false, eqb-true, cases_lt, false≢true}
use mir.Syntax.{Width}
use mir.Val.{bits, hbits}
use Rattle.ring_lanes.specs.Hits.{privileged_at, mask_from, count_from}

-- a comparison of two vectors, lane by lane, as a test of the numbers from a on
pub zip_is_map : (f : ℕ → ℕ → Bool) (p : ℕ → Bool) (xs ys : List ℕ) (a n : ℕ) → length xs ≡ n → length ys ≡ n
    → ((k : ℕ) → k < n → f (get_or xs k 0) (get_or ys k 0) ≡ p (a + k)) → zip2 f xs ys ≡ map p (range_with_len a n)
zip_is_map f p xs ys a n ex ey h =
    let el : length (zip2 f xs ys) ≡ length xs = length-zip2 f xs ys (ex ∙ sym ey) in
    let er : length (map p (range_with_len a n)) ≡ n = length-map-range_with_len p a n in
    same_lists (zip2 f xs ys) (map p (range_with_len a n)) (el ∙ ex ∙ sym er)
    (λ k d lt.
    let l : k < n = omega arith in
    get_or-zip2 f xs ys k 0 0 d (omega arith) (omega arith) ∙ h k l ∙ sym (get_or-map-range_with_len p a n k (a + k) d l refl))

-- `to_bitmask` of a comparison
pub compared_mask : (w : Width) (t : ℕ → ℕ → Bool) (p : ℕ → Bool) (xs ys : List ℕ) (a n : ℕ) → n ≤ 64 → length xs ≡ n → length ys ≡ n
    → ((k : ℕ) → k < n → t (get_or xs k 0) (get_or ys k 0) ≡ p (a + k))
    → mask_l (map (top (hbits w)) (zip2 (λ x y. cond (t x y) (2 ^ bits w - 1) 0) xs ys)) % 2 ^ 64 ≡ mask_from p a n
unfolding mask_from
compared_mask w t p xs ys a n le ex ey h =
    let er : length (map p (range_with_len a n)) ≡ n = length-map-range_with_len p a n in
    ap (λ ms. mask_l ms % 2 ^ 64) (tops_compared w t xs ys ∙ zip_is_map t p xs ys a n ex ey h) ∙ mask_l-mod (map p (range_with_len a n)) 64 (omega arith)

pub privileged_next : (s : List ℕ) (i : ℕ) → 1 ≤ i → privileged_at s i ≡ not (eqb (get_or s (i - 1) 0) (get_or s i 0))
unfolding privileged_at
privileged_next s zero h = absurd (omega arith)
privileged_next s (suc i) h = let e : suc i - 1 ≡ i = omega arith in rw e refl

pub privileged_none : (s : List ℕ) → privileged_at s 0 ≡ eqb (get_or s (length s - 1) 0) (get_or s 0 0)
unfolding privileged_at
privileged_none s = refl

-- two loads, one place apart
pub neighbours_mask : (w : Width) (s : List ℕ) (i n : ℕ) → n ≤ 64 → 1 ≤ i → i + n ≤ length s
    → mask_l (map (top (hbits w)) (zip2 (λ x y. cond (not (eqb x y)) (2 ^ bits w - 1) 0) (chunk (i - 1) n s) (chunk i n s))) % 2 ^ 64 ≡ mask_from (privileged_at s) i n
neighbours_mask w s i n le low room =
    compared_mask w (λ x y. not (eqb x y)) (privileged_at s) (chunk (i - 1) n s) (chunk i n s) i n le
    (length-chunk (i - 1) n s (omega arith)) (length-chunk i n s room)
    (λ k lt.
    let e : i - 1 + k ≡ i + k - 1 = omega arith in
    rw (get_or-chunk (i - 1) n s k 0 lt, get_or-chunk i n s k 0 lt, e) (sym (privileged_next s (i + k) (omega arith))))

pub range-append : (a m n : ℕ) → range_with_len a (m + n) ≡ range_with_len a m ++ range_with_len (a + m) n
range-append a zero n = rw (zero-add n, add-zero a) refl
range-append a (suc m) n =
    let e : suc m + n ≡ suc (m + n) = omega arith in
    let f : a + suc m ≡ a + 1 + m = omega arith in
    rw (e, f) (ap (λ l. a ∷ l) (range-append (a + 1) m n))

pub count_from-more : (p : ℕ → Bool) (m n : ℕ) → count_from p 0 (m + n) ≡ count_from p 0 m + count_from p m n
unfolding count_from
count_from-more p m n = rw (range-append 0 m n, zero-add m) (sum_by-append (λ i. cond (p i) 1 0) (range_with_len 0 m) (range_with_len m n))

pub count_from-one : (p : ℕ → Bool) (m : ℕ) → count_from p 0 (m + 1) ≡ count_from p 0 m + cond (p m) 1 0
unfolding count_from
count_from-one p m = count_from-more p m 1 ∙ ap (λ x. count_from p 0 m + x) (zero-add _)

pub count_from-le : (p : ℕ → Bool) (a n : ℕ) → count_from p a n ≤ n
unfolding count_from
count_from-le p a n = omega (arith, count_by-le-length p (range_with_len a n), length-range_with_len a n)

pub ones-mask_from : (p : ℕ → Bool) (a n : ℕ) → count_ones (mask_from p a n) ≡ count_from p a n
unfolding count_from mask_from
ones-mask_from p a n = ones-mask_l p (range_with_len a n)

pub count_from_none : (p : ℕ → Bool) → count_from p 0 0 ≡ 0
unfolding count_from
count_from_none p = refl

pub count_from_yes : (p : ℕ → Bool) (m : ℕ) → p m ≡ true → count_from p 0 (m + 1) ≡ count_from p 0 m + 1
count_from_yes p m e = count_from-one p m ∙ ap (λ b. count_from p 0 m + cond b 1 0) e

pub count_from_no : (p : ℕ → Bool) (m : ℕ) → p m ≡ false → count_from p 0 (m + 1) ≡ count_from p 0 m
count_from_no p m e = count_from-one p m ∙ ap (λ b. count_from p 0 m + cond b 1 0) e ∙ add-zero _

-- a block's count, from its mask
pub count_from_block : (p : ℕ → Bool) (m n b : ℕ) → b ≡ mask_from p m n → count_from p 0 (m + n) ≡ count_from p 0 m + count_ones b
count_from_block p m n b e = count_from-more p m n ∙ ap (λ x. count_from p 0 m + x) (sym (ap count_ones e ∙ ones-mask_from p m n))

pub count_from_first_yes : (p : ℕ → Bool) → p 0 ≡ true → count_from p 0 1 ≡ 1
count_from_first_yes p e = count_from_yes p 0 e ∙ ap (λ x. x + 1) (count_from_none p)

pub count_from_first_no : (p : ℕ → Bool) → p 0 ≡ false → count_from p 0 1 ≡ 0
count_from_first_no p e = count_from_no p 0 e ∙ count_from_none p

pub count_from_block_le : (p : ℕ → Bool) (m n b : ℕ) → b ≡ mask_from p m n → count_from p 0 m + count_ones b ≤ m + n
count_from_block_le p m n b e = omega (arith, count_from_block p m n b e, count_from-le p 0 (m + n))

pub ruleset counting = (count_from_none, count_from_first_yes, count_from_first_no, count_from_yes, count_from_no, count_from_block, count_from_block_le, count_from-le)

-- a splat on the right, and on the left
pub values_mask : (w : Width) (t : ℕ → ℕ → Bool) (s : List ℕ) (v i n : ℕ) → n ≤ 64 → i + n ≤ length s
    → mask_l (map (top (hbits w)) (zip2 (λ x y. cond (t x y) (2 ^ bits w - 1) 0) (chunk i n s) (replicate n v))) % 2 ^ 64 ≡ mask_from (λ k. t (get_or s k 0) v) i n
values_mask w t s v i n le room =
    compared_mask w t (λ k. t (get_or s k 0) v) (chunk i n s) (replicate n v) i n le (length-chunk i n s room) (length-replicate n v)
    (λ k lt. rw (get_or-chunk i n s k 0 lt, get_or-replicate n k v 0 lt) refl)

pub values_mask_left : (w : Width) (t : ℕ → ℕ → Bool) (v : ℕ) (s : List ℕ) (i n : ℕ) → n ≤ 64 → i + n ≤ length s
    → mask_l (map (top (hbits w)) (zip2 (λ x y. cond (t x y) (2 ^ bits w - 1) 0) (replicate n v) (chunk i n s))) % 2 ^ 64 ≡ mask_from (λ k. t v (get_or s k 0)) i n
values_mask_left w t v s i n le room =
    compared_mask w t (λ k. t v (get_or s k 0)) (replicate n v) (chunk i n s) i n le (length-replicate n v) (length-chunk i n s room)
    (λ k lt. rw (get_or-chunk i n s k 0 lt, get_or-replicate n k v 0 lt) refl)

-- an empty mask, and the lowest bit of another
pub none_before : (p : ℕ → Bool) (a n k : ℕ) → a ≤ k → k < a + prefix_len (λ x. not (p x)) (range_with_len a n) → p k ≡ false
none_before p a n k low high =
    let xs = range_with_len a n in
    let le = prefix_len-le-length (λ x. not (p x)) xs in
    let lt : k - a < prefix_len (λ x. not (p x)) xs = omega arith in
    let e : a + (k - a) ≡ k = omega arith in
    let at : get_or xs (k - a) 0 ≡ k = get_or-range_with_len a n (k - a) 0 (omega (arith, le, length-range_with_len a n)) ∙ e in
    not-true _ (ap (λ x. not (p x)) (sym at) ∙ prefix_len_passes (λ x. not (p x)) xs (k - a) 0 lt)

pub none_in_block : (p : ℕ → Bool) (a n b k : ℕ) → b ≡ mask_from p a n → b ≡ 0 → a ≤ k → k < a + n → p k ≡ false
unfolding mask_from
none_in_block p a n b k e z low high =
    none_before p a n k low (omega (arith, leading_from_mask_l p (range_with_len a n) (sym e ∙ z), length-range_with_len a n))

lowest_is : (p : ℕ → Bool) (a n b : ℕ) → n ≤ 64 → b ≡ mask_from p a n → b ≢ 0 → count_trailing_zeros 64 b ≡ prefix_len (λ x. not (p x)) (range_with_len a n)
unfolding mask_from
lowest_is p a n b le e ne =
    ap (count_trailing_zeros 64) e ∙ trailing_mask_l p 64 (range_with_len a n) (omega (arith, length-range_with_len a n)) (let s : 0 < b = omega arith in subst (λ x. 0 < x) e s)

pub none_before_lowest : (p : ℕ → Bool) (a n b k : ℕ) → n ≤ 64 → b ≡ mask_from p a n → b ≢ 0 → a ≤ k → k < a + count_trailing_zeros 64 b → p k ≡ false
none_before_lowest p a n b k le e ne low high = none_before p a n k low (omega (arith, lowest_is p a n b le e ne))

short_step : (p : ℕ → Bool) (xs : List ℕ) → (0 < mask_l (map p xs) → prefix_len (λ x. not (p x)) xs < length xs)
    → (b : Bool) → 0 < cond b 1 0 + 2 * mask_l (map p xs) → cond (not b) (1 + prefix_len (λ x. not (p x)) xs) 0 < suc (length xs)
short_step p xs ih true h = omega arith
short_step p xs ih false h = let r : prefix_len (λ x. not (p x)) xs < length xs = ih (omega arith) in omega arith

short : (p : ℕ → Bool) (xs : List ℕ) → 0 < mask_l (map p xs) → prefix_len (λ x. not (p x)) xs < length xs
short p [] h = absurd (omega arith)
short p (x ∷ xs) h = short_step p xs (short p xs) (p x) h

prefix-short : (p : ℕ → Bool) (a n : ℕ) → mask_from p a n ≢ 0 → prefix_len (λ x. not (p x)) (range_with_len a n) < n
unfolding mask_from
prefix-short p a n ne = omega (arith, short p (range_with_len a n) (omega arith), length-range_with_len a n)

pub lowest_lt : (p : ℕ → Bool) (a n b : ℕ) → n ≤ 64 → b ≡ mask_from p a n → b ≢ 0 → count_trailing_zeros 64 b < n
lowest_lt p a n b le e ne = omega (arith, lowest_is p a n b le e ne, prefix-short p a n (λ z. ne (e ∙ z)))

pub hit_at_lowest : (p : ℕ → Bool) (a n b : ℕ) → n ≤ 64 → b ≡ mask_from p a n → b ≢ 0 → p (a + count_trailing_zeros 64 b) ≡ true
hit_at_lowest p a n b le e ne =
    let xs = range_with_len a n in
    let r = lowest_is p a n b le e ne in
    let lt = lowest_lt p a n b le e ne in
    let stops = prefix_len_stops (λ x. not (p x)) xs 0 (omega (arith, length-range_with_len a n)) in
    let at = get_or-range_with_len a n (count_trailing_zeros 64 b) 0 lt in
    not-false _ (ap (λ x. not (p x)) (sym at ∙ ap (λ j. get_or xs j 0) r) ∙ stops)

pub ruleset finding = (none_in_block, none_before_lowest, lowest_lt, hit_at_lowest)

-- none in two parts, one after the other
pub none_then : (p : ℕ → Bool) (a m b : ℕ) → ((k : ℕ) → a ≤ k → k < m → p k ≡ false) → ((k : ℕ) → m ≤ k → k < b → p k ≡ false) → (k : ℕ) → a ≤ k → k < b → p k ≡ false
none_then p a m b f h k low high = ⊎_elim (λ l. f k low l) (λ l. h k l high) (cases_lt k m)

-- where none of the machines 1 .. m - 1 is privileged, their values are that of machine 0
pub same_run : (s : List ℕ) (m : ℕ) → ((k : ℕ) → 1 ≤ k → k < m → privileged_at s k ≡ false) → (k : ℕ) → k < m → get_or s k 0 ≡ get_or s 0 0
unfolding privileged_at
same_run s m none zero lt = refl
same_run s m none (suc k) lt =
    let here : get_or s k 0 ≡ get_or s (suc k) 0 = eqb-true _ _ (not-false _ (none (suc k) (omega arith) lt)) in
    sym here ∙ same_run s m none k (omega arith)

-- so some machine is privileged
pub one_is_privileged : (s : List ℕ) (r : ℕ) → 1 ≤ length s → privileged_at s 0 ≡ false → r ≤ length s → ((k : ℕ) → 1 ≤ k → k < r → privileged_at s k ≡ false) → r < length s
one_is_privileged s r long still le none =
    ⊎_elim (λ l. l)
    (λ ge.
    let same : get_or s (length s - 1) 0 ≡ get_or s 0 0 = same_run s r none (length s - 1) (omega arith) in
    absurd (false≢true (sym still ∙ privileged_none s ∙ eq-eqb _ _ same)))
    (cases_lt r (length s))
