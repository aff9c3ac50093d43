-- The mask of the machines that hold the value of machine 0 though their left neighbours do not.
use Rattle.std.proofs.Common.{◌≡◌, ℕ, zero, suc, ◌+◌, ◌-◌, ◌^◌, ◌%◌, ◌≤◌, Bool, true, false, cond, not, eqb, ◌&&◌, List, [], ◌∷◌, length, get_or, map, replicate, refl, sym, ap, ◌∙◌, arith, bit_and}
use Rattle.std.specs.List.{range_with_len}
use Rattle.std.proofs.lemmas.List.FromFn.{length-map-range_with_len}
use Rattle.std.specs.Simd.Lanes.{mask_l, zip2, top, chunk}
use Rattle.std.proofs.lemmas.Simd.{length-chunk, get_or-chunk, length-replicate, get_or-replicate, mask_l-mod}
use mir.Syntax.{w8}
use mir.Val.{bits, hbits}
use Rattle.ring_lanes.specs.Hits.{returning_at, mask_from}
use Rattle.ring_lanes.proofs.Blocks.{zip_is_map}
use Rattle.ring_lanes.proofs.Words.{mask_from-same}

both_maps : (p q : ℕ → Bool) (xs : List ℕ) → zip2 (λ a b. a && b) (map p xs) (map q xs) ≡ map (λ x. p x && q x) xs
both_maps p q [] = refl
both_maps p q (x ∷ xs) = ap (λ (l : List Bool). (p x && q x) ∷ l) (both_maps p q xs)

lane_both : (a b : Bool) → top (hbits w8) (bit_and (cond a (2 ^ bits w8 - 1) 0) (cond b (2 ^ bits w8 - 1) 0)) ≡ (a && b)
lane_both true true = refl
lane_both true false = refl
lane_both false true = refl
lane_both false false = refl

-- two comparisons of byte vectors, joined lane by lane
tops_both : (t u : ℕ → ℕ → Bool) (xs ys zs vs : List ℕ)
    → map (top (hbits w8)) (zip2 (λ a b. bit_and a b) (zip2 (λ x y. cond (t x y) (2 ^ bits w8 - 1) 0) xs ys) (zip2 (λ x y. cond (u x y) (2 ^ bits w8 - 1) 0) zs vs))
    ≡ zip2 (λ a b. a && b) (zip2 t xs ys) (zip2 u zs vs)
tops_both t u [] ys zs vs = refl
tops_both t u (x ∷ xs) [] zs vs = refl
tops_both t u (x ∷ xs) (y ∷ ys) [] vs = refl
tops_both t u (x ∷ xs) (y ∷ ys) (z ∷ zs) [] = refl
tops_both t u (x ∷ xs) (y ∷ ys) (z ∷ zs) (v ∷ vs) = rw (lane_both (t x y) (u z v)) (ap (λ (l : List Bool). (t x y && u z v) ∷ l) (tops_both t u xs ys zs vs))

pub returning_next : (s : List ℕ) (i : ℕ) → 1 ≤ i → returning_at s i ≡ (eqb (get_or s i 0) (get_or s 0 0) && not (eqb (get_or s (i - 1) 0) (get_or s 0 0)))
unfolding returning_at
returning_next s zero low = absurd (omega arith)
returning_next s (suc i) low = let e : suc i - 1 ≡ i = omega arith in rw e refl

pub returning_first : (s : List ℕ) → returning_at s 0 ≡ false
unfolding returning_at
returning_first s = refl

pub returning_mask : (s : List ℕ) (i n : ℕ) → n ≤ 64 → 1 ≤ i → i + n ≤ length s
    → mask_l
    (map (top (hbits w8))
    (zip2 (λ a b. bit_and a b) (zip2 (λ x y. cond (eqb x y) (2 ^ bits w8 - 1) 0) (chunk i n s) (replicate n (get_or s 0 0)))
    (zip2 (λ x y. cond (not (eqb x y)) (2 ^ bits w8 - 1) 0) (chunk (i - 1) n s) (replicate n (get_or s 0 0)))))
    % 2 ^ 64
    ≡ mask_from (returning_at s) i n
unfolding mask_from
returning_mask s i n le low room =
    let v = get_or s 0 0 in
    let own : ℕ → Bool = λ k. eqb (get_or s k 0) v in
    let left : ℕ → Bool = λ k. not (eqb (get_or s (k - 1) 0) v) in
    let own_is : zip2 eqb (chunk i n s) (replicate n v) ≡ map own (range_with_len i n) =
    zip_is_map eqb own (chunk i n s) (replicate n v) i n (length-chunk i n s room) (length-replicate n v)
    (λ k lt. rw (get_or-chunk i n s k 0 lt, get_or-replicate n k v 0 lt) refl) in
    let left_is : zip2 (λ x y. not (eqb x y)) (chunk (i - 1) n s) (replicate n v) ≡ map left (range_with_len i n) =
    zip_is_map (λ x y. not (eqb x y)) left (chunk (i - 1) n s) (replicate n v) i n (length-chunk (i - 1) n s (omega arith)) (length-replicate n v)
    (λ k lt.
    let e : i - 1 + k ≡ i + k - 1 = omega arith in
    rw (get_or-chunk (i - 1) n s k 0 lt, get_or-replicate n k v 0 lt, e) refl) in
    let both : List Bool → List Bool → List Bool = zip2 (λ a b. a && b) in
    let size : length (map (λ k. own k && left k) (range_with_len i n)) ≡ n = length-map-range_with_len (λ k. own k && left k) i n in
    ap (λ (ms : List Bool). mask_l ms % 2 ^ 64)
    (tops_both eqb (λ x y. not (eqb x y)) (chunk i n s) (replicate n v) (chunk (i - 1) n s) (replicate n v)
    ∙ ap (λ (ms : List Bool). both ms (zip2 (λ x y. not (eqb x y)) (chunk (i - 1) n s) (replicate n v))) own_is
    ∙ ap (λ (ms : List Bool). both (map own (range_with_len i n)) ms) left_is ∙ both_maps own left (range_with_len i n))
    ∙ mask_l-mod (map (λ k. own k && left k) (range_with_len i n)) 64 (omega arith)
    ∙ mask_from-same (λ k. own k && left k) (returning_at s) i n (λ k from to. sym (returning_next s k (omega arith)))
