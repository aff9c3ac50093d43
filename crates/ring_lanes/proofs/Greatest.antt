-- The greatest value of each lane stays below a limit exactly where every value does.
use Rattle.std.proofs.Common.{◌≡◌, ℕ, ◌+◌, ◌-◌, ◌^◌, ◌<◌, ◌≤◌, Bool, true, false, cond, List, length, get_or, map, replicate, zero, suc, ◌%◌, ◌*◌, refl, arith, subst, sym, ap, ◌∙◌, eqb, ltb, leb, lt-ltb, le-ltb, eq-eqb, inl, inr}
use Rattle.std.specs.Simd.Lanes.{chunk, zip2, sel_l, top, mask_l}
use Rattle.std.proofs.lemmas.Bool.{cases_lt, eqb-true, both_ways, le-leb, lt-leb}
use Rattle.std.proofs.lemmas.Simd.{length-chunk, get_or-chunk, length-zip2, get_or-zip2, length-sel_l, get_or-sel_l, tops_compared, length-replicate, get_or-replicate}
use mir.Syntax.{Width}
use mir.Val.{bits, hbits}
use Rattle.ring_lanes.specs.Hits.{mask_from}
use Rattle.ring_lanes.proofs.Blocks.{compared_mask, none_in_block}
use Rattle.ring_lanes.proofs.Words.{mask_from_none, mask_from-cons}

-- each value, and each of those from place a on and before place b, is below the limit
abbrev pub EachBelow : ℕ → List ℕ → Type 0
EachBelow limit xs = (k : ℕ) → k < length xs → get_or xs k 0 < limit

abbrev pub SomeBelow : ℕ → List ℕ → ℕ → ℕ → Type 0
SomeBelow limit xs a b = (k : ℕ) → a ≤ k → k < b → get_or xs k 0 < limit

pub block_below : (limit : ℕ) (s : List ℕ) (i n : ℕ) → i + n ≤ length s → EachBelow limit s → EachBelow limit (chunk i n s)
block_below limit s i n room h k lt =
    let size : length (chunk i n s) ≡ n = length-chunk i n s room in
    let here : get_or s (i + k) 0 < limit = h (i + k) (omega arith) in
    subst (λ (v : ℕ). v < limit) (sym (get_or-chunk i n s k 0 (omega arith))) here

pub below_block : (limit : ℕ) (s : List ℕ) (i n b : ℕ) → i + n ≤ length s → b ≡ i + n → EachBelow limit (chunk i n s) → SomeBelow limit s i b
below_block limit s i n b room e h k low high =
    let size : length (chunk i n s) ≡ n = length-chunk i n s room in
    let place : i + (k - i) ≡ k = omega arith in
    let there : get_or (chunk i n s) (k - i) 0 ≡ get_or s k 0 = get_or-chunk i n s (k - i) 0 (omega arith) ∙ ap (λ j. get_or s j 0) place in
    subst (λ (v : ℕ). v < limit) there (h (k - i) (omega arith))

-- `simd_max`, lane by lane
abbrev pub greater_lanes : Width → List ℕ → List ℕ → List ℕ
greater_lanes w xs ys = sel_l (map (top (hbits w)) (zip2 (λ x y. cond (ltb x y) (2 ^ bits w - 1) 0) xs ys)) ys xs

greater_is : (w : Width) (xs ys : List ℕ) → greater_lanes w xs ys ≡ sel_l (zip2 ltb xs ys) ys xs
greater_is w xs ys = ap (λ (ms : List Bool). sel_l ms ys xs) (tops_compared w ltb xs ys)

pub length-greater_lanes : (w : Width) (xs ys : List ℕ) → length xs ≡ length ys → length (greater_lanes w xs ys) ≡ length xs
length-greater_lanes w xs ys e =
    let size : length (zip2 ltb xs ys) ≡ length xs = length-zip2 ltb xs ys e in
    ap (λ (zs : List ℕ). length zs) (greater_is w xs ys) ∙ length-sel_l (zip2 ltb xs ys) ys xs (size ∙ e) size ∙ size

greater_at : (w : Width) (xs ys : List ℕ) (k : ℕ) → length xs ≡ length ys → k < length xs
    → get_or (greater_lanes w xs ys) k 0 ≡ cond (ltb (get_or xs k 0) (get_or ys k 0)) (get_or ys k 0) (get_or xs k 0)
greater_at w xs ys k e lt =
    let size : length (zip2 ltb xs ys) ≡ length xs = length-zip2 ltb xs ys e in
    let choice : get_or (zip2 ltb xs ys) k false ≡ ltb (get_or xs k 0) (get_or ys k 0) = get_or-zip2 ltb xs ys k 0 0 false lt (omega arith) in
    ap (λ (zs : List ℕ). get_or zs k 0) (greater_is w xs ys) ∙ get_or-sel_l (zip2 ltb xs ys) ys xs k 0 (omega arith) (omega arith) lt
    ∙ ap (λ (b : Bool). cond b (get_or ys k 0) (get_or xs k 0)) choice

greater_below : (x y limit : ℕ) → x < limit → y < limit → cond (ltb x y) y x < limit
greater_below x y limit lx ly = elim (cases_lt x y) [
  | inl lt ↦ subst (λ (b : Bool). cond b y x < limit) (sym (lt-ltb _ _ lt)) ly
  | inr ge ↦ subst (λ (b : Bool). cond b y x < limit) (sym (le-ltb _ _ ge)) lx
]

below_greater : (x y limit : ℕ) → cond (ltb x y) y x < limit → (x < limit) × (y < limit)
below_greater x y limit l = elim (cases_lt x y) [
  | inl lt ↦ let here : y < limit = subst (λ (b : Bool). cond b y x < limit) (lt-ltb _ _ lt) l in (omega arith, here)
  | inr ge ↦ let here : x < limit = subst (λ (b : Bool). cond b y x < limit) (le-ltb _ _ ge) l in (here, omega arith)
]

-- the greater lanes are below a limit exactly where both vectors' are
pub greater_lanes_below : (w : Width) (limit : ℕ) (xs ys : List ℕ) → length xs ≡ length ys → EachBelow limit xs → EachBelow limit ys → EachBelow limit (greater_lanes w xs ys)
greater_lanes_below w limit xs ys e hx hy k lt =
    let size = length-greater_lanes w xs ys e in
    subst (λ (v : ℕ). v < limit) (sym (greater_at w xs ys k e (omega arith)))
    (greater_below (get_or xs k 0) (get_or ys k 0) limit (hx k (omega arith)) (hy k (omega arith)))

below_both : (w : Width) (limit : ℕ) (xs ys : List ℕ) → length xs ≡ length ys → EachBelow limit (greater_lanes w xs ys)
    → (k : ℕ) → k < length xs → (get_or xs k 0 < limit) × (get_or ys k 0 < limit)
below_both w limit xs ys e h k lt =
    let size = length-greater_lanes w xs ys e in
    below_greater (get_or xs k 0) (get_or ys k 0) limit (subst (λ (v : ℕ). v < limit) (greater_at w xs ys k e lt) (h k (omega arith)))

pub below_left : (w : Width) (limit : ℕ) (xs ys : List ℕ) → length xs ≡ length ys → EachBelow limit (greater_lanes w xs ys) → EachBelow limit xs
below_left w limit xs ys e h k lt = (below_both w limit xs ys e h k lt).0

pub below_right : (w : Width) (limit : ℕ) (xs ys : List ℕ) → length xs ≡ length ys → EachBelow limit (greater_lanes w xs ys) → EachBelow limit ys
below_right w limit xs ys e h k lt = (below_both w limit xs ys e h k (omega arith)).1

pub below_then : (limit : ℕ) (s : List ℕ) (a m b : ℕ) → SomeBelow limit s a m → SomeBelow limit s m b → SomeBelow limit s a b
below_then limit s a m b f h k low high = elim (cases_lt k m) [ inl l ↦ f k low l | inr l ↦ h k l high ]

-- two blocks, one after the other, and the greater of their lanes
pub length-pair : (w : Width) (s : List ℕ) (i : ℕ) → i + 64 ≤ length s → length (greater_lanes w (chunk i 32 s) (chunk (i + 32) 32 s)) ≡ 32
length-pair w s i room =
    let left : length (chunk i 32 s) ≡ 32 = length-chunk i 32 s (omega arith) in
    let right : length (chunk (i + 32) 32 s) ≡ 32 = length-chunk (i + 32) 32 s (omega arith) in
    length-greater_lanes w (chunk i 32 s) (chunk (i + 32) 32 s) (left ∙ sym right) ∙ left

pub pair_below : (w : Width) (limit : ℕ) (s : List ℕ) (i : ℕ) → i + 64 ≤ length s → EachBelow limit s → EachBelow limit (greater_lanes w (chunk i 32 s) (chunk (i + 32) 32 s))
pair_below w limit s i room h =
    let left : length (chunk i 32 s) ≡ 32 = length-chunk i 32 s (omega arith) in
    let right : length (chunk (i + 32) 32 s) ≡ 32 = length-chunk (i + 32) 32 s (omega arith) in
    greater_lanes_below w limit (chunk i 32 s) (chunk (i + 32) 32 s) (left ∙ sym right) (block_below limit s i 32 (omega arith) h) (block_below limit s (i + 32) 32 (omega arith) h)

pub below_pair : (w : Width) (limit : ℕ) (s : List ℕ) (i : ℕ) → i + 64 ≤ length s → EachBelow limit (greater_lanes w (chunk i 32 s) (chunk (i + 32) 32 s)) → SomeBelow limit s i (i + 64)
below_pair w limit s i room h =
    let left : length (chunk i 32 s) ≡ 32 = length-chunk i 32 s (omega arith) in
    let right : length (chunk (i + 32) 32 s) ≡ 32 = length-chunk (i + 32) 32 s (omega arith) in
    below_then limit s i (i + 32) (i + 64)
    (below_block limit s i 32 (i + 32) (omega arith) refl (below_left w limit (chunk i 32 s) (chunk (i + 32) 32 s) (left ∙ sym right) h))
    (below_block limit s (i + 32) 32 (i + 64) (omega arith) (omega arith) (below_right w limit (chunk i 32 s) (chunk (i + 32) 32 s) (left ∙ sym right) h))

mask_zero : (p : ℕ → Bool) (a n : ℕ) → ((k : ℕ) → a ≤ k → k < a + n → p k ≡ false) → mask_from p a n ≡ 0
mask_zero p a zero h = mask_from_none p a
mask_zero p a (suc n) h =
    let ih : mask_from p (a + 1) n ≡ 0 = mask_zero p (a + 1) n (λ k low high. h k (omega arith) (omega arith)) in
    let here : cond {A = ℕ} (p a) 1 0 ≡ 0 = ap (λ (b : Bool). cond {A = ℕ} b 1 0) (h a (omega arith) (omega arith)) in
    let whole : mask_from p a (suc n) ≡ cond {A = ℕ} (p a) 1 0 + 2 * mask_from p (a + 1) n = mask_from-cons p a n in
    omega arith

not_below : (limit v : ℕ) → leb limit v ≡ false → v < limit
not_below limit v e = elim (cases_lt v limit) [ inl lt ↦ lt | inr ge ↦ absurd (both_ways (leb limit v) e (le-leb _ _ ge)) ]

not_at_least : (limit v : ℕ) → v < limit → leb limit v ≡ false
not_at_least limit v lt = lt-leb _ _ lt

-- no lane is at least the limit, as a bit mask says, exactly where each value is below it
pub lanes_decide : (w : Width) (limit n : ℕ) (lanes s : List ℕ) → n ≤ 64 → length lanes ≡ n
    → ((l : ℕ) → (EachBelow l lanes → EachBelow l s) × (EachBelow l s → EachBelow l lanes))
    → (b : ℕ) → b ≡ mask_l (map (top (hbits w)) (zip2 (λ x y. cond (leb x y) (2 ^ bits w - 1) 0) (replicate n limit) lanes)) % 2 ^ 64
    → (eqb b 0 ≡ true → EachBelow limit s) × (EachBelow limit s → eqb b 0 ≡ true)
lanes_decide w limit n lanes s short size limits b e =
    let p : ℕ → Bool = λ k. leb limit (get_or lanes k 0) in
    let mask : b ≡ mask_from p 0 n = e ∙ compared_mask w leb p (replicate n limit) lanes 0 n short (length-replicate n limit) size
    (λ k lt. let first : 0 + k ≡ k = omega arith in
    ap (λ (x : ℕ). leb x (get_or lanes k 0)) (get_or-replicate n k limit 0 lt) ∙ ap p (sym first)) in (
      λ t. (limits limit).0 (λ k lt. not_below limit (get_or lanes k 0) (none_in_block p 0 n b k mask (eqb-true _ _ t) (omega arith) (omega arith))),
      λ h. eq-eqb _ _ (mask ∙ mask_zero p 0 n (λ k low high. not_at_least limit (get_or lanes k 0) ((limits limit).1 h k (omega arith)))),
    )
