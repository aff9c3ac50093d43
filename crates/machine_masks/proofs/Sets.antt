-- The machines of a set, word by word.
use Rattle.std.proofs.Common.{◌≡◌, ◌≢◌, ℕ, zero, suc, ◌+◌, ◌-◌, ◌*◌, ◌/◌, ◌%◌, ◌^◌, ◌<◌, ◌≤◌, min, Bool, true, false, eqb, bit_and, cond, List, length, set, replicate, get_or, count_ones, refl, sym, ◌∙◌, ap, subst, inl, inr, arith}
use Rattle.std.specs.Int.{bit_at, w64, trailing_zeros, leading_zeros}
use Rattle.std.proofs.lemmas.Bool.{cases_lt, cases_eq, cases_Bool, both_ways}
use Rattle.std.proofs.lemmas.Nat.{shr-shr, shr_le, leading_top}
use Rattle.std.proofs.lemmas.List.{get_or-set_same, get_or-set_other}
use Rattle.std.proofs.lemmas.Nat.Bits.{bit_at-suc, bit_at-zero, bit_at-lt, bit_at_and, bit_at_ones, bit_at-trailing_zeros, bit_at_above}
use Rattle.ring_model.specs.Numbers.{bit, count_below, least}
use Rattle.ring_model.specs.Limits.{machine_limit}
use Rattle.ring_model.proofs.Below.{least_from, least_le, least_passes, count_le, sum_but_one, sum_one_le, sum_zero}
use Rattle.machine_masks.specs.Members.{is_set, is_in, members_below, members}
use Rattle.machine_masks.proofs.Ones.{count_same, count_split, ones_count}

-- bit b of word w
pub word_at : (ws : List ℕ) (w b i : ℕ) → b < 64 → i ≡ 64 * w + b → is_in ws i ≡ is_set (get_or ws w 0) b
word_at ws w b i l is =
    let quotient : i / 64 ≡ w = omega arith in
    let rest : i % 64 ≡ b = omega arith in
    ap (λ (x : ℕ). is_set (get_or ws x 0) (i % 64)) quotient ∙ ap (is_set (get_or ws w 0)) rest

-- ---- counting

pub members_is : (ws : List ℕ) (n : ℕ) → members_below ws n ≡ count_below (is_in ws) n
unfolding members_below
members_is ws n = refl

pub members_le : (ws : List ℕ) (n : ℕ) → members_below ws n ≤ n
members_le ws n = let few = count_le (is_in ws) n in let is = members_is ws n in omega arith

-- no machine is below machine 0
pub none_first : (ws : List ℕ) → members_below ws 0 ≡ 0
none_first ws = members_is ws 0

-- the machines of a word more
pub word_counts : (ws : List ℕ) (w m : ℕ) → m ≡ 64 * (w + 1) → members_below ws m ≡ members_below ws (64 * w) + count_below (is_set (get_or ws w 0)) 64
word_counts ws w m is =
    let all : m ≡ 64 * w + 64 = omega arith in
    let split : count_below (is_in ws) (64 * w + 64) ≡ count_below (is_in ws) (64 * w) + count_below (λ i. is_in ws (64 * w + i)) 64 = count_split (is_in ws) (64 * w) 64 in
    let same : count_below (λ i. is_in ws (64 * w + i)) 64 ≡ count_below (is_set (get_or ws w 0)) 64 =
    count_same (λ i. is_in ws (64 * w + i)) (is_set (get_or ws w 0)) 64 (λ i li. word_at ws w i (64 * w + i) li refl) in
    let to : members_below ws m ≡ count_below (is_in ws) (64 * w + 64) = members_is ws m ∙ ap (count_below (is_in ws)) all in
    let before = members_is ws (64 * w) in
    omega arith

pub word_more : (ws : List ℕ) (w m : ℕ) → get_or ws w 0 < 2 ^ 64 → m ≡ 64 * (w + 1) → members_below ws m ≡ members_below ws (64 * w) + count_ones (get_or ws w 0)
word_more ws w m l is =
    let counts = word_counts ws w m is in
    let ones : count_ones (get_or ws w 0) ≡ count_below (is_set (get_or ws w 0)) 64 = ones_count 64 (get_or ws w 0) l in
    omega arith

-- ---- the machine with a number of others below it

pub record IsNthOf (ws : List ℕ) (j i : ℕ) : Type 0 where
  pub machine : i < machine_limit
  pub member : is_in ws i ≡ true
  pub place : members_below ws i ≡ j

pub nth_found : (ws : List ℕ) (w b i left j : ℕ) → w < 16 → b < 64 → is_set (get_or ws w 0) b ≡ true → count_below (is_set (get_or ws w 0)) b ≡ left →
    members_below ws (64 * w) + left ≡ j → i ≡ w * 64 + b → IsNthOf ws j i
nth_found ws w b i left j lw lb on below all is =
    let at : i ≡ 64 * w + b = omega arith in
    let split : count_below (is_in ws) (64 * w + b) ≡ count_below (is_in ws) (64 * w) + count_below (λ k. is_in ws (64 * w + k)) b = count_split (is_in ws) (64 * w) b in
    let same : count_below (λ k. is_in ws (64 * w + k)) b ≡ count_below (is_set (get_or ws w 0)) b =
    count_same (λ k. is_in ws (64 * w + k)) (is_set (get_or ws w 0)) b (λ k lk. word_at ws w k (64 * w + k) (omega arith) refl) in
    let to : members_below ws i ≡ count_below (is_in ws) (64 * w + b) = members_is ws i ∙ ap (count_below (is_in ws)) at in
    let before = members_is ws (64 * w) in
    record { machine = omega arith; member = word_at ws w b i lb at ∙ on; place = omega arith }

-- past the last word all are counted
pub nth_out : (ws : List ℕ) (w left j : ℕ) → w ≡ 16 → members_below ws (64 * w) + left ≡ j → j < members ws → ⊥
nth_out ws w left j e all more =
    let end : 64 * w ≡ machine_limit = omega arith in
    let same : members_below ws (64 * w) ≡ members ws = ap (members_below ws) end in
    omega arith

-- ---- the next machine

-- none is in it from a on, below b
abbrev pub AreOut : List ℕ → ℕ → ℕ → Type 0
AreOut ws a b = (i : ℕ) → a ≤ i → i < b → is_in ws i ≡ false

least_most : (p : ℕ → Bool) (from turns : ℕ) → least p from turns ≤ from + turns
least_most p from zero = omega arith
least_most p from (suc turns) = elim (cases_Bool (p from)) [
  | inl on ↦ let low = least_le p from (suc turns) from (omega arith) on in omega arith
  | inr off ↦
      let ih = least_most p (suc from) turns in
      let is : least p from (suc turns) ≡ least p (suc from) turns = ap (λ (b : Bool). cond b from (least p (suc from) turns)) off in
      omega arith
]

pub next_none : (ws : List ℕ) (from end : ℕ) → from ≤ end → AreOut ws from end → end ≡ least (is_in ws) from (end - from)
next_none ws from end l out =
    let x : ℕ = least (is_in ws) from (end - from) in
    let low : from ≤ x = least_from (is_in ws) from (end - from) in
    let high : x ≤ from + (end - from) = least_most (is_in ws) from (end - from) in
    elim (cases_lt x end) [
      | inl less ↦ absurd (both_ways (is_in ws x) (out x low less) (least_passes (is_in ws) from (end - from) (omega arith)))
      | inr more ↦ omega arith
    ]

pub next_found : (ws : List ℕ) (from end x : ℕ) → from ≤ x → from ≤ end → is_in ws x ≡ true → AreOut ws from x → min end x ≡ least (is_in ws) from (end - from)
next_found ws from end x l le on out = elim (cases_lt x end) [
  | inl less ↦
      let m : ℕ = least (is_in ws) from (end - from) in
      let low : from ≤ m = least_from (is_in ws) from (end - from) in
      let high : m ≤ x = least_le (is_in ws) from (end - from) x l on in
      elim (cases_lt m x) [
        | inl under ↦ absurd (both_ways (is_in ws m) (out m low under) (least_passes (is_in ws) from (end - from) (omega arith)))
        | inr same ↦ omega arith
      ]
  | inr more ↦ let is = next_none ws from end le (λ i li lj. out i li (omega arith)) in omega arith
]

-- in the word that `from` is in
shifted : (word s t : ℕ) → bit_at (word / 2 ^ s) t ≡ bit_at word (s + t)
shifted word s t = ap (λ (x : ℕ). x % 2) (shr-shr word s t)

-- the first 32 bits of a word, or its other ones, are those of a block
pub block_at : (ws : List ℕ) (block b : ℕ) → b < 32 → is_set (get_or ws (block / 2) 0 / 2 ^ (block % 2 * 32)) b ≡ is_in ws (32 * block + b)
block_at ws block b l =
    let s : ℕ = block % 2 * 32 in
    ap (λ (x : ℕ). eqb x 1) (shifted (get_or ws (block / 2) 0) s b) ∙ sym (word_at ws (block / 2) (s + b) (32 * block + b) (omega arith) (omega arith))

-- of a word that is cut off after 32 bits these are the same
pub low_bits : (v b : ℕ) → b < 32 → is_set (bit_and v 4294967295) b ≡ is_set v b
low_bits v b l =
    let both : bit_at (bit_and v 4294967295) b ≡ min (bit_at v b) (bit_at 4294967295 b) = bit_at_and v 4294967295 b in
    let one : bit_at 4294967295 b ≡ 1 = bit_at_ones 32 b l in
    let small = bit_at-lt v b in
    let same : bit_at (bit_and v 4294967295) b ≡ bit_at v b = omega arith in
    ap (λ (x : ℕ). eqb x 1) same

abbrev IsNextIn : List ℕ → ℕ → ℕ → Type 0
IsNextIn ws from x = (is_in ws x ≡ true) × AreOut ws from x

pub rest_found : (ws : List ℕ) (from rest t x : ℕ) → get_or ws (from / 64) 0 < 2 ^ 64 → rest ≡ get_or ws (from / 64) 0 / 2 ^ (from % 64) → (rest ≡ 0 → ⊥) →
    t ≡ trailing_zeros w64 rest → x ≡ from + t → (is_in ws x ≡ true) × AreOut ws from x
rest_found ws from rest t x fits is some et ex =
    let w : ℕ = from / 64 in
    let s : ℕ = from % 64 in
    let word : ℕ = get_or ws w 0 in
    let small : word / 2 ^ s ≤ word = shr_le word s in
    let fits' : rest < 2 ^ 64 = omega arith in
    let positive : 0 < rest = above_zero rest some in
    let low = bit_at-trailing_zeros w64 rest positive fits' in
    let at : (j : ℕ) → bit_at rest j ≡ bit_at word (s + j) = λ j. ap (λ (y : ℕ). bit_at y j) is ∙ shifted word s j in
    let one : bit_at word (s + t) ≡ 1 = sym (at t) ∙ ap (bit_at rest) et ∙ low.1 in
    let within : s + t < 64 = inside word (s + t) fits one in (
      word_at ws w (s + t) x within (omega arith) ∙ ap (λ (y : ℕ). eqb y 1) one,
      λ i li lx.
          let j : ℕ = i - from in
          let zero' : bit_at word (s + j) ≡ 0 = sym (at j) ∙ low.2 j (omega arith) in
          word_at ws w (s + j) i (omega arith) (omega arith) ∙ ap (λ (y : ℕ). eqb y 1) zero',
    )
  where
    above_zero : (n : ℕ) → (n ≡ 0 → ⊥) → 0 < n
    above_zero zero h = absurd (h refl)
    above_zero (suc n) h = omega arith

    inside : (v j : ℕ) → v < 2 ^ 64 → bit_at v j ≡ 1 → j < 64
    inside v j l e = elim (cases_lt j 64) [
      | inl less ↦ less
      | inr more ↦ let none = bit_at_above v 64 j l more in absurd (omega arith)
    ]

pub rest_none : (ws : List ℕ) (from rest m : ℕ) → rest ≡ get_or ws (from / 64) 0 / 2 ^ (from % 64) → rest ≡ 0 → m ≡ 64 * (from / 64 + 1) → AreOut ws from m
rest_none ws from rest m is none em = λ i li lm.
    let s : ℕ = from % 64 in
    let j : ℕ = i - from in
    let word : ℕ = get_or ws (from / 64) 0 in
    let clear : bit_at word (s + j) ≡ 0 = sym (shifted word s j) ∙ ap (λ (y : ℕ). bit_at y j) (sym is ∙ none) ∙ bit_at-zero j in
    word_at ws (from / 64) (s + j) i (omega arith) (omega arith) ∙ ap (λ (y : ℕ). eqb y 1) clear

-- in a later word
pub word_none : (ws : List ℕ) (w from word m : ℕ) → word ≡ get_or ws w 0 → word ≡ 0 → AreOut ws from (64 * w) → m ≡ 64 * (w + 1) → AreOut ws from m
word_none ws w from word m is none out em = λ i li lm. elim (cases_lt i (64 * w)) [
  | inl before ↦ out i li before
  | inr here ↦
      let b : ℕ = i - 64 * w in
      word_at ws w b i (omega arith) (omega arith) ∙ ap (λ (y : ℕ). is_set y b) (sym is ∙ none) ∙ ap (λ (y : ℕ). eqb y 1) (bit_at-zero b)
]

pub word_found : (ws : List ℕ) (w from word t x : ℕ) → word ≡ get_or ws w 0 → word < 2 ^ 64 → (word ≡ 0 → ⊥) → t ≡ trailing_zeros w64 word → x ≡ w * 64 + t →
    AreOut ws from (64 * w) → (is_in ws x ≡ true) × AreOut ws from x
word_found ws w from word t x is fits some et ex out =
    let low = bit_at-trailing_zeros w64 word (above_zero word some) fits in
    let lt : t < 64 = subst (λ (y : ℕ). y < 64) (sym et) low.0 in
    let one : bit_at word t ≡ 1 = ap (bit_at word) et ∙ low.1 in (
      word_at ws w t x lt (omega arith) ∙ ap (λ (y : ℕ). is_set y t) (sym is) ∙ ap (λ (y : ℕ). eqb y 1) one,
      λ i li lx. elim (cases_lt i (64 * w)) [
        | inl before ↦ out i li before
        | inr here ↦
            let b : ℕ = i - 64 * w in
            let clear : bit_at word b ≡ 0 = low.2 b (omega arith) in
            word_at ws w b i (omega arith) (omega arith) ∙ ap (λ (y : ℕ). is_set y b) (sym is) ∙ ap (λ (y : ℕ). eqb y 1) clear
      ],
    )
  where
    above_zero : (n : ℕ) → (n ≡ 0 → ⊥) → 0 < n
    above_zero zero h = absurd (h refl)
    above_zero (suc n) h = omega arith

-- ---- the last machine

pub record IsLastOf (ws : List ℕ) (end x : ℕ) : Type 0 where
  pub machine : x < end
  pub member : is_in ws x ≡ true
  pub last : AreOut ws (x + 1) end

-- the highest bit of a word
highest : (word : ℕ) → 0 < word → word < 2 ^ 64 →
    (b : ℕ) × (b + leading_zeros w64 word ≡ 63) × (bit_at word b ≡ 1) × ((i : ℕ) → b < i → bit_at word i ≡ 0)
highest word some fits =
    let top = leading_top 64 word some fits in
    (top.0, omega (arith, top.1), one word top.0 top.2 top.3, λ i l. bit_at_above word (suc top.0) i top.3 (omega arith))
  where
    one : (v j : ℕ) → 2 ^ j ≤ v → v < 2 ^ suc j → bit_at v j ≡ 1
    one v zero l h = let e : v ≡ 1 = omega arith in ap (λ (x : ℕ). bit_at x 0) e
    one v (suc j) l h = bit_at-suc v j ∙ one (v / 2) j (omega arith) (omega arith)

pub last_found : (ws : List ℕ) (w end word x : ℕ) → word ≡ get_or ws w 0 → word < 2 ^ 64 → (word ≡ 0 → ⊥) → x ≡ w * 64 + 63 - leading_zeros w64 word → w < 16 →
    AreOut ws (64 * (w + 1)) end → AreOut ws end machine_limit → IsLastOf ws end x
last_found ws w end word x is fits some ex lw out above =
    let top = highest word (above_zero word some) fits in
    let b : ℕ = top.0 in
    let eb : b + leading_zeros w64 word ≡ 63 = top.1 in
    let on : is_in ws x ≡ true = word_at ws w b x (omega arith) (omega arith) ∙ ap (λ (y : ℕ). is_set y b) (sym is) ∙ ap (λ (y : ℕ). eqb y 1) top.2 in
    let less : x < end = elim (cases_lt x end) [
      | inl l ↦ l
      | inr past ↦ absurd (both_ways (is_in ws x) (above x past (omega arith)) on)
    ] in
    record {
      machine = less;
      member = on;
      last = λ i li le. elim (cases_lt i (64 * (w + 1))) [
        | inl here ↦
            let c : ℕ = i - 64 * w in
            word_at ws w c i (omega arith) (omega arith) ∙ ap (λ (y : ℕ). is_set y c) (sym is) ∙ ap (λ (y : ℕ). eqb y 1) (top.3 c (omega arith))
        | inr later ↦ out i later le
      ];
    }
  where
    above_zero : (n : ℕ) → (n ≡ 0 → ⊥) → 0 < n
    above_zero zero h = absurd (h refl)
    above_zero (suc n) h = omega arith

pub last_none : (ws : List ℕ) (w end word m : ℕ) → word ≡ get_or ws w 0 → word ≡ 0 → AreOut ws (64 * (w + 1)) end → m ≡ 64 * w → AreOut ws m end
last_none ws w end word m is none out em = λ i li le. elim (cases_lt i (64 * (w + 1))) [
  | inl here ↦
      let b : ℕ = i - 64 * w in
      word_at ws w b i (omega arith) (omega arith) ∙ ap (λ (y : ℕ). is_set y b) (sym is ∙ none) ∙ ap (λ (y : ℕ). eqb y 1) (bit_at-zero b)
  | inr later ↦ out i later le
]

-- ---- a machine that is put in or taken out

pub members_changed : (ws us : List ℕ) (m n : ℕ) → m < n → ((i : ℕ) → i < n → i ≢ m → is_in us i ≡ is_in ws i) →
    members_below us n + bit (is_in ws m) ≡ members_below ws n + bit (is_in us m)
members_changed ws us m n l same =
    let sums = sum_but_one (λ i. bit (is_in us i)) (λ i. bit (is_in ws i)) m n l (λ i li ne. ap bit (same i li ne)) in
    let a = members_is ws n in
    let b = members_is us n in
    omega arith

pub one_counts : (ws : List ℕ) (m n : ℕ) → m < n → bit (is_in ws m) ≤ members_below ws n
one_counts ws m n l = let one = sum_one_le (λ i. bit (is_in ws i)) m n l in let is = members_is ws n in omega arith

pub written_word : (ws : List ℕ) (w i v : ℕ) → w < length ws → i / 64 ≡ w → is_in (set ws w v) i ≡ is_set v (i % 64)
written_word ws w i v l e =
    ap (λ (x : ℕ). is_set (get_or (set ws w v) x 0) (i % 64)) e ∙ ap (λ (x : ℕ). is_set x (i % 64)) (get_or-set_same ws w v 0 l)

pub other_word : (ws : List ℕ) (w i v : ℕ) → (i / 64 ≡ w → ⊥) → is_in (set ws w v) i ≡ is_in ws i
other_word ws w i v ne = ap (λ (x : ℕ). is_set x (i % 64)) (get_or-set_other ws w (i / 64) v 0 ne)

-- the others in the machine's word, and in other words
pub others_same : (ws : List ℕ) (m v i : ℕ) → m / 64 < length ws → ((b : ℕ) → b < 64 → b ≢ m % 64 → is_set v b ≡ is_set (get_or ws (m / 64) 0) b) → i ≢ m →
    is_in (set ws (m / 64) v) i ≡ is_in ws i
others_same ws m v i l same ne = elim (cases_eq (i / 64) (m / 64)) [
  | inl e ↦
      written_word ws (m / 64) i v l e ∙ same (i % 64) (omega arith) (λ q. ne (omega arith))
      ∙ ap (λ (x : ℕ). is_set (get_or ws x 0) (i % 64)) (sym e)
  | inr other ↦ other_word ws (m / 64) i v other
]

-- ---- the set with no machine in it

zero_word : (n w : ℕ) → get_or (replicate {A = ℕ} n 0) w 0 ≡ 0
zero_word zero w = refl
zero_word (suc n) zero = refl
zero_word (suc n) (suc w) = zero_word n w

pub nobody_in : (n i : ℕ) → is_in (replicate {A = ℕ} n 0) i ≡ false
nobody_in n i = ap (λ (x : ℕ). is_set x (i % 64)) (zero_word n (i / 64)) ∙ ap (λ (x : ℕ). eqb x 1) (bit_at-zero (i % 64))

pub nobody_counts : (n m : ℕ) → members_below (replicate {A = ℕ} n 0) m ≡ 0
nobody_counts n m = members_is (replicate {A = ℕ} n 0) m ∙ sum_zero (λ i. bit (is_in (replicate {A = ℕ} n 0) i)) m (λ i l. ap bit (nobody_in n i))
