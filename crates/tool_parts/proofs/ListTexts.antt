-- A list's text, number by number.
use Rattle.std.proofs.Common.{◌≡◌, ◌≢◌, ◌∙◌, inl, inr, ℕ, zero, suc, length-append, ◌<◌, ◌^◌, Bool, true, false, List, [], ◌∷◌, ◌++◌, length, get_or, refl, sym, ap, append-nil, append_assoc, arith}
use Rattle.std.specs.Prelude.{◌==◌, decimal, All}
use Rattle.std.specs.List.{before_first, after_first, position_or_len}
use Rattle.std.specs.Str.Parse.{AllDigits}
use Rattle.std.specs.Char.{digit_value}
use Rattle.std.proofs.lemmas.Bool.Decides.{nat_tests}
use Rattle.std.proofs.lemmas.Fmt.{decimal_is_IsNumeral}
use Rattle.std.proofs.lemmas.Grind.{common_steps}
use Rattle.std.proofs.lemmas.List.Elements.{All-head, All-tail, All-append}
use Rattle.std.proofs.lemmas.List.Sums.{split_at_first, passes_at_first, fails_before_first}
use Rattle.text_lines.specs.Spelling.{list_text}
use Rattle.tool_parts.specs.Faults.{IsPieceRefusal, IsListRefusal}
use Rattle.tool_parts.specs.declared.faults.ToolError.{ToolError}
use Rattle.tool_parts.specs.ListWords.{IsListText, IsNoList}

-- numbers with a comma after each
pub fronts : List ℕ → List ℕ
fronts [] = []
fronts (x ∷ xs) = (decimal x ++ 44 ∷ []) ++ fronts xs

behind : (a f b : List ℕ) → ((a ++ 44 ∷ []) ++ f) ++ b ≡ a ++ (44 ∷ (f ++ b))
behind a f b = append_assoc (a ++ 44 ∷ []) f b ∙ append_assoc a (44 ∷ []) (f ++ b)

list_text-last : (xs : List ℕ) (n : ℕ) → list_text (xs ++ n ∷ []) ≡ fronts xs ++ decimal n
unfolding fronts
list_text-last [] n = refl
list_text-last (x ∷ []) n = sym (behind (decimal x) [] (decimal n))
list_text-last (x ∷ y ∷ ys) n =
    ap (λ (t : List ℕ). decimal x ++ (44 ∷ t)) (list_text-last (y ∷ ys) n) ∙ sym (behind (decimal x) (fronts (y ∷ ys)) (decimal n))

fronts-more : (xs : List ℕ) (n : ℕ) → fronts (xs ++ n ∷ []) ≡ fronts xs ++ (decimal n ++ 44 ∷ [])
unfolding fronts
fronts-more [] n = append-nil (decimal n ++ 44 ∷ [])
fronts-more (x ∷ xs) n =
    ap (λ (t : List ℕ). (decimal x ++ 44 ∷ []) ++ t) (fronts-more xs n) ∙ sym (append_assoc (decimal x ++ 44 ∷ []) (fronts xs) (decimal n ++ 44 ∷ []))

-- before the first number all is left
pub fronts-none : (text xs : List ℕ) → xs ≡ [] → text ≡ fronts xs ++ text
unfolding fronts
fronts-none text xs none = rw none refl

equal : (a b : ℕ) → (a == b) ≡ true → a ≡ b
equal a b h = grind (arith, nat_tests)

cut_at_comma : (s : List ℕ) → position_or_len (λ b. b == 44) s < length s → s ≡ before_first (λ b. b == 44) s ++ (44 ∷ after_first (λ b. b == 44) s)
cut_at_comma s h =
    let p = λ (b : ℕ). b == 44 in
    let comma : get_or s (position_or_len p s) 0 ≡ 44 = equal (get_or s (position_or_len p s) 0) 44 (passes_at_first p s 0 h) in
    split_at_first p s 0 h ∙ ap (λ (b : ℕ). before_first p s ++ (b ∷ after_first p s)) comma

-- a number more, and the comma after it
pub one_more : (text rest piece more xs ys : List ℕ) (n : ℕ) → text ≡ fronts xs ++ rest → piece ≡ before_first (λ b. b == 44) rest → more ≡ after_first (λ b. b == 44) rest →
    position_or_len (λ b. b == 44) rest < length rest → decimal n ≡ piece → ys ≡ xs ++ n ∷ [] → text ≡ fronts ys ++ more
one_more text rest piece more xs ys n whole front back inside spelled grown =
    let cut : rest ≡ decimal n ++ (44 ∷ more) = rw (spelled, front, back) (cut_at_comma rest inside) in
    let grows : fronts ys ≡ fronts xs ++ (decimal n ++ 44 ∷ []) = ap fronts grown ∙ fronts-more xs n in
    let parts : fronts ys ++ more ≡ fronts xs ++ (decimal n ++ (44 ∷ more)) =
    ap (λ (t : List ℕ). t ++ more) grows ∙ append_assoc (fronts xs) (decimal n ++ 44 ∷ []) more ∙ ap (λ (t : List ℕ). fronts xs ++ t) (append_assoc (decimal n) (44 ∷ []) more) in
    whole ∙ ap (λ (t : List ℕ). fronts xs ++ t) cut ∙ sym parts

-- the last number
pub last_one : (text rest xs ys : List ℕ) (n : ℕ) → text ≡ fronts xs ++ rest → decimal n ≡ rest → ys ≡ xs ++ n ∷ [] → list_text ys ≡ text
last_one text rest xs ys n whole spelled grown = ap list_text grown ∙ list_text-last xs n ∙ ap (λ (t : List ℕ). fronts xs ++ t) spelled ∙ sym whole

-- no byte is a comma
IsPlain : List ℕ → Type 0
IsPlain [] = Unit {0}
IsPlain (b ∷ bs) = ((b == 44) ≡ false) × IsPlain bs

plain : (bs : List ℕ) → All (λ (b : ℕ). (b == 44) ≡ false) bs → IsPlain bs
unfolding IsPlain
plain [] h = tt
plain (b ∷ bs) h = (All-head (λ (x : ℕ). (x == 44) ≡ false) b bs h, plain bs (All-tail (λ (x : ℕ). (x == 44) ≡ false) b bs h))

-- the text before the first comma
front_plain : (s : List ℕ) → IsPlain (before_first (λ b. b == 44) s)
front_plain s =
    let p = λ (b : ℕ). b == 44 in
    let each : All (λ (b : ℕ). (b == 44) ≡ false) (before_first p s) = λ k e m. let k' = fails_before_first p s k e (grind (arith, common_steps)) in grind (arith, common_steps) in
    plain (before_first p s) each

-- a text with no comma
all_plain : (s : List ℕ) → position_or_len (λ b. b == 44) s ≡ length s → IsPlain s
all_plain s none =
    let p = λ (b : ℕ). b == 44 in
    let each : All (λ (b : ℕ). (b == 44) ≡ false) s = λ k e m. let k' = fails_before_first p s k e (omega (arith, none, m)) in grind (arith, common_steps) in
    plain s each

digits_plain : (ds : List ℕ) → AllDigits 10 ds → IsPlain ds
unfolding IsPlain
digits_plain [] h = tt
digits_plain (d ∷ ds) h = (other d h.0, digits_plain ds h.1)
  where
    other : (d : ℕ) → digit_value d < 10 → (d == 44) ≡ false
    other d h = by (d == 44) refl
      where
        by : (b : Bool) → (d == 44) ≡ b → b ≡ false
        by false e = refl
        by true e = let comma : d ≡ 44 = equal d 44 e in let high : digit_value 44 < 10 = rw comma at h in absurd (omega arith)

decimal_plain : (n : ℕ) → n < 2 ^ 64 → IsPlain (decimal n)
decimal_plain n h = digits_plain (decimal n) (decimal_is_IsNumeral n h).0.1

-- a list is cut at its first comma in one way
first_cut : (a u b v : List ℕ) → IsPlain a → IsPlain b → a ++ (44 ∷ u) ≡ b ++ (44 ∷ v) → (a ≡ b) × (u ≡ v)
unfolding IsPlain
first_cut [] u [] v p q e = (refl, cc)
first_cut [] u (y ∷ b) v p q e = let same : 44 ≡ y = cc in let bad : (44 == 44) ≡ false = rw (← same) at q.0 in absurd cc
first_cut (x ∷ a) u [] v p q e = let same : 44 ≡ x = cc in let bad : (44 == 44) ≡ false = rw (← same) at p.0 in absurd cc
first_cut (x ∷ a) u (y ∷ b) v p q e =
    let rest = first_cut a u b v p.1 q.1 cc in
    let same : x ≡ y = cc in
    (rw (same, rest.0) refl, rest.1)

-- a list with a comma more after it
closed : (m : ℕ) (ms : List ℕ) → list_text (m ∷ ms) ++ 44 ∷ [] ≡ fronts (m ∷ ms)
unfolding fronts
closed m [] = sym (append-nil (decimal m ++ 44 ∷ []))
closed m (k ∷ ks) =
    append_assoc (decimal m) (44 ∷ list_text (k ∷ ks)) (44 ∷ []) ∙ ap (λ (t : List ℕ). decimal m ++ (44 ∷ t)) (closed k ks)
    ∙ sym (append_assoc (decimal m) (44 ∷ []) (fronts (k ∷ ks)))

something : (a b : List ℕ) → a ++ (44 ∷ b) ≡ [] → ⊥
something [] b e = absurd cc
something (x ∷ a) b e = absurd cc

Below : List ℕ → Type 0
Below ns = All (λ (n : ℕ). n < 2 ^ 32) ns

-- the text after the first numbers is one of further numbers
cut_off : (xs ms r : List ℕ) → Below xs → Below ms → fronts xs ++ r ≡ fronts ms → (ks : List ℕ) × Below ks × (r ≡ fronts ks)
unfolding fronts Below
cut_off [] ms r p q e = (ms, q, e)
cut_off (x ∷ xs) [] r p q e = absurd (something (decimal x) (fronts xs ++ r) (sym (behind (decimal x) (fronts xs) r) ∙ e))
cut_off (x ∷ xs) (m ∷ ms) r p q e =
    let whole : decimal x ++ (44 ∷ (fronts xs ++ r)) ≡ decimal m ++ (44 ∷ fronts ms) =
    sym (behind (decimal x) (fronts xs) r) ∙ e ∙ append_assoc (decimal m) (44 ∷ []) (fronts ms) in
    let x_low : x < 2 ^ 32 = All-head (λ (n : ℕ). n < 2 ^ 32) x xs p in
    let m_low : m < 2 ^ 32 = All-head (λ (n : ℕ). n < 2 ^ 32) m ms q in
    let cut = first_cut (decimal x) (fronts xs ++ r) (decimal m) (fronts ms) (decimal_plain x (omega arith)) (decimal_plain m (omega arith)) whole in
    cut_off xs ms r (All-tail (λ (n : ℕ). n < 2 ^ 32) x xs p) (All-tail (λ (n : ℕ). n < 2 ^ 32) m ms q) cut.1

no_number : (piece u ks : List ℕ) → IsPlain piece → ((n : ℕ) → n < 2 ^ 32 → decimal n ≢ piece) → Below ks → piece ++ (44 ∷ u) ≡ fronts ks → ⊥
unfolding fronts Below
no_number piece u [] p none below e = something piece u e
no_number piece u (k ∷ ks) p none below e =
    let low : k < 2 ^ 32 = All-head (λ (n : ℕ). n < 2 ^ 32) k ks below in
    let cut = first_cut piece u (decimal k) (fronts ks) p (decimal_plain k (omega arith)) (e ∙ append_assoc (decimal k) (44 ∷ []) (fronts ks)) in
    none k low (sym cut.0)

not_listed : (text rest xs piece u ms : List ℕ) → text ≡ fronts xs ++ rest → rest ++ 44 ∷ [] ≡ piece ++ (44 ∷ u) → IsPlain piece → All (λ (n : ℕ). n < 2 ^ 32) xs →
    ((n : ℕ) → n < 2 ^ 32 → decimal n ≢ piece) → IsListText text ms → ⊥
unfolding Below
not_listed text rest xs piece u [] whole cut p below none is = let some = is.some in absurd (omega arith)
not_listed text rest xs piece u (m ∷ ms) whole cut p below none is =
    let all : fronts xs ++ (rest ++ 44 ∷ []) ≡ fronts (m ∷ ms) =
    sym (append_assoc (fronts xs) rest (44 ∷ [])) ∙ ap (λ (t : List ℕ). t ++ 44 ∷ []) (sym whole ∙ sym is.spelled) ∙ closed m ms in
    let left = cut_off xs (m ∷ ms) (rest ++ 44 ∷ []) below is.below all in
    no_number piece u left.0 p none left.1 (sym cut ∙ left.2)

-- a piece before a comma that spells no number
pub bad_piece : (text rest piece xs : List ℕ) → text ≡ fronts xs ++ rest → piece ≡ before_first (λ b. b == 44) rest → position_or_len (λ b. b == 44) rest < length rest →
    All (λ (n : ℕ). n < 2 ^ 32) xs → ((n : ℕ) → n < 2 ^ 32 → decimal n ≢ piece) → IsNoList text
bad_piece text rest piece xs whole front inside below none =
    λ ms is.
    let more = after_first (λ (b : ℕ). b == 44) rest in
    let p : IsPlain piece = rw front (front_plain rest) in
    let parts : rest ≡ piece ++ (44 ∷ more) = rw front (cut_at_comma rest inside) in
    let cut : rest ++ 44 ∷ [] ≡ piece ++ (44 ∷ (more ++ 44 ∷ [])) = ap (λ (t : List ℕ). t ++ 44 ∷ []) parts ∙ append_assoc piece (44 ∷ more) (44 ∷ []) in
    not_listed text rest xs piece (more ++ 44 ∷ []) ms whole cut p below none is

-- a last piece that spells none
pub bad_last : (text rest xs : List ℕ) → text ≡ fronts xs ++ rest → position_or_len (λ b. b == 44) rest ≡ length rest → All (λ (n : ℕ). n < 2 ^ 32) xs →
    ((n : ℕ) → n < 2 ^ 32 → decimal n ≢ rest) → IsNoList text
bad_last text rest xs whole end below none = λ ms is. not_listed text rest xs rest [] ms whole refl (all_plain rest end) below none is

-- a number more that is below the limit
pub all_more : (xs ys : List ℕ) (n : ℕ) → All (λ (x : ℕ). x < 2 ^ 32) xs → n < 2 ^ 32 → ys ≡ xs ++ n ∷ [] → All (λ (x : ℕ). x < 2 ^ 32) ys
all_more xs ys n below low grown =
    let P = λ (x : ℕ). x < 2 ^ 32 in
    let one : All P (n ∷ []) = only in
    rw grown (All-append P xs (n ∷ []) below one)
  where
    only : All (λ (x : ℕ). x < 2 ^ 32) (n ∷ [])
    only zero d h = low
    only (suc i) d h = absurd (omega arith)

-- a list whose last number is read
pub listed : (text rest xs ys : List ℕ) (n : ℕ) → text ≡ fronts xs ++ rest → All (λ (x : ℕ). x < 2 ^ 32) xs → n < 2 ^ 32 → decimal n ≡ rest → ys ≡ xs ++ n ∷ [] → IsListText text ys
listed text rest xs ys n whole below low spelled grown = record {
  some = rw (grown, length-append) (omega arith);
  below = all_more xs ys n below low grown;
  spelled = last_one text rest xs ys n whole spelled grown;
}

-- a refusal of a piece is one of its list
pub told : (piece text : List ℕ) (e : ToolError) → (((n : ℕ) → n < 2 ^ 32 → decimal n ≢ piece) → IsNoList text) → IsPieceRefusal piece e → IsListRefusal text e
told piece text e none (inl h) = inl (h.0, none h.1)
told piece text e none (inr h) = inr h
