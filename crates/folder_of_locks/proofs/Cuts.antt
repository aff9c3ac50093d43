-- Texts that are cut at their first mark.
use Rattle.std.proofs.Common.{◌≡◌, ◌≢◌, ◌∙◌, inl, inr, ℕ, zero, suc, ◌+◌, ◌<◌, ◌≤◌, ◌^◌, true, false, List, [], ◌∷◌, ◌++◌, length, get_or, Option, None, Some, refl, sym, ap, subst, append-nil, length-append, arith}
use Rattle.std.specs.Prelude.{decimal, MatchOption, slice_index}
use Rattle.std.specs.Int.{IsInRange}
use Rattle.std.specs.Str.Parse.{digits_value}
use Rattle.std.proofs.lemmas.Bool.{false≢true}
use Rattle.std.proofs.lemmas.List.{get_or-append-add}
use Rattle.std.proofs.lemmas.Fmt.{digits_decimal}
use Rattle.std.proofs.lemmas.Str.Parse.{IsNumeralModel, numerals_by_value, tells_by_index}
use Rattle.text_lines.specs.Reading.{is_digit}
use Rattle.text_lines.proofs.Decimals.{is_digit_at}
use Rattle.lock_protocol.specs.Names.{IsName, is_name_byte}
use Rattle.folder_of_locks.specs.Lists.{Listed, IsSizeText, IsLockText}
use Rattle.folder_of_locks.specs.ListSteps.{IsMark, IsAfterName, IsPlain, IsCut, AreMarks}

-- a mark is not a byte of a plain text
pub not_in : (m : ℕ) (a b : List ℕ) → IsPlain m (a ++ m ∷ b) → ⊥
not_in m a b p =
    let at : get_or (a ++ m ∷ b) (length a + 0) 0 ≡ m = get_or-append-add a (m ∷ b) 0 0 in
    p.each (length a + 0) (omega (arith, length-append a (m ∷ b))) at

plain_tail : (m x : ℕ) (a : List ℕ) → IsPlain m (x ∷ a) → IsPlain m a
plain_tail m x a p = record { each = λ i h. p.each (suc i) (omega arith) }

-- a text is cut at its first mark in one way
pub first_cut : (m : ℕ) (a u b v : List ℕ) → IsPlain m a → IsPlain m b → a ++ m ∷ u ≡ b ++ m ∷ v → (a ≡ b) × (u ≡ v)
first_cut m [] u [] v p q e = (refl, cc)
first_cut m [] u (y ∷ b) v p q e = let same : y ≡ m = cc in absurd (q.each 0 (omega arith) same)
first_cut m (x ∷ a) u [] v p q e = let same : x ≡ m = cc in absurd (p.each 0 (omega arith) same)
first_cut m (x ∷ a) u (y ∷ b) v p q e =
    let rest = first_cut m a u b v (plain_tail m x a p) (plain_tail m y b q) cc in
    let same : x ≡ y = cc in
    (rw (same, rest.0) refl, rest.1)

-- a name has no mark, and a number has none
pub name_plain : (m : ℕ) (name : List ℕ) → IsMark m → IsName name → IsPlain m name
name_plain m name mark is = record { each = λ i h same. false≢true (sym mark.name ∙ subst (λ (b : ℕ). is_name_byte b ≡ true) same (is.each i h)) }

digit_at : (m b : ℕ) → is_digit m ≡ false → 48 ≤ b → b ≤ 57 → b ≢ m
digit_at m b none low high same = false≢true (sym none ∙ subst (λ (x : ℕ). is_digit x ≡ true) same (is_digit_at b (record { low = low; high = high })))

pub decimal_plain : (m n : ℕ) → IsMark m → n < 2 ^ 64 → IsPlain m (decimal n)
decimal_plain m n mark h = record { each = λ i lt. let d = digits_decimal by_index n h i lt in digit_at m (slice_index (decimal n) i) mark.digit d.0 d.1 }
  where
    by_index : IsNumeralModel (λ ds. (i : ℕ) → i < length ds → IsInRange 48 57 (get_or ds i 0)) (digits_value 10)
    by_index = numerals_by_value (λ ds. (i : ℕ) → i < length ds → IsInRange 48 57 (get_or ds i 0)) tells_by_index

-- what `split_once` gives
pub cut_at : (m : ℕ) (bytes before after : List ℕ) → m < 128 → bytes ≡ before ++ m ∷ after → ((i : ℕ) → i < length before → get_or before i 0 ≢ m) → IsCut m bytes before (Some after)
cut_at m bytes before after low is plain = (is, record { each = plain })

none : (x : ℕ) (xs : List ℕ) → x ∷ xs ≡ [] → ⊥
none x xs e = absurd cc

head : (x m : ℕ) (xs ys : List ℕ) → x ∷ xs ≡ m ∷ ys → x ≡ m
head x m xs ys e = cc

begins : (m x n k : ℕ) (size : List ℕ) → IsSizeText m (x ∷ size) n k → x ≡ m
begins m x n k size (inl z) = absurd (none x size z.0)
begins m x n k size (inr (inl z)) = head x m size _ z.0
begins m x n k size (inr (inr z)) = head x m size _ z

-- where a lock's text is cut: its name, and what comes after it
pub parts : (m : ℕ) (text before : List ℕ) (after : Option (List ℕ)) (l : Listed) (size : List ℕ) → IsMark m → IsName l.name → IsCut m text before after → text ≡ l.name ++ size → IsSizeText m size l.n l.k → (l.name ≡ before) × IsAfterName m after size
parts m text before None l [] mark name cut s z = (sym (append-nil l.name) ∙ sym s ∙ cut.0, refl)
parts m text before None l (x ∷ size) mark name cut s z =
    absurd (not_in m l.name size (subst (IsPlain m) (sym cut.0 ∙ s ∙ ap (λ (b : ℕ). l.name ++ b ∷ size) (begins m x l.n l.k size z)) cut.1))
parts m text before (Some after) l [] mark name cut s z =
    absurd (not_in m before after (subst (IsPlain m) (sym (append-nil l.name) ∙ sym s ∙ cut.0) (name_plain m l.name mark name)))
parts m text before (Some after) l (x ∷ size) mark name cut s z =
    let same = begins m x l.n l.k size z in
    let whole : l.name ++ m ∷ size ≡ before ++ m ∷ after = ap (λ (b : ℕ). l.name ++ b ∷ size) (sym same) ∙ sym s ∙ cut.0 in
    let both = first_cut m l.name size before after (name_plain m l.name mark name) cut.1 whole in
    (both.0, rw (same, both.1) refl)

-- the text of a lock, put together
pub whole : (m : ℕ) (text before size : List ℕ) (after : Option (List ℕ)) → IsCut m text before after → IsAfterName m after size → text ≡ before ++ size
whole m text before size None cut is = cut.0 ∙ sym (append-nil before) ∙ ap (λ (t : List ℕ). before ++ t) (sym is)
whole m text before size (Some after) cut is = cut.0 ∙ ap (λ (t : List ℕ). before ++ t) (sym is)

-- what comes after a name, if it is known
pub after_size : ℕ → Option (List ℕ) → List ℕ
after_size m None = []
after_size m (Some after) = m ∷ after

pub is_after : (m : ℕ) (after : Option (List ℕ)) → IsAfterName m after (after_size m after)
unfolding after_size
is_after m None = refl
is_after m (Some after) = refl

-- no two numbers are spelled so, where the texts before and after the mark are not theirs
pub no_both : (m : ℕ) (text a b t : List ℕ) (n k : ℕ) → IsMark m → text ≡ a ++ m ∷ b → IsPlain m a → t ≡ m ∷ text → n < 2 ^ 32 → k < 2 ^ 32 → (decimal n ≡ a → decimal k ≢ b) → ¬ IsSizeText m t n k
no_both m text a b t n k mark cut plain is low high other (inl z) = absurd (none m text (sym is ∙ z.0))
no_both m text a b t n k mark cut plain is low high other (inr (inl z)) =
    let same : text ≡ decimal n = tails (sym is ∙ z.0) in
    not_in m a b (subst (IsPlain m) (sym same ∙ cut) (decimal_plain m n mark (omega arith)))
  where
    tails : m ∷ text ≡ m ∷ decimal n → text ≡ decimal n
    tails e = cc
no_both m text a b t n k mark cut plain is low high other (inr (inr z)) =
    let same : text ≡ decimal n ++ m ∷ decimal k = tails (sym is ∙ z) in
    let both = first_cut m (decimal n) (decimal k) a b (decimal_plain m n mark (omega arith)) plain (sym same ∙ cut) in
    other both.0 both.1
  where
    tails : m ∷ text ≡ m ∷ (decimal n ++ m ∷ decimal k) → text ≡ decimal n ++ m ∷ decimal k
    tails e = cc

-- nor one number
pub no_one : (m : ℕ) (text t : List ℕ) (n k : ℕ) → IsMark m → IsPlain m text → t ≡ m ∷ text → decimal n ≢ text → ¬ IsSizeText m t n k
no_one m text t n k mark plain is other (inl z) = absurd (none m text (sym is ∙ z.0))
no_one m text t n k mark plain is other (inr (inl z)) = other (sym (tails (sym is ∙ z.0)))
  where
    tails : m ∷ text ≡ m ∷ decimal n → text ≡ decimal n
    tails e = cc
no_one m text t n k mark plain is other (inr (inr z)) = not_in m (decimal n) (decimal k) (subst (IsPlain m) (tails (sym is ∙ z)) plain)
  where
    tails : m ∷ text ≡ m ∷ (decimal n ++ m ∷ decimal k) → text ≡ decimal n ++ m ∷ decimal k
    tails e = cc

pub plain_cons : (m x : ℕ) (a : List ℕ) → x ≢ m → IsPlain m a → IsPlain m (x ∷ a)
plain_cons m x a other p = record { each = by }
  where
    by : (i : ℕ) → i < length (x ∷ a) → slice_index (x ∷ a) i ≢ m
    by zero h = other
    by (suc i) h = p.each i (omega arith)

pub plain_append : (m : ℕ) (a b : List ℕ) → IsPlain m a → IsPlain m b → IsPlain m (a ++ b)
plain_append m [] b p q = q
plain_append m (x ∷ a) b p q = plain_cons m x (a ++ b) (p.each 0 (omega arith)) (plain_append m a b (plain_tail m x a p) q)

pub plain_nil : (m : ℕ) → IsPlain m []
plain_nil m = record { each = λ i h. absurd (omega arith) }

pub size_plain : (end mark : ℕ) (size : List ℕ) (n k : ℕ) → AreMarks end mark → n < 2 ^ 32 → k < 2 ^ 32 → IsSizeText mark size n k → IsPlain end size
size_plain end mark size n k marks low high (inl z) = subst (IsPlain end) (sym z.0) (plain_nil end)
size_plain end mark size n k marks low high (inr (inl z)) =
    subst (IsPlain end) (sym z.0) (plain_cons end mark (decimal n) (λ e. marks.apart (sym e)) (decimal_plain end n marks.end_is (omega arith)))
size_plain end mark size n k marks low high (inr (inr z)) =
    let other : mark ≢ end = λ e. marks.apart (sym e) in
    let last = plain_cons end mark (decimal k) other (decimal_plain end k marks.end_is (omega arith)) in
    subst (IsPlain end) (sym z) (plain_cons end mark (decimal n ++ mark ∷ decimal k) other (plain_append end (decimal n) (mark ∷ decimal k) (decimal_plain end n marks.end_is (omega arith)) last))

-- the text of a lock has no end of one
pub text_plain : (end mark : ℕ) (text : List ℕ) (l : Listed) → AreMarks end mark → IsLockText mark text l → IsPlain end text
text_plain end mark text l marks is =
    subst (IsPlain end) (sym is.spelled)
    (plain_append end l.name is.size (name_plain end l.name marks.end_is is.name) (size_plain end mark is.size l.n l.k marks is.machines is.values is.sized))

-- two numbers after a name, or none
pub both_numbers : (m : ℕ) (text a b : List ℕ) (r : Option (ℕ × ℕ)) → IsMark m → IsCut m text a (Some b) → MatchOption r ((n k : ℕ) → n < 2 ^ 32 → k < 2 ^ 32 → decimal n ≡ a → decimal k ≢ b) (λ x. (decimal x.0 ≡ a) × (decimal x.1 ≡ b)) →
    MatchOption r ((n k : ℕ) → n < 2 ^ 32 → k < 2 ^ 32 → (t : List ℕ) → t ≡ m ∷ text → ¬ IsSizeText m t n k) (λ x. (t : List ℕ) → t ≡ m ∷ text → IsSizeText m t x.0 x.1)
both_numbers m text a b None mark cut h = λ n k low high t is. no_both m text a b t n k mark cut.0 cut.1 is low high (h n k low high)
both_numbers m text a b (Some x) mark cut h = λ t is. inr (inr (rw (h.0, h.1) (is ∙ ap (λ (u : List ℕ). m ∷ u) cut.0)))

-- nor one
pub no_number : (m : ℕ) (text a : List ℕ) → IsMark m → IsCut m text a None → ((n : ℕ) → n < 2 ^ 32 → decimal n ≢ a) → (n k : ℕ) → n < 2 ^ 32 → k < 2 ^ 32 → (t : List ℕ) → t ≡ m ∷ text → ¬ IsSizeText m t n k
no_number m text a mark cut none n k low high t is = no_one m a t n k mark cut.1 (is ∙ ap (λ (u : List ℕ). m ∷ u) cut.0) (none n low)
