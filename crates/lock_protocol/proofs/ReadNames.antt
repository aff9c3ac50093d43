-- A name is read just as it is spelled.
use Rattle.std.proofs.Common.{◌≡◌, ℕ, zero, suc, ◌<◌, ◌≤◌, Bool, true, false, ◌&&◌, eqb, List, [], ◌∷◌, ◌++◌, length, take, drop, Ok, Err, refl, sym, ap, subst, ◌∙◌, append_assoc, inl, inr, arith, ◌+◌, IsTrue}
use Rattle.std.specs.Prelude.{slice_index, nat_lt, nat_le, nat_eq, if◌then◌else◌}
use Rattle.std.proofs.lemmas.Bool.{false≢true, ltb-true, leb-true, lt-ltb, le-leb, eqb-true, eq-eqb}
use Rattle.std.proofs.lemmas.List.{take-append-drop, drop_more}
use Rattle.text_lines.proofs.Basics.{chosen, ok_is, same_eqb}
use Rattle.text_lines.proofs.Spellings.{Hears}
use Rattle.text_lines.specs.declared.fault.Fault.TheVariants.{Bad}
use Rattle.lock_protocol.specs.Names.{most_name, is_name_byte, IsName}
use Rattle.lock_protocol.specs.NameReading.{leading, is_length, ended_name, name_at}

-- ---- the bytes that a name may have

lead : ℕ → List ℕ → Bool → ℕ
lead b bs c = if c then suc (leading bs) else 0

pub leading_most : (bytes : List ℕ) → leading bytes ≤ length bytes
unfolding leading lead
leading_most [] = omega arith
leading_most (b ∷ bs) = go (is_name_byte b) (leading_most bs)
  where
    go : (c : Bool) → leading bs ≤ length bs → lead b bs c ≤ suc (length bs)
    go true l = omega (arith, l)
    go false l = omega arith

-- those that come first are such bytes
pub leading_each : (bytes : List ℕ) (i : ℕ) → i < leading bytes → is_name_byte (slice_index bytes i) ≡ true
unfolding leading lead
leading_each [] i l = absurd (omega (arith, l))
leading_each (b ∷ bs) i l = go (is_name_byte b) refl (leading_each bs) i l
  where
    go : (c : Bool) → is_name_byte b ≡ c → ((j : ℕ) → j < leading bs → is_name_byte (slice_index bs j) ≡ true) → (i : ℕ) → i < lead b bs c → is_name_byte (slice_index (b ∷ bs) i) ≡ true
    go true e rest zero l = e
    go true e rest (suc i) l = rest i (omega (arith, l))
    go false e rest i l = absurd (omega (arith, l))

-- such bytes come first, up to one that is none
pub leading_stop : (name : List ℕ) (stop : ℕ) (rest : List ℕ) → ((i : ℕ) → i < length name → is_name_byte (slice_index name i) ≡ true) → is_name_byte stop ≡ false → leading (name ++ stop ∷ rest) ≡ length name
unfolding leading
leading_stop [] stop rest each other = rw other refl
leading_stop (b ∷ bs) stop rest each other = rw (each 0 (omega arith)) (ap suc (leading_stop bs stop rest (λ i l. each (suc i) (omega (arith, l))) other))

-- a list of such bytes
pub leading_whole : (name : List ℕ) → ((i : ℕ) → i < length name → is_name_byte (slice_index name i) ≡ true) → leading name ≡ length name
unfolding leading
leading_whole [] each = refl
leading_whole (b ∷ bs) each = rw (each 0 (omega arith)) (ap suc (leading_whole bs (λ i l. each (suc i) (omega (arith, l)))))

each_taken : (bytes : List ℕ) (i : ℕ) → i < length (take (leading bytes) bytes) → is_name_byte (slice_index (take (leading bytes) bytes) i) ≡ true
unfolding leading lead
each_taken [] i l = absurd (omega (arith, l))
each_taken (b ∷ bs) i l = go (is_name_byte b) refl (each_taken bs) i l
  where
    go : (c : Bool) → is_name_byte b ≡ c → ((j : ℕ) → j < length (take (leading bs) bs) → is_name_byte (slice_index (take (leading bs) bs) j) ≡ true) → (i : ℕ) → i < length (take (lead b bs c) (b ∷ bs)) → is_name_byte (slice_index (take (lead b bs c) (b ∷ bs)) i) ≡ true
    go true e rest zero l = e
    go true e rest (suc i) l = rest i (omega (arith, l))
    go false e rest i l = absurd (omega (arith, l))

-- the bytes from a place on
pub leading_other : (bytes : List ℕ) (i : ℕ) → i < length bytes → is_name_byte (slice_index bytes i) ≡ false → leading (drop i bytes) ≡ 0
unfolding leading
leading_other bytes i l e = rw (drop_more bytes i 0 l, e) refl

pub leading_more : (bytes : List ℕ) (i : ℕ) → i < length bytes → is_name_byte (slice_index bytes i) ≡ true → leading (drop i bytes) ≡ suc (leading (drop (i + 1) bytes))
unfolding leading
leading_more bytes i l e = rw (drop_more bytes i 0 l, e) refl

pub leading_end : (bytes : List ℕ) (i : ℕ) → length bytes ≤ i → leading bytes ≡ i + leading (drop i bytes) → length bytes ≡ leading bytes
leading_end bytes i le e = let most = leading_most bytes in omega (arith, le, e, most)

-- ---- how many they may be

both_true : (a b : Bool) → (a && b) ≡ true → (a ≡ true) × (b ≡ true)
both_true true b e = (refl, e)
both_true false b e = absurd (false≢true e)

pub length_is : (n : ℕ) → is_length n ≡ true → (0 < n) × (n ≤ most_name)
length_is n e = let b = both_true (nat_lt 0 n) (nat_le n most_name) e in (ltb-true 0 n b.0, leb-true n most_name b.1)

pub is_long : (n : ℕ) → 0 < n → n ≤ most_name → is_length n ≡ true
is_long n some most = rw (lt-ltb 0 n some, le-leb n most_name most) refl

-- a name, by what is counted of it
pub name_if : (name : List ℕ) → is_length (length name) ≡ true → leading name ≡ length name → IsName name
name_if name l e = let b = length_is (length name) l in record { some = b.0; most = b.1; each = λ i lt. leading_each name i (subst (λ (n : ℕ). i < n) (sym e) lt) }

pub name_test : (name : List ℕ) (n : ℕ) → n ≡ leading name → is_length (length name) ≡ true → (IsTrue (nat_eq n (length name)) → IsName name) × (IsName name → IsTrue (nat_eq n (length name)))
name_test name n is l = (
  λ e. name_if name l (sym is ∙ eqb-true n (length name) e),
  λ named. eq-eqb n (length name) (is ∙ leading_whole name named.each),
)

-- ---- the reader

ended_takes : (stop : ℕ) (name tail b rest : List ℕ) → ended_name stop name tail ≡ Ok (b, rest) → (is_length (length name) ≡ true) × (b ≡ name) × (tail ≡ stop ∷ rest)
ended_takes stop name [] b rest e = absurd cc
ended_takes stop name (t ∷ ts) b rest e =
    elim (chosen (eqb t stop && is_length (length name)) (Ok (name, ts)) (Err (Bad (suc (length ts)))) (Ok (b, rest)) e) [
      | inl h ↦
          let both = both_true (eqb t stop) (is_length (length name)) h.0 in
          let same : ◌≡◌ {A = List ℕ × List ℕ} (name, ts) (b, rest) = ok_is (name, ts) (b, rest) h.1 in
          let after : ts ≡ rest = ap (λ (z : List ℕ × List ℕ). z.1) same in
          (both.1, sym (ap (λ (z : List ℕ × List ℕ). z.0) same), λ i. eqb-true t stop both.0 i ∷ after i)
      | inr h ↦ absurd cc
    ]

abbrev pub spelled : ℕ → List ℕ → List ℕ
spelled stop name = name ++ stop ∷ []

name_takes : (stop : ℕ) (bytes b rest : List ℕ) → name_at stop bytes ≡ Ok (b, rest) → (a : List ℕ) × IsName a × (a ≡ b) × (bytes ≡ spelled stop a ++ rest)
unfolding name_at
name_takes stop bytes b rest e =
    let name : List ℕ = take (leading bytes) bytes in
    let t = ended_takes stop name (drop (leading bytes) bytes) b rest e in
    let long = length_is (length name) t.0 in
    let whole : bytes ≡ spelled stop name ++ rest = sym (take-append-drop (leading bytes) bytes) ∙ (ap (λ (u : List ℕ). name ++ u) t.2 ∙ sym (append_assoc name (stop ∷ []) rest)) in
    (name, record { some = long.0; most = long.1; each = each_taken bytes }, sym t.1, whole)

take_front : (a b : List ℕ) → take (length a) (a ++ b) ≡ a
take_front [] b = refl
take_front (x ∷ a) b = ap (λ (u : List ℕ). x ∷ u) (take_front a b)

drop_front : (a b : List ℕ) → drop (length a) (a ++ b) ≡ b
drop_front [] b = refl
drop_front (x ∷ a) b = drop_front a b

name_again : (stop : ℕ) → is_name_byte stop ≡ false → (a rest : List ℕ) → IsName a → name_at stop (spelled stop a ++ rest) ≡ Ok (a, rest)
unfolding name_at
name_again stop other a rest is =
    let n : leading (a ++ stop ∷ rest) ≡ length a = leading_stop a stop rest is.each other in
    let front : take (leading (a ++ stop ∷ rest)) (a ++ stop ∷ rest) ≡ a = ap (λ (k : ℕ). take k (a ++ stop ∷ rest)) n ∙ take_front a (stop ∷ rest) in
    let tail : drop (leading (a ++ stop ∷ rest)) (a ++ stop ∷ rest) ≡ stop ∷ rest = ap (λ (k : ℕ). drop k (a ++ stop ∷ rest)) n ∙ drop_front a (stop ∷ rest) in
    ap (name_at stop) (append_assoc a (stop ∷ []) rest)
    ∙ (ap (λ (u : List ℕ). ended_name stop u (drop (leading (a ++ stop ∷ rest)) (a ++ stop ∷ rest))) front
    ∙ (ap (λ (u : List ℕ). ended_name stop a u) tail ∙ rw (same_eqb stop, is_long (length a) is.some is.most) refl))

pub name_hears : (stop : ℕ) → is_name_byte stop ≡ false → Hears (λ (n : List ℕ). n) IsName (spelled stop) (name_at stop)
name_hears stop other = record { takes = name_takes stop; again = name_again stop other }
