-- Readers of several kinds, chosen by the first byte.
use Rattle.std.proofs.Common.{◌≡◌, ◌≢◌, ℕ, suc, eqb, List, [], ◌∷◌, ◌++◌, length, Ok, Err, refl, sym, ap, ◌∙◌, ◌⊎◌, inl, inr}
use Rattle.std.specs.List.{AllByRecursion}
use Rattle.std.proofs.lemmas.Bool.{ne_eqb}
use Rattle.text_lines.specs.declared.fault.Fault.TheVariants.{Short, Bad}
use Rattle.text_lines.specs.Reading.{Reader, Branch, or_at, none_at, choice_at}
use Rattle.text_lines.specs.Grammar.{Reads, ShortOf, BadAt, StartsWith, IsOfBranch, ReadsBranch, AreApart}
use Rattle.text_lines.proofs.Basics.{some_by, chosen, same_eqb, same_head}
use Rattle.text_lines.proofs.Sequences.{said_reads}

-- ---- one kind, and then others

module _ (A : Type 0) (s : A → List ℕ) (F : A → Type 0) (at : Reader A) (G : A → Type 0) (also : Reader A)
    (first : Reads F s at) (second : Reads G s also) (c : ℕ)
    (begins : (a : A) → F a → StartsWith c (s a)) (begins_not : (a : A) → G a → (d : ℕ) × (u : List ℕ) × (s a ≡ d ∷ u) × (d ≢ c)) where
  abbrev FG : A → Type 0
  FG a = F a ⊎ G a

  or_takes : (bytes : List ℕ) (a : A) (rest : List ℕ) → or_at c at also bytes ≡ Ok (a, rest) → FG a × (bytes ≡ s a ++ rest)
  or_takes [] a rest e = absurd cc
  or_takes (b ∷ bs) a rest e =
      elim (chosen (eqb b c) (at (b ∷ bs)) (also (b ∷ bs)) (Ok (a, rest)) e) [
        | inl h ↦ let t = first.takes (b ∷ bs) a rest h.1 in (inl t.0, t.1)
        | inr h ↦ let t = second.takes (b ∷ bs) a rest h.1 in (inr t.0, t.1)
      ]

  or_again : (a : A) (rest : List ℕ) → FG a → or_at c at also (s a ++ rest) ≡ Ok (a, rest)
  or_again a rest (inl f) =
      let u = begins a f in
      let again : at (c ∷ (u.0 ++ rest)) ≡ Ok (a, rest) = ap (λ (l : List ℕ). at (l ++ rest)) (sym u.1) ∙ first.again a rest f in
      ap (λ (l : List ℕ). or_at c at also (l ++ rest)) u.1 ∙ rw (same_eqb c) again
  or_again a rest (inr f) =
      let u = begins_not a f in
      let again : also (u.0 ∷ (u.1 ++ rest)) ≡ Ok (a, rest) = ap (λ (l : List ℕ). also (l ++ rest)) (sym u.2) ∙ second.again a rest f in
      ap (λ (l : List ℕ). or_at c at also (l ++ rest)) u.2 ∙ rw (ne_eqb u.0 c u.3) again

  or_short : (bytes : List ℕ) → or_at c at also bytes ≡ Err Short → ShortOf FG s bytes
  or_short [] e = let k = some_by F s at first (at []) refl in record { value = k.value; more = s k.value; fits = inl k.fits; viable = refl }
  or_short (b ∷ bs) e =
      elim (chosen (eqb b c) (at (b ∷ bs)) (also (b ∷ bs)) (Err Short) e) [
        | inl h ↦ let x = first.short (b ∷ bs) h.1 in record { value = x.value; more = x.more; fits = inl x.fits; viable = x.viable }
        | inr h ↦ let x = second.short (b ∷ bs) h.1 in record { value = x.value; more = x.more; fits = inr x.fits; viable = x.viable }
      ]

  or_bad : (bytes : List ℕ) (n : ℕ) → or_at c at also bytes ≡ Err (Bad n) → BadAt FG s (or_at c at also) bytes
  or_bad [] n e = absurd cc
  or_bad (b ∷ bs) n e =
      elim (chosen (eqb b c) (at (b ∷ bs)) (also (b ∷ bs)) (Err (Bad n)) e) [
        | inl h ↦ let x = first.bad (b ∷ bs) n h.1 in
            record {
              front = x.front;
              byte = x.byte;
              back = x.back;
              value = x.value;
              more = x.more;
              parts = x.parts;
              fits = inl x.fits;
              viable = x.viable;
              dead = λ w. let u = same_head x.front x.byte x.back b bs w x.parts in
                  let d : at (b ∷ u.0) ≡ Err (Bad (suc (length w))) = ap at (sym u.1) ∙ x.dead w in
                  ap (or_at c at also) u.1 ∙ rw h.0 d;
            }
        | inr h ↦ let x = second.bad (b ∷ bs) n h.1 in
            record {
              front = x.front;
              byte = x.byte;
              back = x.back;
              value = x.value;
              more = x.more;
              parts = x.parts;
              fits = inr x.fits;
              viable = x.viable;
              dead = λ w. let u = same_head x.front x.byte x.back b bs w x.parts in
                  let d : also (b ∷ u.0) ≡ Err (Bad (suc (length w))) = ap also (sym u.1) ∙ x.dead w in
                  ap (or_at c at also) u.1 ∙ rw h.0 d;
            }
      ]

  or_law : Reads FG s (or_at c at also)
  or_law = record { takes = or_takes; again = or_again; short = or_short; bad = or_bad }

-- ---- only one kind

module _ (A : Type 0) (s : A → List ℕ) (F : A → Type 0) (at : Reader A) (first : Reads F s at) (c : ℕ) (begins : (a : A) → F a → StartsWith c (s a)) where
  one_takes : (bytes : List ℕ) (a : A) (rest : List ℕ) → or_at c at none_at bytes ≡ Ok (a, rest) → F a × (bytes ≡ s a ++ rest)
  one_takes [] a rest e = absurd cc
  one_takes (b ∷ bs) a rest e =
      elim (chosen (eqb b c) (at (b ∷ bs)) (none_at (b ∷ bs)) (Ok (a, rest)) e) [
        | inl h ↦ first.takes (b ∷ bs) a rest h.1
        | inr h ↦ let d = h.1 in absurd cc
      ]

  one_again : (a : A) (rest : List ℕ) → F a → or_at c at none_at (s a ++ rest) ≡ Ok (a, rest)
  one_again a rest f =
      let u = begins a f in
      let again : at (c ∷ (u.0 ++ rest)) ≡ Ok (a, rest) = ap (λ (l : List ℕ). at (l ++ rest)) (sym u.1) ∙ first.again a rest f in
      ap (λ (l : List ℕ). or_at c at none_at (l ++ rest)) u.1 ∙ rw (same_eqb c) again

  one_short : (bytes : List ℕ) → or_at c at none_at bytes ≡ Err Short → ShortOf F s bytes
  one_short [] e = some_by F s at first (at []) refl
  one_short (b ∷ bs) e =
      elim (chosen (eqb b c) (at (b ∷ bs)) (none_at (b ∷ bs)) (Err Short) e) [
        | inl h ↦ first.short (b ∷ bs) h.1
        | inr h ↦ let d = h.1 in absurd cc
      ]

  one_bad : (bytes : List ℕ) (n : ℕ) → or_at c at none_at bytes ≡ Err (Bad n) → BadAt F s (or_at c at none_at) bytes
  one_bad [] n e = absurd cc
  one_bad (b ∷ bs) n e =
      elim (chosen (eqb b c) (at (b ∷ bs)) (none_at (b ∷ bs)) (Err (Bad n)) e) [
        | inl h ↦ let x = first.bad (b ∷ bs) n h.1 in
            record {
              front = x.front;
              byte = x.byte;
              back = x.back;
              value = x.value;
              more = x.more;
              parts = x.parts;
              fits = x.fits;
              viable = x.viable;
              dead = λ w. let u = same_head x.front x.byte x.back b bs w x.parts in
                  let d : at (b ∷ u.0) ≡ Err (Bad (suc (length w))) = ap at (sym u.1) ∙ x.dead w in
                  ap (or_at c at none_at) u.1 ∙ rw h.0 d;
            }
        | inr h ↦ let k = some_by F s at first (at []) refl in
            record { front = []; byte = b; back = bs; value = k.value; more = s k.value; parts = refl; fits = k.fits; viable = refl; dead = λ w. rw h.0 refl }
      ]

  one_law : Reads F s (or_at c at none_at)
  one_law = record { takes = one_takes; again = one_again; short = one_short; bad = one_bad }

-- ---- all of them

-- a text that begins with the byte of one of these begins with no other byte
begins_apart : {A : Type 0} (c : ℕ) (rs : List (Branch A)) (text : List ℕ) → AllByRecursion (λ q. q.byte ≢ c) rs → IsOfBranch rs text → (d : ℕ) × (u : List ℕ) × (text ≡ d ∷ u) × (d ≢ c)
begins_apart c [] text apart is = absurd is
begins_apart c (r ∷ rs) text apart (inl b) = (r.byte, b.0, b.1, apart.0)
begins_apart c (r ∷ rs) text apart (inr is) = begins_apart c rs text apart.1 is

module _ {A : Type 0} (Fits : A → Type 0) (s : A → List ℕ) where
  choice_law : (r : Branch A) (rs : List (Branch A)) → AllByRecursion (ReadsBranch Fits s) (r ∷ rs) → AreApart (r ∷ rs) → Reads (λ a. Fits a × IsOfBranch (r ∷ rs) (s a)) s (choice_at (r ∷ rs))
  choice_law r [] reads apart = said_reads (λ a. Fits a × IsOfBranch (r ∷ []) (s a)) s
      (λ a f. (f.0, inl f.1)) back (λ a f. refl)
      (one_law A s (λ a. Fits a × StartsWith r.byte (s a)) r.at reads.0 r.byte (λ a f. f.1))
    where
      back : (a : A) → Fits a × IsOfBranch (r ∷ []) (s a) → Fits a × StartsWith r.byte (s a)
      back a (f, inl b) = (f, b)
      back a (f, inr none) = absurd none
  choice_law r (q ∷ rs) reads apart = said_reads (λ a. Fits a × IsOfBranch (r ∷ q ∷ rs) (s a)) s to back (λ a f. refl)
      (or_law A s (λ a. Fits a × StartsWith r.byte (s a)) r.at (λ a. Fits a × IsOfBranch (q ∷ rs) (s a)) (choice_at (q ∷ rs)) reads.0 (choice_law q rs reads.1 apart.1) r.byte
      (λ a f. f.1) (λ a f. begins_apart r.byte (q ∷ rs) (s a) apart.0 f.1))
    where
      to : (a : A) → (Fits a × StartsWith r.byte (s a)) ⊎ (Fits a × IsOfBranch (q ∷ rs) (s a)) → Fits a × IsOfBranch (r ∷ q ∷ rs) (s a)
      to a (inl f) = (f.0, inl f.1)
      to a (inr f) = (f.0, inr f.1)

      back : (a : A) → Fits a × IsOfBranch (r ∷ q ∷ rs) (s a) → (Fits a × StartsWith r.byte (s a)) ⊎ (Fits a × IsOfBranch (q ∷ rs) (s a))
      back a (f, inl b) = inl (f, b)
      back a (f, inr is) = inr (f, is)

-- Each branch reads what fits and begins with its byte, no two have one byte, and all that fits begins with one of the bytes.
pub choice_reads : {A : Type 0} (Fits : A → Type 0) (s : A → List ℕ) (r : Branch A) (rs : List (Branch A)) → AllByRecursion (ReadsBranch Fits s) (r ∷ rs) → AreApart (r ∷ rs)
    → ((a : A) → Fits a → IsOfBranch (r ∷ rs) (s a)) → Reads Fits s (choice_at (r ∷ rs))
choice_reads Fits s r rs reads apart all = said_reads Fits s (λ a f. f.0) (λ a f. (f, all a f)) (λ a f. refl) (choice_law Fits s r rs reads apart)

abbrev first_of : List ℕ → ℕ
first_of [] = 0
first_of (b ∷ bs) = b

-- a text that begins with one byte begins with no other one
pub starts_otherwise : (c d : ℕ) (u : List ℕ) → c ≢ d → StartsWith d (c ∷ u) → ⊥
starts_otherwise c d u other starts = other (ap first_of starts.1)
