-- The meaning of the first fault for the whole bytes.
use Rattle.std.proofs.Common.{◌≡◌, ℕ, zero, suc, ◌+◌, ◌-◌, ◌≤◌, Bool, true, false, cond, eqb, List, [], ◌∷◌, ◌++◌, length, take, Result, Ok, Err, refl, sym, ap, subst, ◌∙◌, append_assoc, arith, inl, inr, length-append}
use Rattle.std.specs.List.{count_by}
use Rattle.std.proofs.lemmas.Bool.{cases_lt}
use Rattle.std.proofs.lemmas.List.{append-nil, take_at}
use Rattle.std.proofs.lemmas.List.Recursion.{is_count_by}
use Rattle.text_lines.specs.declared.fault.Fault.TheVariants.{Short, Bad}
use Rattle.text_lines.specs.declared.fault.Stop.{Stop}
use Rattle.text_lines.specs.declared.fault.Stop.TheVariants as stops
use Rattle.text_lines.specs.Reading.{Reader, ◌>>=◌, Fails, Gives, end_at, whole_at}
use Rattle.text_lines.specs.Grammar.{Reads}
use Rattle.text_lines.specs.Texts.{Spells, Begins, IsCutShort, first_lines, IsFirstBadLine, IsRightAnswer, NoneBeginsAnother, AnswersAreApart, line_of, refusal_of, answer_of}
use Rattle.text_lines.proofs.Basics.{bind_ok, bind_err, ok_is}

-- ---- lines

newlines : List ℕ → ℕ
newlines [] = 0
newlines (b ∷ bs) = cond (eqb b 10) (1 + newlines bs) (newlines bs)

newlines_are : (bs : List ℕ) → newlines bs ≡ count_by (λ b. eqb b 10) bs
unfolding newlines
newlines_are bs = is_count_by newlines (λ b. eqb b 10) refl (λ x xs. refl) bs

newlines_nil : newlines [] ≡ 0
unfolding newlines
newlines_nil = refl

newlines_yes : (b : ℕ) (bs : List ℕ) → eqb b 10 ≡ true → newlines (b ∷ bs) ≡ suc (newlines bs)
unfolding newlines
newlines_yes b bs e = rw e (omega arith)

newlines_no : (b : ℕ) (bs : List ℕ) → eqb b 10 ≡ false → newlines (b ∷ bs) ≡ newlines bs
unfolding newlines
newlines_no b bs e = rw e refl

lines_yes : (k b : ℕ) (bs : List ℕ) → eqb b 10 ≡ true → first_lines (suc k) (b ∷ bs) ≡ b ∷ first_lines k bs
lines_yes k b bs e = rw e refl

lines_no : (k b : ℕ) (bs : List ℕ) → eqb b 10 ≡ false → first_lines (suc k) (b ∷ bs) ≡ b ∷ first_lines (suc k) bs
lines_no k b bs e = rw e refl

-- through the line of a byte: the bytes before it, and it
through : (front : List ℕ) (byte : ℕ) (back : List ℕ) → (w : List ℕ) × (first_lines (suc (newlines front)) (front ++ byte ∷ back) ≡ (front ++ byte ∷ []) ++ w)
unfolding newlines
through [] byte back = (cond (eqb byte 10) [] (first_lines 1 back), refl)
through (b ∷ front) byte back = go (eqb b 10) refl (through front byte back)
  where
    go : (v : Bool) → eqb b 10 ≡ v → ((w : List ℕ) × (first_lines (suc (newlines front)) (front ++ byte ∷ back) ≡ (front ++ byte ∷ []) ++ w))
        → (w : List ℕ) × (first_lines (suc (newlines (b ∷ front))) ((b ∷ front) ++ byte ∷ back) ≡ ((b ∷ front) ++ byte ∷ []) ++ w)
    go true e h = (h.0, ap (λ (n : ℕ). first_lines (suc n) (b ∷ (front ++ byte ∷ back))) (newlines_yes b front e) ∙ lines_yes (suc (newlines front)) b (front ++ byte ∷ back) e ∙ ap (λ (u : List ℕ). b ∷ u) h.1)
    go false e h = (h.0, ap (λ (n : ℕ). first_lines (suc n) (b ∷ (front ++ byte ∷ back))) (newlines_no b front e) ∙ lines_no (newlines front) b (front ++ byte ∷ back) e ∙ ap (λ (u : List ℕ). b ∷ u) h.1)

-- fewer lines: a prefix of the bytes before the byte
before : (front : List ℕ) (byte : ℕ) (back : List ℕ) (k : ℕ) → k ≤ newlines front → (w : List ℕ) × (front ≡ first_lines k (front ++ byte ∷ back) ++ w)
before front byte back zero le = (front, refl)
before [] byte back (suc k) le = absurd (omega (arith, newlines_nil))
before (b ∷ front) byte back (suc k) le = go (eqb b 10) refl (λ l. before front byte back k l) (λ l. before front byte back (suc k) l)
  where
    go : (v : Bool) → eqb b 10 ≡ v → (k ≤ newlines front → (w : List ℕ) × (front ≡ first_lines k (front ++ byte ∷ back) ++ w)) → (suc k ≤ newlines front → (w : List ℕ) × (front ≡ first_lines (suc k) (front ++ byte ∷ back) ++ w))
        → (w : List ℕ) × (b ∷ front ≡ first_lines (suc k) ((b ∷ front) ++ byte ∷ back) ++ w)
    go true e one other =
        let h = one (omega (arith, newlines_yes b front e)) in (h.0, ap (λ (u : List ℕ). b ∷ u) h.1 ∙ ap (λ (u : List ℕ). u ++ h.0) (sym (lines_yes k b (front ++ byte ∷ back) e)))
    go false e one other =
        let h = other (omega (arith, newlines_no b front e)) in (h.0, ap (λ (u : List ℕ). b ∷ u) h.1 ∙ ap (λ (u : List ℕ). u ++ h.0) (sym (lines_no k b (front ++ byte ∷ back) e)))

-- ---- texts are apart

end_ok : (rest : List ℕ) (u : Unit {0}) → end_at rest ≡ Ok u → rest ≡ []
end_ok [] u e = refl
end_ok (b ∷ bs) u e = absurd cc

-- a prefix of some text, and a byte with which it is a prefix of none
record Breaks (IsText : List ℕ → Type 0) (bytes : List ℕ) (n : ℕ) : Type 0 where
  front : List ℕ
  byte : ℕ
  back : List ℕ
  parts : bytes ≡ front ++ byte ∷ back
  place : n ≡ suc (length back)
  alive : Begins IsText front
  dead : (w : List ℕ) → IsText ((front ++ byte ∷ []) ++ w) → ⊥

bad_is : (m n : ℕ) → Bad m ≡ Bad n → m ≡ n
bad_is m n e = cc

-- the line of the byte
first_bad : (IsText : List ℕ → Type 0) (bytes : List ℕ) (n : ℕ) → Breaks IsText bytes n → IsFirstBadLine IsText bytes (line_of bytes (length bytes - n))
first_bad IsText bytes n h =
    let front : take (length bytes - n) bytes ≡ h.front =
    let l : length h.front ≡ length bytes - n = omega (arith, ap length h.parts, length-append h.front (h.byte ∷ h.back), h.place) in
    ap (take (length bytes - n)) h.parts ∙ take_at h.front (h.byte ∷ h.back) (length bytes - n) l in
    let line : line_of bytes (length bytes - n) ≡ suc (newlines h.front) = rw (front, ← (newlines_are h.front)) (omega arith) in
    rw line (rw h.parts (record {
      bad = λ b.
          let t = through h.front h.byte h.back in
          h.dead (t.0 ++ b.0) (subst IsText (ap (λ (u : List ℕ). u ++ b.0) t.1 ∙ append_assoc (h.front ++ h.byte ∷ []) t.0 b.0) b.1);
      good = λ k lt.
          let t = before h.front h.byte h.back k (omega arith) in
          let a = h.alive in
          (t.0 ++ a.0, subst IsText (ap (λ (u : List ℕ). u ++ a.0) t.1 ∙ append_assoc (first_lines k (h.front ++ h.byte ∷ h.back)) t.0 a.0) a.1);
    }))

module _ {A : Type 0} {F : A → Type 0} {s : A → List ℕ} {at : Reader A} (reads : Reads F s at) where
  -- no spelling begins another, and each has one value
  pub spellings_are_apart : (a b : A) (more : List ℕ) → F a → F b → s a ++ more ≡ s b → (a ≡ b) × (more ≡ [])
  spellings_are_apart a b more f g e =
      let one = reads.again a more f in
      let two = reads.again b [] g in
      let same : s a ++ more ≡ s b ++ [] = e ∙ sym (append-nil (s b)) in
      let p : (a, more) ≡ (b, []) = ok_is (a, more) (b, []) (sym one ∙ ap at same ∙ two) in
      (ap (λ (z : A × List ℕ). z.0) p, ap (λ (z : A × List ℕ). z.1) p)

  pub none_begins_another : NoneBeginsAnother (Spells F s)
  none_begins_another bytes more t u = (spellings_are_apart t.0 u.0 more t.1 u.1 (ap (λ (v : List ℕ). v ++ more) (sym t.2) ∙ u.2)).1

  pub whole_again : (a : A) → F a → whole_at at (s a) ≡ Ok a
  unfolding whole_at
  whole_again a f = let h : at (s a) ≡ Ok (a, []) = ap at (sym (append-nil (s a))) ∙ reads.again a [] f in rw h refl

  pub whole_takes : (bytes : List ℕ) (a : A) → whole_at at bytes ≡ Ok a → F a × (bytes ≡ s a)
  unfolding whole_at
  whole_takes bytes a e =
      let x = bind_ok (at bytes) (λ x. end_at x.1 >>= λ _. Ok x.0) a e in
      let t = reads.takes bytes x.0.0 x.0.1 x.1 in
      let y = bind_ok (end_at x.0.1) (λ _. Ok x.0.0) a x.2 in
      let none = end_ok x.0.1 y.0 y.1 in
      let whole : bytes ≡ s x.0.0 = t.1 ∙ ap (λ (r : List ℕ). s x.0.0 ++ r) none ∙ append-nil (s x.0.0) in
      subst (λ (c : A). F c × (bytes ≡ s c)) (ok_is x.0.0 a y.2) (t.0, whole)

  whole_short : (bytes : List ℕ) → whole_at at bytes ≡ Err Short → IsCutShort (Spells F s) bytes
  unfolding whole_at
  whole_short bytes e =
      elim (bind_err (at bytes) (λ x. end_at x.1 >>= λ _. Ok x.0) Short e) [
        | inl e1 ↦ let h = reads.short bytes e1 in go h.value h.more h.fits h.viable e1
        | inr x ↦ behind x.0.0 x.0.1 x.2
      ]
    where
      go : (a : A) (more : List ℕ) → F a → bytes ++ more ≡ s a → at bytes ≡ Err Short → IsCutShort (Spells F s) bytes
      go a [] f v e1 =
          let all : bytes ≡ s a ++ [] = sym (append-nil bytes) ∙ v ∙ sym (append-nil (s a)) in
          let ok : at bytes ≡ Ok (a, []) = ap at all ∙ reads.again a [] f in absurd cc
      go a (c ∷ more) f v e1 = (c, more, (a, f, v))

      behind : (a : A) (rest : List ℕ) → (end_at rest >>= λ _. Ok a) ≡ Err Short → IsCutShort (Spells F s) bytes
      behind a [] k = absurd cc
      behind a (b ∷ bs) k = absurd cc

  breaks : (bytes : List ℕ) (n : ℕ) → whole_at at bytes ≡ Err (Bad n) → Breaks (Spells F s) bytes n
  unfolding whole_at
  breaks bytes n e =
      elim (bind_err (at bytes) (λ x. end_at x.1 >>= λ _. Ok x.0) (Bad n) e) [
        | inl e1 ↦
            let h = reads.bad bytes n e1 in
            let at_end = h.dead h.back in
            let same : at bytes ≡ at (h.front ++ h.byte ∷ h.back) = ap at h.parts in
            record {
              front = h.front;
              byte = h.byte;
              back = h.back;
              parts = h.parts;
              place = cc;
              alive = (h.more, (h.value, h.fits, h.viable));
              dead = λ w t.
                  let whole : h.front ++ h.byte ∷ w ≡ s t.0 ++ [] = sym (append_assoc h.front (h.byte ∷ []) w) ∙ t.2 ∙ sym (append-nil (s t.0)) in
                  let ok : at (h.front ++ h.byte ∷ w) ≡ Ok (t.0, []) = ap at whole ∙ reads.again t.0 [] t.1 in
                  let no_ = h.dead w in cc;
            }
        | inr x ↦ let t = reads.takes bytes x.0.0 x.0.1 x.1 in behind x.0.0 x.0.1 t.0 t.1 x.2
      ]
    where
      behind : (a : A) (rest : List ℕ) → F a → bytes ≡ s a ++ rest → (end_at rest >>= λ _. Ok a) ≡ Err (Bad n) → Breaks (Spells F s) bytes n
      behind a [] f e1 k = absurd cc
      behind a (c ∷ rest) f e1 k =
          record {
            front = s a;
            byte = c;
            back = rest;
            parts = e1;
            place = cc;
            alive = ([], (a, f, append-nil (s a)));
            dead = λ w t.
                let p = spellings_are_apart a t.0 (c ∷ w) f t.1 (sym (append_assoc (s a) (c ∷ []) w) ∙ t.2) in
                let q = p.1 in cc;
          }

  -- a reader with the law answers right
  refusal_is_right : {X : Type 0} (view : X → A) (bytes : List ℕ) (stop : Stop) → Fails stop (whole_at at bytes) → IsRightAnswer view F s bytes (Err (refusal_of bytes stop))
  refusal_is_right view bytes stops.Memory k = tt
  refusal_is_right view bytes (stops.Fault Short) k = whole_short bytes k
  refusal_is_right view bytes (stops.Fault (Bad left)) k = first_bad (Spells F s) bytes left (breaks bytes left k)

  value_is_right : {X : Type 0} (view : X → A) (bytes : List ℕ) (x : X) → whole_at at bytes ≡ Ok (view x) → IsRightAnswer view F s bytes (Ok x)
  value_is_right view bytes x k = whole_takes bytes (view x) k

  pub answer_is_right : {X : Type 0} (view : X → A) (bytes : List ℕ) (read : Result X Stop) → Gives view read (whole_at at bytes) → IsRightAnswer view F s bytes (answer_of bytes read)
  answer_is_right view bytes (Ok x) k = value_is_right view bytes x k
  answer_is_right view bytes (Err stop) k = refusal_is_right view bytes stop k

-- ---- no two answers are right

front_of : (n : ℕ) (bs : List ℕ) → (w : List ℕ) × (bs ≡ first_lines n bs ++ w)
front_of zero bs = (bs, refl)
front_of (suc n) [] = ([], refl)
front_of (suc n) (b ∷ bs) = go (eqb b 10) refl (front_of n bs) (front_of (suc n) bs)
  where
    go : (v : Bool) → eqb b 10 ≡ v → ((w : List ℕ) × (bs ≡ first_lines n bs ++ w)) → ((w : List ℕ) × (bs ≡ first_lines (suc n) bs ++ w)) → (w : List ℕ) × (b ∷ bs ≡ first_lines (suc n) (b ∷ bs) ++ w)
    go true e h k = (h.0, ap (λ (u : List ℕ). b ∷ u) h.1 ∙ ap (λ (u : List ℕ). u ++ h.0) (sym (lines_yes n b bs e)))
    go false e h k = (k.0, ap (λ (u : List ℕ). b ∷ u) k.1 ∙ ap (λ (u : List ℕ). u ++ k.0) (sym (lines_no n b bs e)))

module _ (IsText : List ℕ → Type 0) where
  begins_front : (n : ℕ) (bs : List ℕ) → Begins IsText bs → Begins IsText (first_lines n bs)
  begins_front n bs b =
      let f = front_of n bs in
      (f.0 ++ b.0, subst IsText (ap (λ (u : List ℕ). u ++ b.0) f.1 ∙ append_assoc (first_lines n bs) f.0 b.0) b.1)

  one_bad_line : (bytes : List ℕ) (l m : ℕ) → IsFirstBadLine IsText bytes l → IsFirstBadLine IsText bytes m → l ≡ m
  one_bad_line bytes l m a b =
      elim (cases_lt l m) [
        | inl lt ↦ absurd (a.bad (b.good l lt))
        | inr le ↦ elim (cases_lt m l) [ inl lt ↦ absurd (b.bad (a.good m lt)) | inr ge ↦ omega arith ]
      ]

  pub apart : NoneBeginsAnother IsText → (bytes : List ℕ) → AnswersAreApart IsText bytes
  apart none bytes = record {
    text = λ t. ((λ c. let k = none bytes (c.0 ∷ c.1) t c.2 in cc), (λ line b. b.bad (begins_front line bytes ([], subst IsText (sym (append-nil bytes)) t))));
    cut = λ c line b. b.bad (begins_front line bytes (c.0 ∷ c.1, c.2));
    line = λ l m a b. one_bad_line bytes l m a b;
  }
