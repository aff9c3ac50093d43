-- One value after another, a value under another name, a value after a word.
use Rattle.std.proofs.Common.{◌≡◌, ℕ, suc, Bool, true, false, cond, eqb, List, [], ◌∷◌, ◌++◌, length, Result, Ok, Err, refl, sym, ap, subst, ◌∙◌, append_assoc, inl, inr}
use Rattle.std.proofs.lemmas.Bool.{eqb-true}
use Rattle.text_lines.specs.declared.fault.Fault.{Fault}
use Rattle.text_lines.specs.declared.fault.Fault.TheVariants.{Short, Bad}
use Rattle.text_lines.specs.Reading.{Reader, ◌>>=◌, word_at, after_at, nothing_at, then_at, as_at}
use Rattle.text_lines.specs.Grammar.{Reads, ShortOf, BadAt}
use Rattle.text_lines.proofs.Basics.{bind_ok, bind_err, ok_is, some_by, chosen, same_eqb}

-- ---- one after the other

module _ (A B : Type 0) (F1 : A → Type 0) (s1 : A → List ℕ) (at1 : Reader A) (F2 : A → B → Type 0) (s2 : A → B → List ℕ) (at2 : A → Reader B)
    (r1 : Reads F1 s1 at1) (r2 : (a : A) → F1 a → Reads (F2 a) (s2 a) (at2 a)) where
  then_takes : (bytes : List ℕ) (p : A × B) (rest : List ℕ) → then_at at1 at2 bytes ≡ Ok (p, rest) → (F1 p.0 × F2 p.0 p.1) × (bytes ≡ (s1 p.0 ++ s2 p.0 p.1) ++ rest)
  then_takes bytes p rest e =
      let x = bind_ok (at1 bytes) (λ x. at2 x.0 x.1 >>= λ y. Ok ((x.0, y.0), y.1)) (p, rest) e in
      let y = bind_ok (at2 x.0.0 x.0.1) (λ y. Ok ((x.0.0, y.0), y.1)) (p, rest) x.2 in
      let t1 = r1.takes bytes x.0.0 x.0.1 x.1 in
      let t2 = (r2 x.0.0 t1.0).takes x.0.1 y.0.0 y.0.1 y.1 in
      let made : (A × B) × List ℕ = ((x.0.0, y.0.0), y.0.1) in
      let whole : bytes ≡ (s1 x.0.0 ++ s2 x.0.0 y.0.0) ++ y.0.1 = t1.1 ∙ ap (λ (t : List ℕ). s1 x.0.0 ++ t) t2.1 ∙ sym (append_assoc (s1 x.0.0) (s2 x.0.0 y.0.0) y.0.1) in
      subst (λ (z : (A × B) × List ℕ). (F1 z.0.0 × F2 z.0.0 z.0.1) × (bytes ≡ (s1 z.0.0 ++ s2 z.0.0 z.0.1) ++ z.1)) (ok_is made (p, rest) y.2) ((t1.0, t2.0), whole)

  then_again : (p : A × B) (rest : List ℕ) → (F1 p.0 × F2 p.0 p.1) → then_at at1 at2 ((s1 p.0 ++ s2 p.0 p.1) ++ rest) ≡ Ok (p, rest)
  then_again p rest f =
      let one = r1.again p.0 (s2 p.0 p.1 ++ rest) f.0 in
      let two = (r2 p.0 f.0).again p.1 rest f.1 in
      ap (then_at at1 at2) (append_assoc (s1 p.0) (s2 p.0 p.1) rest) ∙ rw (one, two) refl

  then_short : (bytes : List ℕ) → then_at at1 at2 bytes ≡ Err Short → ShortOf (λ (p : A × B). F1 p.0 × F2 p.0 p.1) (λ p. s1 p.0 ++ s2 p.0 p.1) bytes
  then_short bytes e =
      elim (bind_err (at1 bytes) (λ x. at2 x.0 x.1 >>= λ y. Ok ((x.0, y.0), y.1)) Short e) [
        | inl e1 ↦
            let h = r1.short bytes e1 in
            let k = some_by (F2 h.value) (s2 h.value) (at2 h.value) (r2 h.value h.fits) (at2 h.value []) refl in
            record { value = (h.value, k.value); more = h.more ++ s2 h.value k.value; fits = (h.fits, k.fits); viable = sym (append_assoc bytes h.more (s2 h.value k.value)) ∙ ap (λ (t : List ℕ). t ++ s2 h.value k.value) h.viable }
        | inr x ↦
            let t = r1.takes bytes x.0.0 x.0.1 x.1 in
            elim (bind_err (at2 x.0.0 x.0.1) (λ y. Ok ((x.0.0, y.0), y.1)) Short x.2) [
              | inl e2 ↦
                  let h = (r2 x.0.0 t.0).short x.0.1 e2 in
                  record {
                    value = (x.0.0, h.value);
                    more = h.more;
                    fits = (t.0, h.fits);
                    viable = ap (λ (u : List ℕ). u ++ h.more) t.1 ∙ append_assoc (s1 x.0.0) x.0.1 h.more ∙ ap (λ (u : List ℕ). s1 x.0.0 ++ u) h.viable;
                  }
              | inr y ↦ absurd cc
            ]
      ]

  then_bad : (bytes : List ℕ) (left : ℕ) → then_at at1 at2 bytes ≡ Err (Bad left) → BadAt (λ (p : A × B). F1 p.0 × F2 p.0 p.1) (λ p. s1 p.0 ++ s2 p.0 p.1) (then_at at1 at2) bytes
  then_bad bytes left e =
      elim (bind_err (at1 bytes) (λ x. at2 x.0 x.1 >>= λ y. Ok ((x.0, y.0), y.1)) (Bad left) e) [
        | inl e1 ↦
            let h = r1.bad bytes left e1 in
            let k = some_by (F2 h.value) (s2 h.value) (at2 h.value) (r2 h.value h.fits) (at2 h.value []) refl in
            record {
              front = h.front;
              byte = h.byte;
              back = h.back;
              value = (h.value, k.value);
              more = h.more ++ s2 h.value k.value;
              parts = h.parts;
              fits = (h.fits, k.fits);
              viable = sym (append_assoc h.front h.more (s2 h.value k.value)) ∙ ap (λ (t : List ℕ). t ++ s2 h.value k.value) h.viable;
              dead = λ w. rw (h.dead w) refl;
            }
        | inr x ↦
            let t = r1.takes bytes x.0.0 x.0.1 x.1 in
            elim (bind_err (at2 x.0.0 x.0.1) (λ y. Ok ((x.0.0, y.0), y.1)) (Bad left) x.2) [
              | inl e2 ↦
                  let h = (r2 x.0.0 t.0).bad x.0.1 left e2 in
                  record {
                    front = s1 x.0.0 ++ h.front;
                    byte = h.byte;
                    back = h.back;
                    value = (x.0.0, h.value);
                    more = h.more;
                    fits = (t.0, h.fits);
                    parts = t.1 ∙ ap (λ (u : List ℕ). s1 x.0.0 ++ u) h.parts ∙ sym (append_assoc (s1 x.0.0) h.front (h.byte ∷ h.back));
                    viable = append_assoc (s1 x.0.0) h.front h.more ∙ ap (λ (u : List ℕ). s1 x.0.0 ++ u) h.viable;
                    dead = λ w. ap (then_at at1 at2) (append_assoc (s1 x.0.0) h.front (h.byte ∷ w)) ∙ rw (r1.again x.0.0 (h.front ++ h.byte ∷ w) t.0, h.dead w) refl;
                  }
              | inr y ↦ absurd cc
            ]
      ]

  then_law : Reads (λ (p : A × B). F1 p.0 × F2 p.0 p.1) (λ p. s1 p.0 ++ s2 p.0 p.1) (then_at at1 at2)
  then_law = record { takes = then_takes; again = then_again; short = then_short; bad = then_bad }

-- the second reader may depend on the first value
pub then_reads : {A B : Type 0} {F1 : A → Type 0} {s1 : A → List ℕ} {at1 : Reader A} {F2 : A → B → Type 0} {s2 : A → B → List ℕ} {at2 : A → Reader B}
    → Reads F1 s1 at1 → ((a : A) → F1 a → Reads (F2 a) (s2 a) (at2 a)) → Reads (λ (p : A × B). F1 p.0 × F2 p.0 p.1) (λ p. s1 p.0 ++ s2 p.0 p.1) (then_at at1 at2)
then_reads r1 r2 = then_law _ _ _ _ _ _ _ _ r1 r2

-- it does not
pub both_reads : {A B : Type 0} {F : A → Type 0} {s : A → List ℕ} {at : Reader A} {G : B → Type 0} {t : B → List ℕ} {also : Reader B}
    → Reads F s at → Reads G t also → Reads (λ (p : A × B). F p.0 × G p.1) (λ p. s p.0 ++ t p.1) (then_at at (λ _. also))
both_reads {A} {B} {F} {s} {at} {G} {t} {also} first second = then_law A B F s at (λ _. G) (λ _. t) (λ _. also) first (λ a f. second)

-- ---- under another name

module _ (A B : Type 0) (F : A → Type 0) (s : A → List ℕ) (at : Reader A) (G : B → Type 0) (t : B → List ℕ) (to : A → B) (from : B → A) (reads : Reads F s at)
    (to_fits : (a : A) → F a → G (to a)) (from_fits : (b : B) → G b → F (from b)) (same : (b : B) → G b → to (from b) ≡ b) (spelled : (a : A) → F a → t (to a) ≡ s a) where
  as_takes : (bytes : List ℕ) (b : B) (rest : List ℕ) → as_at to at bytes ≡ Ok (b, rest) → G b × (bytes ≡ t b ++ rest)
  as_takes bytes b rest e =
      let x = bind_ok (at bytes) (λ x. Ok (to x.0, x.1)) (b, rest) e in
      let k = reads.takes bytes x.0.0 x.0.1 x.1 in
      let made : B × List ℕ = (to x.0.0, x.0.1) in
      subst (λ (z : B × List ℕ). G z.0 × (bytes ≡ t z.0 ++ z.1)) (ok_is made (b, rest) x.2) (to_fits x.0.0 k.0, rw (spelled x.0.0 k.0) k.1)

  as_again : (b : B) (rest : List ℕ) → G b → as_at to at (t b ++ rest) ≡ Ok (b, rest)
  as_again b rest g =
      let e : t b ≡ s (from b) = ap t (sym (same b g)) ∙ spelled (from b) (from_fits b g) in
      ap (λ (u : List ℕ). as_at to at (u ++ rest)) e ∙ rw (reads.again (from b) rest (from_fits b g)) (ap (λ (c : B). Ok (c, rest)) (same b g))

  as_short : (bytes : List ℕ) → as_at to at bytes ≡ Err Short → ShortOf G t bytes
  as_short bytes e =
      elim (bind_err (at bytes) (λ x. Ok (to x.0, x.1)) Short e) [
        | inl e1 ↦ let h = reads.short bytes e1 in record { value = to h.value; more = h.more; fits = to_fits h.value h.fits; viable = rw (spelled h.value h.fits) h.viable }
        | inr x ↦ absurd cc
      ]

  as_bad : (bytes : List ℕ) (left : ℕ) → as_at to at bytes ≡ Err (Bad left) → BadAt G t (as_at to at) bytes
  as_bad bytes left e =
      elim (bind_err (at bytes) (λ x. Ok (to x.0, x.1)) (Bad left) e) [
        | inl e1 ↦ let h = reads.bad bytes left e1 in
            record { front = h.front; byte = h.byte; back = h.back; parts = h.parts; value = to h.value; more = h.more; fits = to_fits h.value h.fits; viable = rw (spelled h.value h.fits) h.viable; dead = λ w. rw (h.dead w) refl }
        | inr x ↦ absurd cc
      ]

  as_law : Reads G t (as_at to at)
  as_law = record { takes = as_takes; again = as_again; short = as_short; bad = as_bad }

-- a value as another one, where each of them is of one of the first kind
pub as_reads : {A B : Type 0} {F : A → Type 0} {s : A → List ℕ} {at : Reader A} (G : B → Type 0) (t : B → List ℕ) (to : A → B) (from : B → A) → Reads F s at
    → ((a : A) → F a → G (to a)) → ((b : B) → G b → F (from b)) → ((b : B) → G b → to (from b) ≡ b) → ((a : A) → F a → t (to a) ≡ s a) → Reads G t (as_at to at)
as_reads {A} {B} {F} {s} {at} G t to from reads to_fits from_fits same spelled = as_law A B F s at G t to from reads to_fits from_fits same spelled

-- the values that fit, and how they are spelled, said another way
pub said_reads : {A : Type 0} {F : A → Type 0} {s : A → List ℕ} {at : Reader A} (G : A → Type 0) (t : A → List ℕ) → ((a : A) → F a → G a) → ((a : A) → G a → F a) → ((a : A) → F a → t a ≡ s a) → Reads F s at → Reads G t at
said_reads {A} {F} {s} {at} G t to back spelled reads = record {
  takes = λ bytes a rest e. let k = reads.takes bytes a rest e in (to a k.0, k.1 ∙ ap (λ (u : List ℕ). u ++ rest) (sym (spelled a k.0)));
  again = λ a rest g. ap (λ (u : List ℕ). at (u ++ rest)) (spelled a (back a g)) ∙ reads.again a rest (back a g);
  short = λ bytes e. let k = reads.short bytes e in record { value = k.value; more = k.more; fits = to k.value k.fits; viable = k.viable ∙ sym (spelled k.value k.fits) };
  bad = λ bytes n e. let k = reads.bad bytes n e in
      record { front = k.front; byte = k.byte; back = k.back; value = k.value; more = k.more; parts = k.parts; fits = to k.value k.fits; viable = k.viable ∙ sym (spelled k.value k.fits); dead = k.dead };
}

-- ---- after a word

-- one byte, and then the rest
abbrev byte_at : {A : Type 0} → ℕ → Reader A → Reader A
byte_at c at [] = Err Short
byte_at c at (b ∷ bs) = cond (eqb b c) (at bs) (Err (Bad (suc (length bs))))

module _ (A : Type 0) (F : A → Type 0) (s : A → List ℕ) (at : Reader A) (reads : Reads F s at) (c : ℕ) where
  byte_takes : (bytes : List ℕ) (a : A) (rest : List ℕ) → byte_at c at bytes ≡ Ok (a, rest) → F a × (bytes ≡ (c ∷ s a) ++ rest)
  byte_takes [] a rest e = absurd cc
  byte_takes (b ∷ bs) a rest e =
      elim (chosen (eqb b c) (at bs) (Err (Bad (suc (length bs)))) (Ok (a, rest)) e) [
        | inl h ↦ let t = reads.takes bs a rest h.1 in (t.0, rw (eqb-true b c h.0) (ap (λ (u : List ℕ). c ∷ u) t.1))
        | inr h ↦ absurd cc
      ]

  byte_again : (a : A) (rest : List ℕ) → F a → byte_at c at ((c ∷ s a) ++ rest) ≡ Ok (a, rest)
  byte_again a rest f = rw (same_eqb c) (reads.again a rest f)

  byte_short : (bytes : List ℕ) → byte_at c at bytes ≡ Err Short → ShortOf F (λ a. c ∷ s a) bytes
  byte_short [] e = let h = some_by F s at reads (at []) refl in record { value = h.value; more = c ∷ s h.value; fits = h.fits; viable = refl }
  byte_short (b ∷ bs) e =
      elim (chosen (eqb b c) (at bs) (Err (Bad (suc (length bs)))) (Err Short) e) [
        | inl h ↦ let t = reads.short bs h.1 in record { value = t.value; more = t.more; fits = t.fits; viable = rw (eqb-true b c h.0) (ap (λ (u : List ℕ). c ∷ u) t.viable) }
        | inr h ↦ absurd cc
      ]

  byte_bad : (bytes : List ℕ) (n : ℕ) → byte_at c at bytes ≡ Err (Bad n) → BadAt F (λ a. c ∷ s a) (byte_at c at) bytes
  byte_bad [] n e = absurd cc
  byte_bad (b ∷ bs) n e =
      elim (chosen (eqb b c) (at bs) (Err (Bad (suc (length bs)))) (Err (Bad n)) e) [
        | inl h ↦ let t = reads.bad bs n h.1 in
            record {
              front = b ∷ t.front;
              byte = t.byte;
              back = t.back;
              value = t.value;
              more = t.more;
              parts = ap (λ (u : List ℕ). b ∷ u) t.parts;
              fits = t.fits;
              viable = rw (eqb-true b c h.0) (ap (λ (u : List ℕ). c ∷ u) t.viable);
              dead = λ w. rw h.0 (t.dead w);
            }
        | inr h ↦ let k = some_by F s at reads (at []) refl in
            record { front = []; byte = b; back = bs; value = k.value; more = c ∷ s k.value; parts = refl; fits = k.fits; viable = refl; dead = λ w. rw h.0 refl }
      ]

  byte_reads : Reads F (λ a. c ∷ s a) (byte_at c at)
  byte_reads = record { takes = byte_takes; again = byte_again; short = byte_short; bad = byte_bad }

-- readers that answer alike
pub like_reads : {A : Type 0} (F : A → Type 0) (s : A → List ℕ) (at also : Reader A) → ((bytes : List ℕ) → also bytes ≡ at bytes) → Reads F s at → Reads F s also
like_reads F s at also same reads = record {
  takes = λ bytes a rest e. reads.takes bytes a rest (sym (same bytes) ∙ e);
  again = λ a rest f. same (s a ++ rest) ∙ reads.again a rest f;
  short = λ bytes e. reads.short bytes (sym (same bytes) ∙ e);
  bad = λ bytes n e. let b = reads.bad bytes n (sym (same bytes) ∙ e) in
      record { front = b.front; byte = b.byte; back = b.back; value = b.value; more = b.more; parts = b.parts; fits = b.fits; viable = b.viable; dead = λ w. same (b.front ++ b.byte ∷ w) ∙ b.dead w };
}

cond_bind : {A B : Type 0} (v : Bool) (x y : Result A Fault) (f : A → Result B Fault) → (cond v x y >>= f) ≡ cond v (x >>= f) (y >>= f)
cond_bind true x y f = refl
cond_bind false x y f = refl

word_like : {A : Type 0} (c : ℕ) (cs : List ℕ) (at : Reader A) (bytes : List ℕ) → after_at (c ∷ cs) at bytes ≡ byte_at c (after_at cs at) bytes
unfolding word_at
word_like c cs at [] = refl
word_like c cs at (b ∷ bs) = cond_bind (eqb b c) (word_at cs bs) (Err (Bad (suc (length bs)))) at

after_law : {A : Type 0} (F : A → Type 0) (s : A → List ℕ) (at : Reader A) (word : List ℕ) → Reads F s at → Reads F (λ a. word ++ s a) (after_at word at)
unfolding word_at
after_law F s at [] reads = reads
after_law F s at (c ∷ cs) reads = like_reads F (λ a. c ∷ (cs ++ s a)) (byte_at c (after_at cs at)) (after_at (c ∷ cs) at) (word_like c cs at) (byte_reads _ F (λ a. cs ++ s a) (after_at cs at) (after_law F s at cs reads) c)

pub after_reads : {A : Type 0} {F : A → Type 0} {s : A → List ℕ} {at : Reader A} (word : List ℕ) → Reads F s at → Reads F (λ a. word ++ s a) (after_at word at)
after_reads word reads = after_law _ _ _ word reads

pub nothing_reads : Reads (λ (u : Unit {0}). Unit {0}) (λ u. []) nothing_at
nothing_reads = record {
  takes = λ bytes u rest e. (tt, ap (λ (z : Unit {0} × List ℕ). z.1) (ok_is (tt, bytes) (u, rest) e));
  again = λ u rest f. refl;
  short = λ bytes e. absurd cc;
  bad = λ bytes n e. absurd cc;
}
