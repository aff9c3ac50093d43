-- A note is read just as it is spelled.
use Rattle.std.proofs.Common.{◌≡◌, ℕ, zero, suc, ◌<◌, ◌^◌, List, [], ◌∷◌, ◌++◌, drop, Option, Some, None, Result, Ok, Err, refl, ap, sym, subst, ◌∙◌, append_assoc, arith, inl, inr}
use Rattle.std.specs.Prelude.{codes}
use Rattle.std.specs.Fmt.{decimal, digits}
use Rattle.std.proofs.lemmas.Bool.{ne_eqb, cases_lt}
use Rattle.std.proofs.lemmas.Fmt.{decimal-digits_of}
use Rattle.std.proofs.lemmas.List.{append-nil}
use Rattle.text_lines.specs.declared.fault.Fault.{Fault}
use Rattle.text_lines.specs.Reading.{◌>>=◌, word_at, after_at, nothing_at, ◌then◌, end_at, whole_at}
use Rattle.text_lines.specs.Spelling.{spaced, ended, Below}
use Rattle.text_lines.specs.LongNumbers.{number_text, in_64_bits, order_at}
use Rattle.text_lines.proofs.Basics.{bind_ok, ok_is}
use Rattle.text_lines.proofs.LongDecimals.{in_some, in_none}
use Rattle.text_lines.proofs.Spellings.{Hears, both_hear, order_hears, word_is, word_again}
use Rattle.noted_lines.proofs.Summed.{sum_small}
use Rattle.noted_lines.specs.Notes.{note_sum, IsNote, IsDone, OneNote, OneDone}
use Rattle.noted_lines.specs.Readers.{small_of, small_at, counted_at, beginning_at}

-- ---- numbers

pub same_text : (n : ℕ) → n < 2 ^ 64 → decimal n ≡ number_text n
unfolding number_text digits
same_text zero lt = refl
same_text (suc n) lt = decimal-digits_of (suc n) (omega arith) lt ∙ sym (rw (ne_eqb (suc n) 0 (λ e. omega (arith, e))) refl)

pub ok_not_err : {X : Type 0} (r : Result X Fault) (x : X) (f : Fault) → r ≡ Ok x → r ≡ Err f → ⊥
ok_not_err (Ok y) x f p q = cc
ok_not_err (Err g) x f p q = cc

some_is : {X : Type 0} (x y : X) → ◌≡◌ {A = Option X} (Some x) (Some y) → x ≡ y
some_is x y e = ap (λ (o : Option _). some_or x o) e
  where
    some_or : {X : Type 0} → X → Option X → X
    some_or x (Some y) = y
    some_or x None = x

some_not_none : {X : Type 0} (o : Option X) (x : X) → o ≡ Some x → o ≡ None → ⊥
some_not_none (Some y) x p q = cc
some_not_none None x p q = cc

bits_of : (n c : ℕ) → in_64_bits n ≡ Some c → (n ≡ c) × (c < 2 ^ 64)
bits_of n c e = elim (cases_lt n (2 ^ 64)) [
  | inl lt ↦ let same = some_is n c (sym (in_some n lt) ∙ e) in (same, subst (λ (x : ℕ). x < 2 ^ 64) same lt)
  | inr ge ↦ absurd (some_not_none (in_64_bits n) c e (in_none n ge))
]

small_is : (o : Option ℕ) (u : List ℕ) (n : ℕ) (rest : List ℕ) → small_of o u ≡ Ok (n, rest) → (o ≡ Some n) × (u ≡ rest)
small_is (Some m) u n rest e =
    let same : ◌≡◌ {A = ℕ × List ℕ} (m, u) (n, rest) = ok_is (m, u) (n, rest) e in
    (ap (λ (z : ℕ × List ℕ). Some z.0) same, ap (λ (z : ℕ × List ℕ). z.1) same)
small_is None u n rest e = absurd cc

abbrev spelled : ℕ → ℕ → List ℕ
spelled stop n = decimal n ++ stop ∷ []

module _ (stop : ℕ) (apart : stop < 48) where
  small_takes : (bytes : List ℕ) (n : ℕ) (rest : List ℕ) → small_at stop bytes ≡ Ok (n, rest) → (a : ℕ) × Below (2 ^ 64) a × (a ≡ n) × (bytes ≡ spelled stop a ++ rest)
  unfolding small_at
  small_takes bytes n rest e =
      let x = bind_ok (order_at stop bytes) (λ x. small_of x.0 x.1) (n, rest) e in
      let s = small_is x.0.0 x.0.1 n rest x.2 in
      let t = (order_hears stop apart).takes bytes x.0.0 x.0.1 x.1 in
      let b = bits_of t.0 n (t.2 ∙ s.0) in
      let whole : bytes ≡ (number_text n ++ stop ∷ []) ++ rest = subst (λ (m : ℕ). bytes ≡ (number_text m ++ stop ∷ []) ++ x.0.1) b.0 t.3 ∙ ap (λ (u : List ℕ). (number_text n ++ stop ∷ []) ++ u) s.1 in
      (n, b.1, refl, whole ∙ ap (λ (u : List ℕ). (u ++ stop ∷ []) ++ rest) (sym (same_text n b.1)))

  small_again : (n : ℕ) (rest : List ℕ) → n < 2 ^ 64 → small_at stop (spelled stop n ++ rest) ≡ Ok (n, rest)
  unfolding small_at
  small_again n rest lt =
      let read : order_at stop (spelled stop n ++ rest) ≡ Ok (Some n, rest) =
      ap (λ (u : List ℕ). order_at stop ((u ++ stop ∷ []) ++ rest)) (same_text n lt) ∙ ((order_hears stop apart).again n rest tt ∙ ap (λ (o : Option ℕ). Ok (o, rest)) (in_some n lt)) in
      rw read refl

  small_hears : Hears (λ (n : ℕ). n) (Below (2 ^ 64)) (spelled stop) (small_at stop)
  small_hears = record { takes = small_takes; again = small_again }

abbrev Pair : Type 0
Pair = ℕ × ℕ

abbrev pair : Pair → Pair
pair p = (p.0, p.1)

abbrev Small : Pair → Type 0
Small p = Below (2 ^ 64) p.0 × Below (2 ^ 64) p.1

-- ---- notes

counted_hears : Hears {A = Pair} {B = Pair} pair Small (λ p. spaced p.0 ++ spaced p.1) counted_at
unfolding counted_at
counted_hears = both_hear (small_hears 32 (omega arith)) (small_hears 32 (omega arith))

pub note_read : (rest : List ℕ) (count sum : ℕ) (line : List ℕ) → counted_at rest ≡ Ok ((count, sum), line) → sum ≡ note_sum count line → IsNote count line (codes "# do " ++ rest)
note_read rest count sum line e right =
    let t = counted_hears.takes rest (count, sum) line e in
    let c : t.0.0 ≡ count = ap (λ (p : Pair). p.0) t.2 in
    let s : t.0.1 ≡ note_sum count line = ap (λ (p : Pair). p.1) t.2 ∙ right in
    let whole : rest ≡ spaced count ++ (spaced (note_sum count line) ++ line) =
    t.3 ∙ append_assoc (spaced t.0.0) (spaced t.0.1) line ∙ ap (λ (n : ℕ). spaced n ++ (spaced t.0.1 ++ line)) c ∙ ap (λ (n : ℕ). spaced count ++ (spaced n ++ line)) s in
    record {
      fits = subst (λ (n : ℕ). n < 2 ^ 64) c t.1.0;
      is = ap (λ (u : List ℕ). codes "# do " ++ u) whole;
    }

note_again : (rest : List ℕ) (count : ℕ) (line : List ℕ) → IsNote count line (codes "# do " ++ rest) → counted_at rest ≡ Ok ((count, note_sum count line), line)
note_again rest count line is =
    let sum : note_sum count line < 2 ^ 64 = sum_small (spaced count ++ line) in
    let whole : rest ≡ (spaced count ++ spaced (note_sum count line)) ++ line =
    ap (λ (u : List ℕ). drop 5 u) is.is ∙ sym (append_assoc (spaced count) (spaced (note_sum count line)) line) in
    ap counted_at whole ∙ counted_hears.again (count, note_sum count line) line (is.fits, sum)

pub note_refused : (rest : List ℕ) (f : Fault) → counted_at rest ≡ Err f → (count : ℕ) (line : List ℕ) → ¬ IsNote count line (codes "# do " ++ rest)
note_refused rest f e count line is = ok_not_err (counted_at rest) ((count, note_sum count line), line) f (note_again rest count line is) e

abbrev Counted : Type 0
Counted = Pair × List ℕ

pub note_other : (rest : List ℕ) (n sum : ℕ) (u : List ℕ) → counted_at rest ≡ Ok ((n, sum), u) → ¬ (sum ≡ note_sum n u) → (count : ℕ) (line : List ℕ) → ¬ IsNote count line (codes "# do " ++ rest)
note_other rest n sum u e wrong count line is =
    let same : ◌≡◌ {A = Counted} ((count, note_sum count line), line) ((n, sum), u) =
    ok_is ((count, note_sum count line), line) ((n, sum), u) (sym (note_again rest count line is) ∙ e) in
    let c : count ≡ n = ap (λ (z : Counted). z.0.0) same in
    let l : line ≡ u = ap (λ (z : Counted). z.1) same in
    let s : note_sum count line ≡ sum = ap (λ (z : Counted). z.0.1) same in
    wrong (sym s ∙ ap (λ (k : ℕ). note_sum k line) c ∙ ap (λ (v : List ℕ). note_sum n v) l)

-- ---- beginnings

nothing_left : (rest : List ℕ) (u : Unit {0}) → end_at rest ≡ Ok u → rest ≡ []
nothing_left [] u e = refl
nothing_left (b ∷ bs) u e = absurd cc

begun_hears : Hears {A = Pair} {B = Pair} pair Small (λ p. spaced p.0 ++ ended p.1) (small_at 32 then small_at 10)
begun_hears = both_hear (small_hears 32 (omega arith)) (small_hears 10 (omega arith))

pub beginning_read : (rest : List ℕ) (version count : ℕ) → beginning_at rest ≡ Ok (version, count) → IsDone version count (codes "# done " ++ rest)
unfolding beginning_at whole_at
beginning_read rest version count e =
    let x = bind_ok ((small_at 32 then small_at 10) rest) (λ x. end_at x.1 >>= λ _. Ok x.0) (version, count) e in
    let y = bind_ok (end_at x.0.1) (λ _. Ok x.0.0) (version, count) x.2 in
    let t = begun_hears.takes rest x.0.0 x.0.1 x.1 in
    let read : ◌≡◌ {A = Pair} x.0.0 (version, count) = ok_is x.0.0 (version, count) y.2 in
    let v : t.0.0 ≡ version = ap (λ (p : Pair). p.0) t.2 ∙ ap (λ (p : Pair). p.0) read in
    let c : t.0.1 ≡ count = ap (λ (p : Pair). p.1) t.2 ∙ ap (λ (p : Pair). p.1) read in
    let whole : rest ≡ spaced version ++ ended count =
    t.3 ∙ ap (λ (u : List ℕ). (spaced t.0.0 ++ ended t.0.1) ++ u) (nothing_left x.0.1 y.0 y.1) ∙ append-nil (spaced t.0.0 ++ ended t.0.1) ∙ ap (λ (n : ℕ). spaced n ++ ended t.0.1) v ∙ ap (λ (n : ℕ). spaced version ++ ended n) c in
    record {
      known = subst (λ (n : ℕ). n < 2 ^ 64) v t.1.0;
      fits = subst (λ (n : ℕ). n < 2 ^ 64) c t.1.1;
      is = ap (λ (u : List ℕ). codes "# done " ++ u) whole;
    }

beginning_again : (rest : List ℕ) (version count : ℕ) → IsDone version count (codes "# done " ++ rest) → beginning_at rest ≡ Ok (version, count)
unfolding beginning_at whole_at
beginning_again rest version count is =
    let whole : rest ≡ (spaced version ++ ended count) ++ [] = ap (λ (u : List ℕ). drop 7 u) is.is ∙ sym (append-nil (spaced version ++ ended count)) in
    let read : (small_at 32 then small_at 10) rest ≡ Ok ((version, count), []) =
    ap (small_at 32 then small_at 10) whole ∙ begun_hears.again (version, count) [] (is.known, is.fits) in
    rw read refl

pub beginning_refused : (rest : List ℕ) (f : Fault) → beginning_at rest ≡ Err f → (version count : ℕ) → ¬ IsDone version count (codes "# done " ++ rest)
beginning_refused rest f e version count is = ok_not_err (beginning_at rest) (version, count) f (beginning_again rest version count is) e

-- ---- the word in front

absent : (word text back : List ℕ) (f : Fault) → word_at word text ≡ Err f → ¬ (text ≡ word ++ back)
absent word text back f e begins =
    let there : after_at word nothing_at text ≡ Ok (tt, back) = ap (after_at word nothing_at) begins ∙ word_again word nothing_at back in
    ok_not_err (after_at word nothing_at text) (tt, back) f there (ap (λ (w : Result (List ℕ) Fault). w >>= nothing_at) e)

pub no_note : (text : List ℕ) (f : Fault) → word_at (codes "# do ") text ≡ Err f → (count : ℕ) (line : List ℕ) → ¬ IsNote count line text
no_note text f e count line is = absent (codes "# do ") text (spaced count ++ (spaced (note_sum count line) ++ line)) f e is.is

pub no_beginning : (text : List ℕ) (f : Fault) → word_at (codes "# done ") text ≡ Err f → (version count : ℕ) → ¬ IsDone version count text
no_beginning text f e version count is = absent (codes "# done ") text (spaced version ++ ended count) f e is.is

pub whole_text : (word text rest : List ℕ) → word_at word text ≡ Ok rest → word ++ rest ≡ text
whole_text word text rest e = sym (word_is word text rest e)

-- ---- the laws

pub one_note : OneNote
one_note text m n a b p q =
    let rest : List ℕ = spaced m ++ (spaced (note_sum m a) ++ a) in
    let r = note_again rest m a (record { fits = p.fits; is = refl }) in
    let s = note_again rest n b (record { fits = q.fits; is = sym p.is ∙ q.is }) in
    let same : ◌≡◌ {A = Counted} ((m, note_sum m a), a) ((n, note_sum n b), b) = ok_is ((m, note_sum m a), a) ((n, note_sum n b), b) (sym r ∙ s) in
    (ap (λ (z : Counted). z.0.0) same, ap (λ (z : Counted). z.1) same)

pub one_done : OneDone
one_done text v w m n p q =
    let rest : List ℕ = spaced v ++ ended m in
    let r = beginning_again rest v m (record { known = p.known; fits = p.fits; is = refl }) in
    let s = beginning_again rest w n (record { known = q.known; fits = q.fits; is = sym p.is ∙ q.is }) in
    let same : ◌≡◌ {A = Pair} (v, m) (w, n) = ok_is (v, m) (w, n) (sym r ∙ s) in
    (ap (λ (z : Pair). z.0) same, ap (λ (z : Pair). z.1) same)
