-- A remark is read just as it is spelled.
use Rattle.std.proofs.Common.{◌≡◌, ℕ, zero, suc, ◌<◌, ◌^◌, cond, List, [], ◌∷◌, ◌++◌, length, drop, Option, Some, None, Result, Ok, Err, inl, inr, refl, ap, sym, subst, ◌∙◌, arith}
use Rattle.std.specs.Prelude.{codes, slice_index, nat_lt}
use Rattle.std.specs.Fmt.{decimal, digits}
use Rattle.std.proofs.lemmas.Bool.{ne_eqb, lt-ltb, ltb-true}
use Rattle.std.proofs.lemmas.Fmt.{decimal-digits_of}
use Rattle.std.proofs.lemmas.List.{append-nil}
use Rattle.text_lines.specs.declared.fault.Fault.{Fault}
use Rattle.text_lines.specs.declared.fault.Fault.TheVariants.{Bad}
use Rattle.text_lines.specs.Reading.{Reader, ◌>>=◌, nothing_at, word_at, after_at, as_at, ◌then◌, end_at, whole_at}
use Rattle.text_lines.specs.Spelling.{spaced, ended, Below}
use Rattle.text_lines.specs.LongNumbers.{number_text, order_at}
use Rattle.text_lines.proofs.Basics.{bind_ok, chosen, ok_is}
use Rattle.text_lines.proofs.LongDecimals.{in_some}
use Rattle.text_lines.proofs.Spellings.{Hears, both_hear, order_hears, word_is, word_again}
use Rattle.lock_protocol.specs.Names.{IsName, name_ended}
use Rattle.lock_protocol.specs.NameReading.{name_at}
use Rattle.lock_protocol.proofs.ReadNames.{name_hears}
use Rattle.lock_protocol.proofs.Fronts.{ok_not_err, bits_of}
use Rattle.name_remarks.specs.Remarks.{Binding, Remark, bind, free, top, remark_text, IsRemark, BeginsWith, BeginsAsOne}
use Rattle.name_remarks.specs.Readers.{small_of, small_at, ring_at, bind_of, bind_at, free_at, top_at}
use Rattle.name_remarks.specs.Views.{Heard, Says, Other, Wrong, IsHeardAs, OneReading, ReadBack, OneTextEach}

-- ---- numbers

pub same_text : (n : ℕ) → n < 2 ^ 64 → decimal n ≡ number_text n
unfolding number_text digits
same_text zero lt = refl
same_text (suc n) lt = decimal-digits_of (suc n) (omega arith) lt ∙ sym (rw (ne_eqb (suc n) 0 (λ e. omega (arith, e))) refl)

abbrev spelled : ℕ → ℕ → List ℕ
spelled stop n = decimal n ++ stop ∷ []

small_is : (o : Option ℕ) (u : List ℕ) (n : ℕ) (rest : List ℕ) → small_of o u ≡ Ok (n, rest) → (o ≡ Some n) × (u ≡ rest)
small_is (Some m) u n rest e =
    let same : ◌≡◌ {A = ℕ × List ℕ} (m, u) (n, rest) = ok_is (m, u) (n, rest) e in
    (ap (λ (z : ℕ × List ℕ). Some z.0) same, ap (λ (z : ℕ × List ℕ). z.1) same)
small_is None u n rest e = absurd cc

module _ (stop : ℕ) (apart : stop < 48) where
  small_takes : (bytes : List ℕ) (n : ℕ) (rest : List ℕ) → small_at stop bytes ≡ Ok (n, rest) → (a : ℕ) × Below (2 ^ 64) a × (a ≡ n) × (bytes ≡ spelled stop a ++ rest)
  unfolding small_at
  small_takes bytes n rest e =
      let x = bind_ok (order_at stop bytes) (λ x. small_of x.0 x.1) (n, rest) e in
      let s = small_is x.0.0 x.0.1 n rest x.2 in
      let t = (order_hears stop apart).takes bytes x.0.0 x.0.1 x.1 in
      let b = bits_of t.0 n (t.2 ∙ s.0) in
      let whole : bytes ≡ (number_text n ++ stop ∷ []) ++ rest = subst (λ (m : ℕ). bytes ≡ (number_text m ++ stop ∷ []) ++ x.0.1) b.0 t.3 ∙ ap (λ (u : List ℕ). (number_text n ++ stop ∷ []) ++ u) s.1 in
      (n, b.1, refl, whole ∙ ap (λ (u : List ℕ). (u ++ stop ∷ []) ++ rest) (sym (same_text n b.1)))

  small_again : (n : ℕ) (rest : List ℕ) → n < 2 ^ 64 → small_at stop (spelled stop n ++ rest) ≡ Ok (n, rest)
  unfolding small_at
  small_again n rest lt =
      let read : order_at stop (spelled stop n ++ rest) ≡ Ok (Some n, rest) =
      ap (λ (u : List ℕ). order_at stop ((u ++ stop ∷ []) ++ rest)) (same_text n lt) ∙ ((order_hears stop apart).again n rest tt ∙ ap (λ (o : Option ℕ). Ok (o, rest)) (in_some n lt)) in
      rw read refl

  small_hears : Hears (λ (n : ℕ). n) (Below (2 ^ 64)) (spelled stop) (small_at stop)
  small_hears = record { takes = small_takes; again = small_again }

  ring_takes : (bytes : List ℕ) (n : ℕ) (rest : List ℕ) → ring_at stop bytes ≡ Ok (n, rest) → (a : ℕ) × Below (2 ^ 32) a × (a ≡ n) × (bytes ≡ spelled stop a ++ rest)
  unfolding ring_at
  ring_takes bytes n rest e =
      let x = bind_ok (small_at stop bytes) (λ x. cond (nat_lt x.0 (2 ^ 32)) (Ok (x.0, x.1)) (Err (Bad (length x.1)))) (n, rest) e in
      elim (chosen (nat_lt x.0.0 (2 ^ 32)) (Ok (x.0.0, x.0.1)) (Err (Bad (length x.0.1))) (Ok (n, rest)) x.2) [
        | inl h ↦
            let same : ◌≡◌ {A = ℕ × List ℕ} (x.0.0, x.0.1) (n, rest) = ok_is (x.0.0, x.0.1) (n, rest) h.1 in
            let t = small_takes bytes x.0.0 x.0.1 x.1 in
            let value : t.0 ≡ n = t.2 ∙ ap (λ (z : ℕ × List ℕ). z.0) same in
            (t.0, subst (λ (m : ℕ). m < 2 ^ 32) (sym t.2) (ltb-true x.0.0 (2 ^ 32) h.0), value, t.3 ∙ ap (λ (z : ℕ × List ℕ). spelled stop t.0 ++ z.1) same)
        | inr h ↦ absurd cc
      ]

  ring_again : (n : ℕ) (rest : List ℕ) → n < 2 ^ 32 → ring_at stop (spelled stop n ++ rest) ≡ Ok (n, rest)
  unfolding ring_at
  ring_again n rest lt = let wide : n < 2 ^ 64 = omega (arith, lt) in rw (small_again n rest wide, lt-ltb n (2 ^ 32) lt) refl

  ring_hears : Hears (λ (n : ℕ). n) (Below (2 ^ 32)) (spelled stop) (ring_at stop)
  ring_hears = record { takes = ring_takes; again = ring_again }

-- ---- what is read to its end

nothing_left : (rest : List ℕ) (u : Unit {0}) → end_at rest ≡ Ok u → rest ≡ []
nothing_left [] u e = refl
nothing_left (b ∷ bs) u e = absurd cc

module _ {A B : Type 0} {hear : A → B} {F : A → Type 0} {s : A → List ℕ} {at : Reader B} (law : Hears hear F s at) (of : B → Remark) where
  whole_takes : (bytes : List ℕ) (r : Remark) → whole_at (as_at of at) bytes ≡ Ok r → (a : A) × F a × (of (hear a) ≡ r) × (bytes ≡ s a)
  unfolding whole_at
  whole_takes bytes r e =
      let x = bind_ok (as_at of at bytes) (λ x. end_at x.1 >>= λ _. Ok x.0) r e in
      let y = bind_ok (end_at x.0.1) (λ _. Ok x.0.0) r x.2 in
      let z = bind_ok (at bytes) (λ x. Ok (of x.0, x.1)) x.0 x.1 in
      let t = law.takes bytes z.0.0 z.0.1 z.1 in
      let made : Remark × List ℕ = (of z.0.0, z.0.1) in
      let same : made ≡ x.0 = ok_is made x.0 z.2 in
      let none : z.0.1 ≡ [] = ap (λ (p : Remark × List ℕ). p.1) same ∙ nothing_left x.0.1 y.0 y.1 in
      let value : of (hear t.0) ≡ r = ap of t.2 ∙ (ap (λ (p : Remark × List ℕ). p.0) same ∙ ok_is x.0.0 r y.2) in
      (t.0, t.1, value, t.3 ∙ (ap (λ (u : List ℕ). s t.0 ++ u) none ∙ append-nil (s t.0)))

  whole_again : (bytes : List ℕ) (a : A) → F a → bytes ≡ s a → whole_at (as_at of at) bytes ≡ Ok (of (hear a))
  unfolding whole_at
  whole_again bytes a f e =
      let read : at bytes ≡ Ok (hear a, []) = ap at (e ∙ sym (append-nil (s a))) ∙ law.again a [] f in
      rw read refl

-- ---- the kinds

abbrev Parts : Type 0
Parts = ℕ × (ℕ × (ℕ × List ℕ))

abbrev parts : Parts → Parts
parts p = (p.0, (p.1.0, (p.1.1.0, p.1.1.1)))

bind_hears : Hears {A = Parts} {B = Parts} parts (λ p. Below (2 ^ 32) p.0 × (Below (2 ^ 64) p.1.0 × (Below (2 ^ 64) p.1.1.0 × IsName p.1.1.1))) (λ p. spaced p.0 ++ (spaced p.1.0 ++ (spaced p.1.1.0 ++ name_ended p.1.1.1))) (ring_at 32 then small_at 32 then small_at 32 then name_at 10)
bind_hears = both_hear (ring_hears 32 (omega arith)) (both_hear (small_hears 32 (omega arith)) (both_hear (small_hears 32 (omega arith)) (name_hears 10 refl)))

pub bind_read : (rest : List ℕ) (r : Remark) → whole_at bind_at rest ≡ Ok r → IsRemark r (codes "# name " ++ rest)
unfolding bind_at
bind_read rest r e =
    let t = whole_takes bind_hears bind_of rest r e in
    subst (λ (x : Remark). IsRemark x (codes "# name " ++ rest)) t.2 (record { fits = t.1; is = ap (λ (u : List ℕ). codes "# name " ++ u) t.3 })

bind_again : (rest : List ℕ) (ring : ℕ) (b : Binding) → IsRemark (bind ring b) (codes "# name " ++ rest) → whole_at bind_at rest ≡ Ok (bind ring b)
unfolding bind_at
bind_again rest ring b is = whole_again bind_hears bind_of rest (ring, (b.before, (b.floor, b.name))) is.fits (ap (λ (u : List ℕ). drop 7 u) is.is)

pub bind_refused : (rest : List ℕ) (f : Fault) → whole_at bind_at rest ≡ Err f → (r : Remark) → IsRemark r (codes "# name " ++ rest) → ⊥
bind_refused rest f e (bind ring b) is = ok_not_err (whole_at bind_at rest) (bind ring b) f (bind_again rest ring b is) e
bind_refused rest f e (free ring) is = let no : ◌≡◌ {A = ℕ} 110 102 = ap (λ (u : List ℕ). slice_index u 2) is.is in absurd (omega (arith, no))
bind_refused rest f e (top grants) is = let no : ◌≡◌ {A = ℕ} 110 102 = ap (λ (u : List ℕ). slice_index u 2) is.is in absurd (omega (arith, no))

pub free_read : (rest : List ℕ) (r : Remark) → whole_at free_at rest ≡ Ok r → IsRemark r (codes "# free " ++ rest)
unfolding free_at
free_read rest r e =
    let t = whole_takes (ring_hears 10 (omega arith)) free rest r e in
    subst (λ (x : Remark). IsRemark x (codes "# free " ++ rest)) t.2 (record { fits = t.1; is = ap (λ (u : List ℕ). codes "# free " ++ u) t.3 })

free_again : (rest : List ℕ) (ring : ℕ) → IsRemark (free ring) (codes "# free " ++ rest) → whole_at free_at rest ≡ Ok (free ring)
unfolding free_at
free_again rest ring is = whole_again (ring_hears 10 (omega arith)) free rest ring is.fits (ap (λ (u : List ℕ). drop 7 u) is.is)

pub free_refused : (rest : List ℕ) (f : Fault) → whole_at free_at rest ≡ Err f → (r : Remark) → IsRemark r (codes "# free " ++ rest) → ⊥
free_refused rest f e (bind ring b) is = let no : ◌≡◌ {A = ℕ} 102 110 = ap (λ (u : List ℕ). slice_index u 2) is.is in absurd (omega (arith, no))
free_refused rest f e (free ring) is = ok_not_err (whole_at free_at rest) (free ring) f (free_again rest ring is) e
free_refused rest f e (top grants) is = let no : ◌≡◌ {A = ℕ} 114 108 = ap (λ (u : List ℕ). slice_index u 3) is.is in absurd (omega (arith, no))

pub top_read : (rest : List ℕ) (r : Remark) → whole_at top_at rest ≡ Ok r → IsRemark r (codes "# floor " ++ rest)
unfolding top_at
top_read rest r e =
    let t = whole_takes (small_hears 10 (omega arith)) top rest r e in
    subst (λ (x : Remark). IsRemark x (codes "# floor " ++ rest)) t.2 (record { fits = t.1; is = ap (λ (u : List ℕ). codes "# floor " ++ u) t.3 })

top_again : (rest : List ℕ) (grants : ℕ) → IsRemark (top grants) (codes "# floor " ++ rest) → whole_at top_at rest ≡ Ok (top grants)
unfolding top_at
top_again rest grants is = whole_again (small_hears 10 (omega arith)) top rest grants is.fits (ap (λ (u : List ℕ). drop 8 u) is.is)

pub top_refused : (rest : List ℕ) (f : Fault) → whole_at top_at rest ≡ Err f → (r : Remark) → IsRemark r (codes "# floor " ++ rest) → ⊥
top_refused rest f e (bind ring b) is = let no : ◌≡◌ {A = ℕ} 102 110 = ap (λ (u : List ℕ). slice_index u 2) is.is in absurd (omega (arith, no))
top_refused rest f e (free ring) is = let no : ◌≡◌ {A = ℕ} 108 114 = ap (λ (u : List ℕ). slice_index u 3) is.is in absurd (omega (arith, no))
top_refused rest f e (top grants) is = ok_not_err (whole_at top_at rest) (top grants) f (top_again rest grants is) e

-- ---- which kind

absent : (word line : List ℕ) (f : Fault) → word_at word line ≡ Err f → BeginsWith word line → ⊥
absent word line f e begins =
    let there : after_at word nothing_at line ≡ Ok (tt, begins.0) = ap (after_at word nothing_at) begins.1 ∙ word_again word nothing_at begins.0 in
    ok_not_err (after_at word nothing_at line) (tt, begins.0) f there (ap (λ (w : Result (List ℕ) Fault). w >>= nothing_at) e)

pub is_other : (line : List ℕ) (f g h : Fault) → word_at (codes "# name ") line ≡ Err f → word_at (codes "# free ") line ≡ Err g → word_at (codes "# floor ") line ≡ Err h → BeginsAsOne line → ⊥
is_other line f g h no_name no_free no_top (inl b) = absent (codes "# name ") line f no_name b
is_other line f g h no_name no_free no_top (inr (inl b)) = absent (codes "# free ") line g no_free b
is_other line f g h no_name no_free no_top (inr (inr b)) = absent (codes "# floor ") line h no_top b

-- the line that was taken apart
pub heard_whole : (word line rest : List ℕ) (h : Heard) → word_at word line ≡ Ok rest → IsHeardAs (word ++ rest) h → IsHeardAs line h
heard_whole word line rest h e is = subst (λ (u : List ℕ). IsHeardAs u h) (sym (word_is word line rest e)) is

-- ---- the laws

same_bind : (line : List ℕ) (ring : ℕ) (b : Binding) (r : Remark) → IsRemark (bind ring b) line → IsRemark r line → bind ring b ≡ r
same_bind line ring b r p q = go r q
  where
    rest : List ℕ
    rest = spaced ring ++ (spaced b.before ++ (spaced b.floor ++ name_ended b.name))

    read : whole_at bind_at rest ≡ Ok (bind ring b)
    read = bind_again rest ring b (record { fits = p.fits; is = refl })

    go : (r : Remark) → IsRemark r line → bind ring b ≡ r
    go (bind s d) q = ok_is (bind ring b) (bind s d) (sym read ∙ bind_again rest s d (record { fits = q.fits; is = sym p.is ∙ q.is }))
    go (free s) q = let no : ◌≡◌ {A = ℕ} 110 102 = ap (λ (u : List ℕ). slice_index u 2) (sym p.is ∙ q.is) in absurd (omega (arith, no))
    go (top n) q = let no : ◌≡◌ {A = ℕ} 110 102 = ap (λ (u : List ℕ). slice_index u 2) (sym p.is ∙ q.is) in absurd (omega (arith, no))

same_free : (line : List ℕ) (ring : ℕ) (r : Remark) → IsRemark (free ring) line → IsRemark r line → free ring ≡ r
same_free line ring (bind s d) p q = sym (same_bind line s d (free ring) q p)
same_free line ring (free s) p q =
    let read = free_again (ended ring) ring (record { fits = p.fits; is = refl }) in
    ok_is (free ring) (free s) (sym read ∙ free_again (ended ring) s (record { fits = q.fits; is = sym p.is ∙ q.is }))
same_free line ring (top n) p q = let no : ◌≡◌ {A = ℕ} 114 108 = ap (λ (u : List ℕ). slice_index u 3) (sym p.is ∙ q.is) in absurd (omega (arith, no))

same_top : (line : List ℕ) (grants : ℕ) (r : Remark) → IsRemark (top grants) line → IsRemark r line → top grants ≡ r
same_top line grants (bind s d) p q = sym (same_bind line s d (top grants) q p)
same_top line grants (free s) p q = sym (same_free line s (top grants) q p)
same_top line grants (top n) p q =
    let read = top_again (ended grants) grants (record { fits = p.fits; is = refl }) in
    ok_is (top grants) (top n) (sym read ∙ top_again (ended grants) n (record { fits = q.fits; is = sym p.is ∙ q.is }))

pub same_remark : (line : List ℕ) (a b : Remark) → IsRemark a line → IsRemark b line → a ≡ b
same_remark line (bind ring d) b p q = same_bind line ring d b p q
same_remark line (free ring) b p q = same_free line ring b p q
same_remark line (top grants) b p q = same_top line grants b p q

pub begins_as_one : (line : List ℕ) (r : Remark) → IsRemark r line → BeginsAsOne line
begins_as_one line (bind ring b) p = inl (spaced ring ++ (spaced b.before ++ (spaced b.floor ++ name_ended b.name)), p.is)
begins_as_one line (free ring) p = inr (inl (ended ring, p.is))
begins_as_one line (top grants) p = inr (inr (ended grants, p.is))

pub one_reading : OneReading
one_reading line (Says a) (Says b) p q = ap Says (same_remark line a b p q)
one_reading line (Says a) Other p q = absurd (q (begins_as_one line a p))
one_reading line (Says a) Wrong p q = absurd (q.1 a p)
one_reading line Other (Says b) p q = absurd (p (begins_as_one line b q))
one_reading line Other Other p q = refl
one_reading line Other Wrong p q = absurd (p q.0)
one_reading line Wrong (Says b) p q = absurd (p.1 b q)
one_reading line Wrong Other p q = absurd (q p.0)
one_reading line Wrong Wrong p q = refl

pub read_back : ReadBack
read_back r a fits is = one_reading (remark_text r) a (Says r) is (record { fits = fits; is = refl })

pub one_text_each : OneTextEach
one_text_each a b p q e = same_remark (remark_text a) a b (record { fits = p; is = refl }) (record { fits = q; is = e })
