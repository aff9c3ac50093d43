-- The value that is read of a spelling, where numbers are heard otherwise than they are spelled.
use Rattle.std.proofs.Common.{◌≡◌, ℕ, zero, suc, ◌<◌, eqb, List, [], ◌∷◌, ◌++◌, length, map, Ok, Err, refl, sym, ap, subst, ◌∙◌, append_assoc, arith, inl, inr}
use Rattle.std.proofs.lemmas.Bool.{eqb-true}
use Rattle.std.proofs.lemmas.List.{append-nil}
use Rattle.text_lines.specs.declared.fault.Fault.TheVariants.{Bad}
use Rattle.text_lines.specs.Reading.{Reader, ◌>>=◌, word_at, after_at, then_at, as_at, stop_of}
use Rattle.text_lines.proofs.Basics.{bind_ok, chosen, ok_is, same_eqb}
use Rattle.text_lines.specs.LongNumbers.{number_text, number_ended, number_row, in_64_bits, in_32_bits, decimal_at, order_at, place_at, places_at}
use Rattle.text_lines.proofs.Numerals.{decimal_takes, decimal_again}

-- The reader takes just the spellings of what fits, whatever follows, and says what is heard of it.
pub record Hears {A B : Type 0} (hear : A → B) (Fits : A → Type 0) (spell : A → List ℕ) (at : Reader B) : Type 0 where
  pub takes : (bytes : List ℕ) (b : B) (rest : List ℕ) → at bytes ≡ Ok (b, rest) → (a : A) × Fits a × (hear a ≡ b) × (bytes ≡ spell a ++ rest)
  pub again : (a : A) (rest : List ℕ) → Fits a → at (spell a ++ rest) ≡ Ok (hear a, rest)

abbrev pub Any : ℕ → Type 0
Any n = Unit {0}

-- ---- one after the other, and after a word

module _ {A B C D : Type 0} {h : A → B} {F : A → Type 0} {s : A → List ℕ} {at : Reader B} {k : C → D} {G : C → Type 0} {t : C → List ℕ} {also : Reader D}
    (first : Hears h F s at) (second : Hears k G t also) where
  both_end : (bytes : List ℕ) (x : B) (u : List ℕ) (y : D) (v : List ℕ) (p : B × D) (rest : List ℕ) → at bytes ≡ Ok (x, u) → also u ≡ Ok (y, v) → ◌≡◌ {A = (B × D) × List ℕ} ((x, y), v) (p, rest)
      → (a : A × C) × (F a.0 × G a.1) × ((h a.0, k a.1) ≡ p) × (bytes ≡ (s a.0 ++ t a.1) ++ rest)
  both_end bytes x u y v p rest e f same =
      let a = first.takes bytes x u e in
      let c = second.takes u y v f in
      let heard : ◌≡◌ {A = B × D} (h a.0, k c.0) (x, y) = λ i. (a.2 i, c.2 i) in
      let whole : bytes ≡ (s a.0 ++ t c.0) ++ v = a.3 ∙ ap (λ (w : List ℕ). s a.0 ++ w) c.3 ∙ sym (append_assoc (s a.0) (t c.0) v) in
      let value : ◌≡◌ {A = B × D} (x, y) p = ap (λ (z : (B × D) × List ℕ). z.0) {x = ((x, y), v)} {y = (p, rest)} same in
      let behind : v ≡ rest = ap (λ (z : (B × D) × List ℕ). z.1) {x = ((x, y), v)} {y = (p, rest)} same in
      ((a.0, c.0), (a.1, c.1), heard ∙ value, subst (λ (w : List ℕ). bytes ≡ (s a.0 ++ t c.0) ++ w) behind whole)

  both_takes : (bytes : List ℕ) (p : B × D) (rest : List ℕ) → then_at at (λ _. also) bytes ≡ Ok (p, rest) → (a : A × C) × (F a.0 × G a.1) × ((h a.0, k a.1) ≡ p) × (bytes ≡ (s a.0 ++ t a.1) ++ rest)
  both_takes bytes p rest e =
      let x = bind_ok (at bytes) (λ x. also x.1 >>= λ y. Ok ((x.0, y.0), y.1)) (p, rest) e in
      let y = bind_ok (also x.0.1) (λ y. Ok ((x.0.0, y.0), y.1)) (p, rest) x.2 in
      both_end bytes x.0.0 x.0.1 y.0.0 y.0.1 p rest x.1 y.1 (ok_is ((x.0.0, y.0.0), y.0.1) (p, rest) y.2)

  both_again : (a : A × C) (rest : List ℕ) → F a.0 × G a.1 → then_at at (λ _. also) ((s a.0 ++ t a.1) ++ rest) ≡ Ok ((h a.0, k a.1), rest)
  both_again a rest f =
      let one = first.again a.0 (t a.1 ++ rest) f.0 in
      let two = second.again a.1 rest f.1 in
      ap (then_at at (λ _. also)) (append_assoc (s a.0) (t a.1) rest) ∙ rw (one, two) refl

  pub both_hear : Hears (λ (a : A × C). (h a.0, k a.1)) (λ a. F a.0 × G a.1) (λ a. s a.0 ++ t a.1) (then_at at (λ _. also))
  both_hear = record { takes = both_takes; again = both_again }

pub word_is : (word bytes rest : List ℕ) → word_at word bytes ≡ Ok rest → bytes ≡ word ++ rest
unfolding word_at
word_is [] bytes rest e = ok_is bytes rest e
word_is (c ∷ cs) [] rest e = absurd cc
word_is (c ∷ cs) (b ∷ bs) rest e =
    elim (chosen (eqb b c) (word_at cs bs) (Err (Bad (suc (length bs)))) (Ok rest) e) [
      | inl h ↦ λ i. eqb-true b c h.0 i ∷ word_is cs bs rest h.1 i
      | inr h ↦ absurd cc
    ]

pub word_takes : {B : Type 0} (word : List ℕ) (at : Reader B) (bytes : List ℕ) (y : B × List ℕ) → after_at word at bytes ≡ Ok y → (u : List ℕ) × (bytes ≡ word ++ u) × (at u ≡ Ok y)
word_takes word at bytes y e = let x = bind_ok (word_at word bytes) at y e in (x.0, word_is word bytes x.0 x.1, x.2)

pub word_again : {B : Type 0} (word : List ℕ) (at : Reader B) (u : List ℕ) → after_at word at (word ++ u) ≡ at u
unfolding word_at
word_again [] at u = refl
word_again (c ∷ cs) at u = rw (same_eqb c) (word_again cs at u)

-- ---- numbers

stop_small : (k : ℕ) → stop_of k < 48
stop_small zero = omega arith
stop_small (suc k) = omega arith

number_end : {B : Type 0} (hear : ℕ → B) (stop : ℕ) → stop < 48 → (bytes : List ℕ) (n : ℕ) (u : List ℕ) (b : B) (rest : List ℕ) → decimal_at stop bytes ≡ Ok (n, u) → ◌≡◌ {A = B × List ℕ} (hear n, u) (b, rest)
    → (n : ℕ) × Unit {0} × (hear n ≡ b) × (bytes ≡ (number_text n ++ stop ∷ []) ++ rest)
number_end {B} hear stop apart bytes n u b rest e same =
    let value : hear n ≡ b = ap (λ (z : B × List ℕ). z.0) {x = (hear n, u)} {y = (b, rest)} same in
    let behind : u ≡ rest = ap (λ (z : B × List ℕ). z.1) {x = (hear n, u)} {y = (b, rest)} same in
    (n, tt, value, subst (λ (w : List ℕ). bytes ≡ (number_text n ++ stop ∷ []) ++ w) behind (decimal_takes stop apart bytes n u e))

number_hears : {B : Type 0} (hear : ℕ → B) (stop : ℕ) → stop < 48 → Hears hear Any (λ n. number_text n ++ stop ∷ []) (as_at hear (decimal_at stop))
number_hears {B} hear stop apart = record { takes = takes; again = again }
  where
    takes : (bytes : List ℕ) (b : B) (rest : List ℕ) → as_at hear (decimal_at stop) bytes ≡ Ok (b, rest) → (n : ℕ) × Unit {0} × (hear n ≡ b) × (bytes ≡ (number_text n ++ stop ∷ []) ++ rest)
    takes bytes b rest e =
        let x = bind_ok (decimal_at stop bytes) (λ x. Ok (hear x.0, x.1)) (b, rest) e in
        number_end hear stop apart bytes x.0.0 x.0.1 b rest x.1 (ok_is (hear x.0.0, x.0.1) (b, rest) x.2)

    again : (n : ℕ) (rest : List ℕ) → Unit {0} → as_at hear (decimal_at stop) ((number_text n ++ stop ∷ []) ++ rest) ≡ Ok (hear n, rest)
    again n rest f = rw (decimal_again stop apart n rest) refl

pub place_hears : (stop : ℕ) → stop < 48 → Hears in_32_bits Any (λ n. number_text n ++ stop ∷ []) (place_at stop)
unfolding place_at
place_hears stop apart = number_hears in_32_bits stop apart

pub order_hears : (stop : ℕ) → stop < 48 → Hears in_64_bits Any (λ n. number_text n ++ stop ∷ []) (order_at stop)
unfolding order_at
order_hears stop apart = number_hears in_64_bits stop apart

-- ---- a line of them

row_step : (k x : ℕ) (xs : List ℕ) → length xs ≡ k → number_row (x ∷ xs) ≡ (number_text x ++ stop_of k ∷ []) ++ number_row xs
row_step zero x [] e = sym (append-nil (number_ended x))
row_step zero x (y ∷ ys) e = absurd cc
row_step (suc k) x [] e = absurd cc
row_step (suc k) x (y ∷ ys) e = refl

places_next : (k : ℕ) (bytes : List ℕ) (m : ℕ) (u ms v xs : List ℕ) → place_at (stop_of k) bytes ≡ Ok (m, u) → length xs ≡ k → map in_32_bits xs ≡ ms → u ≡ number_row xs ++ v
    → (ys : List ℕ) × (length ys ≡ suc k) × (map in_32_bits ys ≡ m ∷ ms) × (bytes ≡ number_row ys ++ v)
places_next k bytes m u ms v xs e many heard behind =
    let n = (place_hears (stop_of k) (stop_small k)).takes bytes m u e in
    let one : List ℕ = number_text n.0 ++ stop_of k ∷ [] in
    let whole : bytes ≡ one ++ (number_row xs ++ v) = n.3 ∙ ap (λ (w : List ℕ). one ++ w) behind in
    let line : number_row (n.0 ∷ xs) ++ v ≡ one ++ (number_row xs ++ v) = ap (λ (w : List ℕ). w ++ v) (row_step k n.0 xs many) ∙ append_assoc one (number_row xs) v in
    (n.0 ∷ xs, ap suc many, (λ i. n.2 i ∷ heard i), whole ∙ sym line)

pub places_take : (k : ℕ) (bytes ms rest : List ℕ) → places_at k bytes ≡ Ok (ms, rest) → (xs : List ℕ) × (length xs ≡ k) × (map in_32_bits xs ≡ ms) × (bytes ≡ number_row xs ++ rest)
unfolding places_at
places_take zero bytes ms rest e =
    let same : ◌≡◌ {A = List ℕ × List ℕ} ([], bytes) (ms, rest) = ok_is ([], bytes) (ms, rest) e in
    ([], refl, ap (λ (z : List ℕ × List ℕ). z.0) same, ap (λ (z : List ℕ × List ℕ). z.1) same)
places_take (suc k) bytes ms rest e =
    let x = bind_ok (place_at (stop_of k) bytes) (λ x. places_at k x.1 >>= λ y. Ok (x.0 ∷ y.0, y.1)) (ms, rest) e in
    let y = bind_ok (places_at k x.0.1) (λ y. Ok (x.0.0 ∷ y.0, y.1)) (ms, rest) x.2 in
    let ns = places_take k x.0.1 y.0.0 y.0.1 y.1 in
    subst (λ (z : List ℕ × List ℕ). (xs : List ℕ) × (length xs ≡ suc k) × (map in_32_bits xs ≡ z.0) × (bytes ≡ number_row xs ++ z.1)) (ok_is (x.0.0 ∷ y.0.0, y.0.1) (ms, rest) y.2)
    (places_next k bytes x.0.0 x.0.1 y.0.0 y.0.1 ns.0 x.1 ns.1 ns.2 ns.3)

pub places_again : (xs rest : List ℕ) → places_at (length xs) (number_row xs ++ rest) ≡ Ok (map in_32_bits xs, rest)
unfolding places_at
places_again [] rest = refl
places_again (x ∷ xs) rest =
    let stop : ℕ = stop_of (length xs) in
    let one = (place_hears (stop_of (length xs)) (stop_small (length xs))).again x (number_row xs ++ rest) tt in
    ap (places_at (suc (length xs))) (ap (λ (u : List ℕ). u ++ rest) (row_step (length xs) x xs refl) ∙ append_assoc (number_text x ++ stop_of (length xs) ∷ []) (number_row xs) rest)
    ∙ rw (one, places_again xs rest) refl
