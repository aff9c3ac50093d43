-- A text in bytes of a caller, piece by piece.
use Rattle.std.proofs.Common.{◌≡◌, ℕ, ◌+◌, ◌-◌, ◌^◌, ◌<◌, ◌≤◌, List, [], ◌++◌, length, take, drop, get_or, refl, sym, ap, subst, ◌∙◌, append_assoc, arith, length-append, length-drop}
use Rattle.std.proofs.lemmas.List.{append-nil, take-append-drop, take_at, drop_at, drop-drop, drop_more, drop_all, length-take-le}
use Rattle.std.specs.List.{flat_map}
use Rattle.std.specs.Fmt.{decimal}
use Rattle.text_lines.specs.Spelling.{numbers_text, stop_text}
use Rattle.text_lines.proofs.NumbersText.{numbers_next}
use Rattle.saved_history.proofs.Passing.{Spelled}
use Rattle.endless_ring.specs.Filling.{Fills}

pub fills_none : (a : List ℕ) (p : ℕ) → p < 2 ^ 64 → Fills a a p p []
fills_none a p small = record {
  ends = omega arith;
  exact = λ room. omega arith;
  there = λ room. sym (ap (λ (n : ℕ). take p a ++ drop n a) (omega arith) ∙ take-append-drop p a);
}

-- the same text
pub fills_same : {a b : List ℕ} {p q : ℕ} (x y : List ℕ) → x ≡ y → Fills a b p q x → Fills a b p q y
fills_same {a = a} {b = b} {p = p} {q = q} x y e f = subst (λ (t : List ℕ). Fills a b p q t) e f

module _ {a b c : List ℕ} {p q r : ℕ} (x y : List ℕ) (f : Fills a b p q x) (g : Fills b c q r y) where
  module _ (room : p + length (x ++ y) ≤ length a) where
    room_first : p + length x ≤ length a
    room_first = omega (arith, room, length-append x y)

    place : q ≡ p + length x
    place = f.exact room_first

    abbrev front : List ℕ
    front = take p a ++ x

    front_long : length front ≡ q
    front_long = omega (arith, length-append (take p a) x, length-take-le p a (omega (arith, room_first)), place)

    middle : b ≡ front ++ drop (p + length x) a
    middle = f.there room_first ∙ sym (append_assoc (take p a) x (drop (p + length x) a))

    as_long : length b ≡ length a
    as_long = omega (arith, ap length middle, length-append front (drop (p + length x) a), front_long, length-drop (p + length x) a, room_first, place)

    room_then : q + length y ≤ length b
    room_then = omega (arith, as_long, place, room, length-append x y)

    taken : take q b ≡ front
    taken = ap (take q) middle ∙ take_at front (drop (p + length x) a) q front_long

    left : drop q b ≡ drop (p + length x) a
    left = ap (drop q) middle ∙ drop_at front (drop (p + length x) a) q front_long

    sum : p + length x + length y ≡ p + length (x ++ y)
    sum = omega (arith, length-append x y)

    rest : drop (q + length y) b ≡ drop (p + length (x ++ y)) a
    rest = sym (drop-drop (length y) q b) ∙ (ap (drop (length y)) left ∙ (drop-drop (length y) (p + length x) a ∙ ap (λ (n : ℕ). drop n a) sum))

    both : c ≡ take p a ++ ((x ++ y) ++ drop (p + length (x ++ y)) a)
    both =
        let end : List ℕ = drop (p + length (x ++ y)) a in
        let one : c ≡ take q b ++ (y ++ drop (q + length y) b) = g.there room_then in
        let two : take q b ++ (y ++ drop (q + length y) b) ≡ front ++ (y ++ end) = rw (taken, rest) refl in
        let three : front ++ (y ++ end) ≡ take p a ++ (x ++ (y ++ end)) = append_assoc (take p a) x (y ++ end) in
        one ∙ (two ∙ (three ∙ ap (λ (t : List ℕ). take p a ++ t) (sym (append_assoc x y end))))

    ends_there : r ≡ p + length (x ++ y)
    ends_there = g.exact room_then ∙ (ap (λ (n : ℕ). n + length y) place ∙ sum)

  -- a piece and then another
  pub fills_then : Fills a c p r (x ++ y)
  fills_then = record {
    ends = omega (arith, f.ends, g.ends, length-append x y);
    exact = ends_there;
    there = both;
  }

-- The bytes have a front of the text, and this is the rest of it.
abbrev pub FilledUpTo : List ℕ → List ℕ → ℕ → ℕ → List ℕ → List ℕ → Type 0
FilledUpTo a b p q text left = (front : List ℕ) × (text ≡ front ++ left) × Fills a b p q front

pub up_to_none : (a : List ℕ) (p : ℕ) (text : List ℕ) → p < 2 ^ 64 → FilledUpTo a a p p text text
up_to_none a p text small = ([], refl, fills_none a p small)

pub up_to_more : (a b c : List ℕ) (p q r : ℕ) (text x left : List ℕ) → FilledUpTo a b p q text (x ++ left) → Fills b c q r x → FilledUpTo a c p r text left
up_to_more a b c p q r text x left h f = (h.0 ++ x, h.1 ∙ sym (append_assoc h.0 x left), fills_then h.0 x h.2 f)

pub up_to_all : (a b : List ℕ) (p q : ℕ) (text : List ℕ) → FilledUpTo a b p q text [] → Fills a b p q text
up_to_all a b p q text h = fills_same h.0 text (sym (h.1 ∙ append-nil h.0)) h.2

-- the next of numbers on one line
pub number_more : (between end : List ℕ) (values : List ℕ) (i x after : ℕ) (a b c : List ℕ) (p q r : ℕ) → i < length values → x ≡ get_or values i 0 → after ≡ length values - i - 1 →
    FilledUpTo a b p q (numbers_text between end values) (numbers_text between end (drop i values)) → Fills b c q r (decimal x ++ stop_text between end after) →
    FilledUpTo a c p r (numbers_text between end values) (numbers_text between end (drop (i + 1) values))
number_more between end values i x after a b c p q r lt is many h f =
    let text : List ℕ = numbers_text between end values in
    let left : List ℕ = numbers_text between end (drop (i + 1) values) in
    let piece : List ℕ = decimal (get_or values i 0) ++ (stop_text between end (length values - i - 1) ++ []) in
    let next : FilledUpTo a b p q text (piece ++ left) = subst (λ (u : List ℕ). FilledUpTo a b p q text u) (numbers_next between end values i lt) h in
    let same : decimal x ++ stop_text between end after ≡ piece = rw (is, many, append-nil (stop_text between end (length values - i - 1))) refl in
    up_to_more a b c p q r text piece left next (fills_same (decimal x ++ stop_text between end after) piece same f)

-- ---- a list, item by item

-- the items below a place are there, and fit if the others do
pub record FilledBelow {X : Type 0} (spell : ℕ → List X → List ℕ) (Fits : ℕ → List X → Type 0) (a b : List ℕ) (p q : ℕ) (xs : List X) (i : ℕ) : Type 0 where
  pub filled : FilledUpTo a b p q (spell 0 xs) (spell i (drop i xs))
  pub fits : Fits i (drop i xs) → Fits 0 xs

module _ {X : Type 0} {piece : ℕ → X → List ℕ} {spell : ℕ → List X → List ℕ} {Fit : ℕ → X → Type 0} {Fits : ℕ → List X → Type 0} (law : Spelled piece spell Fit Fits) {xs : List X} {i : ℕ} {a b : List ℕ} {p q : ℕ} (so_far : FilledBelow spell Fits a b p q xs i) where
  pub below_more : (c : List ℕ) (r : ℕ) (x d : X) → x ≡ get_or xs i d → i < length xs → Fills b c q r (piece i x) → Fit i x → FilledBelow spell Fits a c p r xs (i + 1)
  below_more c r x d is lt h f =
      let y : X = get_or xs i d in
      let there : Fills b c q r (piece i y) = subst (λ (u : X). Fills b c q r (piece i u)) is h in
      let fit : Fit i y = subst (λ (u : X). Fit i u) is f in
      let split : spell i (drop i xs) ≡ piece i y ++ spell (i + 1) (drop (i + 1) xs) = rw (drop_more xs i d lt) (law.next i y (drop (i + 1) xs)) in
      let next : FilledUpTo a b p q (spell 0 xs) (piece i y ++ spell (i + 1) (drop (i + 1) xs)) = subst (λ (u : List ℕ). FilledUpTo a b p q (spell 0 xs) u) split so_far.filled in
      record {
        filled = up_to_more a b c p q r (spell 0 xs) (piece i y) (spell (i + 1) (drop (i + 1) xs)) next there;
        fits = λ t. so_far.fits (subst (λ (u : List X). Fits i u) (sym (drop_more xs i d lt)) (law.fits_next i y (drop (i + 1) xs) fit t));
      }

  pub below_all : length xs ≤ i → Fills a b p q (spell 0 xs) × Fits 0 xs
  below_all le =
      let whole : FilledUpTo a b p q (spell 0 xs) [] = subst (λ (u : List ℕ). FilledUpTo a b p q (spell 0 xs) u) (ap (spell i) (drop_all i xs le) ∙ law.none i) so_far.filled in
      (up_to_all a b p q (spell 0 xs) whole, so_far.fits (subst (λ (u : List X). Fits i u) (sym (drop_all i xs le)) (law.fits_none i)))

-- ---- a list, where nothing is said of what fits

pub flat_spelled : {X : Type 0} (f : X → List ℕ) → Spelled (λ (i : ℕ) (x : X). f x) (λ (i : ℕ) (xs : List X). flat_map f xs) (λ (i : ℕ) (x : X). Unit {0}) (λ (i : ℕ) (xs : List X). Unit {0})
flat_spelled f = record { none = λ i. refl; next = λ i x xs. refl; fits_none = λ i. tt; fits_next = λ i x xs f h. tt }

abbrev pub FilledItems : {X : Type 0} → (X → List ℕ) → List ℕ → List ℕ → ℕ → ℕ → List X → ℕ → Type 0
FilledItems {X = X} f a b p q xs i = FilledBelow (λ (i : ℕ) (xs : List X). flat_map f xs) (λ (i : ℕ) (xs : List X). Unit {0}) a b p q xs i
