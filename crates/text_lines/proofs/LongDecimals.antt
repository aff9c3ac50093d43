-- One step of reading a decimal, or a line of them.
use Rattle.std.proofs.Common.{◌≡◌, ◌≢◌, ◌∙◌, ℕ, suc, ◌+◌, ◌-◌, ◌*◌, ◌^◌, ◌<◌, ◌≤◌, Bool, true, false, nat_lt, ◌&&◌, min, get_or, List, [], ◌∷◌, ◌++◌, length, drop, Option, Some, None, Result, Ok, Err, refl, sym, ap, append_assoc, arith, length-drop}
use Rattle.std.proofs.lemmas.Bool.{cond-true, cond-false, lt-ltb, le-ltb, eq-eqb, ne_eqb}
use Rattle.std.proofs.lemmas.List.{append-nil, drop_more, drop_all}
use Rattle.text_lines.specs.declared.fault.Fault.{Fault}
use Rattle.text_lines.specs.declared.fault.Fault.TheVariants.{Short, Bad}
use Rattle.text_lines.specs.declared.fault.Stop.{Stop}
use Rattle.text_lines.specs.declared.fault.Stop.TheVariants as stops
use Rattle.text_lines.specs.Reading.{◌>>=◌, Fails, is_digit, as_at, stop_of}
use Rattle.text_lines.specs.LongNumbers.{long_digits_at, decimal_at, in_64_bits, order_at, place_at, places_at}

-- ---- numbers of 64 bits

abbrev top : ℕ
top = 2 ^ 64

pub in_some : (n : ℕ) → n < top → in_64_bits n ≡ Some n
in_some n l = cond-true (nat_lt n top) (Some n) None (lt-ltb n top l)

pub in_none : (n : ℕ) → top ≤ n → in_64_bits n ≡ None
in_none n l = cond-false (nat_lt n top) (Some n) None (le-ltb n top l)

-- ---- one step

abbrev goes_on : ℕ → ℕ → Bool
goes_on n b = nat_lt 0 n && is_digit b

module _ (stop : ℕ) (n : ℕ) (bs : List ℕ) (i : ℕ) where
  pub digits_end : i < length bs → get_or bs i 0 ≡ stop → long_digits_at stop n (drop i bs) ≡ Ok (n, drop (i + 1) bs)
  unfolding long_digits_at
  digits_end l e = rw (drop_more bs i 0 l, eq-eqb _ _ e) refl

  pub digits_more : i < length bs → get_or bs i 0 ≢ stop → goes_on n (get_or bs i 0) ≡ true → long_digits_at stop n (drop i bs) ≡ long_digits_at stop (n * 10 + (get_or bs i 0 - 48)) (drop (i + 1) bs)
  unfolding long_digits_at
  digits_more l e g = rw (drop_more bs i 0 l, ne_eqb _ _ e, g) refl

  pub digits_other : i < length bs → get_or bs i 0 ≢ stop → goes_on n (get_or bs i 0) ≡ false → long_digits_at stop n (drop i bs) ≡ Err (Bad (length bs - i))
  unfolding long_digits_at
  digits_other l e g =
      let k : suc (length (drop (i + 1) bs)) ≡ length bs - i = omega (arith, length-drop (i + 1) bs) in
      rw (drop_more bs i 0 l, ne_eqb _ _ e, g, k) refl

  pub digits_short : length bs ≤ i → long_digits_at stop n (drop i bs) ≡ Err Short
  unfolding long_digits_at
  digits_short l = rw (drop_all i bs l) refl

-- a number that is read so far, and its value in 64 bits
pub record IsReadTo (stop first : ℕ) (bs : List ℕ) (number : Option ℕ) (i : ℕ) : Type 0 where
  pub all : ℕ
  pub kept : number ≡ in_64_bits all
  pub rest : long_digits_at stop all (drop i bs) ≡ long_digits_at stop first bs

-- ---- the number that is read, as an order and as a place

abbrev pub as_order : Result (ℕ × List ℕ) Fault → Result (Option ℕ × List ℕ) Fault
as_order r = as_at in_64_bits (λ (_ : List ℕ). r) []

abbrev as_place : Result (ℕ × List ℕ) Fault → Result (ℕ × List ℕ) Fault
as_place r = as_at (λ n. min n 4294967295) (λ (_ : List ℕ). r) []

abbrev number_of : Result (Option ℕ × List ℕ) Fault → Option ℕ
number_of (Ok x) = x.0
number_of (Err f) = None

abbrev rest_of : Result (Option ℕ × List ℕ) Fault → List ℕ
rest_of (Ok x) = x.1
rest_of (Err f) = []

pub place_read : (stop : ℕ) (bytes rest : List ℕ) (number : Option ℕ) (is : ℕ) → order_at stop bytes ≡ Ok (number, rest) → ((n : ℕ) → number ≡ in_64_bits n → is ≡ min n 4294967295) → place_at stop bytes ≡ Ok (is, rest)
unfolding order_at place_at
place_read stop bytes rest number is h named_as = go (decimal_at stop bytes) h
  where
    go : (d : Result (ℕ × List ℕ) Fault) → as_order d ≡ Ok (number, rest) → as_place d ≡ Ok (is, rest)
    go (Ok x) e =
        let one : is ≡ min x.0 4294967295 = named_as x.0 (sym (ap number_of e)) in
        λ j. Ok (sym one j, ap rest_of e j)
    go (Err f) e = absurd cc

pub place_fails : (stop : ℕ) (bytes : List ℕ) (e : Stop) → Fails e (order_at stop bytes) → Fails e (place_at stop bytes)
unfolding order_at place_at
place_fails stop bytes stops.Memory h = tt
place_fails stop bytes (stops.Fault f) h = go (decimal_at stop bytes) h
  where
    go : (d : Result (ℕ × List ℕ) Fault) → as_order d ≡ Err f → as_place d ≡ Err f
    go (Ok x) e = absurd cc
    go (Err g) e = cc

-- ---- a line of them

-- the numbers that were read, before those that are still to be read
abbrev pub behind : List ℕ → Result (List ℕ × List ℕ) Fault → Result (List ℕ × List ℕ) Fault
behind front r = r >>= λ y. Ok (front ++ y.0, y.1)

behind_one : (front : List ℕ) (x : ℕ) (r : Result (List ℕ × List ℕ) Fault) → behind front (r >>= λ y. Ok (x ∷ y.0, y.1)) ≡ behind (front ++ x ∷ []) r
behind_one front x (Ok y) = ap (λ (xs : List ℕ). Ok (xs, y.1)) (sym (append_assoc front (x ∷ []) y.0))
behind_one front x (Err d) = refl

module _ (front : List ℕ) (n i : ℕ) (rest : List ℕ) (total : Result (List ℕ × List ℕ) Fault) (so_far : behind front (places_at (n - i) rest) ≡ total) (stop : ℕ) (s : stop ≡ stop_of (n - i - 1)) (lt : i < n) where
  abbrev left : ℕ
  left = n - (i + 1)

  more : n - i ≡ suc left
  more = omega arith

  same_stop : stop ≡ stop_of left
  same_stop = s ∙ ap stop_of (let e : n - i - 1 ≡ left = omega arith in e)

  pub places_more : (x : ℕ) (after : List ℕ) → place_at stop rest ≡ Ok (x, after) → behind (front ++ x ∷ []) (places_at left after) ≡ total
  unfolding places_at
  places_more x after h =
      let g : place_at (stop_of left) rest ≡ Ok (x, after) = ap (λ (k : ℕ). place_at k rest) (sym same_stop) ∙ h in
      let one : behind front (places_at (n - i) rest) ≡ behind (front ++ x ∷ []) (places_at left after) = rw (more, g) (behind_one front x (places_at left after)) in
      sym one ∙ so_far

  pub places_fault : (e : Stop) → Fails e (place_at stop rest) → Fails e total
  unfolding places_at
  places_fault stops.Memory h = tt
  places_fault (stops.Fault d) h =
      let g : place_at (stop_of left) rest ≡ Err d = ap (λ (k : ℕ). place_at k rest) (sym same_stop) ∙ h in
      let one : behind front (places_at (n - i) rest) ≡ Err d = rw (more, g) refl in
      sym so_far ∙ one

pub places_done : (front : List ℕ) (n i : ℕ) (rest : List ℕ) (total : Result (List ℕ × List ℕ) Fault) → behind front (places_at (n - i) rest) ≡ total → n ≤ i → total ≡ Ok (front, rest)
unfolding places_at
places_done front n i rest total so_far le =
    let none : n - i ≡ 0 = omega arith in
    let one : behind front (places_at (n - i) rest) ≡ Ok (front, rest) = rw none (ap (λ (xs : List ℕ). Ok (xs, rest)) (append-nil front)) in
    sym so_far ∙ one
