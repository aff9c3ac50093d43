-- The line of a ring that is asked as a name was is read so.
use Rattle.std.proofs.Common.{◌≡◌, ℕ, ◌+◌, ◌^◌, ◌<◌, ◌≤◌, Bool, List, [], ◌∷◌, ◌++◌, length, Option, Some, None, inl, inr, refl, sym, ap, subst, ◌∙◌, length-append, arith}
use Rattle.std.specs.Prelude.{codes, true, false, if◌then◌else◌, ◌==◌}
use Rattle.std.specs.Fmt.{decimal}
use Rattle.std.proofs.lemmas.Bool.{cases_lt}
use Rattle.text_lines.specs.LongNumbers.{number_text, number_spaced, number_ended, in_32_bits, in_64_bits}
use Rattle.text_lines.specs.Limits.{line_limit}
use Rattle.text_lines.proofs.LongDecimals.{in_some, in_none}
use Rattle.held_locks.specs.declared.answers.Holder.{Holder}
use Rattle.held_locks.specs.Locks.{Ask, Acquire, Try, Release, Cancel, Leave, Corrupt, Stats}
use Rattle.lock_protocol.specs.Asks.{acquire, try, release, cancel, leave, corrupt, stats, ask_text, HasName, of_one, of_two, heard}
use Rattle.lock_protocol.specs.Asks as lines
use Rattle.lock_protocol.specs.Names.{name_spaced, name_ended}
use Rattle.lock_protocol.specs.Inputs.{input_line, IsReadAs}
use Rattle.lock_protocol.specs.Views as input
use Rattle.lock_protocol.proofs.Fronts.{front_all}
use Rattle.lock_journal.specs.Asking.{one_ask, is_off}
use Rattle.lock_journal.proofs.KeyLines.{same_text}
use Rattle.lock_names.specs.Names.{Bound, token_in}
use Rattle.lock_names.specs.Kept.{own_number, with_number}
use Rattle.lock_names.proofs.Found.{some_same, none_some}
use Rattle.name_service.specs.RingLines.{ring_ask, number_for}
use Rattle.name_service.proofs.Digits.{number_short, number_is_name}

-- ---- numbers of 64 bits

one_heard : (make : ℕ → lines.Ask) (n : ℕ) → n < 2 ^ 64 → of_one make (in_64_bits n) ≡ Some (make n)
one_heard make n lt = ap (λ (x : Option ℕ). of_one make x) (in_some n lt)

one_bits : (make : ℕ → lines.Ask) (n : ℕ) (a : lines.Ask) → of_one make (in_64_bits n) ≡ Some a → n < 2 ^ 64
one_bits make n a e = elim (cases_lt n (2 ^ 64)) [
  | inl lt ↦ lt
  | inr ge ↦ absurd (none_some a (sym (ap (λ (x : Option ℕ). of_one make x) (in_none n ge)) ∙ e))
]

two_heard : (make : ℕ → ℕ → lines.Ask) (m n : ℕ) → m < 2 ^ 64 → n < 2 ^ 64 → of_two make (in_64_bits m) (in_64_bits n) ≡ Some (make m n)
two_heard make m n p q = ap (λ (x : Option ℕ). of_two make x (in_64_bits n)) (in_some m p) ∙ one_heard (make m) n q

two_first : (make : ℕ → ℕ → lines.Ask) (m n : ℕ) (a : lines.Ask) → of_two make (in_64_bits m) (in_64_bits n) ≡ Some a → m < 2 ^ 64
two_first make m n a e = elim (cases_lt m (2 ^ 64)) [
  | inl lt ↦ lt
  | inr ge ↦ absurd (none_some a (sym (ap (λ (x : Option ℕ). of_two make x (in_64_bits n)) (in_none m ge)) ∙ e))
]

two_second : (make : ℕ → ℕ → lines.Ask) (m n : ℕ) (a : lines.Ask) → m < 2 ^ 64 → of_two make (in_64_bits m) (in_64_bits n) ≡ Some a → n < 2 ^ 64
two_second make m n a p e = one_bits (make m) n a (sym (ap (λ (x : Option ℕ). of_two make x (in_64_bits n)) (in_some m p)) ∙ e)

-- ---- lengths

text_short : (n : ℕ) → n < 2 ^ 64 → length (number_text n) ≤ 20
text_short n lt = subst (λ (u : List ℕ). length u ≤ 20) (same_text n lt) (number_short n lt)

spaced_short : (n : ℕ) → n < 2 ^ 64 → length (number_spaced n) ≤ 21
spaced_short n lt = let few : length (number_text n) ≤ 20 = text_short n lt in omega (arith, length-append (number_text n) (32 ∷ []), few)

ended_short : (n : ℕ) → n < 2 ^ 64 → length (number_ended n) ≤ 21
ended_short n lt = let few : length (number_text n) ≤ 20 = text_short n lt in omega (arith, length-append (number_text n) (10 ∷ []), few)

name_short : (ring : ℕ) → ring < 2 ^ 64 → length (name_spaced (decimal ring)) ≤ 21
name_short ring lt = let few : length (decimal ring) ≤ 20 = number_short ring lt in omega (arith, length-append (decimal ring) (32 ∷ []), few)

name_end_short : (ring : ℕ) → ring < 2 ^ 64 → length (name_ended (decimal ring)) ≤ 21
name_end_short ring lt = let few : length (decimal ring) ≤ 20 = number_short ring lt in omega (arith, length-append (decimal ring) (10 ∷ []), few)

both_short : (xs ys : List ℕ) (m n : ℕ) → length xs ≤ m → length ys ≤ n → length (xs ++ ys) ≤ m + n
both_short xs ys m n p q = omega (arith, length-append xs ys, p, q)

-- ---- the line is read

module _ (ring number : ℕ) (few : ring < 2 ^ 64) (small : number < 2 ^ 64) where
  named : (ask : lines.Ask) → HasName (ring_ask ring number ask)
  named (acquire name label) = number_is_name ring few
  named (try name label) = number_is_name ring few
  named (release name token) = number_is_name ring few
  named (cancel name) = number_is_name ring few
  named leave = tt
  named (corrupt name machine value) = number_is_name ring few
  named (stats name) = number_is_name ring few

  hears : (ask : lines.Ask) → heard ask ≡ Some ask → heard (ring_ask ring number ask) ≡ Some (ring_ask ring number ask)
  hears (acquire name label) e = one_heard (acquire (decimal ring)) label (one_bits (acquire name) label (acquire name label) e)
  hears (try name label) e = one_heard (try (decimal ring)) label (one_bits (try name) label (try name label) e)
  hears (release name token) e = one_heard (release (decimal ring)) number small
  hears (cancel name) e = refl
  hears leave e = refl
  hears (corrupt name machine value) e =
      let first = two_first (corrupt name) machine value (corrupt name machine value) e in
      two_heard (corrupt (decimal ring)) machine value first (two_second (corrupt name) machine value (corrupt name machine value) first e)
  hears (stats name) e = refl

  text_is_short : (ask : lines.Ask) → heard ask ≡ Some ask → length (ask_text (ring_ask ring number ask)) ≤ 100
  text_is_short (acquire name label) e =
      let own = both_short (name_spaced (decimal ring)) (number_ended label) 21 21 (name_short ring few) (ended_short label (one_bits (acquire name) label (acquire name label) e)) in
      omega (arith, length-append (codes "acquire ") (name_spaced (decimal ring) ++ number_ended label), own)
  text_is_short (try name label) e =
      let own = both_short (name_spaced (decimal ring)) (number_ended label) 21 21 (name_short ring few) (ended_short label (one_bits (try name) label (try name label) e)) in
      omega (arith, length-append (codes "try ") (name_spaced (decimal ring) ++ number_ended label), own)
  text_is_short (release name token) e =
      let own = both_short (name_spaced (decimal ring)) (number_ended number) 21 21 (name_short ring few) (ended_short number small) in
      omega (arith, length-append (codes "release ") (name_spaced (decimal ring) ++ number_ended number), own)
  text_is_short (cancel name) e = omega (arith, length-append (codes "cancel ") (name_ended (decimal ring)), name_end_short ring few)
  text_is_short leave e = omega arith
  text_is_short (corrupt name machine value) e =
      let first = two_first (corrupt name) machine value (corrupt name machine value) e in
      let second = two_second (corrupt name) machine value (corrupt name machine value) first e in
      let numbers = both_short (number_spaced machine) (number_ended value) 21 21 (spaced_short machine first) (ended_short value second) in
      let own = both_short (name_spaced (decimal ring)) (number_spaced machine ++ number_ended value) 21 42 (name_short ring few) numbers in
      omega (arith, length-append (codes "corrupt ") (name_spaced (decimal ring) ++ (number_spaced machine ++ number_ended value)), own)
  text_is_short (stats name) e = omega (arith, length-append (codes "stats ") (name_ended (decimal ring)), name_end_short ring few)

  line_is_short : (client : ℕ) (ask : lines.Ask) → client < 2 ^ 64 → heard ask ≡ Some ask → length (input_line client (ring_ask ring number ask)) ≤ line_limit
  line_is_short client ask lt e =
      let front = spaced_short client lt in
      let text = text_is_short ask e in
      omega (arith, length-append (number_spaced client) (ask_text (ring_ask ring number ask)), front, text)

  pub reads_ring : (line : List ℕ) (client : ℕ) (ask : lines.Ask) → IsReadAs line (input.Asked client ask) → IsReadAs (input_line client (ring_ask ring number ask)) (input.Asked client (ring_ask ring number ask))
  reads_ring line client ask r =
      let own : lines.Ask = ring_ask ring number ask in
      let short = line_is_short client ask r.0.bits r.2 in (
        record { bits = r.0.bits; front = (ask_text own, inl (front_all (input_line client own) short)) },
        record { is = refl; named = named ask; short = short },
        hears ask r.2,
      )

-- ---- what is asked of the ring

-- the ring is asked the same, but with its own number
pub asks_ring : (ring : ℕ) (b : Bound) (h : Option Holder) (ask : lines.Ask) (name : List ℕ) (a : Ask) → one_ask ask ≡ Some (name, a) → one_ask (ring_ask ring (number_for b a h) ask) ≡ Some (decimal ring, with_number b a h)
asks_ring ring b h ask name a e = go ask e
  where
    same : (x : List ℕ) (y : Ask) → ◌≡◌ {A = Option (List ℕ × Ask)} (Some (x, y)) (Some (name, a)) → y ≡ a
    same x y f = ap (λ (p : List ℕ × Ask). p.1) (some_same (x, y) (name, a) f)

    go : (ask : lines.Ask) → one_ask ask ≡ Some (name, a) → one_ask (ring_ask ring (number_for b a h) ask) ≡ Some (decimal ring, with_number b a h)
    go (acquire n label) f = ap (λ (y : Ask). Some (decimal ring, with_number b y h)) (same n (Acquire label) f)
    go (try n label) f = ap (λ (y : Ask). Some (decimal ring, with_number b y h)) (same n (Try label) f)
    go (release n token) f = subst (λ (y : Ask). one_ask (ring_ask ring (number_for b y h) (release n token)) ≡ Some (decimal ring, with_number b y h)) (same n (Release token) f) refl
    go (cancel n) f = ap (λ (y : Ask). Some (decimal ring, with_number b y h)) (same n Cancel f)
    go leave f = absurd (none_some (name, a) f)
    go (corrupt n machine value) f = ap (λ (y : Ask). Some (decimal ring, with_number b y h)) (same n (Corrupt (in_32_bits machine) (in_32_bits value)) f)
    go (stats n) f = ap (λ (y : Ask). Some (decimal ring, with_number b y h)) (same n Stats f)

-- a fault stays one
pub off_ring : (ring number : ℕ) (faults : Bool) (ask : lines.Ask) → is_off faults (ring_ask ring number ask) ≡ is_off faults ask
off_ring ring number faults (acquire name label) = refl
off_ring ring number faults (try name label) = refl
off_ring ring number faults (release name token) = refl
off_ring ring number faults (cancel name) = refl
off_ring ring number faults leave = refl
off_ring ring number faults (corrupt name machine value) = refl
off_ring ring number faults (stats name) = refl

-- the number of a hold has 64 bits
own_small : (b : Bound) (token : ℕ) (h : Option Holder) → ((x : Holder) → h ≡ Some x → x.token < 2 ^ 64) → own_number b token h < 2 ^ 64
own_small b token None few = omega arith
own_small b token (Some x) few = either (token == token_in b x.token) x.token (few x refl)
  where
    either : (q : Bool) (n : ℕ) → n < 2 ^ 64 → (if q then n else 0) < 2 ^ 64
    either true n lt = lt
    either false n lt = omega arith

pub number_small : (b : Bound) (a : Ask) (h : Option Holder) → ((x : Holder) → h ≡ Some x → x.token < 2 ^ 64) → number_for b a h < 2 ^ 64
number_small b (Release token) h few = own_small b token h few
number_small b (Acquire label) h few = omega arith
number_small b (Try label) h few = omega arith
number_small b Cancel h few = omega arith
number_small b Leave h few = omega arith
number_small b (Corrupt machine value) h few = omega arith
number_small b Stats h few = omega arith
