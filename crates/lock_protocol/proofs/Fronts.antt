-- The number of a connection before a line.
use Rattle.std.proofs.Common.{◌≡◌, ℕ, suc, ◌^◌, ◌<◌, ◌≤◌, List, ◌++◌, length, take, Option, Some, None, Result, Ok, Err, refl, sym, ap, subst, ◌∙◌, inl, inr, ◌⊎◌, arith}
use Rattle.std.specs.Prelude.{IfSome, IsNone}
use Rattle.std.proofs.lemmas.Bool.{cases_lt}
use Rattle.std.proofs.lemmas.List.{take_all, length-take}
use Rattle.text_lines.specs.declared.fault.Fault.{Fault}
use Rattle.text_lines.specs.declared.fault.Fault.TheVariants.{Bad}
use Rattle.text_lines.proofs.Basics.{ok_is}
use Rattle.text_lines.specs.LongNumbers.{number_spaced, number_ended, in_64_bits, order_at}
use Rattle.text_lines.proofs.LongDecimals.{in_some, in_none}
use Rattle.text_lines.proofs.Numerals.{decimal_fails}
use Rattle.text_lines.proofs.Spellings.{order_hears}
use Rattle.text_lines.specs.Limits.{line_limit}
use Rattle.lock_protocol.specs.Inputs.{front_of, IsFront, IsOf}

-- ---- results that differ

pub ok_not_err : {X : Type 0} (r : Result X Fault) (x : X) (f : Fault) → r ≡ Ok x → r ≡ Err f → ⊥
ok_not_err (Ok y) x f p q = cc
ok_not_err (Err g) x f p q = cc

pub some_is : {X : Type 0} (x y : X) → ◌≡◌ {A = Option X} (Some x) (Some y) → x ≡ y
some_is x y e = ap (λ (o : Option _). some_or x o) e
  where
    some_or : {X : Type 0} → X → Option X → X
    some_or x (Some y) = y
    some_or x None = x

pub some_not_none : {X : Type 0} (o : Option X) (x : X) → o ≡ Some x → o ≡ None → ⊥
some_not_none (Some y) x p q = cc
some_not_none None x p q = cc

-- ---- numbers of 64 bits

pub bits_of : (n c : ℕ) → in_64_bits n ≡ Some c → (n ≡ c) × (c < 2 ^ 64)
bits_of n c e = elim (cases_lt n (2 ^ 64)) [
  | inl lt ↦ let same = some_is n c (sym (in_some n lt) ∙ e) in (same, subst (λ (x : ℕ). x < 2 ^ 64) same lt)
  | inr ge ↦ absurd (some_not_none (in_64_bits n) c e (in_none n ge))
]

-- ---- a front, as each of the two readers takes it

pub spaced_some : (bytes : List ℕ) (c : ℕ) (rest : List ℕ) → order_at 32 bytes ≡ Ok (Some c, rest) → (c < 2 ^ 64) × (bytes ≡ number_spaced c ++ rest)
spaced_some bytes c rest e =
    let t = (order_hears 32 (omega arith)).takes bytes (Some c) rest e in
    let b = bits_of t.0 c t.2 in (b.1, subst (λ (n : ℕ). bytes ≡ number_spaced n ++ rest) b.0 t.3)

pub ended_some : (bytes : List ℕ) (c : ℕ) (rest : List ℕ) → order_at 10 bytes ≡ Ok (Some c, rest) → (c < 2 ^ 64) × (bytes ≡ number_ended c ++ rest)
ended_some bytes c rest e =
    let t = (order_hears 10 (omega arith)).takes bytes (Some c) rest e in
    let b = bits_of t.0 c t.2 in (b.1, subst (λ (n : ℕ). bytes ≡ number_ended n ++ rest) b.0 t.3)

pub spaced_reads : (bytes : List ℕ) (c : ℕ) (rest : List ℕ) → c < 2 ^ 64 → bytes ≡ number_spaced c ++ rest → order_at 32 bytes ≡ Ok (Some c, rest)
spaced_reads bytes c rest lt e = ap (order_at 32) e ∙ (order_hears 32 (omega arith)).again c rest tt ∙ ap (λ (o : Option ℕ). Ok (o, rest)) (in_some c lt)

pub ended_reads : (bytes : List ℕ) (c : ℕ) (rest : List ℕ) → c < 2 ^ 64 → bytes ≡ number_ended c ++ rest → order_at 10 bytes ≡ Ok (Some c, rest)
ended_reads bytes c rest lt e = ap (order_at 10) e ∙ (order_hears 10 (omega arith)).again c rest tt ∙ ap (λ (o : Option ℕ). Ok (o, rest)) (in_some c lt)

pub ended_stops : (bytes : List ℕ) (c : ℕ) (rest : List ℕ) → bytes ≡ number_ended c ++ rest → order_at 32 bytes ≡ Err (Bad (suc (length rest)))
unfolding order_at
ended_stops bytes c rest e = ap (order_at 32) e ∙ rw (decimal_fails 32 (omega arith) c 10 rest (λ f. omega (arith, f)) refl) refl

-- the connection's number, and why it is found
abbrev pub FrontReads : ℕ → List ℕ → Type 0
FrontReads c bytes =
    ((rest : List ℕ) × (order_at 32 bytes ≡ Ok (Some c, rest)))
    ⊎ (((f : Fault) × (order_at 32 bytes ≡ Err f)) × ((rest : List ℕ) × (order_at 10 bytes ≡ Ok (Some c, rest))))

pub front_reads : (c : ℕ) (bytes : List ℕ) → c < 2 ^ 64 → IsFront c bytes → FrontReads c bytes
front_reads c bytes lt (rest, inl e) = inl (rest, spaced_reads bytes c rest lt e)
front_reads c bytes lt (rest, inr e) = inr ((Bad (suc (length rest)), ended_stops bytes c rest e), (rest, ended_reads bytes c rest lt e))

first_of : Option ℕ × List ℕ → Option ℕ
first_of x = x.0

same_first : (x y : Option ℕ) (u v : List ℕ) (r : Result (Option ℕ × List ℕ) Fault) → r ≡ Ok (x, u) → r ≡ Ok (y, v) → x ≡ y
same_first x y u v r p q = ap (λ (z : Option ℕ × List ℕ). z.0) (ok_is (x, u) (y, v) (sym p ∙ q))

-- one connection has a front
one_reads : (c d : ℕ) (bytes : List ℕ) → FrontReads c bytes → FrontReads d bytes → c ≡ d
one_reads c d bytes (inl p) (inl q) = some_is c d (same_first (Some c) (Some d) p.0 q.0 (order_at 32 bytes) p.1 q.1)
one_reads c d bytes (inl p) (inr q) = absurd (ok_not_err (order_at 32 bytes) (Some c, p.0) q.0.0 p.1 q.0.1)
one_reads c d bytes (inr p) (inl q) = absurd (ok_not_err (order_at 32 bytes) (Some d, q.0) p.0.0 q.1 p.0.1)
one_reads c d bytes (inr p) (inr q) = some_is c d (same_first (Some c) (Some d) p.1.0 q.1.0 (order_at 10 bytes) p.1.1 q.1.1)

pub one_client : (c d : ℕ) (line : List ℕ) → IsOf c line → IsOf d line → c ≡ d
one_client c d line p q = one_reads c d (front_of line) (front_reads c (front_of line) p.bits p.front) (front_reads d (front_of line) q.bits q.front)

-- ---- what the search for it answers

pub found_spaced : (bytes : List ℕ) (client : Option ℕ) (rest : List ℕ) → order_at 32 bytes ≡ Ok (client, rest) → IfSome client (λ c. (c < 2 ^ 64) × IsFront c bytes)
found_spaced bytes None rest e = tt
found_spaced bytes (Some c) rest e = let s = spaced_some bytes c rest e in (s.0, (rest, inl s.1))

pub found_ended : (bytes : List ℕ) (client : Option ℕ) (rest : List ℕ) → order_at 10 bytes ≡ Ok (client, rest) → IfSome client (λ c. (c < 2 ^ 64) × IsFront c bytes)
found_ended bytes None rest e = tt
found_ended bytes (Some c) rest e = let s = ended_some bytes c rest e in (s.0, (rest, inr s.1))

no_reads : (bytes rest : List ℕ) → order_at 32 bytes ≡ Ok (None, rest) → (c : ℕ) → FrontReads c bytes → ⊥
no_reads bytes rest e c (inl p) = some_not_none (Some c) c refl (same_first (Some c) None p.0 rest (order_at 32 bytes) p.1 e)
no_reads bytes rest e c (inr p) = ok_not_err (order_at 32 bytes) (None, rest) p.0.0 e p.0.1

pub none_spaced : (bytes : List ℕ) (client : Option ℕ) (rest : List ℕ) → order_at 32 bytes ≡ Ok (client, rest) → IsNone client → (c : ℕ) → c < 2 ^ 64 → IsFront c bytes → ⊥
none_spaced bytes None rest e n c lt f = no_reads bytes rest e c (front_reads c bytes lt f)
none_spaced bytes (Some d) rest e n c lt f = absurd cc

fails_reads : (bytes : List ℕ) (f : Fault) → order_at 32 bytes ≡ Err f → (c : ℕ) → FrontReads c bytes → (rest : List ℕ) × (order_at 10 bytes ≡ Ok (Some c, rest))
fails_reads bytes f e c (inl p) = absurd (ok_not_err (order_at 32 bytes) (Some c, p.0) f p.1 e)
fails_reads bytes f e c (inr p) = p.1

pub none_ended : (bytes : List ℕ) (f : Fault) (client : Option ℕ) (rest : List ℕ) → order_at 32 bytes ≡ Err f → order_at 10 bytes ≡ Ok (client, rest) → IsNone client → (c : ℕ) → c < 2 ^ 64 → IsFront c bytes → ⊥
none_ended bytes f None rest e g n c lt front = let p = fails_reads bytes f e c (front_reads c bytes lt front) in some_not_none (Some c) c refl (same_first (Some c) None p.0 rest (order_at 10 bytes) p.1 g)
none_ended bytes f (Some d) rest e g n c lt front = absurd cc

pub none_at_all : (bytes : List ℕ) (f g : Fault) → order_at 32 bytes ≡ Err f → order_at 10 bytes ≡ Err g → (c : ℕ) → c < 2 ^ 64 → IsFront c bytes → ⊥
none_at_all bytes f g e h c lt front = let p = fails_reads bytes f e c (front_reads c bytes lt front) in ok_not_err (order_at 10 bytes) (Some c, p.0) g p.1 h

-- ---- a line that is short is looked at whole

pub front_all : (line : List ℕ) → length line ≤ line_limit → front_of line ≡ line
unfolding front_of
front_all line l = take_all line_limit line l

pub front_length : (line : List ℕ) → line_limit < length line → line_limit ≡ length (take line_limit line)
front_length line l = let e = length-take line_limit line in omega (arith, e, l)
