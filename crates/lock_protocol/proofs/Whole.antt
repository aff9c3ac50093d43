-- What is read of whole lines.
use Rattle.std.proofs.Common.{◌≡◌, ℕ, ◌+◌, ◌^◌, ◌<◌, ◌≤◌, List, ◌++◌, length, take, Option, Some, None, Ok, Err, refl, sym, ap, subst, ◌∙◌, inl, inr, arith}
use Rattle.std.proofs.lemmas.Bool.{cases_lt}
use Rattle.std.proofs.lemmas.List.{take-take, length-take}
use Rattle.text_lines.specs.declared.fault.Fault.{Fault as Stop}
use Rattle.text_lines.specs.Reading.{whole_at}
use Rattle.text_lines.proofs.Basics.{ok_is}
use Rattle.text_lines.specs.LongNumbers.{number_spaced, in_64_bits, order_at}
use Rattle.text_lines.proofs.LongDecimals.{in_some, in_none}
use Rattle.lock_protocol.specs.declared.inputs.Fault.TheVariants as fault
use Rattle.lock_protocol.specs.Asks.{Ask, acquire, try, release, cancel, leave, corrupt, stats, ask_text, of_one, of_two, HasName, heard}
use Rattle.lock_protocol.specs.Views.{Input}
use Rattle.lock_protocol.specs.Views as input
use Rattle.text_lines.specs.Limits.{line_limit}
use Rattle.lock_protocol.specs.Inputs.{front_of, IsFront, IsOf, IsInput, input_line, IsReadAs, OneReading, OneLineEach}
use Rattle.lock_protocol.specs.Readers.{ask_at, IsAskedAs, IsUnread}
use Rattle.lock_protocol.proofs.Asking.{whole_takes, whole_again}
use Rattle.lock_protocol.proofs.Fronts.{ok_not_err, some_is, some_not_none, spaced_some, spaced_reads, front_all, one_client, none_spaced}

-- ---- what is heard of an ask is the ask

one_is : (make : ℕ → Ask) (x : ℕ) (b : Ask) → of_one make (in_64_bits x) ≡ Some b → make x ≡ b
one_is make x b e = elim (cases_lt x (2 ^ 64)) [
  | inl lt ↦ some_is (make x) b (sym (ap (of_one make) (in_some x lt)) ∙ e)
  | inr ge ↦ absurd (some_not_none (of_one make (in_64_bits x)) b e (ap (of_one make) (in_none x ge)))
]

two_is : (make : ℕ → ℕ → Ask) (x y : ℕ) (b : Ask) → of_two make (in_64_bits x) (in_64_bits y) ≡ Some b → make x y ≡ b
two_is make x y b e = elim (cases_lt x (2 ^ 64)) [
  | inl lt ↦ one_is (make x) y b (sym (ap (λ (o : Option ℕ). of_two make o (in_64_bits y)) (in_some x lt)) ∙ e)
  | inr ge ↦ absurd (some_not_none (of_two make (in_64_bits x) (in_64_bits y)) b e (ap (λ (o : Option ℕ). of_two make o (in_64_bits y)) (in_none x ge)))
]

heard_is : (a b : Ask) → heard a ≡ Some b → a ≡ b
heard_is (acquire name order) b e = one_is (acquire name) order b e
heard_is (try name order) b e = one_is (try name) order b e
heard_is (release name token) b e = one_is (release name) token b e
heard_is (cancel name) b e = some_is (cancel name) b e
heard_is leave b e = some_is leave b e
heard_is (corrupt name machine value) b e = two_is (corrupt name) machine value b e
heard_is (stats name) b e = some_is (stats name) b e

-- ---- the whole line

of_spaced : (line : List ℕ) (c : ℕ) (rest : List ℕ) → length line ≤ line_limit → order_at 32 line ≡ Ok (Some c, rest) → IsOf c line
of_spaced line c rest short e =
    let s = spaced_some line c rest e in
    record { bits = s.0; front = (rest, inl (front_all line short ∙ s.1)) }

-- the rest is the ask's text
rest_is : (line : List ℕ) (c : ℕ) (rest : List ℕ) (ask : Ask) → order_at 32 line ≡ Ok (Some c, rest) → IsInput c ask line → rest ≡ ask_text ask
rest_is line c rest ask e is =
    let s = spaced_some line c rest e in
    let again = spaced_reads line c (ask_text ask) s.0 is.is in
    ap (λ (z : Option ℕ × List ℕ). z.1) (ok_is (Some c, rest) (Some c, ask_text ask) (sym e ∙ again))

pub asked_whole : (line : List ℕ) (c : ℕ) (rest : List ℕ) (i : Input) → length line ≤ line_limit → order_at 32 line ≡ Ok (Some c, rest) → IsAskedAs c rest i → IsReadAs line i
asked_whole line c rest (input.Asked d ask) short e (same, read) =
    let t = whole_takes rest (Some ask) read in
    let is : t.0 ≡ ask = heard_is t.0 ask t.3 in
    let whole : line ≡ input_line c ask = (spaced_some line c rest e).1 ∙ ap (λ (u : List ℕ). number_spaced c ++ u) (t.2 ∙ ap ask_text is) in
    let heard_whole : heard ask ≡ Some ask = subst (λ (a : Ask). heard a ≡ Some ask) is t.3 in
    subst (λ (x : ℕ). IsOf x line × IsInput x ask line × (heard ask ≡ Some ask)) (sym same) (of_spaced line c rest short e, record { is = whole; named = subst HasName is t.1; short = short }, heard_whole)
asked_whole line c rest (input.Refused d fault.Number) short e (same, read) =
    let t = whole_takes rest None read in
    let whole : line ≡ input_line c t.0 = (spaced_some line c rest e).1 ∙ ap (λ (u : List ℕ). number_spaced c ++ u) t.2 in
    subst (λ (x : ℕ). IsOf x line × ((ask : Ask) × IsInput x ask line × (heard ask ≡ None))) (sym same) (of_spaced line c rest short e, (t.0, record { is = whole; named = t.1; short = short }, t.3))
asked_whole line c rest (input.Refused d fault.Syntax) short e (same, (f, read)) =
    let none : (ask : Ask) → IsInput c ask line → ⊥ = λ ask is. ok_not_err (whole_at ask_at rest) (heard ask) f (whole_again ask rest is.named (rest_is line c rest ask e is)) read in
    subst (λ (x : ℕ). IsOf x line × ((ask : Ask) → IsInput x ask line → ⊥)) (sym same) (of_spaced line c rest short e, none)
asked_whole line c rest input.Nobody short e n = absurd n

pub number_is : (line : List ℕ) (x y : Option ℕ) (rest : List ℕ) → x ≡ y → order_at 32 line ≡ Ok (x, rest) → order_at 32 line ≡ Ok (y, rest)
number_is line x y rest same e = subst (λ (o : Option ℕ). order_at 32 line ≡ Ok (o, rest)) same e

pub nobody_whole : (line rest : List ℕ) → length line ≤ line_limit → order_at 32 line ≡ Ok (None, rest) → IsReadAs line input.Nobody
nobody_whole line rest short e = λ c of. none_spaced line None rest e refl c of.bits (subst (λ (u : List ℕ). IsFront c u) (front_all line short) of.front)

pub unread_whole : (line : List ℕ) (f : Stop) (i : Input) → length line ≤ line_limit → order_at 32 line ≡ Err f → IsUnread line i → IsReadAs line i
unread_whole line f (input.Asked c ask) short e u = absurd u
unread_whole line f (input.Refused c fault.Number) short e u = absurd u
unread_whole line f (input.Refused c fault.Syntax) short e u = (
  record { bits = u.0; front = subst (λ (x : List ℕ). IsFront c x) (sym (front_all line short)) u.1 },
  λ ask is. ok_not_err (order_at 32 line) (Some c, ask_text ask) f (spaced_reads line c (ask_text ask) u.0 is.is) e,
)
unread_whole line f input.Nobody short e u = λ c of. u c of.bits (subst (λ (x : List ℕ). IsFront c x) (front_all line short) of.front)

pub unread_long : (line : List ℕ) (i : Input) → line_limit < length line → IsUnread (front_of line) i → IsReadAs line i
unread_long line (input.Asked c ask) long u = absurd u
unread_long line (input.Refused c fault.Number) long u = absurd u
unread_long line (input.Refused c fault.Syntax) long u = (record { bits = u.0; front = u.1 }, λ ask is. let short = is.short in omega (arith, short, long))
unread_long line input.Nobody long u = λ c of. u c of.bits of.front

-- ---- one reading

-- what is heard of a line of a connection
same_heard : (line : List ℕ) (c d : ℕ) (a b : Ask) → c ≡ d → c < 2 ^ 64 → IsInput c a line → IsInput d b line → heard a ≡ heard b
same_heard line c d a b same lt p q =
    let first = spaced_reads line c (ask_text a) lt p.is in
    let rest = rest_is line c (ask_text a) b first (subst (λ (x : ℕ). IsInput x b line) (sym same) q) in
    ok_is (heard a) (heard b) (sym (whole_again a (ask_text a) p.named refl) ∙ whole_again b (ask_text a) q.named rest)

asked_asked : (line : List ℕ) (c d : ℕ) (x y : Ask) → IsReadAs line (input.Asked c x) → IsReadAs line (input.Asked d y) → ◌≡◌ {A = Input} (input.Asked c x) (input.Asked d y)
asked_asked line c d x y p q =
    let same = one_client c d line p.0 q.0 in
    let both = same_heard line c d x y same p.0.bits p.1 q.1 in
    let ask : x ≡ y = some_is x y (sym p.2 ∙ both ∙ q.2) in
    λ i. input.Asked (same i) (ask i)

asked_number : (line : List ℕ) (c d : ℕ) (x : Ask) → IsReadAs line (input.Asked c x) → IsReadAs line (input.Refused d fault.Number) → ⊥
asked_number line c d x p q =
    let same = one_client c d line p.0 q.0 in
    some_not_none (heard x) x p.2 (same_heard line c d x q.1.0 same p.0.bits p.1 q.1.1 ∙ q.1.2)

asked_syntax : (line : List ℕ) (c d : ℕ) (x : Ask) → IsReadAs line (input.Asked c x) → IsReadAs line (input.Refused d fault.Syntax) → ⊥
asked_syntax line c d x p q = q.1 x (subst (λ (z : ℕ). IsInput z x line) (one_client c d line p.0 q.0) p.1)

number_syntax : (line : List ℕ) (c d : ℕ) → IsReadAs line (input.Refused c fault.Number) → IsReadAs line (input.Refused d fault.Syntax) → ⊥
number_syntax line c d p q = q.1 p.1.0 (subst (λ (z : ℕ). IsInput z p.1.0 line) (one_client c d line p.0 q.0) p.1.1)

pub one_reading : OneReading
one_reading line (input.Asked c x) (input.Asked d y) p q = asked_asked line c d x y p q
one_reading line (input.Asked c x) (input.Refused d fault.Number) p q = absurd (asked_number line c d x p q)
one_reading line (input.Asked c x) (input.Refused d fault.Syntax) p q = absurd (asked_syntax line c d x p q)
one_reading line (input.Asked c x) input.Nobody p q = absurd (q c p.0)
one_reading line (input.Refused c fault.Number) (input.Asked d y) p q = absurd (asked_number line d c y q p)
one_reading line (input.Refused c fault.Number) (input.Refused d fault.Number) p q = ap (λ (x : ℕ). input.Refused x fault.Number) (one_client c d line p.0 q.0)
one_reading line (input.Refused c fault.Number) (input.Refused d fault.Syntax) p q = absurd (number_syntax line c d p q)
one_reading line (input.Refused c fault.Number) input.Nobody p q = absurd (q c p.0)
one_reading line (input.Refused c fault.Syntax) (input.Asked d y) p q = absurd (asked_syntax line d c y q p)
one_reading line (input.Refused c fault.Syntax) (input.Refused d fault.Number) p q = absurd (number_syntax line d c q p)
one_reading line (input.Refused c fault.Syntax) (input.Refused d fault.Syntax) p q = ap (λ (x : ℕ). input.Refused x fault.Syntax) (one_client c d line p.0 q.0)
one_reading line (input.Refused c fault.Syntax) input.Nobody p q = absurd (q c p.0)
one_reading line input.Nobody (input.Asked d y) p q = absurd (p d q.0)
one_reading line input.Nobody (input.Refused d fault.Number) p q = absurd (p d q.0)
one_reading line input.Nobody (input.Refused d fault.Syntax) p q = absurd (p d q.0)
one_reading line input.Nobody input.Nobody p q = refl

pub one_line_each : OneLineEach
one_line_each c d a b cs ds named named2 fits fits2 e =
    let one = spaced_reads (input_line c a) c (ask_text a) cs refl in
    let two = spaced_reads (input_line c a) d (ask_text b) ds e in
    let both = ok_is (Some c, ask_text a) (Some d, ask_text b) (sym one ∙ two) in
    let client : c ≡ d = some_is c d (ap (λ (z : Option ℕ × List ℕ). z.0) both) in
    let text : ask_text a ≡ ask_text b = ap (λ (z : Option ℕ × List ℕ). z.1) both in
    let heard_both : heard a ≡ heard b = ok_is (heard a) (heard b) (sym (whole_again a (ask_text a) named refl) ∙ whole_again b (ask_text a) named2 text) in
    (client, some_is a b (sym fits ∙ heard_both ∙ fits2))

-- ---- a line that is too long is read as its start is

front_again : (line : List ℕ) → front_of (take (line_limit + 1) line) ≡ front_of line
unfolding front_of
front_again line = take-take line_limit (line_limit + 1) line (omega arith)

still_long : (line : List ℕ) → line_limit < length line → length (take (line_limit + 1) line) ≤ line_limit → ⊥
still_long line long short = let e = length-take (line_limit + 1) line in omega (arith, e, long, short)

pub long_reads : (line : List ℕ) (i : Input) → line_limit < length line → IsReadAs (take (line_limit + 1) line) i → IsReadAs line i
long_reads line (input.Asked c ask) long r = absurd (still_long line long r.1.short)
long_reads line (input.Refused c fault.Number) long r = absurd (still_long line long r.1.1.short)
long_reads line (input.Refused c fault.Syntax) long r = (
  record { bits = r.0.bits; front = subst (λ (x : List ℕ). IsFront c x) (front_again line) r.0.front },
  λ ask is. let short = is.short in omega (arith, short, long),
)
long_reads line input.Nobody long r = λ c of. r c (record { bits = of.bits; front = subst (λ (x : List ℕ). IsFront c x) (sym (front_again line)) of.front })
