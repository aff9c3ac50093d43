-- What is read of the rest of a line, just if it is an ask.
use Rattle.std.proofs.Common.{◌≡◌, ℕ, List, [], ◌++◌, Option, Ok, refl, ap, arith}
use Rattle.std.specs.Prelude.{codes}
use Rattle.text_lines.specs.Reading.{Reader, nothing_at, or_at, none_at, word_at, whole_at}
use Rattle.text_lines.proofs.Basics.{ok_is}
use Rattle.text_lines.specs.LongNumbers.{number_spaced, number_ended, in_64_bits, order_at}
use Rattle.text_lines.proofs.Spellings.{Any, Hears, both_hear, order_hears}
use Rattle.text_lines.proofs.Commands.{Kind, Takes, kind_takes, kind_again, or_takes, none_takes, after_takes, line_takes, line_again}
use Rattle.lock_protocol.specs.Names.{IsName, name_spaced, name_ended}
use Rattle.lock_protocol.specs.NameReading.{name_at}
use Rattle.lock_protocol.specs.Asks.{Ask, acquire, try, release, cancel, leave, corrupt, stats, ask_text, HasName, heard}
use Rattle.lock_protocol.specs.Readers.{acquire_of, acquire_at, try_of, try_at, release_of, release_at, cancel_of, cancel_at, corrupt_of, corrupt_at, c_at, leave_of, leave_at, stats_of, stats_at, ask_at}
use Rattle.lock_protocol.proofs.ReadNames.{name_hears}

abbrev asks : Kind
asks = record { C = Ask; Has = HasName; line = ask_text; heard = heard }

abbrev TakesAsk : List ℕ → Reader (Option Ask) → Type 0
TakesAsk before at = Takes asks before at

-- ---- the kinds

one : Hears in_64_bits Any number_spaced (order_at 32)
one = order_hears 32 (omega arith)

last : Hears in_64_bits Any number_ended (order_at 10)
last = order_hears 10 (omega arith)

lock : Hears (λ (n : List ℕ). n) IsName name_spaced (name_at 32)
lock = name_hears 32 refl

last_lock : Hears (λ (n : List ℕ). n) IsName name_ended (name_at 10)
last_lock = name_hears 10 refl

none : Hears (λ (u : Unit {0}). u) (λ _. Unit {0}) (λ _. []) nothing_at
none = record { takes = takes; again = λ a rest f. refl }
  where
    takes : (bytes : List ℕ) (b : Unit {0}) (rest : List ℕ) → nothing_at bytes ≡ Ok (b, rest) → (a : Unit {0}) × Unit {0} × (a ≡ b) × (bytes ≡ rest)
    takes bytes b rest e = (tt, tt, refl, ap (λ (z : Unit {0} × List ℕ). z.1) (ok_is (tt, bytes) (b, rest) e))

acquire_takes : TakesAsk [] acquire_at
unfolding acquire_at
acquire_takes = kind_takes asks (both_hear lock last) acquire_of (codes "acquire ") [] (λ p. acquire p.0 p.1) (λ p f. f.0) (λ p. refl) (λ p. refl)

acquire_again : (name : List ℕ) (order : ℕ) (rest : List ℕ) → IsName name → acquire_at (ask_text (acquire name order) ++ rest) ≡ Ok (heard (acquire name order), rest)
unfolding acquire_at
acquire_again name order rest is = kind_again asks (both_hear lock last) acquire_of (codes "acquire ") (name, order) rest (is, tt)

try_takes : TakesAsk [] try_at
unfolding try_at
try_takes = kind_takes asks (both_hear lock last) try_of (codes "try ") [] (λ p. try p.0 p.1) (λ p f. f.0) (λ p. refl) (λ p. refl)

try_again : (name : List ℕ) (order : ℕ) (rest : List ℕ) → IsName name → try_at (ask_text (try name order) ++ rest) ≡ Ok (heard (try name order), rest)
unfolding try_at
try_again name order rest is = kind_again asks (both_hear lock last) try_of (codes "try ") (name, order) rest (is, tt)

release_takes : TakesAsk [] release_at
unfolding release_at
release_takes = kind_takes asks (both_hear lock last) release_of (codes "release ") [] (λ p. release p.0 p.1) (λ p f. f.0) (λ p. refl) (λ p. refl)

release_again : (name : List ℕ) (token : ℕ) (rest : List ℕ) → IsName name → release_at (ask_text (release name token) ++ rest) ≡ Ok (heard (release name token), rest)
unfolding release_at
release_again name token rest is = kind_again asks (both_hear lock last) release_of (codes "release ") (name, token) rest (is, tt)

cancel_takes : TakesAsk (codes "c") cancel_at
unfolding cancel_at
cancel_takes = kind_takes asks last_lock cancel_of (codes "ancel ") (codes "c") (λ n. cancel n) (λ n f. f) (λ n. refl) (λ n. refl)

cancel_again : (name rest : List ℕ) → IsName name → c_at (ask_text (cancel name) ++ rest) ≡ Ok (heard (cancel name), rest)
unfolding c_at cancel_at word_at
cancel_again name rest is = kind_again asks last_lock cancel_of (codes "ancel ") name rest is

corrupt_takes : TakesAsk (codes "c") corrupt_at
unfolding corrupt_at
corrupt_takes = kind_takes asks (both_hear lock (both_hear one last)) corrupt_of (codes "orrupt ") (codes "c") (λ p. corrupt p.0 p.1.0 p.1.1) (λ p f. f.0) (λ p. refl) (λ p. refl)

corrupt_again : (name : List ℕ) (machine value : ℕ) (rest : List ℕ) → IsName name → c_at (ask_text (corrupt name machine value) ++ rest) ≡ Ok (heard (corrupt name machine value), rest)
unfolding c_at corrupt_at word_at
corrupt_again name machine value rest is = kind_again asks (both_hear lock (both_hear one last)) corrupt_of (codes "orrupt ") (name, (machine, value)) rest (is, (tt, tt))

leave_takes : TakesAsk [] leave_at
unfolding leave_at
leave_takes = kind_takes asks none leave_of (codes "leave\n") [] (λ u. leave) (λ u f. tt) (λ u. refl) (λ u. refl)

leave_again : (rest : List ℕ) → leave_at (ask_text leave ++ rest) ≡ Ok (heard leave, rest)
unfolding leave_at
leave_again rest = kind_again asks none leave_of (codes "leave\n") tt rest tt

stats_takes : TakesAsk [] stats_at
unfolding stats_at
stats_takes = kind_takes asks last_lock stats_of (codes "stats ") [] (λ n. stats n) (λ n f. f) (λ n. refl) (λ n. refl)

stats_again : (name rest : List ℕ) → IsName name → stats_at (ask_text (stats name) ++ rest) ≡ Ok (heard (stats name), rest)
unfolding stats_at
stats_again name rest is = kind_again asks last_lock stats_of (codes "stats ") name rest is

-- ---- all of them

c_takes : TakesAsk [] c_at
unfolding c_at
c_takes = after_takes asks (codes "c") (or_at 97 cancel_at (or_at 111 corrupt_at none_at)) (or_takes asks (codes "c") 97 cancel_at (or_at 111 corrupt_at none_at) cancel_takes (or_takes asks (codes "c") 111 corrupt_at none_at corrupt_takes (none_takes asks (codes "c"))))

ask_takes : TakesAsk [] ask_at
unfolding ask_at
ask_takes =
    or_takes asks [] 97 acquire_at _ acquire_takes (or_takes asks [] 116 try_at _ try_takes (or_takes asks [] 114 release_at _ release_takes (or_takes asks [] 99 c_at _ c_takes
    (or_takes asks [] 108 leave_at _ leave_takes (or_takes asks [] 115 stats_at none_at stats_takes (none_takes asks []))))))

ask_again : (a : Ask) (rest : List ℕ) → HasName a → ask_at (ask_text a ++ rest) ≡ Ok (heard a, rest)
unfolding ask_at
ask_again (acquire name order) rest is = acquire_again name order rest is
ask_again (try name order) rest is = try_again name order rest is
ask_again (release name token) rest is = release_again name token rest is
ask_again (cancel name) rest is = cancel_again name rest is
ask_again leave rest u = leave_again rest
ask_again (corrupt name machine value) rest is = corrupt_again name machine value rest is
ask_again (stats name) rest is = stats_again name rest is

-- ---- whole

pub whole_takes : (text : List ℕ) (b : Option Ask) → whole_at ask_at text ≡ Ok b → (a : Ask) × HasName a × (text ≡ ask_text a) × (heard a ≡ b)
whole_takes text b e = let t = line_takes asks ask_at ask_takes text b e in (t.0, t.1.0, t.1.1, t.2)

pub whole_again : (a : Ask) (text : List ℕ) → HasName a → text ≡ ask_text a → whole_at ask_at text ≡ Ok (heard a)
whole_again a text is e = line_again asks ask_at ask_again a text (is, e)
