-- The reader of a line reads just the lines of holds.
use Rattle.std.proofs.Common.{◌≡◌, ℕ, ◌^◌, ◌<◌, List, [], ◌∷◌, ◌++◌, length, length-append, append_assoc, refl, sym, ◌∙◌, ap, subst, arith, codes, Ok, Err, Result}
use Rattle.std.specs.List.{AllByRecursion}
use Rattle.text_lines.specs.declared.fault.Fault.{Fault}
use Rattle.text_lines.specs.Reading.{Reader, after_at}
use Rattle.text_lines.specs.Grammar.{Reads}
use Rattle.text_lines.specs.Spelling.{spaced, ended, Below}
use Rattle.text_lines.proofs.Basics.{bind_ok, ok_is}
use Rattle.text_lines.proofs.Decimals.{number_reads}
use Rattle.text_lines.proofs.Spellings.{Hears, both_hear, word_takes, word_again}
use Rattle.lock_protocol.specs.Names.{IsName, name_spaced}
use Rattle.lock_protocol.proofs.ReadNames.{name_hears}
use Rattle.folder_of_locks.specs.Holders.{Hold, hold_line, FitsLine, lines_of, HasNoHold}
use Rattle.folder_of_locks.specs.HolderSteps.{lock_at, token_at, client_at, hold_from, hold_at}

lock_hears : Hears (λ (n : List ℕ). n) IsName name_spaced lock_at
lock_hears = name_hears 32 refl

-- a reader that reads just some spellings hears what it reads
number_hears : {s : ℕ → List ℕ} {at : Reader ℕ} → Reads (Below (2 ^ 64)) s at → Hears (λ (n : ℕ). n) (Below (2 ^ 64)) s at
number_hears r = record { takes = λ bytes b rest e. let t = r.takes bytes b rest e in (b, t.0, refl, t.1); again = r.again }

token_hears : Hears (λ (n : ℕ). n) (Below (2 ^ 64)) spaced token_at
token_hears = number_hears (number_reads (2 ^ 64) 32 (omega arith) (omega arith) (omega arith))

client_hears : Hears (λ (n : ℕ). n) (Below (2 ^ 64)) ended client_at
client_hears = number_hears (number_reads (2 ^ 64) 10 (omega arith) (omega arith) (omega arith))

-- a line that is read is that of the hold
pub hold_takes : (bytes : List ℕ) (h : Hold) (rest : List ℕ) → hold_at bytes ≡ Ok (h, rest) → FitsLine h × (bytes ≡ hold_line h ++ rest)
unfolding hold_at
hold_takes bytes h rest e =
    let all = both_hear lock_hears (both_hear token_hears client_hears) in
    let x = bind_ok (after_at (codes "hold ") _ bytes) (λ x. Ok (hold_from x.0, x.1)) (h, rest) e in
    let w = word_takes (codes "hold ") _ bytes x.0 x.1 in
    let a = all.takes w.0 x.0.0 x.0.1 w.2 in
    let made : Hold × List ℕ = (hold_from x.0.0, x.0.1) in
    let same : made ≡ (h, rest) = ok_is made (h, rest) x.2 in
    let is : hold_from a.0 ≡ h = ap hold_from a.2 ∙ ap (λ (z : Hold × List ℕ). z.0) same in
    let inner : bytes ≡ hold_line (hold_from a.0) ++ x.0.1 = w.1 ∙ (ap (λ (u : List ℕ). codes "hold " ++ u) a.3 ∙ sym (append_assoc (codes "hold ") (name_spaced a.0.0 ++ (spaced a.0.1.0 ++ ended a.0.1.1)) x.0.1)) in
    let fits : FitsLine (hold_from a.0) = record { name = a.1.0; token = a.1.1.0; client = a.1.1.1 } in
    (subst FitsLine is fits, inner ∙ (ap (λ (z : Hold). hold_line z ++ x.0.1) is ∙ ap (λ (z : Hold × List ℕ). hold_line h ++ z.1) same))

-- and each hold's line is read
pub hold_again : (h : Hold) (rest : List ℕ) → FitsLine h → hold_at (hold_line h ++ rest) ≡ Ok (h, rest)
unfolding hold_at
hold_again h rest fits =
    let all = both_hear lock_hears (both_hear token_hears client_hears) in
    let tail : List ℕ = name_spaced h.name ++ (spaced h.token ++ ended h.client) in
    ap hold_at (append_assoc (codes "hold ") tail rest) ∙ rw (word_again (codes "hold ") _ (tail ++ rest), all.again (h.name, (h.token, h.client)) rest (fits.name, (fits.token, fits.client))) refl

ok_not_err : {X : Type 0} (r : Result X Fault) (x : X) (f : Fault) → r ≡ Ok x → r ≡ Err f → ⊥
ok_not_err (Ok y) x f p q = cc
ok_not_err (Err g) x f p q = cc

-- where the reader fails, no line comes
pub no_hold : (bytes : List ℕ) (f : Fault) → hold_at bytes ≡ Err f → HasNoHold bytes
no_hold bytes f e h more fits same = ok_not_err (hold_at bytes) (h, more) f (ap hold_at same ∙ hold_again h more fits) e

-- ---- one line more

pub lines_more : (hs : List Hold) (h : Hold) (rest : List ℕ) → lines_of (hs ++ h ∷ []) ++ rest ≡ lines_of hs ++ (hold_line h ++ rest)
lines_more [] h rest = append_assoc (hold_line h) [] rest
lines_more (g ∷ hs) h rest =
    append_assoc (hold_line g) (lines_of (hs ++ h ∷ [])) rest ∙ ap (λ (x : List ℕ). hold_line g ++ x) (lines_more hs h rest) ∙ sym (append_assoc (hold_line g) (lines_of hs) (hold_line h ++ rest))

pub each_more : (hs : List Hold) (h : Hold) → AllByRecursion FitsLine hs → FitsLine h → AllByRecursion FitsLine (hs ++ h ∷ [])
each_more [] h each fits = (fits, tt)
each_more (g ∷ hs) h each fits = (each.0, each_more hs h each.1 fits)

-- what was read so far
pub record HasRead (bytes : List ℕ) (hs : List Hold) (rest : List ℕ) : Type 0 where
  pub lines : bytes ≡ lines_of hs ++ rest
  pub each : AllByRecursion FitsLine hs

pub read_more : (bytes : List ℕ) (hs new : List Hold) (h : Hold) (rest more : List ℕ) → HasRead bytes hs rest → FitsLine h → rest ≡ hold_line h ++ more → new ≡ hs ++ h ∷ [] → HasRead bytes new more
read_more bytes hs new h rest more r fits e same =
    subst (λ (x : List Hold). HasRead bytes x more) (sym same) (record {
      lines = r.lines ∙ ap (λ (x : List ℕ). lines_of hs ++ x) e ∙ sym (lines_more hs h more);
      each = each_more hs h r.each fits;
    })

-- a line has a byte at least
pub shorter : (h : Hold) (rest more : List ℕ) → rest ≡ hold_line h ++ more → length more < length rest
shorter h rest more e = by (length_line h more) (ap (λ (x : List ℕ). length x) e)
  where
    length_line : (h : Hold) (more : List ℕ) → length more < length (hold_line h ++ more)
    length_line h more =
        let tail : List ℕ = name_spaced h.name ++ (spaced h.token ++ ended h.client) in
        let five : length (codes "hold ") ≡ 5 = refl in
        omega (arith, five, length-append (hold_line h) more, length-append (codes "hold ") tail)

    by : length more < length (hold_line h ++ more) → length rest ≡ length (hold_line h ++ more) → length more < length rest
    by l e = omega (arith, l, e)
