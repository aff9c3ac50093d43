-- No saved text is both legal and bad.
use Rattle.std.proofs.Common.{◌≡◌, ℕ, ◌<◌, List, [], ◌∷◌, length, Option, Ok, Err, refl, sym, ap, ◌∙◌, subst, arith}
use Rattle.std.specs.Prelude.{IsSome}
use Rattle.std.specs.Io.KnownBytes.{Appends}
use Rattle.std.specs.List.{All, AllByRecursion}
use Rattle.std.proofs.lemmas.List.Elements.{All-cons}
use Rattle.saved_history.specs.Content.{Block, Content}
use Rattle.saved_history.specs.Spelling.{BlockFits}
use Rattle.ring_check.specs.declared.answers.Kind.{Kind}
use Rattle.ring_check.specs.declared.answers.Summary.{Summary}
use Rattle.ring_check.specs.declared.answers.CheckError.TheVariants.{Bad}
use Rattle.ring_check.specs.Lines.{lines}
use Rattle.ring_check.specs.Legal.{IsLegalText, IsFirstBad, summary_of}
use Rattle.ring_check.proofs.Meanings.{legal_means}
use Rattle.ring_check.proofs.Scans.{at_most_one}
use Rattle.tool_parts.specs.Checked.{IsLegalSavedText, IsBadSavedText, IsSavedTextRefusal, IsCheckRefusal}
use Rattle.tool_parts.specs.declared.faults.ToolError.{ToolError}
use Rattle.tool_parts.specs.declared.faults.ToolError.TheVariants as tool
use Rattle.tool_parts.specs.CheckText.{legal_line}
use Rattle.wrong_commands.proofs.Written.{one_value, not_twice}

-- a value that fits has its starts
starts : (version : ℕ) (bs : List Block) → AllByRecursion (BlockFits version) bs → All (λ (b : Block). length b.start ≡ b.n) bs
starts version [] h = λ k d l. absurd (omega arith)
starts version (b ∷ bs) h = All-cons (λ (b : Block). length b.start ≡ b.n) b bs h.0.start (starts version bs h.1)

-- a legal content has no bad line
no_line : (s : Content) (line : ℕ) (kind : Kind) → IsLegalText s → IsFirstBad s.version (lines s) line kind → ⊥
no_line s line kind legal bad =
    let e = at_most_one s (Ok (summary_of s)) (Err (Bad line kind)) (legal, refl) bad (λ p. absurd cc) (λ p. absurd cc) in
    absurd cc

pub not_both : (bytes : List ℕ) (sums : Summary) (line : ℕ) (kind : Kind) → IsBadSavedText bytes line kind → IsLegalSavedText bytes sums → ⊥
not_both bytes sums line kind b l =
    let e : b.content ≡ l.content = one_value b.content l.content b.fits l.fits (sym b.spelled ∙ l.spelled) in
    let P : Content → Type 0 = λ s. IsFirstBad s.version (lines s) line kind in
    no_line l.content line kind ((legal_means l.content (starts l.content.version l.content.rings l.fits.rings)).1 l.right) (subst P e b.bad)

-- so where one was refused
pub not_refused : (bytes : List ℕ) (sums : Summary) (e : ToolError) (line : ℕ) (kind : Kind) → e ≡ tool.Bad line kind → IsSavedTextRefusal bytes e → IsLegalSavedText bytes sums → ⊥
not_refused bytes sums e line kind is refusal l =
    let P : ToolError → Type 0 = λ t. IsSavedTextRefusal bytes t in
    not_both bytes sums line kind (subst P is refusal) l

-- and where one did not pass
pub not_checked : (bytes : List ℕ) (sums : Summary) (old new : Option (List ℕ)) (e : ToolError) (line : ℕ) (kind : Kind) → e ≡ tool.Bad line kind → IsCheckRefusal bytes old new e → IsLegalSavedText bytes sums → ⊥
not_checked bytes sums old new e line kind is refusal l =
    let P : ToolError → Type 0 = λ t. IsCheckRefusal bytes old new t in
    not_both bytes sums line kind (subst P is refusal) l

-- a text has one legal value, with one line of sums
pub one_sums : (bytes : List ℕ) (a b : Summary) → IsLegalSavedText bytes a → IsLegalSavedText bytes b → a ≡ b
one_sums bytes a b l k =
    l.sums_right ∙ ap summary_of (one_value l.content k.content l.fits k.fits (sym l.spelled ∙ k.spelled)) ∙ sym k.sums_right

pub not_told_twice : (bytes : List ℕ) (a b c : Summary) (old mid new : Option (List ℕ)) → IsSome old → IsLegalSavedText bytes a → IsLegalSavedText bytes b → IsLegalSavedText bytes c →
    Appends old mid (legal_line a) → Appends mid new (legal_line b) → Appends old new (legal_line c) → ⊥
not_told_twice bytes a b c old mid new known l k m one two both =
    let some : 0 < length (legal_line a) = omega arith in
    not_twice old mid new (legal_line a) known some one (subst (λ (s : Summary). Appends mid new (legal_line s)) (one_sums bytes b a k l) two)
    (subst (λ (s : Summary). Appends old new (legal_line s)) (one_sums bytes c a m l) both)
