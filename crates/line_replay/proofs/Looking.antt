-- Looking for notes, line by line.
use Rattle.std.proofs.Common.{◌≡◌, ℕ, suc, ◌+◌, ◌<◌, ◌≤◌, List, ◌++◌, sym, ap, subst, ◌∙◌, inl, inr}
use Rattle.line_service.specs.Answering.{IsLine, HasNoEnd}
use Rattle.noted_lines.specs.Notes.{note_text, IsNote}
use Rattle.noted_lines.proofs.NotedEnds.{noted_is_line}
use Rattle.line_replay.specs.Following.{BeginsWithNote, Follows, AfterSomeEnd, AtSomeLine}
use Rattle.line_replay.proofs.Starting.{same_line, no_line, nowhere, after_line, before_line, note_line, same_note}

pub note_here : (first after bytes : List ℕ) (count : ℕ) (line : List ℕ) → bytes ≡ first ++ after → IsLine first → IsNote count line first → BeginsWithNote count line after bytes
note_here first after bytes count line split is note = record {
  fits = note.fits;
  whole = noted_is_line count line note.fits (subst IsLine note.is is);
  is = split ∙ ap (λ (x : List ℕ). x ++ after) note.is;
}

pub no_note_here : (first after bytes : List ℕ) → bytes ≡ first ++ after → IsLine first → ((count : ℕ) (line : List ℕ) → ¬ IsNote count line first) → (count : ℕ) (line rest : List ℕ) → ¬ BeginsWithNote count line rest bytes
no_note_here first after bytes split is none count line rest note =
    let same = same_line (note_text count line) first rest after (note_line count line rest bytes note) is (sym note.is ∙ split) in
    none count line (record { fits = note.fits; is = sym same.0 })

pub no_note_end : (bytes : List ℕ) → HasNoEnd bytes → (count : ℕ) (line rest : List ℕ) → ¬ BeginsWithNote count line rest bytes
no_note_end bytes none count line rest note = no_line (note_text count line) bytes rest (note_line count line rest bytes note) none note.is

-- the next note, and another one
pub next_here : (n count : ℕ) (line rest bytes : List ℕ) → BeginsWithNote count line rest bytes → count ≡ suc n → BeginsWithNote (suc n) line rest bytes
next_here n count line rest bytes note e = subst (λ (k : ℕ). BeginsWithNote k line rest bytes) e note

pub other_here : (n count : ℕ) (line rest bytes : List ℕ) → BeginsWithNote count line rest bytes → ¬ (count ≡ suc n) → (l r : List ℕ) → ¬ BeginsWithNote (suc n) l r bytes
other_here n count line rest bytes note ne l r next = ne (same_note count (suc n) line l rest r bytes note next).0

-- one that can follow
pub near_here : (n most count : ℕ) (line rest bytes : List ℕ) → BeginsWithNote count line rest bytes → (n < count) × (count ≤ n + most) → Follows n most bytes
near_here n most count line rest bytes note near = record { count = count; line = line; rest = rest; above = near.0; near = near.1; note = note }

pub far_here : (n most count : ℕ) (line rest bytes : List ℕ) → BeginsWithNote count line rest bytes → ¬ ((n < count) × (count ≤ n + most)) → ¬ Follows n most bytes
far_here n most count line rest bytes note far f =
    let same : f.count ≡ count = (same_note f.count count f.line line f.rest rest bytes f.note note).0 in
    far (subst (λ (k : ℕ). n < k) same f.above, subst (λ (k : ℕ). k ≤ n + most) same f.near)

pub none_here : (n most : ℕ) (bytes : List ℕ) → ((count : ℕ) (line rest : List ℕ) → ¬ BeginsWithNote count line rest bytes) → ¬ Follows n most bytes
none_here n most bytes none f = none f.count f.line f.rest f.note

-- ---- line by line

pub look_on : (P : List ℕ → Type 0) (line after rest : List ℕ) → rest ≡ line ++ after → IsLine line → AtSomeLine P after → AtSomeLine P rest
look_on P line after rest split is s = inr (subst (λ (x : List ℕ). AfterSomeEnd P x) (sym split) (before_line P line after is s))

pub look_back : (P : List ℕ → Type 0) (line after rest : List ℕ) → rest ≡ line ++ after → IsLine line → ¬ P rest → AtSomeLine P rest → AtSomeLine P after
look_back P line after rest split is ne (inl p) = absurd (ne p)
look_back P line after rest split is ne (inr s) = after_line P line after is (subst (λ (x : List ℕ). AfterSomeEnd P x) split s)

pub look_end : (P : List ℕ → Type 0) (rest : List ℕ) → HasNoEnd rest → ¬ P rest → ¬ AtSomeLine P rest
look_end P rest none ne (inl p) = ne p
look_end P rest none ne (inr s) = nowhere P rest none s
