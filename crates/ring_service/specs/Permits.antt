-- What a line may do beside calling the rings (this project's own).
use Rattle.std.specs.Prelude.{◌≡◌, ℕ, List, [], ◌∷◌, ◌++◌, Bool, true, false, not, ◌&&◌, ◌||◌, ◌==◌, nat_le, if◌then◌else◌, Option, None, Some}
use Rattle.std.specs.Option.{option_map, is_some}
use Rattle.std.specs.List.{list_all}
use Rattle.line_service.specs.SegmentNames.{segment_file}
use Rattle.ring_service.specs.declared.answers.Refusal.{Refusal}
use Rattle.ring_service.specs.declared.permits.Permits.{Permits}
use Rattle.ring_service.specs.declared.rules.JournalFile.{JournalFile}
use Rattle.ring_service.specs.declared.rules.JournalFile.TheVariants as journal_file
use Rattle.ring_service.specs.declared.rules.Rules.{Rules}
use Rattle.ring_service.specs.Standings.{Standing}
use Rattle.ring_service.specs.Due.{is_due}

-- the terms on which lines are served: the name of the journal's file, if one is kept; whether a
-- line may be a fault, and the folder that one may save all rings in, if there is one; the name of
-- the history's file, which none replaces, if one was read; whether memory that is short is never
-- reported; how many lines the journal of a segment gets until it is due, if segments end; and the
-- refusal of every line while a segment that is due cannot be ended
pub record Terms : Type 0 where
  pub journal : Option (List ℕ)
  pub faults : Bool
  pub saves : Option (List ℕ)
  pub history : Option (List ℕ)
  pub strict : Bool
  pub limit : Option ℕ
  pub refusing : Option Refusal

-- without segments
abbrev pub terms_of : Option (List ℕ) → Permits → Terms
terms_of journal permits = record {
  journal = journal;
  faults = permits.faults;
  saves = option_map (λ folder. folder.now) permits.saves;
  history = option_map (λ name. name.now) permits.history;
  strict = permits.strict;
  limit = None;
  refusing = None;
}

-- the name of the file of a journal
abbrev pub journal_name : JournalFile → List ℕ
journal_name (journal_file.Named name) = name.now
journal_name (journal_file.Segment folder number) = segment_file folder.now number

-- those of these rules
abbrev pub terms_by : Rules → Terms
terms_by rules = record {
  journal = option_map journal_name rules.journal;
  faults = rules.permits.faults;
  saves = option_map (λ folder. folder.now) rules.permits.saves;
  history = option_map (λ name. name.now) rules.permits.history;
  strict = rules.permits.strict;
  limit = rules.limit;
  refusing = rules.refusing;
}

-- Lines are served on these terms: the segment is due exactly if they are refused.
abbrev pub IsOpen : Terms → List Standing → Type 0
IsOpen terms rings = is_due terms.limit rings ≡ is_some terms.refusing

-- no line is answered any more on these terms: the segment is due, and lines are not refused
abbrev pub is_shut : Terms → List Standing → Bool
is_shut terms rings = is_due terms.limit rings && not (is_some terms.refusing)

-- whether it is so is known, and lines are refused only while the segment is due
abbrev pub IsTied : Terms → List Standing → Bool → Type 0
IsTied terms rings shut =
    (shut ≡ is_shut terms rings)
    × (is_some terms.refusing ≡ true → is_due terms.limit rings ≡ true)

-- ---- the files that a line may save in

-- a byte of a plain name: an ASCII letter or digit, `.`, `_` or `-`
abbrev pub is_plain_byte : ℕ → Bool
is_plain_byte b =
    (nat_le 97 b && nat_le b 122)
    || ((nat_le 65 b && nat_le b 90)
    || ((nat_le 48 b && nat_le b 57) || (b == 46 || (b == 95 || b == 45))))

-- a plain name has only such bytes, at least one, and begins with no `.`
abbrev pub is_plain : List ℕ → Bool
is_plain [] = false
is_plain (b ∷ bs) = if b == 46 then false else list_all is_plain_byte (b ∷ bs)

-- the name of the file of that name in a folder
abbrev pub file_in : List ℕ → List ℕ → List ℕ
file_in folder name = folder ++ 47 ∷ name
