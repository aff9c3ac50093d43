-- The files of a folder whose holds are read, one after the other.
use Rattle.std.proofs.Common.{◌≡◌, ℕ, ◌+◌, ◌<◌, List, [], ◌∷◌, ◌++◌, length, true, false, eqb, Option, Some, None, refl, sym, ap, subst, ◌∙◌, arith, length-append, eqb-true, eq-eqb}
use Rattle.std.proofs.lemmas.Bool.{false_from_ne_true}
use Rattle.std.proofs.lemmas.List.{append-nil}
use Rattle.std.proofs.lemmas.List.Concat.{flat_map-append}
use Rattle.disks.specs.Held.{Held, IsHeld}
use Rattle.line_service.specs.declared.segment_numbers.SegmentNumbers.{SegmentNumbers}
use Rattle.line_service.specs.SegmentNames.{segment_file}
use Rattle.segment_files.specs.declared.sums.ChainSums.{ChainSums}
use Rattle.segment_files.specs.Sums.{no_sums, sums_after}
use Rattle.segment_files.specs.Chain.{State, sums_at}
use Rattle.segment_files.specs.Files.{File}
use Rattle.segment_files.specs.Remarks.{lines_in}
use Rattle.segment_files.specs.Chain as segments
use Rattle.segment_files.proofs.Adding.{chained, led_on}
use Rattle.chain_readers.proofs.Files.{told_on}
use Rattle.tool_parts.specs.declared.faults.ToolError.{ToolError}
use Rattle.tool_parts.proofs.Leads.{led_sums, sums_more, held_more, held_at}
use Rattle.lock_commands.specs.HoldsAnswer.{lines_of_files, IsUnheld, IsFileUnheld}
use Rattle.name_history.specs.Said.{RingBinding, AreSaid}
use Rattle.name_history.proofs.Lines.{both_said}
use Rattle.lock_commands.specs.HoldSteps.{ReadSoFar, IsReadWith, HoldLeads, HoldEnds}

pub none_held : (files : Option Held) (name : List ℕ) (first : ℕ) (l : ReadSoFar) → l ≡ record { holds = record { state = None; locks = [] }; said = [] } → HoldLeads files name first first l
none_held files name first l e = record {
  fs = [];
  lead = sym (ap (λ (x : ReadSoFar). x.holds.state) e);
  told = sym (ap (λ (x : ReadSoFar). x.holds.locks) e);
  held = tt;
  many = omega arith;
  said = ap (λ (x : ReadSoFar). x.said) e;
}

-- what the lines of a file say is added
said_on : (fs : List File) (f : File) (bytes : List ℕ) (before more now : List RingBinding) → AreSaid (lines_of_files fs) before → f.bytes ≡ bytes → AreSaid (lines_in bytes) more → now ≡ before ++ more
    → AreSaid (lines_of_files (fs ++ f ∷ [])) now
said_on fs f bytes before more now so same said is =
    let lines = flat_map-append (λ (g : File). lines_in g.bytes) fs (f ∷ []) ∙ ap (λ (ls : List (List ℕ)). lines_of_files fs ++ ls) (append-nil (lines_in f.bytes)) in
    subst (λ (ls : List (List ℕ)). AreSaid ls now) (sym lines)
    (subst (λ (es : List RingBinding). AreSaid (lines_of_files fs ++ lines_in f.bytes) es) (sym is)
    (both_said (lines_of_files fs) (lines_in f.bytes) before more so (subst (λ (t : List ℕ). AreSaid (lines_in t) more) (sym same) said)))

pub held_on : (files : Option Held) (name : List ℕ) (first next : ℕ) (l m : ReadSoFar) (bytes : List ℕ) → HoldLeads files name first next l
    → IsHeld files (segment_file name next) bytes → IsReadWith l bytes false m → HoldLeads files name first (next + 1) m
held_on files name first next l m bytes so h j =
    let k = j.held in
    let a = k.added in
    let more = length-append so.fs (a.file ∷ []) in
    let many = so.many in
    record {
      fs = so.fs ++ a.file ∷ [];
      lead = subst (λ (x : Option State). segments.LeadTo None (so.fs ++ a.file ∷ []) x) (ap (λ (x : State). Some x) (sym a.next) ∙ sym k.next) (led_on a.file None so.fs l.holds.state so.lead a.follows (a.whole refl));
      told = told_on [] so.fs l.holds.locks m.holds.locks a.file so.told k.locks;
      held = held_more files name first so.fs a.file so.held (held_at files name (first + length so.fs) next bytes a.file.bytes so.many a.same h);
      many = omega (arith, more, many);
      said = said_on so.fs a.file bytes l.said j.more m.said so.said a.same j.said j.added;
    }

-- the last file
pub held_end : (files : Option Held) (name : List ℕ) (first last : ℕ) (l m : ReadSoFar) (bytes : List ℕ) → HoldLeads files name first last l
    → IsHeld files (segment_file name last) bytes → IsReadWith l bytes true m → HoldEnds files name first last m
held_end files name first last l m bytes so h j =
    let k = j.held in
    let a = k.added in
    let more = length-append so.fs (a.file ∷ []) in
    let many = so.many in
    record {
      fs = so.fs ++ a.file ∷ [];
      told = told_on [] so.fs l.holds.locks m.holds.locks a.file so.told k.locks;
      held = held_more files name first so.fs a.file so.held (held_at files name (first + length so.fs) last bytes a.file.bytes so.many a.same h);
      many = omega (arith, more, many);
      chained = chained a.file so.fs l.holds.state so.lead a.follows;
      sums = ap sums_at k.next ∙ ap (λ (x : State). x.sums) a.next ∙ ap (λ (x : ChainSums). sums_after x a.file) (led_sums None so.fs l.holds.state so.lead) ∙ sym (sums_more no_sums so.fs a.file);
      said = said_on so.fs a.file bytes l.said j.more m.said so.said a.same j.said j.added;
    }

-- ---- refusals

-- a file before the last is refused, and the last one
pub unheld_at : (files : Option Held) (name : List ℕ) (r : SegmentNumbers) (next : ℕ) (l : ReadSoFar) (e : ToolError) → HoldLeads files name r.first next l → next < r.last
    → IsUnheld files name next l.holds false e → IsFileUnheld files name r e
unheld_at files name r next l e so before h =
    let flag : eqb (r.first + length so.fs) r.last ≡ false =
    false_from_ne_true (eqb (r.first + length so.fs) r.last) (λ y. let same = eqb-true (r.first + length so.fs) r.last y in let many = so.many in omega (arith, before)) in
    (so.fs, l.holds, so.lead, so.told, so.held, subst (λ b. IsUnheld files name (r.first + length so.fs) l.holds b e) (sym flag) (subst (λ k. IsUnheld files name k l.holds false e) (sym so.many) h))

pub unheld_last : (files : Option Held) (name : List ℕ) (r : SegmentNumbers) (l : ReadSoFar) (e : ToolError) → HoldLeads files name r.first r.last l
    → IsUnheld files name r.last l.holds true e → IsFileUnheld files name r e
unheld_last files name r l e so h =
    let flag : eqb (r.first + length so.fs) r.last ≡ true = eq-eqb (r.first + length so.fs) r.last so.many in
    (so.fs, l.holds, so.lead, so.told, so.held, subst (λ b. IsUnheld files name (r.first + length so.fs) l.holds b e) (sym flag) (subst (λ k. IsUnheld files name k l.holds true e) (sym so.many) h))
