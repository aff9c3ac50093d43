use Rattle.std.proofs.Common.{subst, ℕ, List}
use Rattle.std.specs.Prelude.{codes}
use Rattle.noted_lines.specs.Readers.{IsNoteAs}
use Rattle.noted_lines.proofs.NotedReads.{no_note, whole_text}
use Rattle.noted_lines.proofs.notes.read_note.Goals as goal

pub returns-in-Ok : goal.returns-in-Ok
returns-in-Ok c =
    subst (λ (x : List ℕ). IsNoteAs x c.note_of.result) (whole_text (codes "# do ") c.args.text.now c.in-Ok.rest.now c.in-Ok.ensures) c.note_of.ensures

pub returns-in-Err : goal.returns-in-Err
returns-in-Err c = no_note c.args.text.now c.in-Err.field-0 c.in-Err.ensures
