use Rattle.std.proofs.Common.{subst, ℕ, List}
use Rattle.std.specs.Prelude.{codes}
use Rattle.noted_lines.specs.Readers.{IsBeginningAs}
use Rattle.noted_lines.proofs.NotedReads.{no_beginning, whole_text}
use Rattle.noted_lines.proofs.beginnings.read_beginning.Goals as goal

pub returns-in-Ok : goal.returns-in-Ok
returns-in-Ok c =
    subst (λ (x : List ℕ). IsBeginningAs x c.beginning_of.result) (whole_text (codes "# done ") c.args.text.now c.in-Ok.rest.now c.in-Ok.ensures) c.beginning_of.ensures

pub returns-in-Err : goal.returns-in-Err
returns-in-Err c = no_beginning c.args.text.now c.in-Err.field-0 c.in-Err.ensures
