use Rattle.std.proofs.Common.{◌++◌}
use Rattle.std.specs.Prelude.{codes}
use Rattle.std.specs.List.{flat_map}
use Rattle.text_lines.proofs.Writing.{writes_err}
use Rattle.repair_texts.specs.Lines.{head_text, named_text, figures_of}
use Rattle.repair_texts.proofs.lines.put_figures.Goals as goal

pub returns-in-Err : goal.returns-in-Err
returns-in-Err g c = writes_err _ _ c.in-Err.fault (head_text c.args.head.now) (flat_map named_text (figures_of c.args.head.now.n c.args.figures.now) ++ codes "\n") c.in-Err.ensures
