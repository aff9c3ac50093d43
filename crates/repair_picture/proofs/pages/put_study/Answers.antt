use Rattle.std.proofs.Common.{◌++◌}
use Rattle.std.specs.Prelude.{codes}
use Rattle.text_lines.proofs.Writing.{writes_err}
use Rattle.repair_texts.specs.Lines.{start_text}
use Rattle.repair_picture.proofs.pages.put_study.Goals as goal

pub returns-in-Err : goal.returns-in-Err
returns-in-Err g c =
    let h = c.args.row.now.head in
    writes_err _ _ c.in-Err.fault (codes "daemon " ++ (h.daemon.now ++ codes " from ")) (start_text h.start.now h.faults) c.in-Err.ensures
