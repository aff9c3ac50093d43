use Rattle.text_lines.proofs.Writing.{writes_err}
use Rattle.repair_texts.specs.Lines.{figures_text, counts_from}
use Rattle.repair_report.proofs.writing.put_histogram.Goals as goal

pub returns-in-Err : goal.returns-in-Err
returns-in-Err g c =
    let p = c.args.part.now in
    writes_err _ _ c.in-Err.fault (figures_text p.row.head p.row.figures) (counts_from p.unit.now p.row.head.n p.row.head.k 0 p.counts.now) c.in-Err.ensures
