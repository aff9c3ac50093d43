use Rattle.text_lines.proofs.Writing.{pieces_fault}
use Rattle.repair_report.specs.Reports.{lines_of}
use Rattle.repair_report.proofs.writing.put_histograms.Goals as goal

pub returns-in-Err : goal.returns-in-Err
returns-in-Err g c = pieces_fault _ lines_of c.args.parts.now c.loop-part.part-index _ c.loop-part-test.true _ _ _ c.loop-part.invariant c.in-Err.fault c.in-Err.ensures
