use Rattle.text_lines.proofs.Writing.{writes_err}
use Rattle.ring_text.specs.Report.{size_words, count_words}
use Rattle.ring_text.proofs.farm_report.put_counts_line.Goals as goal

pub returns-in-Err : goal.returns-in-Err
returns-in-Err g c = writes_err _ _ c.in-Err.fault (size_words c.args.place c.args.n c.args.k) (count_words c.args.counts) c.in-Err.ensures
