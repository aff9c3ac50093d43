use Rattle.std.proofs.Common.{◌++◌, codes, rules}
use Rattle.text_lines.specs.Spelling.{list_text}
use Rattle.text_lines.proofs.Writing.{writes_then, writes_err}
use Rattle.ring_text.specs.SavedReport.{surveys_by, each_seat}
use Rattle.ring_text.proofs.Numbers.{seats_answered}
use Rattle.ring_text.proofs.report_seats.put_surveys.Goals as goal

pub returns-in-Ok : goal.returns-in-Ok
returns-in-Ok g c =
    let list = c.in-Ok.ensures (each_seat (surveys_by c.args.surveys.now)) (seats_answered _ (surveys_by c.args.surveys.now) (λ i answer said. search rules)) in
    writes_then _ _ _ _ (codes " surveys " ++ list_text (each_seat (surveys_by c.args.surveys.now))) (codes "\n") list c.put.ensures

pub returns-in-Err : goal.returns-in-Err
returns-in-Err g c =
    let list = c.in-Err.ensures (each_seat (surveys_by c.args.surveys.now)) (seats_answered _ (surveys_by c.args.surveys.now) (λ i answer said. search rules)) in
    writes_err _ _ c.in-Err.fault (codes " surveys " ++ list_text (each_seat (surveys_by c.args.surveys.now))) (codes "\n") list
