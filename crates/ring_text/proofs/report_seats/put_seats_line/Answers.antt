use Rattle.std.proofs.Common.{◌++◌, codes, rules}
use Rattle.text_lines.specs.Spelling.{list_text}
use Rattle.text_lines.proofs.Writing.{writes_then, writes_err}
use Rattle.ring_text.specs.SavedReport.{calls_by, grants_to, surveys_by, each_seat}
use Rattle.ring_text.proofs.Numbers.{seats_answered}
use Rattle.ring_text.proofs.report_seats.put_seats_line.Goals as goal

pub returns-in-Ok : goal.returns-in-Ok
returns-in-Ok g c =
    let list = c.in-Ok.ensures (each_seat (calls_by c.args.history.now)) (seats_answered _ (calls_by c.args.history.now) (λ i answer said. search rules)) in
    writes_then _ _ _ _ (codes "seats calls " ++ list_text (each_seat (calls_by c.args.history.now))) (codes " granted " ++ (list_text (each_seat (grants_to c.args.history.now)) ++ (codes " surveys " ++ (list_text (each_seat (surveys_by c.args.surveys.now)) ++ codes "\n")))) list c.put_grants.ensures

pub returns-in-Err : goal.returns-in-Err
returns-in-Err g c =
    let list = c.in-Err.ensures (each_seat (calls_by c.args.history.now)) (seats_answered _ (calls_by c.args.history.now) (λ i answer said. search rules)) in
    writes_err _ _ c.in-Err.fault (codes "seats calls " ++ list_text (each_seat (calls_by c.args.history.now))) (codes " granted " ++ (list_text (each_seat (grants_to c.args.history.now)) ++ (codes " surveys " ++ (list_text (each_seat (surveys_by c.args.surveys.now)) ++ codes "\n")))) list
