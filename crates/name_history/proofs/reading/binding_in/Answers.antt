use Rattle.name_remarks.specs.Remarks.{bind}
use Rattle.name_history.proofs.reading.binding_in.Goals as goal

pub returns-in-Err : goal.returns-in-Err
returns-in-Err c = λ ring b is. c.in-Err.ensures.1 (bind ring b) is
