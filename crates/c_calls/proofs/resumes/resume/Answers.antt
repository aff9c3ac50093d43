use Rattle.std.proofs.Common.{◌∙◌, inr}
use Rattle.saved_history.specs.declared.saved.SavedRing.{SavedRing}
use Rattle.c_calls.specs.Resumed.{FitsSeats}
use Rattle.c_calls.proofs.Places.{can_go_on, want_code}
use Rattle.c_calls.proofs.resumes.resume.Goals as goal

pub returns-in-Err-clause-err : goal.returns-in-Err-clause-err
returns-in-Err-clause-err c =
    let ring : SavedRing = c.args.ring.now in
    let fits : FitsSeats ring c.args.seats = c.in-None.ensures.none in
    let can = can_go_on c.requires.0 c.requires.1 ring c.args.seats c.requires.2 fits in
    inr (c.resume_code.ensures ∙ want_code c.in-Err.error (c.in-Err.ensures.legal can), fits)
