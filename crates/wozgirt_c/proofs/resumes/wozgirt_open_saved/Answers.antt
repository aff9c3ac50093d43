use Rattle.std.proofs.Common.{rules, ◌≡◌, ◌≢◌, inr}
use Rattle.c_calls.specs.Codes.{no_memory}
use Rattle.c_calls.specs.Resumed.{IsResumedFrom}
use Rattle.wozgirt_c.proofs.resumes.wozgirt_open_saved.Goals as goal

pub returns-in-Ok-clause-checked : goal.returns-in-Ok-clause-checked
returns-in-Ok-clause-checked c = λ _.
    let from : IsResumedFrom c.args.bytes.now c.args.place c.args.seats c.in-Ok.opened = c.in-Ok.ensures.ok in
    let want : c.put.result ≢ 0 → c.put.result ≡ no_memory = search rules in
    inr (c.in-Ok.ensures.legal, λ n. record { saved = from.saved; read = from.read; why = inr (from.at.ring, from.at.at, inr (want n, from.at.resumed.fits)) })
