use Rattle.std.proofs.Common.{rules, ◌≡◌, ◌≢◌, inr}
use Rattle.c_calls.specs.Codes.{no_memory}
use Rattle.c_calls.specs.Sealed.{IsGoneOn}
use Rattle.wozgirt_c.proofs.segments.wozgirt_open_segment.Goals as goal

pub returns-in-Ok-clause-checked : goal.returns-in-Ok-clause-checked
returns-in-Ok-clause-checked c = λ _.
    let from : IsGoneOn c.args.bytes.now c.args.seats c.in-Ok.opened = c.in-Ok.ensures.ok in
    let want : c.put.result ≢ 0 → c.put.result ≡ no_memory = search rules in
    inr (from.last, from.right, c.in-Ok.ensures.line, λ n. inr (from.saved, from.one.alone, inr (want n, from.resumed.fits)))
