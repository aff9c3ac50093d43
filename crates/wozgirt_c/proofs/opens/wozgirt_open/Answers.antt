use Rattle.std.proofs.Common.{rules, ◌≡◌}
use Rattle.one_thread_ring.specs.Rings.{IsOpenFault}
use Rattle.one_thread_ring.specs.declared.errors.OpenError.TheVariants as opens
use Rattle.c_calls.specs.Codes.{open_code}
use Rattle.wozgirt_c.proofs.opens.wozgirt_open.Goals as goal

pub returns-in-Ok-clause-err : goal.returns-in-Ok-clause-err
returns-in-Ok-clause-err c = λ empty refused.
    let fault : IsOpenFault (record { n = c.args.n; k = c.args.k }) c.args.start.now c.args.seats opens.OutOfMemory = search rules in
    let code : c.put.result ≡ open_code opens.OutOfMemory = search rules in
    (opens.OutOfMemory, fault, code)
