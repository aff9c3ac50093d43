use Rattle.std.proofs.Common.{length, refl, sym, ◌∙◌, ap}
use Rattle.held_locks.specs.declared.parts.LockParts.{LockParts}
use Rattle.held_locks.specs.Queues.{client_of}
use Rattle.std.proofs.lemmas.Option.{slice_get_read}
use Rattle.held_locks.proofs.Finding.{entry_below, awaited_is, nobody_awaited}
use Rattle.held_locks.proofs.locks.awaited.Goals as goal

pub returns-in-Some : goal.returns-in-Some
returns-in-Some c =
    let e = sym c.in-Some.ensures in
    let l = entry_below c.args.locks.now c.args.waits.now c.args.client c.in-Some.lock c.requires e in
    let at = slice_get_read c.args.locks.now (length c.args.locks.now) c.in-Some.lock c.index-locks-lock.result refl l c.index-locks-lock.is in
    c.client_of.ensures ∙ ap (λ (p : LockParts). client_of p.holder) (sym c.index-locks-lock.is) ∙ awaited_is c.args.locks.now c.args.waits.now c.args.client c.in-Some.lock c.index-locks-lock.result c.requires e at

pub returns-in-None : goal.returns-in-None
returns-in-None c = nobody_awaited c.args.locks.now c.args.waits.now c.args.client c.requires (sym c.in-None.ensures)
