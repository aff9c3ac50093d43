use Rattle.std.proofs.Common.{◌≡◌, false, List, sym, ap, ◌∙◌}
use Rattle.held_locks.specs.Kept.{LockView}
use Rattle.lock_names.specs.Kept.{NamedView}
use Rattle.lock_journal.specs.Due.{has_short}
use Rattle.name_service.specs.Growth.{AreGrown}
use Rattle.name_service.proofs.GrownPools.{grown_by, if_ok}
use Rattle.name_service.proofs.growing.next_names.Goals as goal

pub returns-clause-short : goal.returns-clause-short
returns-clause-short c =
    let next = c.in-Ok.next in
    let more = c.saturating_sub-more.result in
    let none : has_short next.locks ≡ false = ap (λ (vs : List LockView). has_short vs) (sym c.locks.ensures) ∙ (sym c.has_short.ensures ∙ c.if-has_short.false) in
    if_ok c.grow.result (λ (n : NamedView). AreGrown c.args.size next more n) (λ (n : NamedView). has_short n.locks ≡ false) c.grow.ensures.ok
    (λ n g. (grown_by c.args.size next more n g).short none)
