use Rattle.std.proofs.Common.{◌≡◌, List, ℕ, Some, subst}
use Rattle.std.specs.Prelude.{OnOk}
use Rattle.disks.specs.Lasting.{ChangesOnly}
use Rattle.disks.specs.Left.{held_left}
use Rattle.disks.proofs.losing.LosingCallsFileCalls.sync_name.Goals as goal

pub returns-clause-lasts : goal.returns-clause-lasts
returns-clause-lasts c =
    subst (λ (bytes : List ℕ). OnOk c.leave_copy.result (ChangesOnly (held_left c.args.self.now.after_loss) (held_left c.leave_copy.new.files) c.args.name.now (λ has. has ≡ Some bytes)))
    c.as_slice.ensures.value c.leave_copy.ensures.done
