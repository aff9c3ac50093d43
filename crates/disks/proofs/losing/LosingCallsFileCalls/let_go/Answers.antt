use Rattle.std.proofs.Common.{◌≡◌, Some, string_bytes}
use Rattle.disks.specs.Lasting.{BeginsWith}
use Rattle.disks.specs.Left.{held_left}
use Rattle.disks.proofs.Lasting.{changes_less, front_of_all}
use Rattle.disks.proofs.losing.LosingCallsFileCalls.let_go.Goals as goal

pub returns-clause-left : goal.returns-clause-left
returns-clause-left c =
    let settled = c.args.end.settled.items in
    changes_less (Some (held_left c.args.self.now.after_loss)) (Some (held_left c.leave.new.files)) (string_bytes c.args.name) (λ has. has ≡ Some settled) (λ has. BeginsWith has (Some settled)) (front_of_all settled)
    c.leave.ensures
