use Rattle.std.proofs.Common.{cond, ap, string_bytes}
use Rattle.std.specs.Str.{bytes_eq}
use Rattle.std.specs.Box.{with_value}
use Rattle.disks.specs.Held.{File}
use Rattle.disks.specs.declared.losing.Left.{Left}
use Rattle.disks.specs.declared.losing.Left.TheVariants.{Over}
use Rattle.disks.specs.Left.{left_at}
use Rattle.disks.proofs.Lasting.{left_over}
use Rattle.disks.proofs.losing.leave.Goals as goal

pub returns : goal.returns
returns c =
    left_over c.args.files.now (Over (with_value c.args.room c.swap.new.y) c.args.name c.args.bytes) (string_bytes c.args.name) c.args.bytes.items
    (λ other. ap (λ (was : Left). cond (bytes_eq (string_bytes c.args.name) other) (File c.args.bytes.items) (left_at was other)) c.swap.ensures.y_after)
