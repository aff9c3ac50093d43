use Rattle.std.proofs.Common.{◌≡◌, List, ℕ, Some, subst, string_bytes}
use Rattle.disks.specs.Lasting.{ChangesOnly}
use Rattle.disks.specs.Left.{held_left}
use Rattle.disks.proofs.losing.leave_copy.Goals as goal

pub returns-clause-done : goal.returns-clause-done
returns-clause-done c =
    let was = held_left c.args.files.now in
    let is = held_left c.leave.new.files in
    subst (λ (name : List ℕ). ChangesOnly was is name (λ has. has ≡ Some c.args.bytes.now)) c.in_ok-place.ensures.ok
    (subst (λ (bytes : List ℕ). ChangesOnly was is (string_bytes c.in_ok-place.place) (λ has. has ≡ Some bytes)) c.in_ok-copy.ensures.items c.leave.ensures)
