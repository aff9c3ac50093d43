use Rattle.std.proofs.Common.{◌≡◌, List, ℕ, Some, subst, ◌∙◌, string_bytes}
use Rattle.disks.specs.Held.{Replaces}
use Rattle.disks.specs.Entries.{held_of}
use Rattle.disks.specs.Lasting.{ChangesOnly}
use Rattle.disks.specs.Left.{held_left}
use Rattle.disks.proofs.losing.LosingCallsFileCalls.close.Goals as goal

pub returns-clause-closed : goal.returns-clause-closed
returns-clause-closed c =
    subst (λ (bytes : List ℕ). Replaces (Some (held_of c.args.self.now.memory.entries.items)) (Some (held_of c.finish.new.self.entries.items)) c.args.name.now (Some bytes))
    (c.in_ok-bytes.ensures.items ∙ c.as_slice.ensures.value) c.in_ok-finish.ensures.replaced

pub returns-clause-lasts : goal.returns-clause-lasts
returns-clause-lasts c =
    let was = held_left c.args.self.now.after_loss in
    let is = held_left c.leave.new.files in
    subst (λ (name : List ℕ). ChangesOnly was is name (λ has. has ≡ Some c.args.end.now.settled.items)) c.in_ok-place.ensures.ok
    (subst (λ (bytes : List ℕ). ChangesOnly was is (string_bytes c.in_ok-place.place) (λ has. has ≡ Some bytes)) (c.in_ok-settled.ensures.items ∙ c.as_slice-2.ensures.value) c.leave.ensures)
