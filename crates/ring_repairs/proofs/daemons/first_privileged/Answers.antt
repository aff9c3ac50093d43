use Rattle.std.proofs.Common.{◌≡◌, ℕ, ◌-◌, length, ◌∙◌, ap}
use Rattle.ring_model.specs.Numbers.{least}
use Rattle.ring_state.specs.Sizes.{Size}
use Rattle.machine_masks.specs.Members.{is_in}
use Rattle.ring_repairs.proofs.Marks.{first_marked}
use Rattle.ring_repairs.proofs.daemons.first_privileged.Goals as goal

pub returns : goal.returns
returns c =
    let s = c.args.ring.now.values in
    let n : c.n.result ≡ length s = c.n.ensures.is ∙ ap (λ (x : Size). x.n) c.params.ensures.is in
    c.first_from.ensures ∙ ap (λ (x : ℕ). least (is_in c.args.privileged.now) 0 (x - 0)) n
    ∙ first_marked s c.args.privileged.now c.requires c.params.ensures.ring.most_machines
