use Rattle.std.proofs.Common.{◌≡◌, ℕ, ◌∙◌, ap, arith}
use Rattle.rand_pcg.specs.Lcg.{Lcg}
use Rattle.ring_model.specs.Ring.{privileged_count}
use Rattle.ring_model.proofs.Settled.{count_positive}
use Rattle.ring_repairs.specs.Daemons.{privileged_at}
use Rattle.ring_repairs.specs.Draws.{draw}
use Rattle.machine_masks.proofs.Marks.{members_marked}
use Rattle.ring_repairs.proofs.daemons.drawn_privileged.Goals as goal

pub draw-place-requires : goal.draw-place-requires
draw-place-requires c =
    let s = c.args.ring.now.values in
    let two = c.params.ensures.ring.ring.two in
    let some = count_positive s (omega arith) in
    let count = members_marked s c.args.privileged.now c.requires c.params.ensures.ring.most_machines in
    let is = c.count.ensures in
    omega arith

pub privileged_at-requires-clause-place : goal.privileged_at-requires-clause-place
privileged_at-requires-clause-place c =
    let count = members_marked c.args.ring.now.values c.args.privileged.now c.requires c.params.ensures.ring.most_machines in
    let is = c.count.ensures in
    let below = c.draw-place.ensures.below in
    omega arith

pub returns-clause-machine : goal.returns-clause-machine
returns-clause-machine c =
    let s = c.args.ring.now.values in
    let w : Lcg = c.args.words.now in
    let count : c.count.result ≡ privileged_count s = c.count.ensures ∙ members_marked s c.args.privileged.now c.requires c.params.ensures.ring.most_machines in
    c.privileged_at.ensures
    ∙ ap (λ (t : ℕ × Lcg). privileged_at s t.0) c.draw-place.ensures.drawn ∙ ap (λ (x : ℕ). privileged_at s (draw x w).0) count

pub returns-clause-words : goal.returns-clause-words
returns-clause-words c =
    let s = c.args.ring.now.values in
    let w : Lcg = c.args.words.now in
    let count : c.count.result ≡ privileged_count s = c.count.ensures ∙ members_marked s c.args.privileged.now c.requires c.params.ensures.ring.most_machines in
    ap (λ (t : ℕ × Lcg). t.1) c.draw-place.ensures.drawn ∙ ap (λ (x : ℕ). (draw x w).1) count
