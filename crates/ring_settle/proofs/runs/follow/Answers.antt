use Rattle.std.proofs.Common.{◌≡◌, ℕ, List, get_or, true, false, ap, sym, ◌∙◌, arith}
use Rattle.ring_model.specs.Numbers.{bit}
use Rattle.ring_model.specs.Ring.{Ring, is_privileged}
use Rattle.ring_model.proofs.Below.{bit_at}
use Rattle.ring_model.proofs.Runs.{pass_granted, pass_idle}
use Rattle.ring_settle.proofs.Potentials.{Followed, follow_more, follow_turn, follow_end, follow_done}
use Rattle.ring_settle.proofs.runs.follow.Goals as goal
use Rattle.ring_settle.proofs.runs.follow.Goals.{then-is_privileged, else-is_privileged}

pub loop-machine-preserved : goal.loop-machine-preserved
loop-machine-preserved c =
    let r : Ring = c.loop-machine.state in
    let choices : List ℕ = c.args.choices.now in
    let at : ℕ = c.loop-machine.machine-index in
    let i : ℕ = get_or choices at 0 in
    let inv = c.loop-machine.invariant in
    elim c.if-is_privileged.branch [
      | then-is_privileged w ↦
          let e : is_privileged r.values i ≡ true = sym c.is_privileged.ensures ∙ w.if-is_privileged.true in
          let t : c.if-is_privileged.state ≡ _ = w.state-is ∙ w.move_machine.ensures.is in
          let f : Followed r choices at c.if-is_privileged.state =
          follow_more r choices at c.if-is_privileged.state c.loop-machine-test.true inv.ring inv.below (t ∙ sym (pass_granted r i e)) in
          let b : bit (is_privileged r.values i) ≡ 1 = bit_at (is_privileged r.values i) true e in
          follow_turn c.args.state.now choices c.loop-machine.state c.if-is_privileged.state c.loop-machine.granted c.if-is_privileged.granted at inv f (ap (λ (r : Ring). r.k) t) (omega arith)
      | else-is_privileged w ↦
          let e : is_privileged r.values i ≡ false = sym c.is_privileged.ensures ∙ w.if-is_privileged.false in
          let t : c.if-is_privileged.state ≡ c.loop-machine.state = w.state-is in
          let f : Followed r choices at c.if-is_privileged.state =
          follow_more r choices at c.if-is_privileged.state c.loop-machine-test.true inv.ring inv.below (t ∙ sym (pass_idle r i e)) in
          let b : bit (is_privileged r.values i) ≡ 0 = bit_at (is_privileged r.values i) false e in
          follow_turn c.args.state.now choices c.loop-machine.state c.if-is_privileged.state c.loop-machine.granted c.if-is_privileged.granted at inv f (ap (λ (r : Ring). r.k) t) (omega arith)
    ]

pub returns-clause-state : goal.returns-clause-state
returns-clause-state c =
    follow_end c.args.state.now c.args.choices.now c.loop-machine.state c.loop-machine.granted c.loop-machine.machine-index c.loop-machine.invariant
    c.loop-machine-test.false

pub returns-clause-descent : goal.returns-clause-descent
returns-clause-descent c =
    let inv = c.loop-machine.invariant in
    follow_done c.args.state.now c.args.choices.now c.loop-machine.state c.loop-machine.granted c.loop-machine.machine-index inv c.loop-machine-test.false c.params.ensures.ring.ring c.requires
