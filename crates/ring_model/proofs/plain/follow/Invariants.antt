use Rattle.std.proofs.Common.{◌≡◌, ◌+◌, ◌≤◌, length, drop}
use Rattle.ring_model.specs.Ring.{ring_with}
use Rattle.ring_model.specs.Runs.{after_passes, granted_passes, AreBelow}
use Rattle.ring_model.proofs.plain.follow.Given as goal

abbrev pub invariant-loop-choice : goal.invariant-loop-choice
invariant-loop-choice l = record {
  below : AreBelow (length l.values) (drop l.choice-index l.choices);
  ring : after_passes (ring_with l.k l.values) (drop l.choice-index l.choices) ≡ after_passes (ring_with l.k l.fn.values) l.choices;
  grants : l.granted + length (granted_passes (ring_with l.k l.values) (drop l.choice-index l.choices)) ≡ length (granted_passes (ring_with l.k l.fn.values) l.choices);
  small : l.granted ≤ l.choice-index;
}
