use Rattle.ring_check.proofs.Replaying.{tells_right}
use Rattle.ring_check.proofs.surveys.Reading.go_to.Goals as goal
use Rattle.ring_check.proofs.surveys.Reading.go_to.Goals.{then-position-self-2+in_ok-self, else-position-self-2}

pub follow-requires-clause-measured : goal.follow-requires-clause-measured
follow-requires-clause-measured c = elim c.if-position-self-2.branch [
  | then-position-self-2+in_ok-self w ↦ rw w.self-is (w.in_ok-self.ensures.1 c.args.events.now).measured
  | else-position-self-2 w ↦ rw w.self-is c.requires.reading.measured
]

pub follow-requires-clause-tells : goal.follow-requires-clause-tells
follow-requires-clause-tells c = elim c.if-position-self-2.branch [
  | then-position-self-2+in_ok-self w ↦ rw w.self-is (λ _. tells_right w.in_ok-self.field-0 w.in_ok-self.field-0.survey.position (w.in_ok-self.ensures.1 c.args.events.now).right)
  | else-position-self-2 w ↦ rw w.self-is (λ _. tells_right c.args.self.now c.args.self.now.survey.position c.requires.reading.right)
]
