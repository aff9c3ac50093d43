use Rattle.wrong_bodies.proofs.Checks.{same_test}
use Rattle.ring_check.specs.Members.{run_of, may_come}
use Rattle.wrong_bodies.proofs.check.tests_groups_in_another_way.Goals as goal

pub returns : goal.returns
returns c = record {
  wrong = λ test n h e apart means.
      let law = c.members_as_defined.ensures n h e in
      apart (same_test (test n (run_of h) e) (may_come n (run_of h) e) (λ t. law.1 (means.0 t)) (λ t. means.1 (law.0 t)));
}
