use Rattle.std.proofs.Common.{List, ℕ, subst, ◌∙◌}
use Rattle.segment_files.specs.Chain.{IsRightRefusal}
use Rattle.judged_files.proofs.rings.begun_segment.Goals as goal

pub returns : goal.returns
returns c = record {
  ok = tt;
  err = λ l last. subst (λ (t : List ℕ). IsRightRefusal l t last c.in-Err.error) (c.as_slice.ensures.value ∙ c.in-Ok.ensures) (c.in-Err.ensures l last);
}
