use Rattle.std.proofs.Common.{◌≡◌, ◌∙◌, ℕ, false, List, Ok, refl, sym, subst}
use Rattle.serve_commands.specs.ServedFolder.{has_floor}
use Rattle.segment_files.specs.Torn.{IsRightEnd}
use Rattle.serve_commands.proofs.serve_folder.last_place.Goals as goal

pub returns-in-Ok-resume_last-clause-ok : goal.returns-in-Ok-resume_last-clause-ok
returns-in-Ok-resume_last-clause-ok g c = record {
  bytes = c.in-Ok.bytes.items;
  held = c.in-Ok.ensures.ok;
  segment = c.in-Ok-last_segment.last;
  right = subst (λ (b : List ℕ). IsRightEnd b (Ok c.in-Ok-last_segment.last)) c.as_slice.ensures.value c.in-Ok-last_segment.ensures.ok;
  named = c.in-Ok-last_segment.ensures.named;
  plain = subst (λ (b : List ℕ). has_floor b ≡ false) c.as_slice-2.ensures.value (sym c.has_floor.ensures ∙ c.if-has_floor.false);
  resumed = c.in-Ok-resume_last.ensures.ok;
  number = refl;
  behind = refl;
}
