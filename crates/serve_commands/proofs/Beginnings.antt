-- Where rings begin in a folder, said of the service that answers for them.
use Rattle.std.proofs.Common.{◌≡◌, List, ℕ, false, Option, None, ap, subst, ◌∙◌}
use Rattle.std.specs.Prelude.{is_some}
use Rattle.std.specs.Borrow.{Bor}
use Rattle.disks.specs.Held.{Held}
use Rattle.line_service.specs.Segments.{Moment, HasBegun, IsFileUnbegun}
use Rattle.ring_service.specs.declared.chain_segments.ChainRules.{ChainRules}
use Rattle.ring_service.specs.Texts.{segment_text}
use Rattle.ring_service.specs.Services.{ServiceView, service_of, may_save, segmenting}
use Rattle.serve_commands.specs.ServedFolder.{Place, HasBegunAt}

module _ (s : ChainRules) (start : Place) (v : ServiceView) (e : v ≡ service_of s start.rings start.number None) where
  pub begun_at : {files : Option Held} {first : Moment ServiceView} → HasBegun segmenting s.files.folder.now v start.number start.behind files first → HasBegunAt s start files first
  begun_at {files} {first} h = subst (λ (x : ServiceView). HasBegun segmenting s.files.folder.now x start.number start.behind files first) e h

  pub left_at : {before after : Option Held} → IsFileUnbegun s.files.folder.now start.number (segment_text start.number start.behind v.rings) before after → IsFileUnbegun s.files.folder.now start.number (segment_text start.number start.behind start.rings) before after
  left_at {before} {after} h = subst (λ (x : ServiceView). IsFileUnbegun s.files.folder.now start.number (segment_text start.number start.behind x.rings) before after) e h

  -- where no line may save none changes a file
  pub saves_none : s.permits.saves ≡ None → may_save v ≡ false
  saves_none none = ap may_save e ∙ ap (λ (x : Option (Bor (List ℕ))). is_some x) none
