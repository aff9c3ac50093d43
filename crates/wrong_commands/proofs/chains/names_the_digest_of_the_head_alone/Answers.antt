use Rattle.std.proofs.Common.{◌≡◌, ℕ, List, Option, Some, ◌∙◌, ap, sym}
use Rattle.ring_service.specs.Standings.{Standing}
use Rattle.line_service.specs.Digested.{hashed}
use Rattle.ring_service.specs.Texts.{segment_text}
use Rattle.wrong_commands.proofs.Cuts.{is_cut, one_digest}
use Rattle.wrong_commands.proofs.chains.names_the_digest_of_the_head_alone.Goals as goal

pub returns-in-Some : goal.returns-in-Some
returns-in-Some g c = record {
  wrong = λ bytes held service rings known files h.
      let end = c.in-Some.end in
      let cut = is_cut h c.requires.due c.in-Some.ensures.number known files in
      let journal : hashed (g.D.Grown.Grow.contents end.writer.inner) end.writer.hasher ≡ Some (segment_text end.number c.digest.result service.rings) =
      c.in-Some.ensures.journal bytes held known files ∙ ap (λ (x : List Standing). Some (segment_text end.number c.digest.result x)) (sym (rings ∙ c.in-Some.ensures.rings)) in
      c.requires.apart bytes known (sym c.digest.ensures.value ∙ one_digest c.digest.result cut journal);
}
