use Rattle.std.proofs.Common.{sym, ap, ◌∙◌}
use Rattle.ring_model.specs.Surveys.{calm}
use Rattle.ring_shared.specs.Folds.{ring_after}
use Rattle.ring_shared.proofs.Folding.{ring_of_book}
use Rattle.ring_shared.proofs.shown.Operation.block.Goals as goal

pub invariant_of-result : goal.invariant_of-result
invariant_of-result g c =
    let ring = ring_of_book g.R.Resource.works g.R.Resource.first g.N.Name.start c.args.book.now c.requires.held.book c.requires.held.begins in
    (c.requires.ring ∙ (ring ∙ ap (ring_after g.N.Name.start) (sym c.requires.front)), c.calm.ensures.is ∙ ap calm (sym c.requires.front))
