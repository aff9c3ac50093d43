use Rattle.std.proofs.Common.{◌∙◌}
use Rattle.ring_shared.proofs.Folding.{ring_of_book, effect_of_last}
use Rattle.ring_shared.proofs.shown.last_effect.Goals as goal

pub returns : goal.returns
returns g c =
    let ring = ring_of_book g.R.Resource.works g.R.Resource.first g.N.Name.start c.args.book.now c.state.ensures.book c.requires.held.begins in
    effect_of_last g.N.Name.start c.state.result.now c.requires.last.0 c.args.book.now.history c.args.event c.machine_named-machine.result c.get.result c.calm.result
    c.requires.last.1 (c.state.ensures.is ∙ ring) c.requires.call c.machine_named-machine.ensures c.get.ensures.is c.get.ensures.below c.calm.ensures.is
