use Rattle.std.proofs.Common.{◌∙◌, ap}
use Rattle.ring_state.specs.Sizes.{Size}
use Rattle.ring_book.proofs.Growth.{IsKept-new}
use Rattle.ring_book.proofs.books.Book.new.Goals as goal

pub invariant_of-result : goal.invariant_of-result
invariant_of-result g c =
    IsKept-new g.R.Resource.works g.R.Resource.first c.in-Ok.start c.args.state c.args.resource c.new-2.result c.in-Ok-new.tally c.n.result c.is_settled.result
    c.params.ensures.ring c.in-Ok.ensures.ok c.requires c.new-2.ensures (c.n.ensures.is ∙ ap (λ (s : Size). s.n) c.params.ensures.is) c.is_settled.ensures c.in-Ok-new.ensures
