use Rattle.std.proofs.Common.{List, length, map, replicate, ap, sym, ◌∙◌}
use Rattle.std.proofs.lemmas.List.{length-map}
use Rattle.saved_history.specs.Content.{block_of}
use Rattle.ring_model.specs.declared.bases.Base.{Base}
use Rattle.chain_readers.specs.Chains.{parts_of}
use Rattle.chain_readers.proofs.Parts.{none_before}
use Rattle.chain_readers.proofs.chains.no_bases.Goals as goal

pub returns : goal.returns
returns c =
    let rings = c.args.rings.now in
    ap (λ (u : List Base). parts_of u (map block_of rings)) (c.in_ok-bases.ensures.items_if_clones_equal (λ y e. e))
    ∙ ap (λ (b : Base). parts_of (replicate (length rings) b) (map block_of rings)) c.none.ensures.none
    ∙ none_before (length rings) (map block_of rings) (sym (length-map rings block_of))
