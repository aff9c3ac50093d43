use Rattle.std.proofs.Common.{◌≤◌, sym, ap, ◌∙◌, length, arith}
use Rattle.ring_shared.proofs.Adding.{adds_moves}
use Rattle.ring_shared.proofs.Prefixes.{prefix_length}
use Rattle.ring_shared.proofs.front.End.add.Goals as goal

pub compare_exchange-found-requires : goal.compare_exchange-found-requires
compare_exchange-found-requires g c =
    let h = c.args.head.now.word_is in
    let again = c.again-seen.ensures in
    let learn = c.learn.ensures in
    let offer = c.plain-offer.ensures in
    let pen = c.no_pen-pen.ensures in
    let here = learn.0 ∙ (ap (λ s. s.book) again ∙ (c.self.invariant.1 ∙ sym (ap (λ w. w.book) h))) in
    let counted = c.self.invariant.0 ∙ ap (λ s. length s.log) (sym again) in
    let more = prefix_length c.again-seen.result.log c.learn.new.self.log learn.2 in
    let len : c.self.inside.count ≤ length c.learn.new.self.log = omega (arith, counted, more) in (
      ap (λ w. w.tracked) h,
      here,
      pen.0 ∙ here,
      offer.0,
      rw (ap (λ w. w.key) h, pen.1, offer.1, offer.3) (adds_moves c.learn.new.self.log c.args.event c.self.inside.count len),
    )
