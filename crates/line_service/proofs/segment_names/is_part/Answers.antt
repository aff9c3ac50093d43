use Rattle.std.proofs.Common.{◌≡◌, ◌-◌, ◌≤◌, ◌<◌, ◌∙◌, ℕ, List, length, drop, take, IsTrue, arith, sym, ap, true}
use borrow.Author.Tests.{ltb-true}
use Rattle.std.specs.Str.{bytes_eq}
use Rattle.std.proofs.lemmas.Slice.Eq.{bytes_eq-Decides}
use Rattle.line_service.specs.SegmentNames.{IsPartName}
use Rattle.line_service.proofs.NameParts.{part_is, part_stands, end_is}
use Rattle.line_service.proofs.segment_names.is_part.Goals as goal

pub returns-then-end-ge5 : goal.returns-then-end-ge5
returns-then-end-ge5 c =
    let e = c.before_digits-end.ensures in
    let name = c.args.name.now in
    let end = c.before_digits-end.result in (
      λ y. part_is name end e.within e.digits c.if-end-ge5.true ((bytes_eq-Decides _ _).0 (sym c.eq.ensures ∙ y) ∙ c.as_slice.ensures),
      λ p. c.eq.ensures ∙ (bytes_eq-Decides _ _).1 (part_stands name end e.within e.digits e.last p ∙ sym c.as_slice.ensures),
    )

pub returns-else-end-ge5 : goal.returns-else-end-ge5
returns-else-end-ge5 c =
    let e = c.before_digits-end.ensures in
    let name = c.args.name.now in
    let end = c.before_digits-end.result in
    (λ y. absurd (omega (arith, ltb-true 4 end y, c.if-end-ge5.false)), λ p. absurd (omega (arith, end_is name end e.within e.digits e.last p)))
