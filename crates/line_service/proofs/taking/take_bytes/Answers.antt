use Rattle.std.proofs.Common.{◌≡◌, ℕ, ◌-◌, List, [], ◌++◌, length, take, refl, subst, sym, ap, ◌∙◌, append_assoc, arith}
use Rattle.std.proofs.lemmas.Bool.{eqb-true}
use Rattle.std.proofs.lemmas.List.{append-nil}
use Rattle.line_service.specs.Loop.{GoesOn, Stops}
use Rattle.line_service.specs.Stands.{by_stand, stand}
use Rattle.line_service.proofs.Telling.{piece_taken, block_rest, front_taken, stops_more}
use Rattle.line_service.proofs.taking.take_bytes.Goals as goal

pub loop-rest-init : goal.loop-rest-init
loop-rest-init g c = (
  [],
  refl,
  c.requires,
  (λ old before after bytes h. subst (λ (bs : List ℕ). GoesOn (by_stand g.S.AnswersLines.is_answered) old before after bs (stand c.args.service.now (g.D.Disk.holds c.args.disk.now)) c.args.line.now.items c.args.pending.now) (sym (append-nil bytes)) h),
  (λ none. (refl, none)),
)

pub returns-in-Err-clause-serves : goal.returns-in-Err-clause-serves
returns-in-Err-clause-serves g c = λ old before after bytes h.
    let inv = c.loop-rest.invariant in
    let piece = c.split_line-ends.result.0.now in
    let more = c.split_line-ends.result.2.now in
    subst (λ (bs : List ℕ). Stops (by_stand g.S.AnswersLines.is_answered) old before after bs (stand c.take_piece.new.service (g.D.Disk.holds c.take_piece.new.disk))) (block_rest bytes c.args.block.now inv.0 c.loop-rest.rest.now piece more inv.1 c.split_line-ends.ensures.split)
    (stops_more more (c.in-Err.ensures.serves old before after (bytes ++ inv.0) (inv.3 old before after bytes h)))

pub returns-in-Ok-true-clause-serves : goal.returns-in-Ok-true-clause-serves
returns-in-Ok-true-clause-serves g c = λ old before after bytes h.
    let inv = c.loop-rest.invariant in
    let block = c.args.block.now in
    let piece = c.split_line-ends.result.0.now in
    let more = c.split_line-ends.result.2.now in
    let front : take (length block - length more) block ≡ inv.0 ++ piece = front_taken block (inv.0 ++ piece) more (length block - length more) (piece_taken block inv.0 c.loop-rest.rest.now piece more inv.1 c.split_line-ends.ensures.split) refl in
    subst (λ (bs : List ℕ). GoesOn (by_stand g.S.AnswersLines.is_answered) old before after bs (stand c.take_piece.new.service (g.D.Disk.holds c.take_piece.new.disk)) c.take_piece.new.line.items c.take_piece.new.pending) (append_assoc bytes inv.0 piece ∙ ap (λ (bs : List ℕ). bytes ++ bs) (sym front))
    (c.in-Ok-true.ensures.serves old before after (bytes ++ inv.0) (inv.3 old before after bytes h))

pub loop-rest-preserved : goal.loop-rest-preserved
loop-rest-preserved g c =
    let inv = c.loop-rest.invariant in
    let piece = c.split_line-ends.result.0.now in
    let more = c.split_line-ends.result.2.now in (
      inv.0 ++ piece,
      piece_taken c.args.block.now inv.0 c.loop-rest.rest.now piece more inv.1 c.split_line-ends.ensures.split,
      sym c.in-Ok-false.ensures.over ∙ c.in-Ok-false.field-0-test,
      (λ old before after bytes h.
          subst (λ (bs : List ℕ). GoesOn (by_stand g.S.AnswersLines.is_answered) old before after bs (stand c.take_piece.new.service (g.D.Disk.holds c.take_piece.new.disk)) c.take_piece.new.line.items c.take_piece.new.pending) (append_assoc bytes inv.0 piece)
          (c.in-Ok-false.ensures.serves old before after (bytes ++ inv.0) (inv.3 old before after bytes h))),
      (λ none.
          let was = inv.4 none in
          let is = c.take_piece.ensures.unchanged was.1 in
          (is.0 ∙ was.0, is.1)),
    )

pub returns-clause-serves : goal.returns-clause-serves
returns-clause-serves g c = λ old before after bytes h.
    let inv = c.loop-rest.invariant in
    let block = c.args.block.now in
    let none : length c.loop-rest.rest.now ≡ 0 = eqb-true (length c.loop-rest.rest.now) 0 (sym c.is_empty.ensures ∙ c.loop-rest-test.false) in
    let front : take (length block) block ≡ inv.0 = front_taken block inv.0 c.loop-rest.rest.now (length block) inv.1 (omega (arith, none)) in
    subst (λ (bs : List ℕ). GoesOn (by_stand g.S.AnswersLines.is_answered) old before after (bytes ++ bs) (stand c.loop-rest.service (g.D.Disk.holds c.loop-rest.disk)) c.loop-rest.line.items c.loop-rest.pending) (sym front)
    (inv.3 old before after bytes h)
