use Rattle.std.proofs.Common.{sym, ◌∙◌}
use Rattle.std.proofs.lemmas.Result.{err_from_is_err_and}
use Rattle.line_service.specs.Stands.{by_stand, stand}
use Rattle.line_service.proofs.Telling.{piece_more, goes_stops, line_pending, fails_line, same_line, stops_more}
use Rattle.line_service.proofs.LongLines.{whole_piece}
use Rattle.line_service.proofs.Standing.{same_or_answered}
use Rattle.line_service.proofs.taking.take_piece.Goals as goal

pub returns-then-is_whole-clause-serves : goal.returns-then-is_whole-clause-serves
returns-then-is_whole-clause-serves g c = λ old before after bytes h.
    let w = c.is_whole.ensures c.if-is_whole.true in
    let none = sym c.as_slice.ensures.value ∙ w.1 in
    let said = c.in_ok-answer.ensures.ok in
    let now = stand c.args.service.now (g.D.Disk.holds c.args.disk.now) in
    let then = stand c.answer.new.self (g.D.Disk.holds c.answer.new.disk) in
    let a = same_line (by_stand g.S.AnswersLines.is_answered) {old = now} {new = then} (whole_piece c.args.piece.now h.begun c.args.line.now.items none w.2 h.kept) said.2 in
    line_pending g.met.S.AnswersLines.by_start c.args.piece.now h (c.requires.line w.0) a c.answer.new.pending c.args.line.now.items said.3.0 said.3.1 none

pub returns-in_err-answer-clause-serves : goal.returns-in_err-answer-clause-serves
returns-in_err-answer-clause-serves g c = λ old before after bytes h.
    let w = c.is_whole.ensures c.if-is_whole.true in
    let none = sym c.as_slice.ensures.value ∙ w.1 in
    let p = err_from_is_err_and c.from_residual.result c.from_residual.ensures.1 in
    rw p.1 (fails_line g.met.S.AnswersLines.by_start c.args.piece.now h (c.requires.line w.0) c.args.piece.now (whole_piece c.args.piece.now h.begun c.args.line.now.items none w.2 h.kept) (same_or_answered g.S.AnswersLines.is_answered c.in_err-answer.ensures.err))

pub returns-in_err-keep-clause-serves : goal.returns-in_err-keep-clause-serves
returns-in_err-keep-clause-serves g c = λ old before after bytes h.
    let p = err_from_is_err_and c.from_residual-in_err-keep.result c.from_residual-in_err-keep.ensures.1 in
    rw p.1 (stops_more c.args.piece.now (goes_stops h))

pub returns-then-not-ends-clause-serves : goal.returns-then-not-ends-clause-serves
returns-then-not-ends-clause-serves g c = λ old before after bytes h.
    piece_more c.args.piece.now c.keep.new.line.items h (c.requires.none c.if-not-ends.true) (c.in_ok-keep.ensures h.begun h.kept)

pub returns-in_err-answer-2-clause-serves : goal.returns-in_err-answer-2-clause-serves
returns-in_err-answer-2-clause-serves g c = λ old before after bytes h.
    let p = err_from_is_err_and c.from_residual-in_err-answer-2.result c.from_residual-in_err-answer-2.ensures.1 in
    rw p.1 (fails_line g.met.S.AnswersLines.by_start c.args.piece.now h (c.requires.line c.if-not-ends.false) c.as_slice-2.result.now (c.as_slice-2.ensures.value ∙ c.in_ok-keep.ensures h.begun h.kept) (same_or_answered g.S.AnswersLines.is_answered c.in_err-answer-2.ensures.err))

pub returns-clause-serves : goal.returns-clause-serves
returns-clause-serves g c = λ old before after bytes h.
    let said = c.in_ok-answer-2.ensures.ok in
    let now = stand c.args.service.now (g.D.Disk.holds c.args.disk.now) in
    let then = stand c.answer-2.new.self (g.D.Disk.holds c.answer-2.new.disk) in
    let a = same_line (by_stand g.S.AnswersLines.is_answered) {old = now} {new = then} (c.as_slice-2.ensures.value ∙ c.in_ok-keep.ensures h.begun h.kept) said.2 in
    line_pending g.met.S.AnswersLines.by_start c.args.piece.now h (c.requires.line c.if-not-ends.false) a c.answer-2.new.pending c.clear.new.self.items said.3.0 said.3.1 c.clear.ensures.items
