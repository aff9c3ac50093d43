use Rattle.std.proofs.Common.{[], refl, inl, sym, subst, ap, ◌∙◌}
use Rattle.std.specs.Prelude.{OnErr, Result, Ok, Err}
use Rattle.std.proofs.lemmas.Result.{on_ok_weaker, on_err_weaker}
use Rattle.segment_files.specs.Remarks.{remark_of}
use Rattle.line_replica.specs.Reading.{Heard}
use Rattle.line_replica.specs.Replies.{IsHeard, IsAnsweredOrNot, input_of}
use Rattle.line_replica.specs.Running.{place_line, next_of}
use Rattle.line_replica.specs.Starts.{plain}
use Rattle.line_replica.proofs.Hearing.{is_tagged, is_untagged, is_place, is_digest, is_plain}
use Rattle.line_replica.proofs.lines.answer_heard.Goals as goal

if_err : {T E P : Type 0} (r : Result T E) → P → OnErr r P
if_err (Ok x) p = tt
if_err (Err e) p = p

pub returns-then-line-gt-LINE_LIMIT-clause-ok : goal.returns-then-line-gt-LINE_LIMIT-clause-ok
returns-then-line-gt-LINE_LIMIT-clause-ok g c =
    let line = c.args.line.now in
    on_ok_weaker c.answer_plain.result (λ e. (e.0, e.1, subst (λ (h : Heard). IsHeard g.S.AnswersLines.is_answered h c.args.replica.now (g.D.Disk.holds c.args.disk.now) line e.0 e.1 c.answer_plain.new.replica (g.D.Disk.holds c.answer_plain.new.disk)) (sym (plain line c.if-line-gt-LINE_LIMIT.true)) e.2, e.3)) c.answer_plain.ensures.ok

pub returns-then-line-gt-LINE_LIMIT-clause-err : goal.returns-then-line-gt-LINE_LIMIT-clause-err
returns-then-line-gt-LINE_LIMIT-clause-err g c =
    let line = c.args.line.now in
    on_err_weaker c.answer_plain.result (λ e. (e.0, subst (λ (h : Heard). IsAnsweredOrNot g.S.AnswersLines.is_answered c.args.replica.now.numbered.inner (g.D.Disk.holds c.args.disk.now) (input_of h line) e.0 c.answer_plain.new.replica.numbered.inner (g.D.Disk.holds c.answer_plain.new.disk)) (sym (plain line c.if-line-gt-LINE_LIMIT.true)) e.1)) c.answer_plain.ensures.err

pub returns-in-Some-clause-ok : goal.returns-in-Some-clause-ok
returns-in-Some-clause-ok g c =
    let line = c.args.line.now in
    on_ok_weaker c.answer_numbered.result (λ e. (e.0, e.1, subst (λ (h : Heard). IsHeard g.S.AnswersLines.is_answered h c.args.replica.now (g.D.Disk.holds c.args.disk.now) line e.0 e.1 c.answer_numbered.new.replica (g.D.Disk.holds c.answer_numbered.new.disk)) (is_tagged line _ _ c.if-line-gt-LINE_LIMIT.false c.in-Some.ensures) e.2, e.3)) c.answer_numbered.ensures.ok

pub returns-in-Some-clause-err : goal.returns-in-Some-clause-err
returns-in-Some-clause-err g c =
    let line = c.args.line.now in
    on_err_weaker c.answer_numbered.result (λ e. (e.0, subst (λ (h : Heard). IsAnsweredOrNot g.S.AnswersLines.is_answered c.args.replica.now.numbered.inner (g.D.Disk.holds c.args.disk.now) (input_of h line) e.0 c.answer_numbered.new.replica.numbered.inner (g.D.Disk.holds c.answer_numbered.new.disk)) (is_tagged line _ _ c.if-line-gt-LINE_LIMIT.false c.in-Some.ensures) e.1)) c.answer_numbered.ensures.err

pub returns-in-Some-place-clause-ok : goal.returns-in-Some-place-clause-ok
returns-in-Some-place-clause-ok g c =
    let line = c.args.line.now in
    let files = g.D.Disk.holds c.args.disk.now in
    let said = place_line c.in-Some-place.place (next_of c.args.replica.now.running.since) in
    on_ok_weaker c.tell_place.result (λ e. (
      said,
      remark_of said,
      subst (λ (h : Heard). IsHeard g.S.AnswersLines.is_answered h c.args.replica.now files line said (remark_of said) c.tell_place.new.replica files) (is_place line _ c.in-Some-place.ensures ∙ is_untagged line c.if-line-gt-LINE_LIMIT.false c.in-None.ensures)
          (record { says = refl; notes = refl; numbered = c.tell_place.ensures.same; running = e.0; files = refl }),
      e.1,
    )) c.tell_place.ensures.ok

pub returns-in-Some-place-clause-err : goal.returns-in-Some-place-clause-err
returns-in-Some-place-clause-err g c = if_err c.tell_place.result ([], inl (refl, ap (λ n. n.inner) c.tell_place.ensures.same, refl))

pub returns-in-Some-place_with_digest-clause-ok : goal.returns-in-Some-place_with_digest-clause-ok
returns-in-Some-place_with_digest-clause-ok g c =
    let line = c.args.line.now in
    let files = g.D.Disk.holds c.args.disk.now in
    let note = remark_of (place_line c.in-Some-place_with_digest.place c.in-Some-place_with_digest.digest.now) in
    on_ok_weaker c.set_place.result (λ e. (
      [],
      note,
      subst (λ (h : Heard). IsHeard g.S.AnswersLines.is_answered h c.args.replica.now files line [] note c.set_place.new.replica files) (is_digest line _ _ c.in-None-place.ensures c.in-Some-place_with_digest.ensures ∙ is_untagged line c.if-line-gt-LINE_LIMIT.false c.in-None.ensures)
          (record { says = refl; notes = refl; numbered = c.set_place.ensures.same; running = e.0; files = refl }),
      e.1,
    )) c.set_place.ensures.ok

pub returns-in-Some-place_with_digest-clause-err : goal.returns-in-Some-place_with_digest-clause-err
returns-in-Some-place_with_digest-clause-err g c = if_err c.set_place.result ([], inl (refl, ap (λ n. n.inner) c.set_place.ensures.same, refl))

pub returns-in-None-place_with_digest-clause-ok : goal.returns-in-None-place_with_digest-clause-ok
returns-in-None-place_with_digest-clause-ok g c =
    let line = c.args.line.now in
    let inside = c.answer_plain-in-None-place_with_digest in
    on_ok_weaker inside.result (λ e. (
      e.0,
      e.1,
      subst (λ (h : Heard). IsHeard g.S.AnswersLines.is_answered h c.args.replica.now (g.D.Disk.holds c.args.disk.now) line e.0 e.1 inside.new.replica (g.D.Disk.holds inside.new.disk)) (is_plain line c.in-None-place.ensures c.in-None-place_with_digest.ensures ∙ is_untagged line c.if-line-gt-LINE_LIMIT.false c.in-None.ensures) e.2,
      e.3,
    )) inside.ensures.ok

pub returns-in-None-place_with_digest-clause-err : goal.returns-in-None-place_with_digest-clause-err
returns-in-None-place_with_digest-clause-err g c =
    let line = c.args.line.now in
    let inside = c.answer_plain-in-None-place_with_digest in
    on_err_weaker inside.result (λ e. (
      e.0,
      subst (λ (h : Heard). IsAnsweredOrNot g.S.AnswersLines.is_answered c.args.replica.now.numbered.inner (g.D.Disk.holds c.args.disk.now) (input_of h line) e.0 inside.new.replica.numbered.inner (g.D.Disk.holds inside.new.disk)) (is_plain line c.in-None-place.ensures c.in-None-place_with_digest.ensures ∙ is_untagged line c.if-line-gt-LINE_LIMIT.false c.in-None.ensures) e.1,
    )) inside.ensures.err
