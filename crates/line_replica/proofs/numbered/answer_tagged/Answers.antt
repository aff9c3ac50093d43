use Rattle.std.proofs.Common.{ℕ, List, [], ◌++◌, sym, ◌∙◌, ap, refl, append-nil}
use Rattle.std.proofs.lemmas.Result.{on_ok_weaker}
use Rattle.segment_files.specs.Remarks.{remark_of}
use Rattle.line_replica.specs.Keys.{with_told}
use Rattle.line_replica.specs.State.{kept_line}
use Rattle.line_replica.proofs.Taking.{keeps, forgets}
use Rattle.line_replica.proofs.numbered.answer_tagged.Goals as goal

pub returns-in-Some-clause-ok : goal.returns-in-Some-clause-ok
returns-in-Some-clause-ok g c =
    let old = c.args.numbered.now in
    let tag = c.args.tag in
    on_ok_weaker c.keep.result (λ e. (
      [],
      _,
      keeps g.S.AnswersLines.is_answered tag old (record { inner = old.inner; keys = c.keep.new.self }) (g.D.Disk.holds c.args.disk.now) (g.D.Disk.holds c.args.disk.now) c.args.rest.now [] _ c.in-Some.text.now c.in-Some.ensures
          (record { says = refl; notes = refl; inner = refl; keys_are = e.0 ∙ ap (λ (u : List ℕ). with_told old.keys tag.key tag.number u) c.kept_text.ensures; files = refl }),
      (sym (append-nil _), e.1 ∙ ap (λ (u : List ℕ). c.args.pending.now.notes.items ++ remark_of (kept_line tag u)) c.kept_text.ensures),
    )) c.keep.ensures.ok

pub returns-then-is_forget-clause-ok : goal.returns-then-is_forget-clause-ok
returns-then-is_forget-clause-ok g c =
    let old = c.args.numbered.now in
    on_ok_weaker c.forget.result (λ e. (
      [],
      _,
      forgets g.S.AnswersLines.is_answered c.args.tag old (record { inner = old.inner; keys = c.forget.new.self }) (g.D.Disk.holds c.args.disk.now) (g.D.Disk.holds c.args.disk.now) c.args.rest.now [] _ c.in_default.ensures c.if-is_forget.ensures
          (record { says = refl; notes = refl; inner = refl; keys_are = e.0; files = refl }),
      (sym (append-nil _), e.1),
    )) c.forget.ensures.ok
