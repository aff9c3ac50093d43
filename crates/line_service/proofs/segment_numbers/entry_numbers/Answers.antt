use Rattle.std.proofs.Common.{◌∙◌, cond, not, ◌<◌, ◌≡◌, ◌++◌, ◌∷◌, [], ◌+◌, ℕ, List, Ok, length, take, arith, sym, ap, subst}
use Rattle.line_service.specs.SegmentNumbers.{AreNumbersOf, IsEntryNumber}
use Rattle.line_service.proofs.Entries.{with_number, without_number}
use Rattle.line_service.proofs.segment_numbers.entry_numbers.Goals.{in-Some+else-is_err, in_default}
use Rattle.line_service.proofs.segment_numbers.entry_numbers.Goals as goal

pub returns-then-is_err-clause-err : goal.returns-then-is_err-clause-err
returns-then-is_err-clause-err c = (c.loop-entry.entry-index, c.entry-item.result, omega arith, sym c.entry-item.is, tt)

pub returns-in-Err-clause-err : goal.returns-in-Err-clause-err
returns-in-Err-clause-err c = (c.loop-entry.entry-index, c.entry-item.result, omega arith, sym c.entry-item.is, c.in-Err.ensures)

pub loop-entry-preserved : goal.loop-entry-preserved
loop-entry-preserved c =
    let i = c.loop-entry.entry-index in
    let e = c.entry-item.result in
    let within : i < length c.args.entries.now = omega arith in
    elim c.match-found.branch [
      | in-Some+else-is_err w ↦
          subst (λ (v : List ℕ). AreNumbersOf (take (i + 1) c.args.entries.now) v) (sym (ap (λ v. v.items) w.numbers-is))
          (with_number c.args.entries.now i e within c.entry-item.is c.loop-entry.numbers.items c.loop-entry.invariant w.in-Some.number _ (w.push.ensures.items ∙ ap (λ b. cond {A = List ℕ} b (c.loop-entry.numbers.items ++ w.in-Some.number ∷ []) c.loop-entry.numbers.items) (w.is_err.ensures.negation ∙ ap not w.if-is_err.false)) (subst (λ o. IsEntryNumber e (Ok o)) w.in-Some.is c.in-Ok.ensures))
      | in_default w ↦
          subst (λ (v : List ℕ). AreNumbersOf (take (i + 1) c.args.entries.now) v) (sym (ap (λ v. v.items) w.numbers-is))
          (without_number c.args.entries.now i e within c.entry-item.is c.loop-entry.numbers.items c.loop-entry.invariant (subst (λ o. IsEntryNumber e (Ok o)) w.in_default.is c.in-Ok.ensures))
    ]
