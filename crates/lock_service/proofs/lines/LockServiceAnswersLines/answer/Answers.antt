use Rattle.std.proofs.Common.{◌≡◌, ℕ, List, ◌++◌, ◌⊎◌}
use Rattle.lock_protocol.specs.Views.{input_of}
use Rattle.lock_service.specs.declared.service.LockService.{LockService}
use Rattle.line_replica.specs.Replies.{IsAdded}
use Rattle.lock_service.specs.Serving.{AnswersInput, IsServed}
use Rattle.lock_service.proofs.Answered.{is_served, same_or_served}
use Rattle.lock_journal.proofs.Telling.{on_ok, on_err}
use Rattle.lock_service.proofs.lines.LockServiceAnswersLines.answer.Goals as goal

pub returns-clause-ok : goal.returns-clause-ok
returns-clause-ok g c =
    let old : LockService = c.args.self.now in
    let new : LockService = c.answer-told.new.service in
    let was = g.D.Disk.holds c.args.disk.now in
    let line : List ℕ = c.args.line.now in
    let before = c.args.pending.now in
    let after = c.answer-told.new.pending in
    on_ok c.answer-told.result ((said : List ℕ) × (noted : List ℕ) × AnswersInput old (input_of c.read_input-input.result) said noted new × IsAdded before after said noted)
    ((said : List ℕ) × (noted : List ℕ) × IsServed old was line said noted new was × (after.answers.items ≡ before.answers.items ++ said) × (after.notes.items ≡ before.notes.items ++ noted))
    c.answer-told.ensures.ok (λ a. (a.0, a.1, is_served old new was line a.0 a.1 (input_of c.read_input-input.result) c.read_input-input.ensures a.2 c.are_kept.ensures, a.3.0, a.3.1))

pub returns-clause-err : goal.returns-clause-err
returns-clause-err g c =
    let old : LockService = c.args.self.now in
    let new : LockService = c.answer-told.new.service in
    let was = g.D.Disk.holds c.args.disk.now in
    let line : List ℕ = c.args.line.now in
    on_err c.answer-told.result ((new ≡ old) ⊎ ((said : List ℕ) × (noted : List ℕ) × AnswersInput old (input_of c.read_input-input.result) said noted new))
    (((new ≡ old) × (was ≡ was)) ⊎ ((said : List ℕ) × (noted : List ℕ) × IsServed old was line said noted new was))
    c.answer-told.ensures.err (λ a. same_or_served old new was line (input_of c.read_input-input.result) c.read_input-input.ensures c.are_kept.ensures a)
