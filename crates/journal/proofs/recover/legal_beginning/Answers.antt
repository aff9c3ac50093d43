use Rattle.std.proofs.Common.{inl, arith}
use Rattle.saved_history.specs.Content.{content}
use Rattle.ring_check.specs.Lines.{lines}
use Rattle.journal.proofs.Heads.{head_refused, head_lines, bad_beginning, bad_within}
use Rattle.journal.proofs.recover.legal_beginning.Goals as goal

pub returns-in-Err : goal.returns-in-Err
returns-in-Err c = rw (c.recover_error.ensures, c.refusal.ensures) (head_refused c.args.bytes.now c.in-Err.stop c.in-Err.ensures)

pub check_saved-requires : goal.check_saved-requires
check_saved-requires c = let few = head_lines c.args.bytes.now (content c.in-Ok.found.0) c.in-Ok.found.1.now c.in-Ok.ensures in omega arith

pub overflow_add-result : goal.overflow_add-result
overflow_add-result c =
    let few = head_lines c.args.bytes.now (content c.in-Ok.found.0) c.in-Ok.found.1.now c.in-Ok.ensures in
    let right = rw c.in-Err-Bad.field-0-is at c.in-Err-Bad.ensures.right in
    let within = bad_within c.in-Ok.found.0.version (lines (content c.in-Ok.found.0)) c.in-Err-Bad.line c.in-Err-Bad.kind right in
    rw c.in-Err-Bad.field-0-is (omega arith)

pub returns-in-Err-Bad : goal.returns-in-Err-Bad
returns-in-Err-Bad c =
    let right = rw c.in-Err-Bad.field-0-is at c.in-Err-Bad.ensures.right in
    rw c.in-Err-Bad.field-0-is (inl (bad_beginning c.args.bytes.now (content c.in-Ok.found.0) c.in-Ok.found.1.now c.in-Ok.ensures c.in-Err-Bad.line c.in-Err-Bad.kind right))
