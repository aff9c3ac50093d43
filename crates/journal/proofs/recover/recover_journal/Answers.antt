use Rattle.std.proofs.Common.{◌≡◌, List, length, Some, inr, refl, sym, ap, subst, ◌∙◌, arith}
use Rattle.saved_history.specs.Content.{Content, content}
use Rattle.ring_check.specs.Legal.{IsLegalText}
use Rattle.journal.specs.declared.calls.JournalLine.{JournalLine}
use Rattle.journal.specs.ContentAfter.{content_after}
use Rattle.journal.specs.Recovery.{IsWrongCall}
use Rattle.journal.specs.Judging.{AreCallsOf, IsFaultOf}
use Rattle.journal.proofs.Heads.{head_lengths, head_lines, line_number, line_small, is_journal, are_calls, calls_within, rings_count, for_head}
use Rattle.journal.proofs.Orders.{calls_there}
use Rattle.journal.proofs.recover.recover_journal.Goals as goal

pub overflow_sub-bytes : goal.overflow_sub-bytes
overflow_sub-bytes c = let long = head_lengths c.args.bytes.now (content c.in-Ok.found.0) c.in-Ok.found.1.now c.in-Ok.ensures.0 in omega arith

pub returns-then-contains : goal.returns-then-contains
returns-then-contains c =
    let bytes = c.args.bytes.now in
    let began = content c.in-Ok.found.0 in
    let calls = c.in-Ok-calls.calls.items in
    let same = rings_count c.in-Ok.found.0 c.len.result c.len.ensures in
    let many : c.len-then-contains.result ≡ length calls = let ok = c.in-Ok-calls.calls.ok in let n = c.len-then-contains.ensures in omega arith in
    inr (record {
      journal = record { began = began; calls = calls };
      tail = c.in-Ok-calls.tail.now;
      lines = is_journal bytes began c.in-Ok.found.1.now c.in-Ok.ensures.0 c.len.result calls c.in-Ok-calls.tail.now same c.in-Ok-calls.ensures.fit c.in-Ok-calls.ensures.spelled c.in-Ok-calls.ensures.all;
      ended = sym c.if-contains.ensures.value;
      number = line_number bytes began c.in-Ok.found.1.now c.in-Ok.ensures.0 c.line_at-first_line.result c.len-then-contains.result (length calls) c.line_at-first_line.ensures many;
    })

pub legal_history-requires-clause-room : goal.legal_history-requires-clause-room
legal_history-requires-clause-room c =
    let few = head_lines c.args.bytes.now (content c.in-Ok.found.0) c.in-Ok.found.1.now c.in-Ok.ensures.0 in
    let within = calls_within c.in-Ok-calls.calls.items c.in-Ok.found.1.now c.in-Ok-calls.tail.now c.in-Ok-calls.ensures.spelled in
    let same : length c.deref.result.now ≡ length c.in-Ok-calls.calls.items = ap length c.deref.ensures.value in
    omega arith

pub returns-in-Ok-legal_history : goal.returns-in-Ok-legal_history
returns-in-Ok-legal_history c =
    let bytes = c.args.bytes.now in
    let began = content c.in-Ok.found.0 in
    let calls = c.in-Ok-calls.calls.items in
    let same = rings_count c.in-Ok.found.0 c.len.result c.len.ensures in
    record {
      journal = record { began = began; calls = calls };
      tail = c.in-Ok-calls.tail.now;
      lines = is_journal bytes began c.in-Ok.found.1.now c.in-Ok.ensures.0 c.len.result calls c.in-Ok-calls.tail.now same c.in-Ok-calls.ensures.fit c.in-Ok-calls.ensures.spelled c.in-Ok-calls.ensures.all;
      unended = sym c.if-contains.ensures.value;
      began = c.in-Ok.ensures.1;
      is = c.in-Ok-legal_history.ensures.0 ∙ ap (content_after began) c.deref.ensures.value;
      legal = subst IsLegalText (sym c.in-Ok-legal_history.ensures.0) c.in-Ok-legal_history.ensures.1;
    }

pub wrong_call-requires-clause-calls : goal.wrong_call-requires-clause-calls
wrong_call-requires-clause-calls c =
    let same = rings_count c.in-Ok.found.0 c.len.result c.len.ensures in
    subst (λ (xs : List JournalLine). AreCallsOf c.args.bytes.now xs) (sym c.deref-in-Err-Bad.ensures.value)
    (are_calls c.args.bytes.now (content c.in-Ok.found.0) c.in-Ok.found.1.now c.in-Ok.ensures.0 c.len.result c.in-Ok-calls.calls.items c.in-Ok-calls.tail.now same c.in-Ok-calls.ensures.fit c.in-Ok-calls.ensures.spelled (omega arith))

pub wrong_call-requires-clause-some : goal.wrong_call-requires-clause-some
wrong_call-requires-clause-some c =
    let right = rw c.in-Err-Bad.field-0-is at c.in-Err-Bad.ensures in
    let some = calls_there (content c.in-Ok.found.0) c.deref.result.now c.in-Err-Bad.field-0-0 c.in-Err-Bad.kind c.in-Ok.ensures.2 c.in-Ok.ensures.1 right in
    let one : length c.deref.result.now ≡ length c.in-Ok-calls.calls.items = ap length c.deref.ensures.value in
    let two : length c.deref-in-Err-Bad.result.now ≡ length c.in-Ok-calls.calls.items = ap length c.deref-in-Err-Bad.ensures.value in
    omega arith

pub wrong_call-requires-clause-wrong : goal.wrong_call-requires-clause-wrong
wrong_call-requires-clause-wrong c =
    let began = content c.in-Ok.found.0 in
    let right = rw c.in-Err-Bad.field-0-is at c.in-Err-Bad.ensures in
    let wrong : IsFaultOf (content_after began c.deref-in-Err-Bad.result.now) (Some c.in-Err-Bad.kind) =
    subst (λ (xs : List JournalLine). IsFaultOf (content_after began xs) (Some c.in-Err-Bad.kind)) (c.deref.ensures.value ∙ sym c.deref-in-Err-Bad.ensures.value) (c.in-Err-Bad.field-0-0, right) in
    λ b r e. for_head (λ (x : Content). IsFaultOf (content_after x c.deref-in-Err-Bad.result.now) (Some c.in-Err-Bad.kind)) c.args.bytes.now b began r c.in-Ok.found.1.now e c.in-Ok.ensures.0 wrong

pub overflow_add-result-in-Ok-wrong_call : goal.overflow_add-result-in-Ok-wrong_call
overflow_add-result-in-Ok-wrong_call c =
    let began = content c.in-Ok.found.0 in
    let rest = c.in-Ok.found.1.now in
    let long = head_lengths c.args.bytes.now began rest c.in-Ok.ensures.0 in
    let first = line_small c.args.bytes.now began rest c.in-Ok.ensures.0 c.line_at-first_line.result c.line_at-first_line.ensures in
    let within = calls_within c.in-Ok-calls.calls.items rest c.in-Ok-calls.tail.now c.in-Ok-calls.ensures.spelled in
    let two : length c.deref-in-Err-Bad.result.now ≡ length c.in-Ok-calls.calls.items = ap length c.deref-in-Err-Bad.ensures.value in
    let call = (c.in-Ok-wrong_call.ensures began rest c.in-Ok.ensures.0).within in
    omega arith

pub returns-in-Ok-wrong_call : goal.returns-in-Ok-wrong_call
returns-in-Ok-wrong_call c =
    let bytes = c.args.bytes.now in
    let began = content c.in-Ok.found.0 in
    let rest = c.in-Ok.found.1.now in
    let calls = c.in-Ok-calls.calls.items in
    let same = rings_count c.in-Ok.found.0 c.len.result c.len.ensures in
    inr (record {
      journal = record { began = began; calls = calls };
      tail = c.in-Ok-calls.tail.now;
      lines = is_journal bytes began rest c.in-Ok.ensures.0 c.len.result calls c.in-Ok-calls.tail.now same c.in-Ok-calls.ensures.fit c.in-Ok-calls.ensures.spelled c.in-Ok-calls.ensures.all;
      began = c.in-Ok.ensures.1;
      call = c.in-Ok-wrong_call.call;
      wrong = subst (λ (xs : List JournalLine). IsWrongCall began xs c.in-Ok-wrong_call.call c.in-Ok-wrong_call.kind) c.deref-in-Err-Bad.ensures.value (c.in-Ok-wrong_call.ensures began rest c.in-Ok.ensures.0);
      number = line_number bytes began rest c.in-Ok.ensures.0 c.line_at-first_line.result c.in-Ok-wrong_call.call c.in-Ok-wrong_call.call c.line_at-first_line.ensures refl;
    })
