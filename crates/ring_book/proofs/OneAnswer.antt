-- A call has one answer.
use Rattle.std.proofs.Common.{◌≡◌, sym, ◌∙◌}
use Rattle.ring_model.specs.History.{next, reply}
use Rattle.ring_model.proofs.Histories.{StepOf-next, StepOf-reply}
use Rattle.ring_book.specs.OneAnswer.{CallsHaveOneAnswer}

pub one_answer : {C : Type 0} → CallsHaveOneAnswer C
one_answer {C} w old one other seat op r s h k =
    let now : one.now ≡ next w old.now r.event.op = StepOf-next w old.now r.event.op r.event.reply one.now h.step in
    let then : other.now ≡ next w old.now s.event.op = StepOf-next w old.now s.event.op s.event.reply other.now k.step in
    let told : r.event.reply ≡ reply w old.now r.event.op = StepOf-reply w old.now r.event.op r.event.reply one.now h.step in
    let said : s.event.reply ≡ reply w old.now s.event.op = StepOf-reply w old.now s.event.op s.event.reply other.now k.step in
    let call : r.event.op ≡ s.event.op = h.of_call ∙ sym k.of_call in
    record { position = cc; seat = cc; op = call; reply = cc; start = cc; now = cc }
