use Rattle.std.proofs.Common.{◌≡◌, ◌∙◌, ◌<◌, ℕ, sym, arith}
use Rattle.ring_service.specs.declared.answers.Answer.TheVariants as answer
use Rattle.ring_service.specs.declared.answers.Refusal.TheVariants as refusal
use Rattle.wrong_commands.proofs.Traced.{another_answer}
use Rattle.wrong_commands.proofs.lines.begins_at_one.Goals as goal

numbers_agree : (number one result also : ℕ) → answer.Granted number result ≡ answer.Granted one also → number ≡ one
numbers_agree number one result also e = cc

granted_had : (number result : ℕ) → answer.Granted number result ≡ answer.Refused refusal.OutOfMemory → ⊥
granted_had number result e = cc

later_apart : (number result : ℕ) → 1 < number → answer.Granted number result ≡ answer.Granted 1 result → ⊥
later_apart number result more e = let same = numbers_agree number 1 result result e in omega (arith, more, same)

pub returns-in-Granted : goal.returns-in-Granted
returns-in-Granted c = record {
  wrong = λ h.
      let t = c.answer_line-ring.result in
      let is = c.in-Granted.is in
      another_answer c.args.faults c.args.served.now c.answer_line-ring.new.served c.args.line.now t.ring t.call (answer.Granted 1 c.in-Granted.result) c.answer_line-ring.ensures.turn h
      (λ e. later_apart c.in-Granted.number c.in-Granted.result c.if-number-gt1.true (sym is ∙ e)) (λ e. granted_had c.in-Granted.number c.in-Granted.result (sym is ∙ e)) (granted_had 1 c.in-Granted.result);
}
