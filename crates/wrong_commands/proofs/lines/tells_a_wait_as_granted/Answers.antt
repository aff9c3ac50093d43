use Rattle.std.proofs.Common.{◌≡◌, ◌∙◌, ℕ, sym}
use Rattle.ring_service.specs.declared.answers.Answer.TheVariants as answer
use Rattle.ring_service.specs.declared.answers.Refusal.TheVariants as refusal
use Rattle.wrong_commands.proofs.Traced.{another_answer}
use Rattle.wrong_commands.proofs.lines.tells_a_wait_as_granted.Goals as goal

waits_apart : (number result : ℕ) → answer.Waits ≡ answer.Granted number result → ⊥
waits_apart number result e = cc

waits_had : answer.Waits ≡ answer.Refused refusal.OutOfMemory → ⊥
waits_had e = cc

granted_had : (number result : ℕ) → answer.Granted number result ≡ answer.Refused refusal.OutOfMemory → ⊥
granted_had number result e = cc

pub returns-in-Waits : goal.returns-in-Waits
returns-in-Waits c = record {
  wrong = λ h.
      let t = c.answer_line-ring.result in
      let is = c.in-Waits.is in
      another_answer c.args.faults c.args.served.now c.answer_line-ring.new.served c.args.line.now t.ring t.call (answer.Granted c.args.number c.args.told) c.answer_line-ring.ensures.turn h
      (λ e. waits_apart c.args.number c.args.told (sym is ∙ e)) (λ e. waits_had (sym is ∙ e)) (granted_had c.args.number c.args.told);
}
