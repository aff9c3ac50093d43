-- The trace of a line's turn is that of no other one.
use Rattle.std.proofs.Common.{◌≡◌, ◌∙◌, ℕ, Bool, List, [], ◌∷◌, length, inl, inr, sym, ap, arith}
use Rattle.ring_model.specs.declared.events.Survey.{Survey}
use Rattle.ring_service.specs.Standings.{Standing}
use Rattle.ring_service.specs.declared.answers.Answer.{Answer}
use Rattle.ring_service.specs.declared.answers.Answer.TheVariants as answer
use Rattle.ring_service.specs.declared.answers.Refusal.TheVariants as refusal
use Rattle.ring_service.specs.declared.turns.CallAnswer.{CallAnswer}
use Rattle.ring_service.specs.declared.turns.Trace.{Trace}
use Rattle.ring_service.specs.declared.turns.Trace.TheVariants as trace
use Rattle.ring_service.specs.Turns.{Turn, RingTrace, events, surveyed, recorded_among, turn_seen_among, IsTurnOfLine}
use Rattle.ring_service.proofs.Lines.{turns_agree}

abbrev ring_first : List RingTrace → ℕ
ring_first [] = 0
ring_first (events ring es ∷ more) = ring
ring_first (surveyed ring seat s ∷ more) = ring

survey_ring : (ring : ℕ) (rings : List Standing) (k : Trace) (seat : ℕ) (s : Survey) → k ≡ trace.Survey seat s → ring_first (recorded_among ring rings k) ≡ ring
survey_ring ring rings k seat s e = ap (λ (x : Trace). ring_first (recorded_among ring rings x)) e

survey_one : (ring : ℕ) (rings : List Standing) (k : Trace) (seat : ℕ) (s : Survey) → k ≡ trace.Survey seat s → length (recorded_among ring rings k) ≡ 1
survey_one ring rings k seat s e = ap (λ (x : Trace). length (recorded_among ring rings x)) e

-- a survey of another ring
pub another_ring : (faults : Bool) (old new : List Standing) (line : List ℕ) (ring other : ℕ) (m : CallAnswer) (seat : ℕ) (s : Survey) → IsTurnOfLine faults old line (turn_seen_among ring new m) → IsTurnOfLine faults old line (turn_seen_among other new m) → m.trace ≡ trace.Survey seat s → (ring ≡ other → ⊥) → ⊥
another_ring faults old new line ring other m seat s t u e ne =
    let one = survey_one ring new m.trace seat s e in
    let also = survey_one other new m.trace seat s e in
    elim (turns_agree faults old line (turn_seen_among ring new m) (turn_seen_among other new m) t u) [
      | inl same ↦ ne (sym (survey_ring ring new m.trace seat s e) ∙ (ap (λ (x : Turn (List Standing)). ring_first x.recorded) same ∙ survey_ring other new m.trace seat s e))
      | inr x ↦
          elim x [
            | inl p ↦ let none : length (recorded_among ring new m.trace) ≡ 0 = ap (λ (x : Turn (List Standing)). length x.recorded) p in absurd (omega (arith, one, none))
            | inr p ↦ let none : length (recorded_among other new m.trace) ≡ 0 = ap (λ (x : Turn (List Standing)). length x.recorded) p in absurd (omega (arith, also, none))
          ]
    ]

-- another answer
pub another_answer : (faults : Bool) (old new : List Standing) (line : List ℕ) (ring : ℕ) (m : CallAnswer) (told : Answer) → IsTurnOfLine faults old line (turn_seen_among ring new m)
    → IsTurnOfLine faults old line (turn_seen_among ring new (record { answer = told; trace = m.trace })) → (m.answer ≡ told → ⊥) → (m.answer ≡ answer.Refused refusal.OutOfMemory → ⊥) → (told ≡ answer.Refused refusal.OutOfMemory → ⊥) → ⊥
another_answer faults old new line ring m told t u apart had had_not =
    elim (turns_agree faults old line (turn_seen_among ring new m) (turn_seen_among ring new (record { answer = told; trace = m.trace })) t u) [
      | inl same ↦ apart (ap (λ (x : Turn (List Standing)). x.answer) same)
      | inr x ↦
          elim x [
            | inl p ↦ had (ap (λ (x : Turn (List Standing)). x.answer) p)
            | inr p ↦ had_not (ap (λ (x : Turn (List Standing)). x.answer) p)
          ]
    ]

-- a record of a call that has none
pub recorded_though_none : (faults : Bool) (old new : List Standing) (line : List ℕ) (ring from : ℕ) (m : CallAnswer) → IsTurnOfLine faults old line (turn_seen_among ring new m)
    → IsTurnOfLine faults old line (turn_seen_among ring new (record { answer = m.answer; trace = trace.Events from })) → m.trace ≡ trace.Nothing → m.answer ≡ answer.Waits → ⊥
recorded_though_none faults old new line ring from m t u e a =
    let wrong : CallAnswer = record { answer = m.answer; trace = trace.Events from } in
    let nothing : length (recorded_among ring new m.trace) ≡ 0 = ap (λ (x : Trace). length (recorded_among ring new x)) e in
    elim (turns_agree faults old line (turn_seen_among ring new m) (turn_seen_among ring new wrong) t u) [
      | inl same ↦ let one : length (recorded_among ring new m.trace) ≡ 1 = ap (λ (x : Turn (List Standing)). length x.recorded) same in absurd (omega (arith, nothing, one))
      | inr x ↦
          elim x [
            | inl p ↦ let why : m.answer ≡ answer.Refused refusal.OutOfMemory = ap (λ (x : Turn (List Standing)). x.answer) p in other (sym a ∙ why)
            | inr p ↦ let none : 1 ≡ 0 = ap (λ (x : Turn (List Standing)). length x.recorded) p in absurd (omega (arith, none))
          ]
    ]
  where
    other : answer.Waits ≡ answer.Refused refusal.OutOfMemory → ⊥
    other p = cc

-- a survey that is recorded of a call of a machine that there is not
pub no_trace : (faults : Bool) (old new : List Standing) (line : List ℕ) (ring : ℕ) (m : CallAnswer) (seat : ℕ) (s : Survey) → IsTurnOfLine faults old line (turn_seen_among ring new m) → IsTurnOfLine faults old line (turn_seen_among ring new (record { answer = m.answer; trace = trace.Survey seat s })) → m.trace ≡ trace.Nothing → m.answer ≡ answer.Refused refusal.NoMachine → ⊥
no_trace faults old new line ring m seat s t u e a =
    let wrong : CallAnswer = record { answer = m.answer; trace = trace.Survey seat s } in
    let nothing : length (recorded_among ring new m.trace) ≡ 0 = ap (λ (x : Trace). length (recorded_among ring new x)) e in
    elim (turns_agree faults old line (turn_seen_among ring new m) (turn_seen_among ring new wrong) t u) [
      | inl same ↦ let one : length (recorded_among ring new m.trace) ≡ 1 = ap (λ (x : Turn (List Standing)). length x.recorded) same in absurd (omega (arith, nothing, one))
      | inr x ↦
          elim x [
            | inl p ↦ let why : m.answer ≡ answer.Refused refusal.OutOfMemory = ap (λ (x : Turn (List Standing)). x.answer) p in other (sym a ∙ why)
            | inr p ↦ let none : 1 ≡ 0 = ap (λ (x : Turn (List Standing)). length x.recorded) p in absurd (omega (arith, none))
          ]
    ]
  where
    other : answer.Refused refusal.NoMachine ≡ answer.Refused refusal.OutOfMemory → ⊥
    other p = cc
