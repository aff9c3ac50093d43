use Rattle.std.proofs.Common.{◌≡◌, ℕ, ◌+◌, List, take, length, Some, sym, subst, arith}
use Rattle.std.proofs.lemmas.List.{take_all}
use Rattle.journal.specs.declared.calls.JournalLine.{JournalLine}
use Rattle.journal.specs.ContentAfter.{content_after}
use Rattle.journal.specs.Judging.{IsFaultOf}
use Rattle.journal.proofs.recover.wrong_call.Goals as goal

pub loop-wrong-init : goal.loop-wrong-init
loop-wrong-init c =
    let calls = c.args.calls.now in
    (c.requires.some, omega arith, λ b r e. ((λ h. absurd (omega (arith, h))), subst (λ (xs : List JournalLine). IsFaultOf (content_after b xs) (Some c.args.kind)) (sym (take_all (length calls) calls (omega arith))) (c.requires.wrong b r e)))

pub loop-wrong-preserved-in-None : goal.loop-wrong-preserved-in-None
loop-wrong-preserved-in-None c =
    let i = c.loop-wrong.invariant in
    let order = i.0 in
    let within = i.1 in
    let far = c.loop-wrong-test.true in
    (omega arith, within, λ b r e. ((λ h. rw c.in-None.is at (c.in_ok-fault_of.ensures b r e)), (i.2 b r e).1))

pub loop-wrong-preserved : goal.loop-wrong-preserved
loop-wrong-preserved c =
    let i = c.loop-wrong.invariant in
    let order = i.0 in
    let within = i.1 in
    let far = c.loop-wrong-test.true in
    (omega arith, omega arith, λ b r e. ((i.2 b r e).0, rw c.in-Some.is at (c.in_ok-fault_of.ensures b r e)))

pub returns : goal.returns
returns c =
    let i = c.loop-wrong.invariant in
    let order = i.0 in
    let within = i.1 in
    let near = c.loop-wrong-test.false in
    let last : c.loop-wrong.wrong ≡ c.loop-wrong.legal + 1 = omega arith in
    λ b r e.
    let f : IsFaultOf (content_after b (take (c.loop-wrong.legal + 1) c.args.calls.now)) (Some c.loop-wrong.kind) = subst (λ (n : ℕ). IsFaultOf (content_after b (take n c.args.calls.now)) (Some c.loop-wrong.kind)) last (i.2 b r e).1 in
    record { within = omega arith; before = (i.2 b r e).0; said = f.0; bad = f.1 }
