use Rattle.std.proofs.Common.{◌≡◌, ◌-◌, ◌<◌, ◌≤◌, List, ℕ, length, take, Ok, Some}
use Rattle.saved_history.specs.Content.{Content}
use Rattle.ring_check.specs.Legal.{IsLegalText}
use Rattle.journal.specs.Reading.{head_at}
use Rattle.journal.specs.ContentAfter.{content_after}
use Rattle.journal.specs.Judging.{IsFaultOf}
use Rattle.journal.proofs.recover.wrong_call.Given as goal

abbrev pub invariant-loop-wrong : goal.invariant-loop-wrong
invariant-loop-wrong l =
    (l.legal < l.wrong)
    × (l.wrong ≤ length l.calls)
    × ((began : Content) (rest : List ℕ) → head_at l.bytes ≡ Ok (began, rest) → (0 < l.legal → IsLegalText (content_after began (take l.legal l.calls))) × IsFaultOf (content_after began (take l.wrong l.calls)) (Some l.kind))

abbrev pub decreases-loop-wrong : goal.decreases-loop-wrong
decreases-loop-wrong l = l.wrong - l.legal
