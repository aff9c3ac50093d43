use Rattle.std.proofs.Common.{◌≡◌, ℕ, List, ◌++◌, length}
use Rattle.segment_files.specs.Remarks.{lines_in}
use Rattle.name_history.specs.Said.{RingBinding, AreSaid}
use Rattle.name_history.proofs.reading.read_bindings.Given as goal

abbrev pub invariant-loop-rest : goal.invariant-loop-rest
invariant-loop-rest l =
    (front : List (List ℕ))
    × (said : List RingBinding)
    × (lines_in l.text ≡ front ++ lines_in l.rest)
    × AreSaid front said
    × (l.found.items ≡ l.initial.found.items ++ said)

abbrev pub decreases-loop-rest : goal.decreases-loop-rest
decreases-loop-rest l = length l.rest
