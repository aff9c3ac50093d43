use Rattle.std.proofs.Common.{◌≡◌, ◌++◌, length}
use Rattle.std.specs.List.{flat_map, AllByRecursion}
use Rattle.journal.specs.Spelling.{journal_line, JournalLineFits}
use Rattle.journal.proofs.read.calls.Given as goal

abbrev pub invariant-loop-found : goal.invariant-loop-found
invariant-loop-found l =
    AllByRecursion (JournalLineFits l.version l.rings) l.found.items
    × (l.bytes ≡ flat_map journal_line l.found.items ++ l.rest)

abbrev pub decreases-loop-found : goal.decreases-loop-found
decreases-loop-found l = length l.rest
