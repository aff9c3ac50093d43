use Rattle.std.proofs.Common.{◌≡◌, take}
use Rattle.ring_service.specs.Segments.{bases_of}
use Rattle.lock_journal.specs.Segments.{rings_of}
use Rattle.lock_journal.proofs.texts.bases_of.Given as goal

abbrev pub invariant-loop-lock : goal.invariant-loop-lock
invariant-loop-lock l = l.bases.items ≡ bases_of (rings_of (take l.lock l.locks))
