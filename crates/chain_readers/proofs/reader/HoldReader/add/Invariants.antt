use Rattle.std.proofs.Common.{◌≡◌, drop}
use Rattle.saved_history.specs.Content.{block_of}
use Rattle.chain_readers.specs.Signs.{signs_from, signs_of}
use Rattle.chain_readers.specs.Known.{known, read}
use Rattle.chain_readers.proofs.reader.HoldReader.add.Given as goal

-- the rest of the signs, read on from here, are all of them, read from the start
abbrev pub invariant-loop-i : goal.invariant-loop-i
invariant-loop-i l = read (known l.self) (signs_from l.base l.ring.surveys.items l.i (drop l.i l.ring.events.items)) ≡ read (known l.initial.self) (signs_of l.base (block_of l.ring))
