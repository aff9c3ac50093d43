-- What is read of a line, wherever the bytes of its names are (this project's own).
use Rattle.std.specs.Prelude.{ℕ}
use Rattle.lock_protocol.specs.declared.inputs.Input.{Input as Read}
use Rattle.lock_protocol.specs.declared.inputs.Input.TheVariants as reads
use Rattle.lock_protocol.specs.declared.inputs.Fault.{Fault}
use Rattle.lock_protocol.specs.Asks.{Ask, seen}

-- a connection asks this; or the line is a connection's, and asks nothing; or it is nobody's
pub data Input : Type 0 where
  Asked : ℕ → Ask → Input
  Refused : ℕ → Fault → Input
  Nobody : Input

-- the content of the program's own type
abbrev pub input_of : Read → Input
input_of (reads.Asked client ask) = Asked client (seen ask)
input_of (reads.Refused client why) = Refused client why
input_of reads.Nobody = Nobody
