use Rattle.std.proofs.Common.{◌≡◌, vec_len}
use Rattle.chain_readers.proofs.Parts.{Reads}
use Rattle.chain_readers.proofs.chains.add_parts.Given as goal

abbrev pub invariant-loop-i : goal.invariant-loop-i
invariant-loop-i l = (vec_len l.locks ≡ vec_len l.initial.locks) × Reads l.initial.locks.items l.bases l.rings l.i l.locks.items
