use Rattle.std.proofs.Common.{◌≡◌, vec_len}
use Rattle.chain_readers.proofs.Extending.{Extends}
use Rattle.chain_readers.proofs.rings.extend_all.Given as goal

abbrev pub invariant-loop-i : goal.invariant-loop-i
invariant-loop-i l = (vec_len l.rings ≡ vec_len l.initial.rings) × Extends l.initial.rings.items l.bases l.next l.i l.rings.items
