use Rattle.std.proofs.Common.{refl}
use Rattle.folder_of_locks.proofs.Cuts.{both_numbers, no_number}
use Rattle.folder_of_locks.proofs.sizes.read_size.Goals as goal

pub returns-in-Some-k : goal.returns-in-Some-k
returns-in-Some-k c =
    rw c.in-Some.is
    (both_numbers c.args.mark c.in-Some.text.now c.cut.result.0.now c.in-Some-k.k.now c.read_both.result c.requires (rw c.in-Some-k.is at c.cut.ensures) c.read_both.ensures)

pub returns-in-None-read_decimal : goal.returns-in-None-read_decimal
returns-in-None-read_decimal c =
    rw c.in-Some.is
    (no_number c.args.mark c.in-Some.text.now c.cut.result.0.now c.requires (rw c.in-None.is at c.cut.ensures) (c.in-None-read_decimal.ensures.none refl))
