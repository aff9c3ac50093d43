use Rattle.std.proofs.Common.{ℕ, ◌+◌, ◌-◌, ◌*◌, ◌/◌, get_or, refl, arith}
use Rattle.std.specs.Int.{w64, leading_zeros}
use Rattle.machine_masks.proofs.Sets.{IsLastOf, last_found}
use Rattle.machine_masks.proofs.searches.last.Goals as goal

found : (c : goal.Then-word-ne0) →
    IsLastOf c.args.words.now c.args.end
    (((c.args.end + 63) / 64 - 1 - c.loop-above.above) * 64 + 63
    - leading_zeros w64 (get_or c.args.words.now ((c.args.end + 63) / 64 - 1 - c.loop-above.above) 0))
found c =
    let ws = c.args.words.now in
    let w : ℕ = (c.args.end + 63) / 64 - 1 - c.loop-above.above in
    let few = c.requires.end in
    last_found ws w c.args.end (get_or ws w 0) (w * 64 + 63 - leading_zeros w64 (get_or ws w 0)) refl (c.fits-words w) c.if-word-ne0.true refl (omega arith)
    (λ i li le. c.loop-above.invariant i (omega arith) le) c.requires.all

pub returns-then-word-ne0-clause-machine : goal.returns-then-word-ne0-clause-machine
returns-then-word-ne0-clause-machine c = (found c).machine

pub returns-then-word-ne0-clause-member : goal.returns-then-word-ne0-clause-member
returns-then-word-ne0-clause-member c = (found c).member

pub returns-then-word-ne0-clause-last : goal.returns-then-word-ne0-clause-last
returns-then-word-ne0-clause-last c = λ i li le. (found c).last i (omega arith) le
