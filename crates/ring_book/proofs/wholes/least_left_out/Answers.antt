use Rattle.std.proofs.Common.{◌≡◌, ◌+◌, ◌<◌, ◌∙◌, ℕ, length, get_or, ap, sym, arith}
use Rattle.ring_book.specs.BookHistory.{machines_of}
use Rattle.ring_book.proofs.Pieces.{least_found, least_missing, named_at, named_length}
use Rattle.ring_book.proofs.wholes.least_left_out.Goals as goal
use Rattle.ring_book.proofs.wholes.least_left_out.Goals.{else-first-block-via-then-first-block+else-machine_of-eq0, else-first-block-via-else-first-block}

pub returns-then-machine_of-eq0-clause-is : goal.returns-then-machine_of-eq0-clause-is
returns-then-machine_of-eq0-clause-is c =
    let ms = machines_of c.args.block.now in
    let first : get_or ms 0 0 ≡ c.machine_of-first.result = named_at c.args.block.now 0 _ c.requires.some ∙ sym c.machine_of-first.ensures in
    let n = named_length c.args.block.now in
    let there = c.if-first-block.true in
    let l : get_or ms 0 0 < length ms = omega (arith, first, n, there) in
    let is : get_or ms (get_or ms 0 0) 0 ≡ 0 =
    ap (λ (i : ℕ). get_or ms i 0) first ∙ (named_at c.args.block.now c.machine_of-first.result _ there ∙ (sym c.machine_of.ensures ∙ c.if-machine_of-eq0.true)) in
    λ n least back order falls. ap (λ (x : ℕ). x + 1) (sym first) ∙ least_found ms l is n least back order falls

pub returns-else-first-block-clause-is : goal.returns-else-first-block-clause-is
returns-else-first-block-clause-is c =
    let ms = machines_of c.args.block.now in
    let first : get_or ms 0 0 ≡ c.machine_of-first.result = named_at c.args.block.now 0 _ c.requires.some ∙ sym c.machine_of-first.ensures in
    let n = named_length c.args.block.now in
    elim c.else-first-block.branch [
      | else-first-block-via-then-first-block+else-machine_of-eq0 w ↦
          least_missing ms (λ l e. w.if-machine_of-eq0.false
          (w.machine_of.ensures ∙ (sym (named_at c.args.block.now c.machine_of-first.result _ w.if-first-block.true) ∙ (ap (λ (i : ℕ). get_or ms i 0) (sym first) ∙ e))))
      | else-first-block-via-else-first-block w ↦
          let past = w.if-first-block.false in
          least_missing ms (λ l e. omega (arith, first, n, past, l))
    ]
