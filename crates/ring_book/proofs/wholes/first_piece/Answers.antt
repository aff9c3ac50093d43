use Rattle.std.proofs.Common.{◌≡◌, ◌+◌, ◌∙◌, ap, sym, subst, inl, inr, arith}
use Rattle.std.proofs.lemmas.Bool.{both_ways}
use Rattle.ring_model.specs.Groups.{IsAlone, left_of}
use Rattle.ring_model.specs.declared.events.Op.{Op}
use Rattle.ring_book.proofs.Pieces.{begins_with, block_first, alone_first}
use Rattle.ring_book.proofs.wholes.first_piece.Goals as goal
use Rattle.ring_book.proofs.wholes.first_piece.Goals.{else-count-events-via-then-count-events+else-is_block, else-count-events-via-else-count-events}

pub returns-then-is_block-clause-some : goal.returns-then-is_block-clause-some
returns-then-is_block-clause-some c =
    let count : c.piece_length-count.result ≡ c.in-Member.left + 1 = c.piece_length-count.ensures ∙ ap (λ (o : Op). left_of o + 1) c.in-Member.is in
    let long = c.if-count-events.true in
    let block = c.is_block.ensures.0 c.if-is_block.true in
    rw count (block_first c.args.n c.in-Member.machine c.in-Member.order c.in-Member.left c.args.events.now _ c.requires.some c.in-Member.is (omega (arith, count, long)) (rw count at block))

pub returns-else-count-events-clause-none : goal.returns-else-count-events-clause-none
returns-else-count-events-clause-none c = λ none w.
    let count : c.piece_length-count.result ≡ c.in-Member.left + 1 = c.piece_length-count.ensures ∙ ap (λ (o : Op). left_of o + 1) c.in-Member.is in
    let b = begins_with c.args.n c.in-Member.machine c.in-Member.order c.in-Member.left c.args.events.now _ c.requires.some c.in-Member.is w in
    let long = b.long in
    elim c.else-count-events.branch [
      | else-count-events-via-then-count-events+else-is_block v ↦ both_ways v.is_block.result v.if-is_block.false (v.is_block.ensures.1 (rw count b.block))
      | else-count-events-via-else-count-events v ↦ let short = v.if-count-events.false in omega (arith, count, long, short)
    ]

pub returns-in-Pass : goal.returns-in-Pass
returns-in-Pass c = record {
  some = alone_first c.args.n c.args.events.now _ c.requires.some (elim c.in-Pass.is [
    | inl x ↦ subst (λ (o : Op). IsAlone o) (sym x.2) tt
    | inr x ↦ subst (λ (o : Op). IsAlone o) (sym x.2) tt
  ]);
  none = λ e. absurd (cc);
}
