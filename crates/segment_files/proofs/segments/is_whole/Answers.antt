use Rattle.std.proofs.Common.{◌≡◌, ◌+◌, length, map, sym, ◌∙◌, arith, eq-eqb}
use Rattle.std.specs.List.{flat_map}
use Rattle.std.proofs.lemmas.Bool.{eqb-true}
use Rattle.saved_history.specs.Content.{block_of, content}
use Rattle.ring_check.specs.Lines.{block_lines}
use Rattle.segment_files.proofs.LineCounts.{ends, ends_are}
use Rattle.segment_files.proofs.Wholeness.{all_ended, all_lines, is_all, lines_room}
use Rattle.segment_files.proofs.segments.is_whole.Goals as goal

pub lines_of-requires : goal.lines_of-requires
lines_of-requires c =
    let room = lines_room c.args.journal.now (content c.args.saved.now) c.requires in
    rw c.deref.ensures.value (omega (arith, room))

pub overflow_add-result : goal.overflow_add-result
overflow_add-result c =
    let room = lines_room c.args.journal.now (content c.args.saved.now) c.requires in
    let same : c.lines_of.result ≡ length (flat_map block_lines (map block_of c.args.saved.now.rings.items)) = rw c.deref.ensures.value at c.lines_of.ensures in
    omega (arith, room, same)

pub returns-then-is_ended : goal.returns-then-is_ended
returns-then-is_ended c =
    let bytes = c.args.journal.now in
    let k = content c.args.saved.now in
    let same : c.lines_of.result ≡ length (flat_map block_lines (map block_of c.args.saved.now.rings.items)) = rw c.deref.ensures.value at c.lines_of.ensures in
    let count : c.ends.result ≡ ends bytes = c.ends.ensures.value ∙ sym (ends_are bytes) in (
      λ t.
          let e : c.ends.result ≡ c.lines_of.result + 3 = eqb-true c.ends.result (c.lines_of.result + 3) t in
          is_all bytes k c.requires (c.is_ended.ensures.0 c.if-is_ended.true) (omega (arith, e, same, count)),
      λ a.
          let e = all_lines bytes k a in
          eq-eqb c.ends.result (c.lines_of.result + 3) (omega (arith, e, same, count)),
    )

pub returns-else-is_ended : goal.returns-else-is_ended
returns-else-is_ended c = ((λ t. absurd (cc)), (λ a. c.is_ended.ensures.1 (all_ended c.args.journal.now (content c.args.saved.now) a)))
