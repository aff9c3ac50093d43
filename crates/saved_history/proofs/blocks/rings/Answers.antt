use Rattle.std.proofs.Common.{◌≡◌, ◌++◌, ◌∷◌, [], map}
use Rattle.std.proofs.lemmas.Result.{err_from_is_err_and}
use Rattle.std.proofs.lemmas.List.{map_push}
use Rattle.text_lines.proofs.Repetitions.{with_none}
use Rattle.saved_history.specs.Content.{block_of}
use Rattle.saved_history.specs.Lines.{rings_at}
use Rattle.saved_history.proofs.Loops.{rings_last, rings_more, rings_fault, next_fits, ring_less}
use Rattle.saved_history.proofs.blocks.rings.Goals as goal

pub loop-found-init : goal.loop-found-init
loop-found-init c = (rw c.new-found.ensures.items (with_none (rings_at c.args.version c.args.first c.args.bytes.now)), c.requires)

pub returns-in_err-one : goal.returns-in_err-one
returns-in_err-one c =
    let p = err_from_is_err_and c.from_residual.result c.from_residual.ensures.1 in
    rw (p.1, p.2) (rings_fault c.args.version (map block_of c.loop-found.found.items) c.loop-found.head c.loop-found.invariant.1 c.loop-found.rest.now (rings_at c.args.version c.args.first c.args.bytes.now) c.loop-found.invariant.0 c.in_err-one.field-0.0 c.in_err-one.ensures)

pub loop-found-smaller : goal.loop-found-smaller
loop-found-smaller c = ring_less c.args.version c.loop-found.head c.loop-found.invariant.1 c.loop-found.rest.now (block_of c.in_ok-one.one) c.in-Ring.behind c.in_ok-one.after.now (rw c.in-Ring.is at c.in_ok-one.ensures)

pub loop-found-preserved : goal.loop-found-preserved
loop-found-preserved c =
    let e : map block_of c.push.new.self.items ≡ map block_of c.loop-found.found.items ++ block_of c.in_ok-one.one ∷ [] = rw c.in_ok-push.ensures.items (map_push _ c.loop-found.found.items c.in_ok-one.one) in
    let k = rw c.in-Ring.is at c.in_ok-one.ensures in (
      rw e (rings_more c.args.version (map block_of c.loop-found.found.items) c.loop-found.head c.loop-found.invariant.1 c.loop-found.rest.now (rings_at c.args.version c.args.first c.args.bytes.now) c.loop-found.invariant.0 (block_of c.in_ok-one.one) c.in-Ring.behind c.in_ok-one.after.now k),
      next_fits c.args.version c.loop-found.head c.loop-found.invariant.1 c.loop-found.rest.now (block_of c.in_ok-one.one) c.in-Ring.behind c.in_ok-one.after.now k,
    )

pub returns-in-Done : goal.returns-in-Done
returns-in-Done c =
    let e : map block_of c.push.new.self.items ≡ map block_of c.loop-found.found.items ++ block_of c.in_ok-one.one ∷ [] = rw c.in_ok-push.ensures.items (map_push _ c.loop-found.found.items c.in_ok-one.one) in
    rw e (rings_last c.args.version (map block_of c.loop-found.found.items) c.loop-found.head c.loop-found.invariant.1 c.loop-found.rest.now (rings_at c.args.version c.args.first c.args.bytes.now) c.loop-found.invariant.0 (block_of c.in_ok-one.one) c.in-Done.said c.in_ok-one.after.now (rw c.in-Done.is at c.in_ok-one.ensures))
