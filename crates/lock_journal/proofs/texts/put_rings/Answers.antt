use Rattle.std.proofs.Common.{◌≡◌, length, map, sym, ◌∙◌}
use Rattle.std.proofs.lemmas.List.{length-map}
use Rattle.std.proofs.lemmas.Result.{err_from_is_err_and}
use Rattle.ring_service.specs.Standings.{standing_of}
use Rattle.saved_history.proofs.TextParts.{first_done, first_fault, blocks_done, blocks_fault, done_done, done_fault}
use Rattle.lock_journal.specs.Segments.{ring_of, rings_of, content_of}
use Rattle.lock_journal.proofs.texts.put_rings.Goals as goal

pub returns-in_err-put_first_line-clause-written : goal.returns-in_err-put_first_line-clause-written
returns-in_err-put_first_line-clause-written g c =
    let p = err_from_is_err_and c.from_residual.result c.from_residual.ensures.1 in
    rw p.1 (first_fault (content_of c.args.locks.now) _ _ p.0 c.in_err-put_first_line.ensures)

pub returns-in_err-put_blocks-clause-written : goal.returns-in_err-put_blocks-clause-written
returns-in_err-put_blocks-clause-written g c =
    let p = err_from_is_err_and c.from_residual-in_err-put_blocks.result c.from_residual-in_err-put_blocks.ensures.1 in
    let one = first_done (content_of c.args.locks.now) _ _ c.in_ok-put_first_line.ensures in
    rw p.1 (blocks_fault (content_of c.args.locks.now) _ _ _ one p.0 c.in_err-put_blocks.ensures.written)

pub returns-in_err-put_done_line-clause-written : goal.returns-in_err-put_done_line-clause-written
returns-in_err-put_done_line-clause-written g c =
    let p = err_from_is_err_and c.from_residual-in_err-put_done_line.result c.from_residual-in_err-put_done_line.ensures.1 in
    let one = first_done (content_of c.args.locks.now) _ _ c.in_ok-put_first_line.ensures in
    let two = blocks_done (content_of c.args.locks.now) _ _ _ one c.in_ok-put_blocks.ensures.written in
    let count : length (rings_of c.args.locks.now) ≡ c.count.result = length-map (map ring_of c.args.locks.now) standing_of ∙ length-map c.args.locks.now ring_of ∙ sym c.count.ensures in
    rw p.1 (done_fault (content_of c.args.locks.now) _ _ _ two p.0 (rw count c.in_err-put_done_line.ensures))

pub returns-clause-written : goal.returns-clause-written
returns-clause-written g c =
    let one = first_done (content_of c.args.locks.now) _ _ c.in_ok-put_first_line.ensures in
    let two = blocks_done (content_of c.args.locks.now) _ _ _ one c.in_ok-put_blocks.ensures.written in
    let count : length (rings_of c.args.locks.now) ≡ c.count.result = length-map (map ring_of c.args.locks.now) standing_of ∙ length-map c.args.locks.now ring_of ∙ sym c.count.ensures in
    done_done (content_of c.args.locks.now) _ _ _ two (rw count c.in_ok-put_done_line.ensures)
