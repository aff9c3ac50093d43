use Rattle.std.proofs.Common.{◌≡◌, length, map, arith}
use Rattle.std.proofs.lemmas.List.{length-map}
use Rattle.std.proofs.lemmas.Result.{err_from_is_err_and}
use Rattle.ring_service.specs.Standings.{standing_of}
use Rattle.ring_service.specs.Saved.{content_of}
use Rattle.saved_history.proofs.TextParts.{first_done, first_fault, blocks_done, blocks_fault, done_done, done_fault}
use Rattle.ring_service.proofs.Spelled.{text_fits}
use Rattle.ring_service.proofs.saving.write_text.Goals as goal

pub returns-in_err-put_first_line-clause-written : goal.returns-in_err-put_first_line-clause-written
returns-in_err-put_first_line-clause-written g c =
    let p = err_from_is_err_and c.from_residual.result c.from_residual.ensures.1 in
    rw p.1 (first_fault (content_of (map standing_of c.args.rings.now)) _ _ p.0 c.in_err-put_first_line.ensures)

pub returns-in_err-put_blocks-clause-written : goal.returns-in_err-put_blocks-clause-written
returns-in_err-put_blocks-clause-written g c =
    let p = err_from_is_err_and c.from_residual-in_err-put_blocks.result c.from_residual-in_err-put_blocks.ensures.1 in
    let one = first_done (content_of (map standing_of c.args.rings.now)) _ _ c.in_ok-put_first_line.ensures in
    rw p.1 (blocks_fault (content_of (map standing_of c.args.rings.now)) _ _ _ one p.0 c.in_err-put_blocks.ensures.written)

pub returns-in_err-put_done_line-clause-written : goal.returns-in_err-put_done_line-clause-written
returns-in_err-put_done_line-clause-written g c =
    let p = err_from_is_err_and c.from_residual-in_err-put_done_line.result c.from_residual-in_err-put_done_line.ensures.1 in
    let one = first_done (content_of (map standing_of c.args.rings.now)) _ _ c.in_ok-put_first_line.ensures in
    let two = blocks_done (content_of (map standing_of c.args.rings.now)) _ _ _ one c.in_ok-put_blocks.ensures.written in
    let count : length (map standing_of c.args.rings.now) ≡ length c.args.rings.now = length-map c.args.rings.now standing_of in
    rw p.1 (done_fault (content_of (map standing_of c.args.rings.now)) _ _ _ two p.0 (rw count c.in_err-put_done_line.ensures))

pub returns-clause-written : goal.returns-clause-written
returns-clause-written g c =
    let one = first_done (content_of (map standing_of c.args.rings.now)) _ _ c.in_ok-put_first_line.ensures in
    let two = blocks_done (content_of (map standing_of c.args.rings.now)) _ _ _ one c.in_ok-put_blocks.ensures.written in
    let count : length (map standing_of c.args.rings.now) ≡ length c.args.rings.now = length-map c.args.rings.now standing_of in
    done_done (content_of (map standing_of c.args.rings.now)) _ _ _ two (rw count c.in_ok-put_done_line.ensures)

pub returns-clause-fits : goal.returns-clause-fits
returns-clause-fits g c =
    let count : length (map standing_of c.args.rings.now) ≡ length c.args.rings.now = length-map c.args.rings.now standing_of in
    let some = c.requires.some in
    let most = c.requires.most in
    text_fits (map standing_of c.args.rings.now) (omega (arith, count, some)) (omega (arith, count, most)) c.in_ok-put_blocks.ensures.fits
