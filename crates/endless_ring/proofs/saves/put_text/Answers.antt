use Rattle.std.proofs.Common.{◌<◌, ◌^◌, length, sym, arith}
use Rattle.saved_history.specs.Spelling.{block_text}
use Rattle.one_thread_ring.proofs.BlockFitting.{block_fits}
use Rattle.one_thread_ring.specs.Texts.{saved_block, saved_alone, surveys_told}
use Rattle.one_thread_ring.proofs.Saved.{alone_text, alone_fits, alone_legal}
use Rattle.endless_ring.proofs.Filled.{fills_same}
use Rattle.endless_ring.proofs.Texted.{block_filled, text_filled}
use Rattle.endless_ring.proofs.saves.put_text.Goals as goal

pub returns-clause-written : goal.returns-clause-written
returns-clause-written c =
    let head = rw c.start.ensures.is at c.put_size-sized.ensures.written in
    let start = rw c.start-2.ensures.is at c.put_start-started.ensures in
    let events = rw c.history.ensures at c.put_events-passed.ensures.written in
    let end = rw c.history_length.ensures at c.put_word-ended.ensures in
    let surveys = rw c.clients.ensures.surveys at c.put_clients-surveyed.ensures.written in
    let block = block_filled (saved_block 0 c.args.ring.now) head start events end surveys in
    let alone = fills_same (block_text (saved_block 0 c.args.ring.now)) _ (sym (alone_text c.args.ring.now)) block in
    text_filled (saved_alone c.args.ring.now) c.put_word-headed.ensures alone c.put_word.ensures

pub returns-clause-fits : goal.returns-clause-fits
returns-clause-fits c =
    let d = c.args.ring.now in
    let few : length d.book.history < 2 ^ 64 = omega (arith, c.history_length.ensures, c.history_length.type_inv) in
    let events = rw c.history.ensures at c.put_events-passed.ensures.fits in
    let surveys = rw c.clients.ensures.surveys at c.put_clients-surveyed.ensures.fits in
    alone_fits d (block_fits 0 d.book.start d.book.history (surveys_told d.clients) (omega arith) (rw c.start.ensures.is at c.put_size-sized.ensures.ring) few events surveys)

pub returns-clause-legal : goal.returns-clause-legal
returns-clause-legal c = alone_legal c.args.ring.now c.clients.ensures.ring
