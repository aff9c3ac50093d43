use Rattle.lock_journal.proofs.Fitting.{has_text}
use Rattle.lock_journal.proofs.texts.segment_text.Goals as goal

pub returns-clause-fits : goal.returns-clause-fits
returns-clause-fits c =
    let f = c.in-Ok-put_segment.ensures.fits in
    has_text c.args.number c.args.behind c.args.locks.now c.in-Ok.bases.items c.in-Ok.ensures f.0 f.1
