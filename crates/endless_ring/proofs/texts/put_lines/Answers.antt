use Rattle.std.proofs.Common.{drop}
use Rattle.one_thread_ring.specs.Journals.{event_lines}
use Rattle.endless_ring.specs.Files.{survey_lines}
use Rattle.endless_ring.proofs.Filled.{fills_then}
use Rattle.endless_ring.proofs.texts.put_lines.Goals as goal

pub returns : goal.returns
returns c =
    let called = rw c.events_from.ensures at c.put_calls-called.ensures in
    fills_then (event_lines 0 (drop c.args.from c.args.history.now)) (survey_lines c.args.looked.now) called c.put_looked.ensures
