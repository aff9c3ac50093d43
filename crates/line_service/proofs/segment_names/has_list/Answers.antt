use Rattle.std.proofs.Common.{codes}
use Rattle.line_service.proofs.EntryNames.{found, not_found}
use Rattle.line_service.proofs.segment_names.has_list.Goals as goal

pub returns-then-eq : goal.returns-then-eq
returns-then-eq c = found c.args.entries.now c.loop-entry.entry-index c.entry-item.result c.as_str.result.now (codes "locks") c.loop-entry-test.true c.entry-item.is c.as_str.ensures.value c.if-eq.ensures

pub returns : goal.returns
returns c = not_found c.args.entries.now c.loop-entry.entry-index (codes "locks") c.loop-entry-test.false c.loop-entry.invariant
