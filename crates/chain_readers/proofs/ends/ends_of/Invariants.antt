use Rattle.std.proofs.Common.{◌≡◌, ◌+◌, length, take}
use Rattle.chain_readers.specs.Ends.{AreTallies}
use Rattle.chain_readers.proofs.ends.ends_of.Given as goal

abbrev pub invariant-loop-survey : goal.invariant-loop-survey
invariant-loop-survey l = record {
  many : length l.table.items ≡ length l.ring.events.items + 1;
  tallies : AreTallies l.table.items (take l.survey-index l.ring.surveys.items);
}
