use Rattle.journal.specs.Salvaging.{AreLeftOut, IsFirstRefusal}
use Rattle.journal.proofs.salvage.salvage_journal.Given as goal

abbrev pub invariant-cuts : goal.invariant-cuts
invariant-cuts l = record {
  left_out : AreLeftOut l.bytes l.kept l.bad;
  first : IsFirstRefusal l.bytes l.kept l.first;
}

abbrev pub decreases-cuts : goal.decreases-cuts
decreases-cuts l = l.kept
