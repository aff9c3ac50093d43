use Rattle.repair_commands.specs.Wanted.{study_given}
use Rattle.repair_commands.proofs.Refusing.{Made}
use Rattle.repair_commands.proofs.studies.studies_of.Given as goal

abbrev pub invariant-loop-place : goal.invariant-loop-place
invariant-loop-place l = Made (study_given l.words) l.words.sizes.items l.place l.studies.items
