use Rattle.std.proofs.Common.{arith, sym, ◌∙◌}
use Rattle.std.proofs.lemmas.Slice.Eq.{bytes_eq-Decides}
use Rattle.std.proofs.lemmas.Bool.{eqb-true, eq-eqb, false≢true, not-true, not-false}
use Rattle.disks.proofs.Listing.{joined, front_of, slash_of, longer_than}
use Rattle.disks.proofs.memory.is_in.Goals.{then-name-end-via-then-name-end, then-name-end-via-else-name-end+then-ne}
use Rattle.disks.proofs.memory.is_in.Goals as goal

pub returns-then-name-end-clause-no : goal.returns-then-name-end-clause-no
returns-then-name-end-clause-no c u n is = elim c.then-name-end.branch [
  | then-name-end-via-then-name-end w ↦ omega (arith, w.if-name-end, longer_than c.args.name.now c.args.folder.now n is)
  | then-name-end-via-else-name-end+then-ne w ↦
      false≢true (sym (not-true _ (sym w.if-ne.ensures)) ∙ (bytes_eq-Decides _ _).1 (front_of c.args.name.now c.args.folder.now n is))
]

pub returns-clause-yes : goal.returns-clause-yes
returns-clause-yes c y =
    joined c.args.name.now c.args.folder.now (omega (arith, c.if-name-end)) ((bytes_eq-Decides _ _).0 (not-false _ (sym c.if-ne.ensures))) (eqb-true _ _ y)

pub returns-clause-no : goal.returns-clause-no
returns-clause-no c f n is = false≢true (sym f ∙ eq-eqb _ _ (slash_of c.args.name.now c.args.folder.now n is))
