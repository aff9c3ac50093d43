use Rattle.std.proofs.Common.{ap, refl, ◌∙◌, sym, arith}
use Rattle.wrong_commands.proofs.Makings.{only_left}
use Rattle.wrong_commands.proofs.upgrades.file_that_is_made_before_the_check.Goals as goal

pub returns : goal.returns
returns g c = record {
  wrong = λ none h.
      let now = only_left _ _ _ _ _ refl none h in
      let behind = only_left _ _ _ _ _ c.make_counted-early.ensures.kept none c.run.ensures.unmade in
      let stays = ap g.D.CountedDisk.made (sym behind ∙ now) in
      let more = c.make_counted-early.ensures.counted in
      omega (arith, stays, more);
}
