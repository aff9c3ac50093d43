use Rattle.std.proofs.Common.{ap, ◌∙◌, sym, subst, arith, Option}
use Rattle.disks.specs.Held.{Held}
use Rattle.folder_commands.specs.JoinedFolder.{IsJoinable}
use Rattle.wrong_commands.proofs.Makings.{other_case}
use Rattle.wrong_commands.proofs.upgrades.file_that_is_made_before_the_join.Goals as goal

pub returns : goal.returns
returns g c = record {
  wrong = λ none h.
      let now = other_case none h in
      let behind = other_case (λ k. none (subst (λ (files : Option Held). IsJoinable c.args.words.now files) c.make_counted-early.ensures.kept k)) c.run.ensures.unmade in
      let stays = ap g.D.CountedDisk.made (sym behind ∙ now) in
      let more = c.make_counted-early.ensures.counted in
      omega (arith, stays, more);
}
