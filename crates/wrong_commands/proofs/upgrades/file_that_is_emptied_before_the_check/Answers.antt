use Rattle.wrong_commands.proofs.Makings.{emptied}
use Rattle.wrong_commands.proofs.upgrades.file_that_is_emptied_before_the_check.Goals as goal

pub returns-in-Err : goal.returns-in-Err
returns-in-Err g c = record {
  wrong = λ other back. emptied _ _ _ _ c.args.words.now.new.now _ c.requires.known c.requires.some c.in-Ok.ensures.empty c.in-Ok.ensures.kept c.in-Ok-finish.ensures.replaced
      (c.in-Err.ensures.kept other) back;
}
