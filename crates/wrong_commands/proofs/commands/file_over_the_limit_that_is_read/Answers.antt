use Rattle.std.proofs.Common.{Err, ap}
use Rattle.wrong_commands.proofs.Readings.{not_empty}
use Rattle.wrong_commands.proofs.commands.file_over_the_limit_that_is_read.Goals as goal

pub returns : goal.returns
returns g c = record {
  wrong = λ h. not_empty c.args.limit (g.R.Read.remaining c.args.reader.now) (g.R.Read.remaining c.read_limited.new.reader) c.new.result.items c.requires.known (c.in-Err-TooLarge.ensures.large (ap Err c.in-Err-TooLarge.field-0-is)) c.new.ensures.items h;
}
