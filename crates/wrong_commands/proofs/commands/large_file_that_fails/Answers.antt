use Rattle.std.proofs.Common.{Err, ap}
use Rattle.wrong_commands.proofs.Readings.{not_within}
use Rattle.wrong_commands.proofs.commands.large_file_that_fails.Goals as goal

pub returns : goal.returns
returns g c = record {
  wrong = λ within. not_within c.args.limit (g.R.Read.remaining c.args.reader.now) (g.R.Read.remaining c.read_limited.new.reader) c.requires.known
      (c.in-Err-TooLarge.ensures.large (ap Err c.in-Err-TooLarge.field-0-is)) within;
}
