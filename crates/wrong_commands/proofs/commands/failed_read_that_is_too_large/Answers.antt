use Rattle.std.proofs.Common.{Err, ap}
use Rattle.wrong_commands.proofs.Readings.{not_within}
use Rattle.wrong_commands.proofs.commands.failed_read_that_is_too_large.Goals as goal

pub returns : goal.returns
returns g c = record {
  wrong = λ over. not_within c.args.limit (g.R.Read.remaining c.args.reader.now) (g.R.Read.remaining c.read_limited.new.reader) c.requires.known over
      (c.in-Err-Failed.ensures.failed (ap Err c.in-Err-Failed.field-0-is));
}
