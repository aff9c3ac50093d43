use Rattle.std.proofs.Common.{arith}
use Rattle.wrong_commands.proofs.Readings.{one_limit}
use Rattle.wrong_commands.proofs.commands.file_at_the_limit_that_is_refused.Goals as goal

pub returns : goal.returns
returns g c = record {
  wrong = λ large over.
      let same = one_limit _ _ (g.R.Read.remaining c.args.reader.now) (g.R.Read.remaining c.read_limited.new.reader) c.requires.known (c.read_limited.ensures.large large) over in
      let some = c.requires.some in
      omega (arith, same, some);
}
