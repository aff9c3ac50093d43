use Rattle.wrong_commands.proofs.Stayed.{stands_on}
use Rattle.wrong_commands.proofs.ends.cancels_nobody.Goals as goal

pub returns : goal.returns
returns c = record { wrong = λ h. let (v, at, there) = c.requires.there in stands_on c.args.locks.now v c.args.client c.args.lock _ at there h }
