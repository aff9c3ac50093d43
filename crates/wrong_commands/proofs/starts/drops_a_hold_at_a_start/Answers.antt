use Rattle.wrong_commands.proofs.Dropped.{dropped}
use Rattle.wrong_commands.proofs.starts.drops_a_hold_at_a_start.Goals as goal

pub returns : goal.returns
returns c = record {
  wrong = λ h.
      let (token, found) = c.requires.held in
      let (said, grown, left) = c.leave.ensures.left in
      dropped c.args.locks.now c.add.new.self c.leave.new.self c.args.ring token said c.leavers_are_gone.ensures found c.in-Ok.ensures.ok left h;
}
