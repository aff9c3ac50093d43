use Rattle.ring_service.specs.Turns.{turn_seen_among}
use Rattle.wrong_commands.proofs.Permitted.{no_fault}
use Rattle.wrong_commands.proofs.lines.makes_a_fault_that_is_not_permitted.Goals as goal

pub returns-in-Corrupted : goal.returns-in-Corrupted
returns-in-Corrupted c = record {
  wrong = λ h.
      let t = c.answer_line-made.result in
      no_fault c.args.served.now c.args.line.now (turn_seen_among t.ring c.answer_line-made.new.served t.call) h c.in-Corrupted.old c.in-Corrupted.is;
}
