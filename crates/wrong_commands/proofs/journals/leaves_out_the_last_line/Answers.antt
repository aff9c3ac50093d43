use Rattle.std.proofs.Common.{◌<◌, length, arith}
use Rattle.wrong_commands.proofs.Spoiled.{spoiled}
use Rattle.wrong_commands.proofs.journals.leaves_out_the_last_line.Goals as goal

pub returns : goal.returns
returns c = record {
  wrong = λ h.
      let saved = c.in-Ok.saved in
      let ok = saved.rings.ok in
      let n = c.len.ensures in
      let low = c.if-ring-len.false in
      let within : c.args.ring < length saved.rings.items = omega arith in
      let x = c.take_last.new.ring in
      let y = c.index_mut.result.now in
      let many = spoiled c.args.bytes.now saved.version saved.rings_said saved.rings.items c.args.ring x y within c.index_mut.ensures.value c.in-Ok.ensures h in
      let more = c.take_last.ensures in
      let one = x.events.ok in
      let two = y.events.ok in
      absurd (omega arith);
}
