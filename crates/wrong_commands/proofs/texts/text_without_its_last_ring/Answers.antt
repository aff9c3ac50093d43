use Rattle.std.proofs.Common.{◌≡◌, length, ap, arith}
use Rattle.saved_history.specs.Content.{Content}
use Rattle.ring_text.specs.SavedOf.{saved_of}
use Rattle.wrong_commands.proofs.Reports.{one_less}
use Rattle.wrong_commands.proofs.Written.{one_value_is_written}
use Rattle.wrong_commands.proofs.texts.text_without_its_last_ring.Goals as goal

pub returns : goal.returns
returns g c = record {
  wrong = λ h f.
      let one = one_value_is_written (g.W.Write.contents c.args.out.now) (g.W.Write.contents c.write_outcome.new.out) (saved_of (record c.args.outcome.now { rings = c.pop.new.self })) (saved_of c.args.outcome.now) c.requires.known
      c.in_ok-write_outcome.ensures.fits f c.in_ok-write_outcome.ensures.written h in
      let said : length c.pop.new.self.items ≡ length c.args.outcome.now.rings.items = ap (λ (x : Content). x.rings_said) one in
      let some = c.requires.some in
      omega (arith, said, one_less c.pop.result _ _ c.pop.ensures.cases (omega (arith, some)));
}
