use Rattle.std.proofs.Common.{◌≡◌, true, ap, sym, subst}
use Rattle.std.specs.List.{All}
use Rattle.ring_model.specs.Ring.{is_settled}
use Rattle.saved_history.specs.Content.{Block, Content, content}
use Rattle.run_commands.specs.Fresh.{fresh}
use Rattle.run_commands.specs.New.{sizes_of}
use Rattle.run_commands.proofs.FreshTexts.{all_settled}
use Rattle.wrong_commands.proofs.Written.{one_value_is_written}
use Rattle.wrong_commands.proofs.fresh.history_that_is_not_settled.Goals as goal

pub returns : goal.returns
returns g c = record {
  wrong = λ words answer.
      let one = one_value_is_written (g.W.Write.contents c.args.out.now) (g.W.Write.contents c.write_saved.new.out) (content c.args.saved.now) (fresh (sizes_of words)) c.requires.known
      c.in_ok-write_saved.ensures.fits answer.history.fits c.in_ok-write_saved.ensures.written answer.printed in
      let settled = all_settled 0 (sizes_of words) (fresh (sizes_of words)).rings answer.history.rings in
      c.requires.unsettled (subst (All (λ (b : Block). is_settled b.start ≡ true)) (sym (ap (λ (x : Content). x.rings) one)) settled);
}
