use Rattle.std.proofs.Common.{◌≡◌, ap, sym, ◌∙◌, arith}
use Rattle.saved_history.specs.Content.{Content, content}
use Rattle.saved_history.specs.Versions.{first_version, latest_version}
use Rattle.ring_text.specs.SavedOf.{saved_of}
use Rattle.wrong_commands.proofs.Written.{one_value_is_written}
use Rattle.wrong_commands.proofs.texts.text_in_the_first_version.Goals as goal

pub returns : goal.returns
returns g c = record {
  wrong = λ h f.
      let one : content c.args.saved.now ≡ saved_of c.args.outcome.now = one_value_is_written (g.W.Write.contents c.args.out.now) (g.W.Write.contents c.write_saved.new.out) (content c.args.saved.now) (saved_of c.args.outcome.now) c.requires.known
      c.in_ok-write_saved.ensures.fits f c.in_ok-write_saved.ensures.written h in
      let version : first_version ≡ latest_version = ap (λ (x : Content). x.version) (sym c.requires.same ∙ one) in
      omega (arith, version);
}
