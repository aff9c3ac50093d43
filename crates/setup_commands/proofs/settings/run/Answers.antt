use Rattle.std.proofs.Common.{◌∙◌, ℕ, List, subst}
use Rattle.std.specs.Io.KnownBytes.{Appends}
use Rattle.setup_commands.proofs.GivenSettings.{given_settings}
use Rattle.setup_commands.proofs.settings.run.Goals as goal

pub returns-in-Ok-put-clause-ok : goal.returns-in-Ok-put-clause-ok
returns-in-Ok-put-clause-ok g c =
    let ok = c.in-Ok.ensures.ok in
    record {
      allowed = ok.0;
      printed = subst (λ (text : List ℕ). Appends (g.W.Write.contents c.args.out.now) (g.W.Write.contents c.put.new.out) text) (c.as_slice.ensures.value ∙ ok.1) c.in-Ok-put.ensures;
      read = ok.2;
      settings = given_settings c.args.words.now ok.0;
    }
