use Rattle.std.proofs.Common.{◌≡◌, ◌∙◌, ap, sym, subst}
use Rattle.saved_history.specs.Content.{content, upgraded}
use Rattle.saved_history.specs.Spelling.{Fits}
use Rattle.journal.specs.Prefixes.{CanBeSaved}
use Rattle.ring_check.specs.Legal.{IsLegalText, summary_of}
use Rattle.text_commands.proofs.Upgrades.{upgraded_fits, upgraded_saved}
use Rattle.text_commands.proofs.upgrade.upgrade_with_sums.Goals as goal

pub returns-clause-ok : goal.returns-clause-ok
returns-clause-ok c =
    let ok = c.in_ok-saved.ensures.ok in
    let law = c.upgrade_is_legal.ensures (content c.in_ok-saved.saved) ok.2 in
    let is : content c.upgrade.result ≡ upgraded (content c.in_ok-saved.saved) = c.upgrade.ensures in
    let of : content c.upgrade.result ≡ upgraded ok.0.content = is ∙ ap upgraded (sym ok.1) in
    record {
      legal = ok.0;
      upgrade = of;
      fits = subst Fits (sym of) (upgraded_fits ok.0.content ok.0.fits);
      still = subst IsLegalText (sym is) law.0;
      sums_still = ok.0.sums_right ∙ ap summary_of ok.1 ∙ sym law.1 ∙ sym (ap summary_of is);
    }

pub returns-clause-saved : goal.returns-clause-saved
returns-clause-saved c =
    let ok = c.in_ok-saved.ensures.ok in
    let is : content c.upgrade.result ≡ upgraded (content c.in_ok-saved.saved) = c.upgrade.ensures in
    subst CanBeSaved (ap upgraded ok.1 ∙ sym is) (upgraded_saved ok.0.content ok.0.fits)
