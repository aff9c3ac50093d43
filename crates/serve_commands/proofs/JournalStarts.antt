-- A value that was read or recovered has as many rings as a journal can begin with, and so have the rings that resume it.
use Rattle.std.proofs.Common.{◌≡◌, ◌∙◌, ℕ, ◌<◌, ◌^◌, suc, List, [], ◌∷◌, length, ap, sym, subst}
use Rattle.std.proofs.lemmas.List.{length-map}
use Rattle.saved_history.specs.declared.saved.Saved.{Saved}
use Rattle.saved_history.specs.declared.saved.SavedRing.{SavedRing}
use Rattle.saved_history.specs.Content.{Content, content, block_of}
use Rattle.ring_check.specs.declared.answers.Summary.{Summary}
use Rattle.ring_check.specs.Legal.{IsLegalText}
use Rattle.ring_check.specs.Meaning.{IsRightText}
use Rattle.ring_check.proofs.Meanings.{legal_means, whole_of}
use Rattle.journal.specs.Recovery.{IsRecovered}
use Rattle.journal.proofs.Savings.{can_be_saved}
use Rattle.ring_service.specs.Standings.{Standing}
use Rattle.ring_service.specs.Starting.{AreResumed}
use Rattle.tool_parts.specs.Checked.{IsLegalSavedText}
use Rattle.serve_commands.specs.Served.{CanBegin}

as_many_blocks : (saved : Saved) → length (content saved).rings ≡ length saved.rings.items
as_many_blocks saved = length-map saved.rings.items block_of

begins : (saved : Saved) (said : ℕ) → 0 < length (content saved).rings → said < 2 ^ 32 → said ≡ length (content saved).rings → CanBegin (length saved.rings.items)
begins saved said some few same = (
  subst (λ (n : ℕ). 0 < n) (as_many_blocks saved) some,
  subst (λ (n : ℕ). n < 2 ^ 32) (same ∙ as_many_blocks saved) few,
)

pub text_begins : (bytes : List ℕ) (sums : Summary) (saved : Saved) → (legal : IsLegalSavedText bytes sums) × (legal.content ≡ content saved) × IsLegalText (content saved) → CanBegin (length saved.rings.items)
text_begins bytes sums saved h =
    let same : length h.0.content.rings ≡ length (content saved).rings = ap (λ (c : Content). length c.rings) h.1 in
    begins saved h.0.content.rings_said (subst (λ (n : ℕ). 0 < n) same h.0.fits.some) h.0.fits.rings_said (h.0.right.rings_said ∙ same)

pub recovered_begins : (bytes : List ℕ) (saved : Saved) → IsRecovered bytes (content saved) → CanBegin (length saved.rings.items)
recovered_begins bytes saved r =
    let right : IsRightText (content saved) = (legal_means (content saved) (whole_of saved.rings.items)).0 r.legal in
    let said : (content saved).rings_said ≡ r.journal.began.rings_said = ap (λ (c : Content). c.rings_said) r.is in
    begins saved r.journal.began.rings_said (can_be_saved bytes (content saved) r).some r.lines.fits.began.rings_said (sym said ∙ right.rings_said)

as_many : (rs : List Standing) (saved : List SavedRing) → AreResumed rs saved → length rs ≡ length saved
as_many [] saved h = ap (λ (ss : List SavedRing). length ss) (sym h)
as_many (r ∷ rs) [] h = absurd h
as_many (r ∷ rs) (s ∷ saved) h = ap (λ (n : ℕ). suc n) (as_many rs saved h.1)

pub resumed_begins : (rs : List Standing) (saved : List SavedRing) → AreResumed rs saved → CanBegin (length saved) → CanBegin (length rs)
resumed_begins rs saved h many = subst CanBegin (sym (as_many rs saved h)) many
