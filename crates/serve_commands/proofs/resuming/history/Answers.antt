use Rattle.std.proofs.Common.{◌≡◌, ℕ, List, Option, subst}
use Rattle.disks.specs.Held.{Held, IsHeld}
use Rattle.saved_history.specs.declared.saved.Saved.{Saved}
use Rattle.saved_history.specs.Content.{content}
use Rattle.ring_check.specs.declared.answers.Summary.{Summary}
use Rattle.ring_check.specs.Legal.{IsLegalText}
use Rattle.tool_parts.specs.Checked.{IsLegalSavedText}
use Rattle.serve_commands.specs.Served.{IsHistory}
use Rattle.serve_commands.proofs.JournalStarts.{text_begins}
use Rattle.serve_commands.proofs.resuming.history.Goals as goal

is_history : (files : Option Held) (name bytes now : List ℕ) (sums : Summary) (saved : Saved) → IsHeld files name bytes → now ≡ bytes →
    (legal : IsLegalSavedText now sums) × (legal.content ≡ content saved) × IsLegalText (content saved) → IsHistory files name saved
is_history files name bytes now sums saved held e ok =
    let here : (legal : IsLegalSavedText bytes sums) × (legal.content ≡ content saved) × IsLegalText (content saved) =
    subst (λ (x : List ℕ). (legal : IsLegalSavedText x sums) × (legal.content ≡ content saved) × IsLegalText (content saved)) e ok in
    record { bytes = bytes; held = held; sums = sums; legal = here.0; value = here.1 }

pub returns-in-Ok-legal_saved-clause-ok : goal.returns-in-Ok-legal_saved-clause-ok
returns-in-Ok-legal_saved-clause-ok g c =
    is_history (g.D.Disk.holds c.args.disk.now) c.args.name.now c.in-Ok.bytes.items c.as_slice.result.now c.in-Ok-legal_saved.field-0-1 c.in-Ok-legal_saved.saved c.in-Ok.ensures.ok c.as_slice.ensures.value c.in-Ok-legal_saved.ensures.ok

pub returns-in-Ok-legal_saved-clause-rings : goal.returns-in-Ok-legal_saved-clause-rings
returns-in-Ok-legal_saved-clause-rings g c =
    text_begins c.as_slice.result.now c.in-Ok-legal_saved.field-0-1 c.in-Ok-legal_saved.saved c.in-Ok-legal_saved.ensures.ok
