-- The rings of a legal text, and what is known of each.
use Rattle.std.proofs.Common.{◌≡◌, ◌∙◌, ◌≤◌, ℕ, length, Some, ap, sym}
use Rattle.std.specs.Prelude.{slice_get}
use Rattle.std.specs.Option.{option_map}
use Rattle.std.proofs.lemmas.List.{length-map}
use Rattle.std.proofs.lemmas.Option.{slice_get-map, slice_get_within, get_or_from_slice_get}
use Rattle.saved_history.specs.declared.saved.Saved.{Saved}
use Rattle.saved_history.specs.declared.saved.SavedRing.{SavedRing}
use Rattle.saved_history.specs.Content.{content, block_of}
use Rattle.ring_check.specs.Meaning.{IsRightText}
use Rattle.history_repairs.proofs.Texts.{IsSized, ring_sized}

pub sized : (saved : Saved) (place : ℕ) (ring : SavedRing) → IsRightText (content saved) → slice_get saved.rings.items place ≡ Some ring → IsSized ring
sized saved place ring right at = ring_sized saved place ring right (slice_get_within saved.rings.items place ring at) (sym (get_or_from_slice_get saved.rings.items place ring ring at))

pub block_at : (saved : Saved) (place : ℕ) (ring : SavedRing) → slice_get saved.rings.items place ≡ Some ring → slice_get (content saved).rings place ≡ Some (block_of ring)
block_at saved place ring at = slice_get-map block_of saved.rings.items place ∙ ap (option_map block_of) at

pub no_block : (saved : Saved) (place : ℕ) → length saved.rings.items ≤ place → length (content saved).rings ≤ place
no_block saved place past = rw (length-map saved.rings.items block_of) past
