-- A value that fits in a version of the saved text fits in the latest one, and can be saved in it.
use Rattle.std.proofs.Common.{◌≡◌, ℕ, List, [], ◌∷◌, rules, arith}
use Rattle.std.specs.List.{AllByRecursion}
use Rattle.saved_history.specs.declared.saved.SavedEvent.{SavedEvent}
use Rattle.saved_history.specs.declared.saved.SavedEvent.TheVariants.{Granted, Refused, Member, Corrupted}
use Rattle.saved_history.specs.Content.{Block, Content, upgraded}
use Rattle.saved_history.specs.Spelling.{EventFits, BlockFits, Fits}
use Rattle.journal.specs.Prefixes.{CanBeSaved}
use Rattle.saved_history.specs.Versions.{IsVersion, HasGroups, first_version, latest_version}

has_groups : HasGroups latest_version
has_groups = search rules

event_fits : (v : ℕ) (e : SavedEvent) → EventFits v e → EventFits latest_version e
event_fits v (Granted seat machine order number answer) fits = fits
event_fits v (Refused seat machine order) fits = fits
event_fits v (Member seat machine order left number answer) fits = (has_groups, fits.1, fits.2, fits.3, fits.4, fits.5, fits.6)
event_fits v (Corrupted seat machine value old) fits = fits

events_fit : (v : ℕ) (es : List SavedEvent) → AllByRecursion (EventFits v) es → AllByRecursion (EventFits latest_version) es
events_fit v [] all = all
events_fit v (e ∷ es) all = (event_fits v e all.0, events_fit v es all.1)

block_fits : (v : ℕ) (b : Block) → BlockFits v b → BlockFits latest_version b
block_fits v b fits = record {
  head = fits.head;
  start = fits.start;
  values = fits.values;
  events = events_fit v b.events fits.events;
  events_said = fits.events_said;
  surveys = fits.surveys;
}

blocks_fit : (v : ℕ) (bs : List Block) → AllByRecursion (BlockFits v) bs → AllByRecursion (BlockFits latest_version) bs
blocks_fit v [] all = all
blocks_fit v (b ∷ bs) all = (block_fits v b all.0, blocks_fit v bs all.1)

latest : IsVersion latest_version
latest = search rules

pub upgraded_fits : (s : Content) → Fits s → Fits (upgraded s)
upgraded_fits s fits = record {
  version = latest;
  some = fits.some;
  rings = blocks_fit s.version s.rings fits.rings;
  rings_said = fits.rings_said;
}

apart : latest_version ≡ first_version → ⊥
apart e = omega (arith, e)

pub upgraded_saved : (s : Content) → Fits s → CanBeSaved (upgraded s)
upgraded_saved s fits = record { some = fits.some; version = latest; members = λ e. absurd (apart e) }
