-- One hold of a name after another is handed over.
use Rattle.std.proofs.Common.{◌≡◌, ℕ, suc, ◌+◌, ◌<◌, List, [], ◌∷◌, ◌++◌, length, take, map, get_or, Option, refl, subst, sym, ◌∙◌, ap, arith}
use Rattle.std.proofs.Math.Seq.{take-suc}
use Rattle.std.specs.List.{take-map}
use Rattle.std.specs.Option.{option_map}
use Rattle.std.proofs.lemmas.List.{map-append}
use Rattle.std.proofs.lemmas.Option.{slice_get-map, slice_get_read}
use Rattle.lock_names.specs.Kept.{NamedView}
use Rattle.lock_names.specs.Handed.{IsHandedByName}
use Rattle.folder_of_locks.specs.declared.holder_reading.NamedHold.{NamedHold}
use Rattle.folder_of_locks.specs.Holders.{Hold, hold_of}
use Rattle.folder_of_locks.specs.NameHolders.{AreHandedByName, CannotHandName, IsNameNotHanded}

handed_more : (old mid new : NamedView) (hs : List Hold) (h : Hold) → AreHandedByName old hs mid → IsHandedByName mid new h.name h.token h.client → AreHandedByName old (hs ++ h ∷ []) new
handed_more old mid new [] h are is = (new, subst (λ (x : NamedView). IsHandedByName x new h.name h.token h.client) are is, refl)
handed_more old mid new (g ∷ hs) h are is = (are.0, are.1, handed_more are.0 mid new hs h are.2 is)

pub handed_next : (old mid new : NamedView) (hs : List NamedHold) (i : ℕ) (h : NamedHold) → i < length hs → h ≡ get_or hs i h → AreHandedByName old (map hold_of (take i hs)) mid → IsHandedByName mid new h.name.items h.token h.client → AreHandedByName old (map hold_of (take (i + 1) hs)) new
handed_next old mid new hs i h below at are is =
    let next : i + 1 ≡ suc i = omega arith in
    let longer : take (i + 1) hs ≡ take i hs ++ h ∷ [] = ap (λ (n : ℕ). take n hs) next ∙ (take-suc hs i h below ∙ ap (λ (x : NamedHold). take i hs ++ x ∷ []) (sym at)) in
    let holds : map hold_of (take (i + 1) hs) ≡ map hold_of (take i hs) ++ hold_of h ∷ [] = ap (λ (x : List NamedHold). map hold_of x) longer ∙ map-append hold_of (take i hs) (h ∷ []) in
    subst (λ (x : List Hold). AreHandedByName old x new) (sym holds) (handed_more old mid new (map hold_of (take i hs)) (hold_of h) are is)

-- the first hold that cannot be handed over
pub not_handed : (old mid : NamedView) (hs : List NamedHold) (i : ℕ) (h : NamedHold) → i < length hs → h ≡ get_or hs i h → AreHandedByName old (map hold_of (take i hs)) mid → CannotHandName mid (hold_of h) → IsNameNotHanded old (map hold_of hs) (i + 1)
not_handed old mid hs i h below at are cannot = record {
  place = i;
  line_is = refl;
  mid = mid;
  before = subst (λ (x : List Hold). AreHandedByName old x mid) (sym (take-map hold_of i hs)) are;
  hold = hold_of h;
  there = slice_get-map hold_of hs i ∙ ap (λ (o : Option NamedHold). option_map hold_of o) (slice_get_read hs (length hs) i h refl below at);
  cannot = cannot;
}
