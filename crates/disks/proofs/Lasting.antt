-- What a loss of power leaves: how the facts on it follow from one another.
use Rattle.std.proofs.Common.{◌≡◌, ℕ, Bool, true, false, cond, if◌then◌else◌, List, [], Option, None, Some, Result, Ok, Err, refl, sym, ap, subst, ◌∙◌, inl, inr}
use Rattle.std.proofs.lemmas.List.{append-nil}
use Rattle.std.specs.Str.{bytes_eq}
use Rattle.std.proofs.lemmas.Slice.Eq.{bytes_eq-Decides}
use Rattle.std.proofs.lemmas.Bool.{false_from_ne_true, false≢true}
use Rattle.std.specs.Prelude.{IfOk, OnOk}
use Rattle.disks.specs.Held.{Held, File, file_bytes, bytes_of, IsHeld, Grows}
use Rattle.disks.specs.Lasting.{HasJust, BeginsWith, bytes_in, ChangesOnly, Changes, MayChange, Leaves, MayLeave, LeavesFront}
use Rattle.disks.specs.declared.losing.Left.{Left}
use Rattle.disks.specs.Left.{left_at, held_left}
use Rattle.disks.proofs.Finding.{pick, pass}

-- of such a file less may be said
pub changes_less : (was is : Option Held) (name : List ℕ) (Such Less : Option (List ℕ) → Type 0) → ((has : Option (List ℕ)) → Such has → Less has)
    → Changes was is name Such → Changes was is name Less
changes_less None is name Such Less less changes = changes
changes_less (Some was) None name Such Less less changes = changes
changes_less (Some was) (Some is) name Such Less less changes = record {
  places = changes.places;
  here = λ other same. less (bytes_of is other) (changes.here other same);
  others = changes.others;
}

-- what has changed may have, and so may what has not
pub may_change : (was is : Option Held) (name : List ℕ) (Such : Option (List ℕ) → Type 0) → Changes was is name Such → MayChange was is name Such
may_change None is name Such changes = changes
may_change (Some was) is name Such changes = inr changes

pub may_stay : (was is : Option Held) (name : List ℕ) (Such : Option (List ℕ) → Type 0) → is ≡ was → MayChange was is name Such
may_stay None is name Such same = same
may_stay (Some was) is name Such same = inl same

pub may_change_less : (was is : Option Held) (name : List ℕ) (Such Less : Option (List ℕ) → Type 0) → ((has : Option (List ℕ)) → Such has → Less has)
    → MayChange was is name Such → MayChange was is name Less
may_change_less None is name Such Less less may = may
may_change_less (Some was) is name Such Less less (inl same) = inl same
may_change_less (Some was) is name Such Less less (inr changes) = inr (changes_less (Some was) is name Such Less less changes)

-- nothing has changed of what a loss of power leaves
pub left_stays : (was is : Option Held) (name : List ℕ) (contents : Option (List ℕ)) → is ≡ was → MayLeave was is name contents
left_stays was is name contents same = may_stay was is name (λ has. HasJust has contents) same

-- the same, by what is the same
pub leaves_same : (was mid is : Option Held) (name : List ℕ) (bytes contents : Option (List ℕ)) → mid ≡ was → bytes ≡ contents → Leaves mid is name bytes → Leaves was is name contents
leaves_same was mid is name bytes contents same equal leaves =
    subst (λ (w : Option Held). Leaves w is name contents) same (subst (λ (x : Option (List ℕ)). Leaves mid is name x) equal leaves)

-- a file that was opened has the bytes of its name
pub opened_has : (held : Option Held) (name : List ℕ) (contents : Option (List ℕ)) → Grows held name contents → (has : Option (List ℕ))
    → HasJust has contents → HasJust has (bytes_in held name)
opened_has None name contents opened has just = tt
opened_has (Some held) name contents opened has just = subst (λ (bytes : Option (List ℕ)). HasJust has bytes) (opened.2 ∙ sym opened.1) just

-- a file that was opened was there
pub opened_there : {A E : Type 0} (r : Result A E) (held : Option Held) (name : List ℕ) (contents : A → Option (List ℕ)) → IfOk r (λ a. Grows held name (contents a)) → OnOk r ((bytes : List ℕ) × IsHeld held name bytes)
opened_there (Ok a) None name contents opened = ([], tt)
opened_there (Ok a) (Some held) name contents opened = (opened.0, opened.1)
opened_there (Err e) held name contents opened = tt

-- a file that was opened, and whose name is left, if that is asked
pub opened_leaves : (asked : Bool) (held was mid is : Option Held) (name : List ℕ) (on_disk contents : Option (List ℕ)) → Grows held name contents → mid ≡ was
    → (asked ≡ true → on_disk ≡ contents) → (asked ≡ true → Leaves mid is name on_disk) → (asked ≡ false → is ≡ mid) → MayLeave was is name (bytes_in held name)
opened_leaves true held was mid is name on_disk contents opened same all leaves stays =
    may_change was is name (λ has. HasJust has (bytes_in held name))
    (changes_less was is name (λ has. HasJust has contents) (λ has. HasJust has (bytes_in held name)) (opened_has held name contents opened)
    (leaves_same was mid is name on_disk contents same (all refl) (leaves refl)))
opened_leaves false held was mid is name on_disk contents opened same all leaves stays =
    left_stays was is name (bytes_in held name) (stays refl ∙ same)

-- what lasts of a file that is not synced is not known
pub front_of_synced : (synced : Bool) (lasting has : Option (List ℕ)) → BeginsWith has lasting → BeginsWith has (if synced then lasting else None)
front_of_synced true lasting has begins = begins
front_of_synced false lasting has begins = tt

-- a file that is let go, synced or not
pub leaves_synced : (synced : Bool) (was is : Option Held) (name : List ℕ) (on_disk : Option (List ℕ)) → LeavesFront was is name on_disk
    → LeavesFront was is name (if synced then on_disk else None)
leaves_synced synced was is name on_disk leaves =
    changes_less was is name (λ has. BeginsWith has on_disk) (λ has. BeginsWith has (if synced then on_disk else None)) (front_of_synced synced on_disk) leaves

-- all that is known to be on the disk lasts of a synced file
pub all_lasts : (synced : Bool) (on_disk written : Option (List ℕ)) → synced ≡ true → on_disk ≡ written → (if synced then on_disk else None) ≡ written
all_lasts true on_disk written is same = same
all_lasts false on_disk written is same = absurd (false≢true is)

-- all of the bytes are a beginning
pub front_of_all : (bytes : List ℕ) (has : Option (List ℕ)) → has ≡ Some bytes → BeginsWith has (Some bytes)
front_of_all bytes has is = ([], is ∙ ap Some (sym (append-nil bytes)))

-- a file that is left over others
pub left_over : (was is : Left) (name bytes : List ℕ) → ((other : List ℕ) → left_at is other ≡ cond (bytes_eq name other) (File bytes) (left_at was other))
    → ChangesOnly (held_left was) (held_left is) name (λ has. has ≡ Some bytes)
left_over was is name bytes over = record {
  places = λ other. refl;
  here = λ other same. ap file_bytes (over other ∙ pick (bytes_eq name other) (File bytes) (left_at was other) ((bytes_eq-Decides name other).1 same));
  others = λ other differs.
      ap file_bytes (over other ∙ pass (bytes_eq name other) (File bytes) (left_at was other) (false_from_ne_true _ (λ yes. differs ((bytes_eq-Decides name other).0 yes))));
}
