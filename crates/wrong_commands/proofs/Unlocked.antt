-- A folder whose lock's file was made, and opened, and let go, is not locked.
use Rattle.std.proofs.Common.{◌≡◌, ◌∙◌, ℕ, List, [], Bool, true, false, Option, None, Some, sym, ap, subst}
use Rattle.std.specs.Prelude.{IsSome, IfSome}
use Rattle.std.proofs.lemmas.Bool.{false≢true}
use Rattle.disks.specs.Held.{Held, is_locked, IsReplaced, Creates, Locks}
use Rattle.tool_parts.specs.Locking.{lock_of, IsLocked}

abbrev IsFree : Option Held → List ℕ → Type 0
IsFree files name = IsSome files × IfSome files (λ (held : Held). is_locked held name ≡ false)

put_free : (was is : Held) (name : List ℕ) → IsReplaced was is name [] → is_locked was name ≡ false → is_locked is name ≡ false
put_free was is name put free = put.locks (is.place name) ∙ ap (λ (p : List ℕ). was.locked p) (put.places name) ∙ free

created_free : (was is : Option Held) (name : List ℕ) (made : Bool) → Creates was is name made → IsFree was name → IsFree is name
created_free None is name made c free = absurd (false≢true free.0)
created_free (Some was) is name false c free = subst (λ (x : Option Held). IsFree x name) (sym c.0) free
created_free (Some was) None name true c free = absurd c.1
created_free (Some was) (Some is) name true c free = (free.0, put_free was is name c.1 free.1)

no_lock : (was is : Option Held) (name : List ℕ) → IsFree is name → Locks was is name → ⊥
no_lock was None name free l = false≢true free.0
no_lock None (Some is) name free l = cc
no_lock (Some was) (Some is) name free l = false≢true (sym free.1 ∙ l.here)

pub is_unlocked : (was mid is : Option Held) (name folder : List ℕ) (made : Bool) → name ≡ lock_of folder → IsSome was → IfSome was (λ (held : Held). is_locked held name ≡ false) → Creates was mid name made → is ≡ mid → IsLocked was is folder → ⊥
is_unlocked was mid is name folder made named some free c same l =
    let now = subst (λ (x : Option Held). IsFree x name) (sym same) (created_free was mid name made c (some, free)) in
    no_lock l.0 is (lock_of folder) (subst (λ (n : List ℕ). IsFree is n) named now) l.2
