-- The name of a lock at its place in a list, and the bindings of a ring at its number.
use Rattle.std.proofs.Common.{◌≡◌, ℕ, ◌<◌, ◌≤◌, List, [], length, slice_get, get_or, Option, None, Some, unwrap_or, refl, sym, ap, ◌∙◌}
use Rattle.std.proofs.lemmas.Option.{slice_get_past, slice_get-get_or, slice_get_read, unwrap_or-slice_get}
use Rattle.lock_protocol.specs.Names.{Names, name_of}
use Rattle.name_remarks.specs.Remarks.{Binding}
use Rattle.name_history.specs.Kept.{binding_at}
use Rattle.lock_commands.specs.ToldHolds.{bindings_of}

pub none_past : (names : Names) (ring : ℕ) → length names ≤ ring → None ≡ slice_get names ring
none_past names ring past = sym (slice_get_past names ring past)

pub name_there : (names : Names) (ring : ℕ) (name : List ℕ) → ring < length names → name ≡ name_of names ring → Some name ≡ slice_get names ring
name_there names ring name within is = ap Some (is ∙ unwrap_or-slice_get names ring []) ∙ sym (slice_get-get_or names ring [] within)

pub unbound_past : (rings : List (List Binding)) (ring grant : ℕ) → length rings ≤ ring → None ≡ binding_at (bindings_of rings ring) grant
unbound_past rings ring grant past = ap (λ (o : Option (List Binding)). binding_at (unwrap_or o []) grant) (sym (slice_get_past rings ring past))

pub bound_there : (rings : List (List Binding)) (ring grant : ℕ) (bs : List Binding) (b : Option Binding) → ring < length rings → bs ≡ get_or rings ring bs → b ≡ binding_at bs grant
    → b ≡ binding_at (bindings_of rings ring) grant
bound_there rings ring grant bs b within is so = so ∙ ap (λ (o : Option (List Binding)). binding_at (unwrap_or o []) grant) (sym (slice_get_read rings (length rings) ring bs refl within is))
