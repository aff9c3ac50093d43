-- The remarks of names with which a segment begins (this project's own).
use Rattle.std.specs.Prelude.{ℕ, zero, suc, List, [], ◌∷◌, map, Option, None, Some, option_map}
use Rattle.name_remarks.specs.Remarks.{Binding}
use Rattle.name_remarks.specs.Bindings.{Bindings, beginning, text_of}
use Rattle.lock_names.specs.Names.{Bound}
use Rattle.lock_names.specs.Kept.{NamedView}
use Rattle.name_service.specs.Noting.{binding_of}

abbrev pub bindings_of : List (Option Bound) → List (Option Binding)
bindings_of os = map (λ (o : Option Bound). option_map binding_of o) os

-- how the rings of the pool are bound, by their numbers; the names of fixed locks need no remark
abbrev pub pool_bindings : ℕ → List (Option Bound) → List (Option Binding)
pool_bindings zero os = bindings_of os
pool_bindings (suc fixed) [] = []
pool_bindings (suc fixed) (o ∷ os) = None ∷ pool_bindings fixed os

-- with what a segment begins: how many grants there were of all rings, and how each ring is bound
abbrev pub bindings_in : NamedView → Bindings
bindings_in v = record { top = Some v.top; rings = pool_bindings v.fixed v.names }

abbrev pub names_text : NamedView → List ℕ
names_text v = text_of (beginning (bindings_in v))
