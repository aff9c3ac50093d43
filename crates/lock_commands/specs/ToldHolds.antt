-- The lines of holds, each with the name of its lock (this project's own).
use Rattle.std.specs.Prelude.{ℕ, ◌+◌, ◌-◌, cond, List, [], ◌∷◌, ◌++◌, slice_get, unwrap_or, Option, Some, None, codes, decimal}
use Rattle.std.specs.List.{flat_map}
use Rattle.lock_protocol.specs.Names.{Names}
use Rattle.name_remarks.specs.Remarks.{Binding}
use Rattle.name_history.specs.Kept.{binding_at}
use Rattle.chain_readers.specs.declared.holds.Hold.{Hold}
use Rattle.chain_readers.specs.declared.hold_lines.Choice.{Choice}
use Rattle.chain_readers.specs.HoldLines.{grant_text, end_text, is_chosen}
use Rattle.lock_commands.specs.declared.hold_names.HoldNames.{HoldNames}

-- by what lines call locks: the names of a list, if there is one, and the bindings of each ring
pub record Called : Type 0 where
  pub names : Option Names
  pub rings : List (List Binding)

-- the content of the program's own type
abbrev pub called : HoldNames → Called
called n = record { names = n.list; rings = n.rings.items }

-- there is no list
abbrev pub no_names : Called
no_names = record { names = None; rings = [] }

-- ---- what a line says

-- which lock, and which token
pub record Told : Type 0 where
  pub lock : List ℕ
  pub token : ℕ

-- Of a grant of a ring of the pool: the name to which the ring was bound, and which one it is of the
-- grants of all rings, from the binding on. Where no binding is known: the number of the ring after
-- a question mark, and that of the grant.
abbrev pub told_bound : Option Binding → ℕ → ℕ → Told
told_bound None ring grant = record { lock = codes "?" ++ decimal ring; token = grant }
told_bound (Some b) ring grant = record { lock = b.name; token = b.floor + (grant - b.before) }

-- Of a folder with a list: the name that it has for the ring, and the number of the grant; and after
-- these the rings of the pool.
abbrev pub told_listed : Option (List ℕ) → List Binding → ℕ → ℕ → Told
told_listed (Some name) bs ring grant = record { lock = name; token = grant }
told_listed None bs ring grant = told_bound (binding_at bs grant) ring grant

-- the bindings of the ring of this number
abbrev pub bindings_of : List (List Binding) → ℕ → List Binding
bindings_of rings ring = unwrap_or (slice_get rings ring) []

-- without a list the numbers of the ring and of the grant
abbrev pub told_by : Option Names → List (List Binding) → ℕ → ℕ → Told
told_by None rings ring grant = record { lock = decimal ring; token = grant }
told_by (Some names) rings ring grant =
    told_listed (slice_get names ring) (bindings_of rings ring) ring grant

-- what a line says of a hold of this ring
abbrev pub told : Called → ℕ → Hold → Told
told c ring h = told_by c.names c.rings ring h.token

-- ---- the lines

abbrev pub told_text : Told → List ℕ
told_text t = codes "lock " ++ (t.lock ++ (codes " token " ++ decimal t.token))

abbrev pub hold_line : Told → Hold → List ℕ
hold_line t h = told_text t ++ (grant_text h.grant ++ end_text h.end)

-- the lines of the wanted holds of a ring, and of all rings from this number on
abbrev pub chosen_line : Choice → Called → ℕ → Hold → List ℕ
chosen_line choice c ring h = cond (is_chosen choice ring h) (hold_line (told c ring h) h) []

abbrev pub lines_of : Choice → Called → ℕ → List Hold → List ℕ
lines_of choice c ring holds = flat_map (chosen_line choice c ring) holds

abbrev pub all_lines : Choice → Called → ℕ → List (List Hold) → List ℕ
all_lines choice c ring [] = []
all_lines choice c ring (holds ∷ more) =
    lines_of choice c ring holds ++ all_lines choice c (ring + 1) more
