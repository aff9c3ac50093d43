use Rattle.std.proofs.Common.{◌≡◌, ℕ, List, [], ◌∷◌, ◌++◌, Option, None, sym, ◌∙◌, ap, subst}
use Rattle.std.specs.Prelude.{option_map}
use Rattle.std.specs.HashMap.{get_by_text}
use Rattle.std.proofs.lemmas.List.{map-append}
use Rattle.name_bindings.specs.Bindings.{Bound}
use Rattle.name_check.specs.declared.table.Binding.{Binding}
use Rattle.name_check.specs.Tables.{bound_of, bounds_of, IsTable}
use Rattle.name_check.proofs.Tabling.{freed_table}
use Rattle.name_check.proofs.table.add_free_among.Goals as goal

pub returns-clause-table : goal.returns-clause-table
returns-clause-table c =
    let old = c.args.bound.now.items in
    let none : Option Binding = None in
    let items : c.push_reserved.new.self.items ≡ old ++ none ∷ [] = c.push_reserved.ensures.items ∙ ap (λ (xs : List (Option Binding)). xs ++ none ∷ []) c.in-Ok.ensures.items in
    subst (λ (os : List (Option Bound)). IsTable os (λ (x : List ℕ). get_by_text c.args.rings.now x))
    (sym (ap bounds_of items ∙ map-append (λ (o : Option Binding). option_map bound_of o) old (none ∷ [])))
    (freed_table (bounds_of old) (λ (x : List ℕ). get_by_text c.args.rings.now x) c.requires.table)
