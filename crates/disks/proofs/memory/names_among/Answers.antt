use Rattle.std.proofs.Common.{◌++◌, ◌∷◌, ℕ, List, [], take, arith, ap, sym, subst, ◌∙◌}
use Rattle.std.specs.Str.{bytes_eq}
use Rattle.std.proofs.lemmas.List.{take_more, take_all}
use Rattle.disks.specs.Held.{Nothing, is_a_file}
use Rattle.disks.specs.Entries.{found, held_of}
use Rattle.disks.specs.Folders.{path_in, names_of, IsNameIn, ListsNames, SaysKinds}
use Rattle.disks.proofs.Listing.{with_name, without_name, no_names}
use Rattle.disks.proofs.memory.names_among.Goals.{in-Some+in_ok-add_name, in_default}
use Rattle.disks.proofs.memory.names_among.Goals as goal

pub loop-entry-init : goal.loop-entry-init
loop-entry-init c = (
  subst (λ es. ListsNames (held_of []) c.args.folder.now (names_of es)) (sym c.new-names.ensures.items) (no_names c.args.folder.now),
  subst (λ es. SaysKinds (held_of c.args.entries.now) c.args.folder.now es) (sym c.new-names.ensures.items) tt,
)

pub loop-entry-preserved : goal.loop-entry-preserved
loop-entry-preserved c =
    let e = c.entry-item.result in
    let es = take c.loop-entry.entry-index c.args.entries.now in
    let folder = c.args.folder.now in
    let all = held_of c.args.entries.now in (
      subst (λ xs. ListsNames (held_of xs) folder (names_of c.match-branch-2.names.items)) (sym (take_more c.args.entries.now c.loop-entry.entry-index e (omega (arith, c.loop-entry-test.true)) ∙ ap (λ x. es ++ x ∷ []) (sym c.entry-item.is)))
          (elim c.match-branch-2.branch [
            | in-Some+in_ok-add_name w ↦
                let at = subst (λ o. IsNameIn c.as_str-path.result.now folder o) w.in-Some.is c.in_ok-name.ensures in
                subst (λ v. ListsNames (held_of (es ++ e ∷ [])) folder (names_of v.items)) (sym w.names-is)
                (with_name es e folder w.in-Some.name.now (names_of c.loop-entry.names.items) (names_of w.add_name.new.names.items)
                (sym c.as_str-path.ensures.value ∙ at.1) c.loop-entry.invariant.0 w.in_ok-add_name.ensures.plain w.in_ok-add_name.ensures.added)
            | in_default w ↦
                subst (λ v. ListsNames (held_of (es ++ e ∷ [])) folder (names_of v.items)) (sym w.names-is)
                (without_name es e folder (names_of c.loop-entry.names.items)
                (λ n slashless. ap (λ (x : List ℕ). bytes_eq x (path_in folder n)) (sym c.as_str-path.ensures.value) ∙ subst (λ o. IsNameIn c.as_str-path.result.now folder o) w.in_default.is c.in_ok-name.ensures n slashless)
                c.loop-entry.invariant.0)
          ]),
      elim c.match-branch-2.branch [
        | in-Some+in_ok-add_name w ↦
            let at = subst (λ o. IsNameIn c.as_str-path.result.now folder o) w.in-Some.is c.in_ok-name.ensures in
            subst (λ v. SaysKinds all folder v.items) (sym w.names-is)
            (w.in_ok-add_name.ensures.kinds all folder (w.is_file-is_regular.ensures ∙ ap (λ (n : List ℕ). is_a_file (found Nothing c.args.entries.now n)) at.1) c.loop-entry.invariant.1)
        | in_default w ↦ subst (λ v. SaysKinds all folder v.items) (sym w.names-is) c.loop-entry.invariant.1
      ],
    )

pub returns-clause-names : goal.returns-clause-names
returns-clause-names c = subst (λ es. ListsNames (held_of es) c.args.folder.now (names_of c.loop-entry.names.items)) (take_all c.loop-entry.entry-index c.args.entries.now (omega (arith, c.loop-entry-test.false))) c.loop-entry.invariant.0

pub returns-clause-kinds : goal.returns-clause-kinds
returns-clause-kinds c = c.loop-entry.invariant.1
