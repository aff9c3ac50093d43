use Rattle.std.proofs.Common.{ℕ, List, inr, map, take, subst}
use Rattle.folder_of_locks.specs.Lists.{listed}
use Rattle.folder_of_locks.specs.NameFolders.{name_place_of, AreNamedAfter, IsNamingFault}
use Rattle.folder_of_locks.proofs.name_places.last_names.Goals as goal

pub returns-in-Ok-names_in-clause-ok : goal.returns-in-Ok-names_in-clause-ok
returns-in-Ok-names_in-clause-ok g c =
    let end = c.in-Ok.file.front.end in (
      take end c.in-Ok.file.bytes.items,
      c.in-Ok.file.front.last,
      c.in-Ok.ensures.ok,
      subst (λ (u : List ℕ). AreNamedAfter c.args.number (take end u) c.in-Ok.file.front.last (map listed c.args.list.now) c.args.size (name_place_of c.in-Ok-names_in.start)) c.deref.ensures.value c.in-Ok-names_in.ensures.ok,
    )

pub returns-clause-err : goal.returns-clause-err
returns-clause-err g c =
    let end = c.in-Ok.file.front.end in
    inr (
      take end c.in-Ok.file.bytes.items,
      c.in-Ok.file.front.last,
      c.in-Ok.ensures.ok,
      subst (λ (u : List ℕ). IsNamingFault c.args.number (take end u) c.in-Ok.file.front.last (map listed c.args.list.now) c.args.size c.in-Err-names_in.fault) c.deref.ensures.value c.in-Err-names_in.ensures.err,
    )
