use Rattle.std.proofs.Common.{◌==◌, ℕ, List, sym, ap, ◌∙◌}
use Rattle.std.proofs.lemmas.List.Folds.{list_any_at}
use Rattle.disks.specs.Folders.{has_slash}
use Rattle.disks.proofs.Listing.{deeper}
use Rattle.disks.proofs.memory.name_in.Goals as goal

pub returns-then-contains : goal.returns-then-contains
returns-then-contains c n slashless =
    let at = c.if-contains.ensures.cases in
    deeper c.args.name.now c.args.folder.now c.in-Some.rest.now n c.in-Some.ensures.back
    (ap (λ (x : List ℕ). has_slash x) (sym c.as_bytes-3.ensures.value) ∙ list_any_at (λ b. b == 47) c.as_bytes-3.result.now at.0 0 at.1 (at.2 0))
    slashless
