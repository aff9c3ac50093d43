use Rattle.std.proofs.Common.{refl, Some, None}
use Rattle.std.proofs.lemmas.Str.Pattern.{split_parts}
use Rattle.folder_of_locks.proofs.sizes.cut.Goals as goal

pub returns-in-Some : goal.returns-in-Some
returns-in-Some c =
    let p = split_parts c.args.mark c.args.text.now (Some (c.in-Some.before, c.in-Some.after)) c.in-Some.ensures.cases c.requires.ascii in
    (p.0, record { each = p.1 })

pub returns-in-None : goal.returns-in-None
returns-in-None c = (refl, record { each = split_parts c.args.mark c.args.text.now None c.in-None.ensures.cases c.requires.ascii })
