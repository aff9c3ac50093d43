use Rattle.std.proofs.Common.{inl, inr, refl, sym, subst}
use Rattle.std.proofs.lemmas.Result.{err_from_is_err_and}
use Rattle.tool_parts.specs.Named.{IsNamed}
use Rattle.history_commands.proofs.repairs.run.Goals as goal

pub returns-in_err-bytes-clause-err : goal.returns-in_err-bytes-clause-err
returns-in_err-bytes-clause-err g c =
    let p = err_from_is_err_and c.from_residual.result c.from_residual.ensures.1 in
    rw (p.1, p.2) (inl (c.in_err-bytes.ensures.err, refl))

pub returns-in-Ok-clause-ok : goal.returns-in-Ok-clause-ok
returns-in-Ok-clause-ok g c =
    let named = subst (λ t. IsNamed c.args.words.now.file.now (g.D.Disk.holds c.args.disk.now) (g.I.Read.remaining c.args.input.now) (g.I.Read.remaining c.read_named.new.input) t)
    (sym c.as_slice.ensures.value) c.in_ok-bytes.ensures.ok in
    let told = c.in-Ok.ensures.ok in
    (_, told.0, named, told.1, told.2)

pub returns-clause-err : goal.returns-clause-err
returns-clause-err g c =
    let named = subst (λ t. IsNamed c.args.words.now.file.now (g.D.Disk.holds c.args.disk.now) (g.I.Read.remaining c.args.input.now) (g.I.Read.remaining c.read_named.new.input) t)
    (sym c.as_slice.ensures.value) c.in_ok-bytes.ensures.ok in
    inr (_, named, c.in-Err.ensures.err)
