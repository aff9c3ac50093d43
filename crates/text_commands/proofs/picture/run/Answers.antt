use Rattle.std.proofs.Common.{inl, inr, sym, subst}
use Rattle.std.proofs.lemmas.Result.{err_from_is_err_and}
use Rattle.tool_parts.specs.Named.{IsNamed}
use Rattle.text_commands.proofs.picture.run.Goals as goal

pub returns-in_err-drawing-clause-err : goal.returns-in_err-drawing-clause-err
returns-in_err-drawing-clause-err g c =
    let named = subst (λ t. IsNamed c.args.words.now.file.now (g.D.Disk.holds c.args.disk.now) (g.I.Read.remaining c.args.input.now) (g.I.Read.remaining c.read_named.new.input) t)
    (sym c.as_slice.ensures.value) c.in_ok-bytes.ensures.ok in
    let p = err_from_is_err_and c.from_residual-in_err-drawing.result c.from_residual-in_err-drawing.ensures.1 in
    rw (p.1, p.2) (inr (inr (_, named, inl c.in_err-drawing.ensures.err)))

pub returns-in-Ok-clause-ok : goal.returns-in-Ok-clause-ok
returns-in-Ok-clause-ok g c =
    let named = subst (λ t. IsNamed c.args.words.now.file.now (g.D.Disk.holds c.args.disk.now) (g.I.Read.remaining c.args.input.now) (g.I.Read.remaining c.read_named.new.input) t)
    (sym c.as_slice.ensures.value) c.in_ok-bytes.ensures.ok in
    (_, c.in_ok-drawing.drawing, named, c.in_ok-drawing.ensures.ok, c.in-Ok.ensures.apart, record { to_file = c.in-Ok.ensures.ok.to_file; to_output = c.in-Ok.ensures.ok.to_output })

pub returns-clause-err : goal.returns-clause-err
returns-clause-err g c =
    let named = subst (λ t. IsNamed c.args.words.now.file.now (g.D.Disk.holds c.args.disk.now) (g.I.Read.remaining c.args.input.now) (g.I.Read.remaining c.read_named.new.input) t)
    (sym c.as_slice.ensures.value) c.in_ok-bytes.ensures.ok in
    inr (inr (_, named, inr (c.in_ok-drawing.drawing, c.in_ok-drawing.ensures.ok, record { to_file = c.in-Err.ensures.err.to_file; to_output = c.in-Err.ensures.err.to_output })))

pub returns-in-Ok-clause-unmade : goal.returns-in-Ok-clause-unmade
returns-in-Ok-clause-unmade g c =
    let named = subst (λ t. IsNamed c.args.words.now.file.now (g.D.Disk.holds c.args.disk.now) (g.I.Read.remaining c.args.input.now) (g.I.Read.remaining c.read_named.new.input) t)
    (sym c.as_slice.ensures.value) c.in_ok-bytes.ensures.ok in
    inr (_, c.in_ok-drawing.drawing, named, c.in_ok-drawing.ensures.ok)

pub returns-clause-unmade : goal.returns-clause-unmade
returns-clause-unmade g c =
    let named = subst (λ t. IsNamed c.args.words.now.file.now (g.D.Disk.holds c.args.disk.now) (g.I.Read.remaining c.args.input.now) (g.I.Read.remaining c.read_named.new.input) t)
    (sym c.as_slice.ensures.value) c.in_ok-bytes.ensures.ok in
    inr (_, c.in_ok-drawing.drawing, named, c.in_ok-drawing.ensures.ok)
