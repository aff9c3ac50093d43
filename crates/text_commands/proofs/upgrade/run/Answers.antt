use Rattle.std.proofs.Common.{inl, inr, sym, subst}
use Rattle.std.proofs.lemmas.Result.{err_from_is_err_and}
use Rattle.saved_history.specs.Content.{content}
use Rattle.tool_parts.specs.Named.{IsNamed}
use Rattle.text_commands.proofs.upgrade.run.Goals as goal

pub returns-in_err-value-clause-err : goal.returns-in_err-value-clause-err
returns-in_err-value-clause-err g c =
    let named = subst (λ t. IsNamed c.args.words.now.file.now (g.D.Disk.holds c.args.disk.now) (g.I.Read.remaining c.args.input.now) (g.I.Read.remaining c.read_named.new.input) t)
    (sym c.as_slice.ensures.value) c.in_ok-bytes.ensures.ok in
    let p = err_from_is_err_and c.from_residual-in_err-value.result c.from_residual-in_err-value.ensures.1 in
    rw (p.1, p.2) (inr (inr (_, named, inl c.in_err-value.ensures.err)))

pub returns-in-Ok-hand_over-clause-ok : goal.returns-in-Ok-hand_over-clause-ok
returns-in-Ok-hand_over-clause-ok g c =
    let named = subst (λ t. IsNamed c.args.words.now.file.now (g.D.Disk.holds c.args.disk.now) (g.I.Read.remaining c.args.input.now) (g.I.Read.remaining c.read_named.new.input) t)
    (sym c.as_slice.ensures.value) c.in_ok-bytes.ensures.ok in
    (_, content c.in_ok-value.value.0, c.in_ok-value.value.1, named, c.in_ok-value.ensures.ok, record { to_file = c.in-Ok-hand_over.ensures.ok.to_file; to_output = c.in-Ok-hand_over.ensures.ok.to_output })

pub returns-clause-err : goal.returns-clause-err
returns-clause-err g c =
    let named = subst (λ t. IsNamed c.args.words.now.file.now (g.D.Disk.holds c.args.disk.now) (g.I.Read.remaining c.args.input.now) (g.I.Read.remaining c.read_named.new.input) t)
    (sym c.as_slice.ensures.value) c.in_ok-bytes.ensures.ok in
    inr (inr (_, named, inr (content c.in_ok-value.value.0, c.in_ok-value.value.1, c.in_ok-value.ensures.ok, record { to_file = c.in-Err-hand_over.ensures.err.to_file; to_output = c.in-Err-hand_over.ensures.err.to_output })))

pub returns-in-Err-clause-err : goal.returns-in-Err-clause-err
returns-in-Err-clause-err g c = inr (inl c.in-Err.ensures)
