use Rattle.std.proofs.Common.{inl, inr, refl, sym, subst}
use Rattle.tool_parts.specs.Named.{IsNamed}
use Rattle.motion_commands.proofs.moving.run.Goals as goal

pub returns-in-Err-moving_of-clause-err : goal.returns-in-Err-moving_of-clause-err
returns-in-Err-moving_of-clause-err g c =
    let named = subst (λ t. IsNamed c.args.words.now.file.now (g.D.Disk.holds c.args.disk.now) (g.I.Read.remaining c.args.input.now) (g.I.Read.remaining c.read_named.new.input) t)
    (sym c.as_slice.ensures.value) c.in-Ok.ensures.ok in
    inr (inr (_, named, inl (c.in-Err-moving_of.ensures.err, (refl, refl))))

pub returns-in-Ok-hand_over-clause-ok : goal.returns-in-Ok-hand_over-clause-ok
returns-in-Ok-hand_over-clause-ok g c =
    let named = subst (λ t. IsNamed c.args.words.now.file.now (g.D.Disk.holds c.args.disk.now) (g.I.Read.remaining c.args.input.now) (g.I.Read.remaining c.read_named.new.input) t)
    (sym c.as_slice.ensures.value) c.in-Ok.ensures.ok in
    (_, c.in-Ok-moving_of.moving, named, c.in-Ok-moving_of.ensures.ok, record { to_file = c.in-Ok-hand_over.ensures.ok.to_file; to_output = c.in-Ok-hand_over.ensures.ok.to_output })

pub returns-clause-err : goal.returns-clause-err
returns-clause-err g c =
    let named = subst (λ t. IsNamed c.args.words.now.file.now (g.D.Disk.holds c.args.disk.now) (g.I.Read.remaining c.args.input.now) (g.I.Read.remaining c.read_named.new.input) t)
    (sym c.as_slice.ensures.value) c.in-Ok.ensures.ok in
    inr (inr (_, named, inr (c.in-Ok-moving_of.moving, c.in-Ok-moving_of.ensures.ok, (_, refl, record { to_file = c.in-Err-hand_over.ensures.err.to_file; to_output = c.in-Err-hand_over.ensures.err.to_output }))))
