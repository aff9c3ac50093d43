use Rattle.std.proofs.Common.{inr, sym, subst}
use Rattle.tool_parts.specs.Named.{IsNamed}
use Rattle.text_commands.proofs.check.check_text.Goals as goal

pub returns-clause-err : goal.returns-clause-err
returns-clause-err g c =
    let named = subst (λ t. IsNamed c.args.words.now.file.now (g.D.Disk.holds c.args.disk.now) (g.I.Read.remaining c.args.input.now) (g.I.Read.remaining c.read_named.new.input) t)
    (sym c.as_slice.ensures.value) c.in_ok-bytes.ensures.ok in
    inr (_, named, c.in-Err.ensures.err)
