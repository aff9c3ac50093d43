use Rattle.std.proofs.Common.{inl, inr}
use Rattle.serve_commands.proofs.serve.run_without.Goals as goal

pub returns-clause-err : goal.returns-clause-err
returns-clause-err g c =
    elim c.in-Err-run_plain.ensures.err [
      | inl h ↦ inl (h.0, h.1, inr (c.in-Ok.saved, c.in-Ok.ensures.ok, h.2))
      | inr h ↦ inr (c.in-Ok.saved, c.in-Ok.ensures.ok, h.0, h.1, h.2)
    ]
