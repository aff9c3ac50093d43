use Rattle.std.proofs.Common.{◌∙◌, ap, refl}
use Rattle.ring_tool.proofs.StrictEndings.{strict_ran, strict_refused}
use Rattle.ring_tool.proofs.strict.do_strictly.Goals as goal

pub returns-in-Ok-clause-ended : goal.returns-in-Ok-clause-ended
returns-in-Ok-clause-ended g c =
    strict_ran c.args.words.now _ _ _ _ c.in-Ok.bytes.items c.as_slice.result.now c.as_slice.ensures.value c.in-Ok.ensures.ok c.run_bytes.ensures.ended
    (λ q. ap g.I.Read.remaining (c.strict_bytes.ensures.unread q))

pub returns-in-Err-clause-ended : goal.returns-in-Err-clause-ended
returns-in-Err-clause-ended g c =
    strict_refused c.args.words.now _ _ _ _ c.in-Err.refusal c.in-Err.ensures.err (c.fail_with.ensures.status ∙ c.status.ensures.is) c.fail_with.ensures.told c.fail_with.ensures.front refl
    (λ q. ap g.I.Read.remaining (c.strict_bytes.ensures.unread q))
