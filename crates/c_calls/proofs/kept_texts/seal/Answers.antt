use Rattle.std.proofs.Common.{inl, inr, refl}
use Rattle.c_calls.proofs.kept_texts.seal.Goals as goal

pub returns-then-text-out : goal.returns-then-text-out
returns-then-text-out c = inr (inl (c.args.text.now, refl, c.if-text-out.true, refl, refl, refl))
