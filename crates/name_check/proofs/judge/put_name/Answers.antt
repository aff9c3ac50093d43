use Rattle.std.proofs.Common.{Bool, Option, Some, inl, inr, sym, ◌∙◌, ap}
use Rattle.std.specs.Prelude.{is_some}
use Rattle.std.proofs.lemmas.Bool.{false≢true}
use Rattle.name_check.proofs.Sounding.{set_same}
use Rattle.name_check.proofs.judge.put_name.Goals as goal

pub returns-then-is_some-clause-ok : goal.returns-then-is_some-clause-ok
returns-then-is_some-clause-ok c = elim c.requires.fits [
  | inl p ↦ sym (set_same c.args.names.now c.args.ring (Some (record { name = c.args.name.now; before = c.args.counts.before; floor = c.args.counts.floor })) p)
  | inr p ↦ absurd (false≢true (sym (ap (λ (o : Option Bool). is_some o) (c.is_bound.ensures.free p.0)) ∙ sym c.is_some.ensures ∙ c.if-is_some.true))
]

pub bind-requires-clause-free : goal.bind-requires-clause-free
bind-requires-clause-free c = elim c.requires.fits [
  | inl p ↦ absurd (false≢true (sym c.if-is_some.false ∙ c.is_some.ensures ∙ ap (λ (o : Option Bool). is_some o) (c.is_bound.ensures.bound (record { name = c.args.name.now; before = c.args.counts.before; floor = c.args.counts.floor }) p)))
  | inr p ↦ p.0
]

pub bind-requires-clause-unused : goal.bind-requires-clause-unused
bind-requires-clause-unused c = elim c.requires.fits [
  | inl p ↦ absurd (false≢true (sym c.if-is_some.false ∙ c.is_some.ensures ∙ ap (λ (o : Option Bool). is_some o) (c.is_bound.ensures.bound (record { name = c.args.name.now; before = c.args.counts.before; floor = c.args.counts.floor }) p)))
  | inr p ↦ p.1
]
