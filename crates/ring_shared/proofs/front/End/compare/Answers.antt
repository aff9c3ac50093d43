use Rattle.std.proofs.Common.{ap, ◌∙◌, subst, List}
use mathlib.Core.List.{IsPrefix}
use Rattle.ring_model.specs.declared.events.Event.{Event}
use Rattle.ring_shared.proofs.Prefixes.{prefix_shorter}
use Rattle.ring_shared.proofs.front.End.compare.Goals as goal

pub returns-clause-shorter : goal.returns-clause-shorter
returns-clause-shorter g c le =
    let e = c.learn.ensures in
    let mine : IsPrefix c.args.self.now c.learn.new.self.log = subst (λ (l : List Event). IsPrefix l c.learn.new.self.log) (ap (λ s. s.log) c.again-both.ensures ∙ c.self.view_is) e.2 in
    let other : IsPrefix c.args.other.now c.learn.new.self.log = subst (λ (l : List Event). IsPrefix l c.learn.new.self.log) (c.other.view_is) e.3 in
    prefix_shorter c.args.self.now c.args.other.now c.learn.new.self.log mine other le

pub returns-clause-longer : goal.returns-clause-longer
returns-clause-longer g c le =
    let e = c.learn.ensures in
    let mine : IsPrefix c.args.self.now c.learn.new.self.log = subst (λ (l : List Event). IsPrefix l c.learn.new.self.log) (ap (λ s. s.log) c.again-both.ensures ∙ c.self.view_is) e.2 in
    let other : IsPrefix c.args.other.now c.learn.new.self.log = subst (λ (l : List Event). IsPrefix l c.learn.new.self.log) (c.other.view_is) e.3 in
    prefix_shorter c.args.other.now c.args.self.now c.learn.new.self.log other mine le
