use Rattle.std.proofs.Common.{rules, ◌≡◌, ◌<◌, ℕ, suc, length, sym, subst, ap, ◌∙◌, arith}
use mathlib.Core.List.{IsPrefix}
use Rattle.ring_model.specs.Ring.{Ring}
use Rattle.ring_shared.proofs.Folding.{ring_after_keeps, summary_goes_on}
use Rattle.ring_shared.proofs.shown.Shown.take_event.Goals as goal

pub go_on-requires-clause-machine : goal.go_on-requires-clause-machine
go_on-requires-clause-machine g c =
    subst (λ (n : ℕ). c.args.machine < n) (sym (ap (λ (r : Ring). length r.values) c.self.invariant.ring_is ∙ (ring_after_keeps g.N.Name.start c.self.inside.front).1)) c.requires.machine_is

pub go_on-requires-clause-value : goal.go_on-requires-clause-value
go_on-requires-clause-value g c =
    subst (λ (k : ℕ). c.args.value < k) (sym (ap (λ (r : Ring). r.k) c.self.invariant.ring_is ∙ (ring_after_keeps g.N.Name.start c.self.inside.front).0)) c.requires.value_is

pub invariant_of-self : goal.invariant_of-self
invariant_of-self g c =
    let xs = c.self.inside.front in
    let ys = c.args.front.now in
    let s = c.self.inside.summary in
    let a = c.len.ensures.length in
    let b = c.len-2.ensures.length in
    let one : length ys ≡ suc (length xs) = search rules in
    let begins : IsPrefix xs ys = c.compare.ensures.shorter (omega arith) in
    let on = summary_goes_on g.N.Name.start xs ys s.ring c.go_on.new.self.ring s.position c.go_on.new.self.position s.calm c.args.calm c.args.machine c.args.value
    c.self.invariant c.requires begins one c.go_on.ensures.ring c.go_on.ensures.position in
    rw (c.again.ensures, c.go_on.ensures.calm) on
