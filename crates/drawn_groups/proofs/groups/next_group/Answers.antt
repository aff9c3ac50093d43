use Rattle.std.proofs.Common.{ℕ, List, refl, sym, ◌∙◌, ap}
use Rattle.rand_pcg.specs.Lcg.{Lcg}
use Rattle.drawn_groups.specs.declared.groups.Place.{Place}
use Rattle.drawn_groups.proofs.Choices.{members_kept, members_new, left_first}
use Rattle.drawn_groups.proofs.groups.next_group.Goals as goal

pub returns-then-place-clause-left : goal.returns-then-place-clause-left
returns-then-place-clause-left c =
    sym (ap (λ (x : List ℕ × Lcg). x.0) (members_kept c.args.ring.now.values c.args.machines.now c.args.place c.args.words.now c.requires.is c.if-place.true))

pub returns-then-place-clause-words : goal.returns-then-place-clause-words
returns-then-place-clause-words c =
    sym (ap (λ (x : List ℕ × Lcg). x.1) (members_kept c.args.ring.now.values c.args.machines.now c.args.place c.args.words.now c.requires.is c.if-place.true))

pub returns-clause-left : goal.returns-clause-left
returns-clause-left c =
    let p : Place = record { count = c.draw_group-count.result; least = c.least_left_out-least.result; turn = 0 } in
    left_first c.draw_group-count.new.machines p _ refl c.draw_group-count.ensures.group
    ∙ sym (ap (λ (x : List ℕ × Lcg). x.0) (members_new c.args.ring.now.values c.args.machines.now c.args.place c.args.words.now c.requires.is c.if-place.false))

pub returns-clause-words : goal.returns-clause-words
returns-clause-words c =
    c.draw_group-count.ensures.words
    ∙ sym (ap (λ (x : List ℕ × Lcg). x.1) (members_new c.args.ring.now.values c.args.machines.now c.args.place c.args.words.now c.requires.is c.if-place.false))
