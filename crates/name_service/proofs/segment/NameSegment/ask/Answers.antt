use Rattle.std.proofs.Common.{◌≡◌, ◌≤◌, ◌-◌, ℕ, refl, ap, subst, sym, ◌∙◌}
use Rattle.std.specs.Prelude.{vec_capacity}
use Rattle.held_locks.specs.Asked.{asked}
use Rattle.lock_journal.proofs.Short.{watched_after}
use Rattle.lock_names.specs.Kept.{NamedView, IsAsked, HasEvents}
use Rattle.name_service.specs.Naming.{NamingView, IsNameCounted, count_at}
use Rattle.name_service.proofs.Reached.{lack_same, unreached_same, none_counted, short_asked, long_asked, count_asked}
use Rattle.name_service.proofs.Unchanged.{unchanged}
use Rattle.name_service.proofs.segment.NameSegment.ask.Goals as goal

counted_inside : (c : goal.After-self-2-1) → IsNameCounted (record { named = c.self.inside.names; left = c.self.inside.left.items; remaining = c.self.inside.remaining; short = c.self.inside.short })
    (record { named = c.ask-asked.new.self; left = c.self.inside.left.items; remaining = c.after_ask-after.result.remaining; short = c.after_ask-after.result.short })
    (count_at c.ask-asked.result.answers.ring c.self.inside.names c.ask-asked.new.self c.ask-asked.result.answers)
counted_inside c =
    let old = c.self.inside.names in
    let new = c.ask-asked.new.self in
    let r = c.ask-asked.result.answers in
    let d = c.ask-asked.ensures.answer in record {
      remaining = c.after_ask-after.ensures.remaining ∙ ap (λ (n : ℕ). c.self.inside.remaining - n) (count_asked old new c.args.client c.args.name.now (asked c.args.ask) r d c.ask-asked.result refl c.ask-asked.ensures.events);
      short = c.after_ask-after.ensures.short ∙ short_asked old new c.args.client c.args.name.now (asked c.args.ask) r d c.self.inside.short c.self.invariant.1;
    }

pub invariant_of-self : goal.invariant_of-self
invariant_of-self c =
    let old = c.self.inside.names in
    let new = c.ask-asked.new.self in
    let long = long_asked old new c.args.client c.args.name.now (asked c.args.ask) c.ask-asked.result.answers c.ask-asked.ensures.answer in (
      subst (λ (n : ℕ). n ≤ vec_capacity c.self.inside.left) (sym long) c.self.invariant.0,
      watched_after new.locks c.self.inside.short c.after_ask-after.result.short (counted_inside c).short,
    )

pub returns-clause-answer : goal.returns-clause-answer
returns-clause-answer c =
    subst (λ (s : NamingView). IsAsked s.named c.ask-asked.new.self c.args.client c.args.name.now (asked c.args.ask) c.ask-asked.result.answers) c.self.view_is c.ask-asked.ensures.answer

pub returns-clause-events : goal.returns-clause-events
returns-clause-events c = subst (λ (s : NamingView). HasEvents s.named.locks c.ask-asked.new.self.locks c.ask-asked.result) c.self.view_is c.ask-asked.ensures.events

pub returns-clause-counted : goal.returns-clause-counted
returns-clause-counted c =
    let new = c.ask-asked.new.self in
    let now : NamingView = record { named = new; left = c.self.inside.left.items; remaining = c.after_ask-after.result.remaining; short = c.after_ask-after.result.short } in
    subst (λ (s : NamingView). IsNameCounted s now (count_at c.ask-asked.result.answers.ring s.named new c.ask-asked.result.answers)) c.self.view_is (counted_inside c)

pub returns-clause-lack : goal.returns-clause-lack
returns-clause-lack c = λ e.
    let old = c.self.inside.names in
    let new = c.ask-asked.new.self in
    let r = c.ask-asked.result.answers in
    let s = lack_same old new c.args.client c.args.name.now (asked c.args.ask) r c.ask-asked.ensures.answer e in
    let now : NamingView = record { named = new; left = c.self.inside.left.items; remaining = c.after_ask-after.result.remaining; short = c.after_ask-after.result.short } in
    let none : count_at r.ring old new r ≡ 0 = ap (λ (v : NamedView). count_at r.ring old v r) s.0 ∙ none_counted old new c.args.client c.args.name.now (asked c.args.ask) r c.ask-asked.ensures.answer s.1 r.ring in
    subst (λ (v : NamingView). now ≡ v) c.self.view_is
    (unchanged old new c.self.inside.left.items c.self.inside.remaining c.after_ask-after.result.remaining c.self.inside.short c.after_ask-after.result.short (count_at r.ring old new r) c.self.invariant.1 s.0 none (counted_inside c))

pub returns-clause-unreached : goal.returns-clause-unreached
returns-clause-unreached c = λ e.
    let old = c.self.inside.names in
    let new = c.ask-asked.new.self in
    let r = c.ask-asked.result.answers in
    let s = unreached_same old new c.args.client c.args.name.now (asked c.args.ask) r c.ask-asked.ensures.answer e in
    let now : NamingView = record { named = new; left = c.self.inside.left.items; remaining = c.after_ask-after.result.remaining; short = c.after_ask-after.result.short } in
    let none : count_at r.ring old new r ≡ 0 = ap (λ (v : NamedView). count_at r.ring old v r) s.0 ∙ none_counted old new c.args.client c.args.name.now (asked c.args.ask) r c.ask-asked.ensures.answer s.1 r.ring in
    subst (λ (v : NamingView). now ≡ v) c.self.view_is
    (unchanged old new c.self.inside.left.items c.self.inside.remaining c.after_ask-after.result.remaining c.self.inside.short c.after_ask-after.result.short (count_at r.ring old new r) c.self.invariant.1 s.0 none (counted_inside c))
