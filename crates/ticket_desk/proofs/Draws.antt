-- Along a legal history over a roll each ticket is handed out once, and just those that go.
use Rattle.std.proofs.Common.{◌≡◌, ℕ, ◌+◌, ◌≤◌, Bool, true, false, cond, List, [], ◌∷◌, ltb, leb, eqb, refl, sym, ◌∙◌, ap, arith}
use Rattle.std.specs.Prelude.{count_by}
use Rattle.std.proofs.lemmas.Bool.Decides.{nat_tests}
use Rattle.ring_model.specs.Numbers.{bit}
use Rattle.ring_model.specs.History.{State, IsGrant, StepOf, next, after, IsLegal}
use Rattle.ring_model.specs.declared.events.Op.{Op}
use Rattle.ring_model.specs.declared.events.Op.TheVariants.{Pass, Member, Corrupt}
use Rattle.ring_model.specs.declared.events.Reply.{Reply}
use Rattle.ring_model.specs.declared.events.Reply.TheVariants.{Granted, NotPrivileged, Corrupted}
use Rattle.ring_model.specs.declared.events.Event.{Event}
use Rattle.ring_model.proofs.QuietRuns.{count_events-cons}
use Rattle.ticket_desk.specs.Tickets.{roll, roll_size, gives}

-- how often the events hand out the ticket
abbrev pub times_by : ℕ → List Event → ℕ
times_by t h = count_by (λ (e : Event). gives t e.reply) h

pub times_by-cons : (t : ℕ) (e : Event) (h : List Event) → times_by t (e ∷ h) ≡ bit (gives t e.reply) + times_by t h
times_by-cons t e h = count_events-cons (λ (u : Event). gives t u.reply) e h

pub nothing_more : (x y : ℕ) → x ≡ y → 0 + x ≡ y
nothing_more x y e = omega arith

-- the next ticket is the one that was not gone and is
next_ticket : (t gone : ℕ) → 1 ≤ t → bit (eqb (gone + 1) t) + bit (leb t gone) ≡ bit (leb t (gone + 1))
next_ticket t gone one = grind (arith, nat_tests)

no_ticket : (t gone : ℕ) → 1 ≤ t → bit (eqb 0 t) + bit (leb t gone) ≡ bit (leb t gone)
no_ticket t gone one = grind (arith, nat_tests)

one_work : (b : Bool) (t gone : ℕ) → 1 ≤ t → bit (eqb (cond b (gone + 1) 0) t) + bit (leb t gone) ≡ bit (leb t (cond b (gone + 1) gone))
one_work true t gone one = next_ticket t gone one
one_work false t gone one = no_ticket t gone one

one_grant : (t : ℕ) (a : State ℕ) (i order number result : ℕ) (b : State ℕ) → 1 ≤ t → IsGrant roll a i order number result b → bit (eqb result t) + bit (leb t a.content) ≡ bit (leb t b.content)
one_grant t a i order number result b one s =
    ap (λ (n : ℕ). bit (eqb n t) + bit (leb t a.content)) s.3
    ∙ one_work (ltb a.content roll_size) t a.content one
    ∙ sym (ap (λ (x : State ℕ). bit (leb t x.content)) s.4)

-- one step: the ticket is handed out exactly where it goes
one_step : (t : ℕ) (a : State ℕ) (o : Op) (r : Reply) (b : State ℕ) → 1 ≤ t → StepOf roll a o r b → bit (gives t r) + bit (leb t a.content) ≡ bit (leb t b.content)
one_step t a (Pass i order) (Granted number result) b one s = one_grant t a i order number result b one s
one_step t a (Member i order left) (Granted number result) b one s = one_grant t a i order number result b one s
one_step t a (Member i order left) NotPrivileged b one s = absurd s
one_step t a (Member i order left) (Corrupted old) b one s = absurd s
one_step t a (Pass i order) NotPrivileged b one s = nothing_more _ _ (sym (ap (λ (x : State ℕ). bit (leb t x.content)) s.2))
one_step t a (Pass i order) (Corrupted old) b one s = absurd s
one_step t a (Corrupt i v) (Granted number result) b one s = absurd s
one_step t a (Corrupt i v) NotPrivileged b one s = absurd s
one_step t a (Corrupt i v) (Corrupted old) b one s = nothing_more _ _ (sym (ap (λ (x : State ℕ). bit (leb t x.content)) s.3))

-- a history: so it is of all its events together
pub handed_out : (t : ℕ) (a : State ℕ) (h : List Event) → 1 ≤ t → IsLegal roll a h → times_by t h + bit (leb t a.content) ≡ bit (leb t (after roll a h).content)
handed_out t a [] one legal = nothing_more _ _ refl
handed_out t a (e ∷ h) one legal =
    let b : State ℕ = next roll a e.op in
    let here = one_step t a e.op e.reply b one legal.0 in
    let there = handed_out t b h one legal.1 in
    let c = times_by-cons t e h in
    omega arith

-- from a whole roll: once where it is gone, and else never
pub handed_out_once : (t : ℕ) (a : State ℕ) (h : List Event) → 1 ≤ t → a.content ≡ 0 → IsLegal roll a h → times_by t h ≡ bit (leb t (after roll a h).content)
handed_out_once t a h one whole legal =
    let all = handed_out t a h one legal in
    let none : bit (leb t a.content) ≡ 0 = ap (λ (n : ℕ). bit (leb t n)) whole ∙ none_gone t one in
    omega arith
  where
    none_gone : (t : ℕ) → 1 ≤ t → bit (leb t 0) ≡ 0
    none_gone t one = grind (arith, nat_tests)
