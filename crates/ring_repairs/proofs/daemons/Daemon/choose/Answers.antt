use Rattle.std.proofs.Common.{◌≡◌, ℕ, refl, sym, ◌∙◌, ap, subst, arith}
use Rattle.rand_pcg.specs.Lcg.{Lcg}
use Rattle.ring_model.specs.Ring.{is_privileged}
use Rattle.ring_repairs.specs.Daemons.{choice, remembered}
use Rattle.ring_repairs.specs.declared.daemons.Daemon.{Daemon}
use Rattle.ring_repairs.specs.declared.daemons.Memory.{Memory}
use Rattle.ring_repairs.proofs.Choices.{choice_below, choice_privileged}
use Rattle.ring_repairs.proofs.daemons.Daemon.choose.Goals as goal

pub returns-in-First-clause-choice : goal.returns-in-First-clause-choice
unfolding choice
returns-in-First-clause-choice c =
    subst (λ (d : Daemon). c.first_privileged.result ≡ choice d c.args.memory.now c.args.ring.now) (sym c.in-First.is) c.first_privileged.ensures

pub returns-in-First-clause-memory : goal.returns-in-First-clause-memory
unfolding remembered
returns-in-First-clause-memory c =
    subst (λ (d : Daemon). c.args.memory.now ≡ remembered d c.args.memory.now c.args.ring.now) (sym c.in-First.is) refl

pub returns-in-First-clause-machine : goal.returns-in-First-clause-machine
returns-in-First-clause-machine c =
    let e = returns-in-First-clause-choice c in
    let l = choice_below c.args.self c.args.memory.now c.args.ring.now c.params.ensures.ring.ring in
    omega arith

pub returns-in-First-clause-privileged : goal.returns-in-First-clause-privileged
returns-in-First-clause-privileged c =
    ap (is_privileged c.args.ring.now.values) (returns-in-First-clause-choice c)
    ∙ choice_privileged c.args.self c.args.memory.now c.args.ring.now c.params.ensures.ring.ring

pub returns-in-Last-clause-choice : goal.returns-in-Last-clause-choice
unfolding choice
returns-in-Last-clause-choice c =
    subst (λ (d : Daemon). c.last_privileged.result ≡ choice d c.args.memory.now c.args.ring.now) (sym c.in-Last.is) c.last_privileged.ensures

pub returns-in-Last-clause-memory : goal.returns-in-Last-clause-memory
unfolding remembered
returns-in-Last-clause-memory c =
    subst (λ (d : Daemon). c.args.memory.now ≡ remembered d c.args.memory.now c.args.ring.now) (sym c.in-Last.is) refl

pub returns-in-Last-clause-machine : goal.returns-in-Last-clause-machine
returns-in-Last-clause-machine c =
    let e = returns-in-Last-clause-choice c in
    let l = choice_below c.args.self c.args.memory.now c.args.ring.now c.params.ensures.ring.ring in
    omega arith

pub returns-in-Last-clause-privileged : goal.returns-in-Last-clause-privileged
returns-in-Last-clause-privileged c =
    ap (is_privileged c.args.ring.now.values) (returns-in-Last-clause-choice c)
    ∙ choice_privileged c.args.self c.args.memory.now c.args.ring.now c.params.ensures.ring.ring

pub returns-in-Random-clause-choice : goal.returns-in-Random-clause-choice
unfolding choice
returns-in-Random-clause-choice c =
    subst (λ (d : Daemon). c.drawn_privileged.result ≡ choice d c.args.memory.now c.args.ring.now) (sym c.in-Random.is)
    c.drawn_privileged.ensures.machine

pub returns-in-Random-clause-memory : goal.returns-in-Random-clause-memory
unfolding remembered
returns-in-Random-clause-memory c =
    let with_words : Lcg → Memory = λ g. record { words = g; asked = c.args.memory.now.asked } in
    subst (λ (d : Daemon). with_words c.drawn_privileged.new.words ≡ remembered d c.args.memory.now c.args.ring.now) (sym c.in-Random.is)
    (ap with_words c.drawn_privileged.ensures.words)

pub returns-in-Random-clause-machine : goal.returns-in-Random-clause-machine
returns-in-Random-clause-machine c =
    let e = returns-in-Random-clause-choice c in
    let l = choice_below c.args.self c.args.memory.now c.args.ring.now c.params.ensures.ring.ring in
    omega arith

pub returns-in-Random-clause-privileged : goal.returns-in-Random-clause-privileged
returns-in-Random-clause-privileged c =
    ap (is_privileged c.args.ring.now.values) (returns-in-Random-clause-choice c)
    ∙ choice_privileged c.args.self c.args.memory.now c.args.ring.now c.params.ensures.ring.ring

pub returns-in-Turn-clause-choice : goal.returns-in-Turn-clause-choice
unfolding choice
returns-in-Turn-clause-choice c =
    subst (λ (d : Daemon). c.machine_in_turn.result ≡ choice d c.args.memory.now c.args.ring.now) (sym c.in-Turn.is)
    c.machine_in_turn.ensures.machine

pub returns-in-Turn-clause-memory : goal.returns-in-Turn-clause-memory
unfolding remembered
returns-in-Turn-clause-memory c =
    let with_asked : ℕ → Memory = λ a. record { words = c.args.memory.now.words; asked = a } in
    subst (λ (d : Daemon). with_asked c.machine_in_turn.new.asked ≡ remembered d c.args.memory.now c.args.ring.now) (sym c.in-Turn.is)
    (ap with_asked c.machine_in_turn.ensures.asked)

pub returns-in-Turn-clause-machine : goal.returns-in-Turn-clause-machine
returns-in-Turn-clause-machine c =
    let e = returns-in-Turn-clause-choice c in
    let l = choice_below c.args.self c.args.memory.now c.args.ring.now c.params.ensures.ring.ring in
    omega arith

pub returns-in-Turn-clause-privileged : goal.returns-in-Turn-clause-privileged
returns-in-Turn-clause-privileged c =
    ap (is_privileged c.args.ring.now.values) (returns-in-Turn-clause-choice c)
    ∙ choice_privileged c.args.self c.args.memory.now c.args.ring.now c.params.ensures.ring.ring

pub returns-in-Slow-clause-choice : goal.returns-in-Slow-clause-choice
unfolding choice
returns-in-Slow-clause-choice c =
    subst (λ (d : Daemon). c.slowest.result ≡ choice d c.args.memory.now c.args.ring.now) (sym c.in-Slow.is) c.slowest.ensures.slowest

pub returns-in-Slow-clause-memory : goal.returns-in-Slow-clause-memory
unfolding remembered
returns-in-Slow-clause-memory c =
    subst (λ (d : Daemon). c.args.memory.now ≡ remembered d c.args.memory.now c.args.ring.now) (sym c.in-Slow.is) refl

pub returns-in-Slow-clause-machine : goal.returns-in-Slow-clause-machine
returns-in-Slow-clause-machine c =
    let e = returns-in-Slow-clause-choice c in
    let l = choice_below c.args.self c.args.memory.now c.args.ring.now c.params.ensures.ring.ring in
    omega arith

pub returns-in-Slow-clause-privileged : goal.returns-in-Slow-clause-privileged
returns-in-Slow-clause-privileged c =
    ap (is_privileged c.args.ring.now.values) (returns-in-Slow-clause-choice c)
    ∙ choice_privileged c.args.self c.args.memory.now c.args.ring.now c.params.ensures.ring.ring

pub returns-in-Groups-clause-choice : goal.returns-in-Groups-clause-choice
unfolding choice
returns-in-Groups-clause-choice c =
    subst (λ (d : Daemon). c.first_privileged-in-Groups.result ≡ choice d c.args.memory.now c.args.ring.now) (sym c.in-Groups.is) c.first_privileged-in-Groups.ensures

pub returns-in-Groups-clause-memory : goal.returns-in-Groups-clause-memory
unfolding remembered
returns-in-Groups-clause-memory c =
    subst (λ (d : Daemon). c.args.memory.now ≡ remembered d c.args.memory.now c.args.ring.now) (sym c.in-Groups.is) refl

pub returns-in-Groups-clause-machine : goal.returns-in-Groups-clause-machine
returns-in-Groups-clause-machine c =
    let e = returns-in-Groups-clause-choice c in
    let l = choice_below c.args.self c.args.memory.now c.args.ring.now c.params.ensures.ring.ring in
    omega arith

pub returns-in-Groups-clause-privileged : goal.returns-in-Groups-clause-privileged
returns-in-Groups-clause-privileged c =
    ap (is_privileged c.args.ring.now.values) (returns-in-Groups-clause-choice c)
    ∙ choice_privileged c.args.self c.args.memory.now c.args.ring.now c.params.ensures.ring.ring
