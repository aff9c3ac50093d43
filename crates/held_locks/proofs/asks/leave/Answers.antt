use Rattle.std.proofs.Common.{◌≡◌, true, false, refl, sym, ◌∙◌, subst, [], None}
use Rattle.held_locks.specs.declared.answers.Answers.{Answers}
use Rattle.held_locks.specs.Queues.{stands, is_held_by}
use Rattle.held_locks.specs.Locks.{Turn}
use Rattle.held_locks.specs.Parts.{view_of, IsTurnedIn}
use Rattle.held_locks.proofs.Turned.{dropped_in, leave_held, leave_out, not_there}
use Rattle.held_locks.proofs.asks.leave.Goals as goal

pub returns-then-is_held_by-clause-turned : goal.returns-then-is_held_by-clause-turned
returns-then-is_held_by-clause-turned c =
    let h : is_held_by c.args.client c.args.lock.now.holder ≡ true = sym c.is_held_by.ensures ∙ c.if-is_held_by.true in
    let s : stands c.args.client c.args.lock.now.queue.items ≡ false = sym c.requires.waiting ∙ c.requires.either h in
    subst (λ (t : Turn). IsTurnedIn c.args.number (view_of c.args.lock.now) (view_of c.end_hold.new.lock) c.args.waits.now c.end_hold.new.waits c.args.client t c.end_hold.result) (leave_held (view_of c.args.lock.now) c.args.client h s) c.end_hold.ensures.turned

pub returns-then-waiting-clause-turned : goal.returns-then-waiting-clause-turned
returns-then-waiting-clause-turned c =
    let h : is_held_by c.args.client c.args.lock.now.holder ≡ false = sym c.is_held_by.ensures ∙ c.if-is_held_by.false in
    let s : stands c.args.client c.args.lock.now.queue.items ≡ true = sym c.requires.waiting ∙ c.if-waiting.true in
    let r : Answers = record { own = None; ended = None; granted = None } in
    subst (λ (t : Turn). IsTurnedIn c.args.number (view_of c.args.lock.now) (view_of c.drop_waiter.new.lock) c.args.waits.now c.drop_waiter.new.waits c.args.client t r) (leave_out (view_of c.args.lock.now) c.args.client h)
    (dropped_in c.args.number (view_of c.args.lock.now) (view_of c.drop_waiter.new.lock) c.args.waits.now c.drop_waiter.new.waits c.args.client [] r c.requires.kept s
    c.drop_waiter.ensures.ring c.drop_waiter.ensures.holder c.drop_waiter.ensures.queue c.drop_waiter.ensures.waits refl refl)

pub returns-else-waiting-clause-turned : goal.returns-else-waiting-clause-turned
returns-else-waiting-clause-turned c =
    let h : is_held_by c.args.client c.args.lock.now.holder ≡ false = sym c.is_held_by.ensures ∙ c.if-is_held_by.false in
    let s : stands c.args.client c.args.lock.now.queue.items ≡ false = sym c.requires.waiting ∙ c.if-waiting.false in
    let r : Answers = record { own = None; ended = None; granted = None } in
    subst (λ (t : Turn). IsTurnedIn c.args.number (view_of c.args.lock.now) (view_of c.args.lock.now) c.args.waits.now c.args.waits.now c.args.client t r) (leave_out (view_of c.args.lock.now) c.args.client h)
    (not_there c.args.number (view_of c.args.lock.now) c.args.waits.now c.args.client r c.requires.kept s refl)
