use Rattle.std.proofs.Common.{◌≡◌, true, sym, ◌∙◌, ap, subst, ◌∷◌, []}
use Rattle.held_locks.specs.declared.answers.Answers.{Answers}
use Rattle.held_locks.specs.declared.answers.Answer.TheVariants as answer
use Rattle.held_locks.specs.Queues.{stands}
use Rattle.held_locks.specs.Locks.{Turn}
use Rattle.held_locks.specs.Kept.{answers_of}
use Rattle.held_locks.specs.Parts.{view_of, IsTurnedIn}
use Rattle.held_locks.proofs.Turned.{dropped_in, cancel_out}
use Rattle.held_locks.proofs.asks.cancel.Goals as goal

pub returns : goal.returns
returns c =
    let s : stands c.args.client c.args.lock.now.queue.items ≡ true = sym c.requires.waiting ∙ c.if-not-waiting.false in
    subst (λ (t : Turn). IsTurnedIn c.args.number (view_of c.args.lock.now) (view_of c.drop_waiter.new.lock) c.args.waits.now c.drop_waiter.new.waits c.args.client t c.told.result) (cancel_out (view_of c.args.lock.now) c.args.client s)
    (dropped_in c.args.number (view_of c.args.lock.now) (view_of c.drop_waiter.new.lock) c.args.waits.now c.drop_waiter.new.waits c.args.client ((c.args.client, answer.Cancelled) ∷ []) c.told.result c.requires.kept s
    c.drop_waiter.ensures.ring c.drop_waiter.ensures.holder c.drop_waiter.ensures.queue c.drop_waiter.ensures.waits (ap (λ (x : Answers). answers_of c.args.client x) c.told.ensures) (ap (λ (x : Answers). x.ended) c.told.ensures))
