use Rattle.std.proofs.Common.{◌≡◌, Option, sym, ◌∙◌, ap, subst}
use Rattle.held_locks.specs.declared.answers.Holder.{Holder}
use Rattle.held_locks.specs.Locks.{Ask}
use Rattle.held_locks.specs.Asked.{asked, IsAnswerTo}
use Rattle.lock_names.specs.Kept.{bound_by, with_number}
use Rattle.name_bindings.proofs.Found.{there_is}
use Rattle.lock_names.proofs.Asking.{numbered}
use Rattle.lock_names.proofs.asks.ask_lock.Goals as goal

pub with_number-own-requires : goal.with_number-own-requires
with_number-own-requires c = λ h e. let w = there_is c.args.locks.now c.args.ring c.requires.lock in c.requires.tokens w.0 h w.1 (sym (c.holder.ensures w.0 w.1) ∙ e)

pub returns-clause-answer : goal.returns-clause-answer
returns-clause-answer c =
    let w = there_is c.args.locks.now c.args.ring c.requires.lock in
    let b = bound_by c.args.counts in
    let own : asked c.with_number-own.result ≡ with_number b (asked c.args.ask) w.0.holder =
    c.with_number-own.ensures ∙ ap (λ (o : Option Holder). with_number b (asked c.args.ask) o) (c.holder.ensures w.0 w.1) in
    numbered c.args.locks.now c.ask.new.self c.args.client c.args.ring b c.args.ask w.0 c.ask.result.answers w.1 (λ h e. c.requires.began w.0 h w.1 e)
    (subst (λ (a : Ask). IsAnswerTo c.args.locks.now c.ask.new.self c.args.client c.args.ring a c.ask.result.answers) own c.ask.ensures.answer)
