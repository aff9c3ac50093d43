use Rattle.std.proofs.Common.{◌≡◌, List, ◌∙◌, ap, rules, arith}
use Rattle.ring_model.specs.declared.events.Event.{Event}
use Rattle.one_thread_ring.specs.Clients.{told_all}
use Rattle.held_locks.specs.Opened.{last_survey}
use Rattle.held_locks.proofs.OpenHolds.{small_rest, log_is, found_is}
use Rattle.held_locks.proofs.opened.open_hold.Goals as goal

pub open_after-requires-clause-within : goal.open_after-requires-clause-within
open_after-requires-clause-within c = small_rest c.args.ring.now c.history-history.result.now c.later-from.result c.requires (c.history-history.ensures ∙ ap (λ d. d.book.history) c.segment-2.ensures.is)

pub returns : goal.returns
returns c =
    let h : List Event = c.segment.result.now.book.history in
    let clients : told_all h c.clients-clients.result.now ≡ c.args.ring.now.ring.clients = c.clients-clients.ensures.are ∙ ap (λ d. d.clients) c.segment.ensures.is in
    let first = c.last_survey.ensures h ∙ ap (λ l. last_survey 0 l) (log_is c.args.ring.now h c.clients-clients.result.now 1 c.index-clients.result c.requires clients (omega arith) c.index-clients.is) in
    let second = c.last_survey-2.ensures h ∙ ap (λ l. last_survey 0 l) (log_is c.args.ring.now h c.clients-clients.result.now 2 c.index-clients-2.result c.requires clients (omega arith) c.index-clients-2.is) in
    found_is c.args.ring.now c.base.result.now c.history-history.result.now c.later-from.result c.last_survey.result c.last_survey-2.result c.open_after.result c.base.ensures.is
    (c.history-history.ensures ∙ ap (λ d. d.book.history) c.segment-2.ensures.is) first second (c.later-from.ensures.rest c.history-history.result.now (search rules)) c.open_after.ensures
