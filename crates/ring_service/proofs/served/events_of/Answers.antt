use Rattle.std.proofs.Common.{ℕ, ◌≤◌, List, length, drop, sym, ap, ◌∙◌, arith}
use Rattle.std.proofs.lemmas.List.{take_rest, drop_all}
use Rattle.ring_model.specs.declared.events.Event.{Event}
use Rattle.one_thread_ring.specs.Rings.{RingView}
use Rattle.ring_service.proofs.Placing.{history_at}
use Rattle.ring_service.proofs.served.events_of.Goals as goal

pub returns-then-from-history : goal.returns-then-from-history
returns-then-from-history c =
    let h = c.history-history.ensures ∙ ap (λ (d : RingView ℕ). d.book.history) c.segment.ensures.is ∙ sym (history_at c.args.rings.now c.args.ring c.index-rings-ring.result c.if-ring-rings.false (sym c.index-rings-ring.is)) in
    let past : length c.history-history.result.now ≤ c.args.from = omega arith in
    sym (ap (λ (x : List Event). drop c.args.from x) (sym h) ∙ drop_all c.args.from c.history-history.result.now past)

pub returns : goal.returns
returns c =
    let h = c.history-history.ensures ∙ ap (λ (d : RingView ℕ). d.book.history) c.segment.ensures.is ∙ sym (history_at c.args.rings.now c.args.ring c.index-rings-ring.result c.if-ring-rings.false (sym c.index-rings-ring.is)) in
    rw take_rest (ap (λ (x : List Event). drop c.args.from x) h)
