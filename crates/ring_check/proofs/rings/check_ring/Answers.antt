use Rattle.std.proofs.Common.{◌≡◌, ◌+◌, ◌∙◌, length, sym, arith}
use Rattle.saved_history.specs.Content.{block_of}
use Rattle.ring_check.proofs.Blocks.{events_stop, end_stop, surveys_stop, finds_at, finds_as, finds_handed_on}
use Rattle.ring_check.proofs.rings.check_ring.Goals as goal

pub returns-in_err-check_events : goal.returns-in_err-check_events
returns-in_err-check_events c = λ b v p q.
    let n : length c.args.ring.now.start.items ≡ c.args.ring.now.n = omega (arith, c.args.ring.now.has_n, c.args.ring.now.start.ok.0) in
    let error = c.in_err-check_events.field-0.0 in
    finds_handed_on _ c.from_residual.result error c.from_residual.ensures
    (events_stop b (block_of c.args.ring.now) c.args.line c.args.place p q (rw v (sym c.are_parameters.ensures ∙ c.if-not-are_parameters.false)) c.if-ring-place.false
    (rw c.deref.ensures.value at (sym c.all_below.ensures ∙ c.if-not-all_below.false)) n
    (Unit {0}) (Unit {0}) error (rw (c.deref-2.ensures.value, c.deref-3.ensures.value) at (c.in_err-check_events.ensures.finds b.version (c.args.place + 1))))

pub returns-in-Some : goal.returns-in-Some
returns-in-Some c = λ b v p q.
    let n : length c.args.ring.now.start.items ≡ c.args.ring.now.n = omega (arith, c.args.ring.now.has_n, c.args.ring.now.start.ok.0) in
    let l : c.len.result ≡ length c.args.ring.now.events.items = omega (arith, c.len.ensures, c.args.ring.now.events.ok.0) in
    finds_at _ _ _ _ _ (end_stop b (block_of c.args.ring.now) c.args.line c.args.place p q (rw v (sym c.are_parameters.ensures ∙ c.if-not-are_parameters.false)) c.if-ring-place.false
    (rw c.deref.ensures.value at (sym c.all_below.ensures ∙ c.if-not-all_below.false)) n
    c.in-Some.kind c.in_ok-check_events.field-0 (rw (c.deref-2.ensures.value, c.deref-3.ensures.value) at (c.in_ok-check_events.ensures.finds b.version (c.args.place + 1))) (sym c.in-Some.ensures)) (omega (arith, l))

pub returns : goal.returns
returns c = λ b v p q.
    let n : length c.args.ring.now.start.items ≡ c.args.ring.now.n = omega (arith, c.args.ring.now.has_n, c.args.ring.now.start.ok.0) in
    let l : c.len.result ≡ length c.args.ring.now.events.items = omega (arith, c.len.ensures, c.args.ring.now.events.ok.0) in
    finds_as _ _ _ _ (surveys_stop b (block_of c.args.ring.now) c.args.line c.args.place p q (rw v (sym c.are_parameters.ensures ∙ c.if-not-are_parameters.false)) c.if-ring-place.false
    (rw c.deref.ensures.value at (sym c.all_below.ensures ∙ c.if-not-all_below.false)) n
    c.in_ok-check_events.field-0 (rw (c.deref-2.ensures.value, c.deref-3.ensures.value) at (c.in_ok-check_events.ensures.finds b.version (c.args.place + 1))) (sym c.in_default.ensures))
    (rw (c.deref-4.ensures.value, c.deref-5.ensures.value, c.deref-6.ensures.value, l) at (c.check_surveys.ensures b.version (c.args.place + 1)))
