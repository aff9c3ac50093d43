use Rattle.std.proofs.Common.{◌≡◌, ℕ, length, ap, ◌∙◌, arith}
use Rattle.std.proofs.lemmas.List.{take_all}
use Rattle.one_thread_ring.specs.Rings.{RingView}
use Rattle.one_thread_ring.specs.Texts.{surveys_told}
use Rattle.ring_service.proofs.Counting.{kept_count, as_many_kept}
use Rattle.lock_journal.proofs.counting.after_ring.Goals as goal

pub returns : goal.returns
returns c =
    let same = c.clients-clients.ensures.surveys ∙ ap (λ (d : RingView ℕ). surveys_told d.clients) c.segment-2.ensures.is in
    let many = as_many_kept c.clients-clients.result.now c.args.ring.now.ring.clients same in
    let all = ap kept_count (take_all c.loop-client.client-index c.clients-clients.result.now c.loop-client-test.false) in
    let events : length c.history.result.now ≡ length c.args.ring.now.ring.book.history = ap length (c.history.ensures ∙ ap (λ (d : RingView ℕ). d.book.history) c.segment.ensures.is) in
    let inv = c.loop-client.invariant in
    omega (arith, many, all, events, inv)
