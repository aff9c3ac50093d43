use Rattle.std.proofs.Common.{◌≡◌, ℕ, ◌∙◌, All, List, map, ap, sym, subst}
use Rattle.std.proofs.lemmas.Bool.{both_ways}
use Rattle.ring_model.specs.Ring.{Ring, ring_with}
use Rattle.ring_model.specs.Resources.{till}
use Rattle.ring_model.specs.History.{opening}
use Rattle.ring_model.specs.Logs.{IsSurvey}
use Rattle.ring_model.specs.declared.events.Event.{Event}
use Rattle.saved_history.specs.declared.saved.SavedEvent.{SavedEvent}
use Rattle.saved_history.specs.declared.saved.SavedSurvey.{SavedSurvey}
use Rattle.saved_history.specs.Content.{block_of}
use Rattle.ring_check.specs.Table.{event_of}
use Rattle.ring_check.specs.Meaning.{survey_of}
use Rattle.one_thread_ring.proofs.Resumed.{told_kept, right_surveys}
use Rattle.one_thread_ring.proofs.resuming.from_saved.Goals as goal

pub with_clients-requires : goal.with_clients-requires
with_clients-requires c =
    let book = c.in-Ok-book_of.book in
    told_kept book c.in-Ok-clients_of.clients.items c.args.seats c.args.saved.now.surveys.items c.in-Ok.ensures.sizes.0.1 c.in-Ok-book_of.ensures.book c.in-Ok-book_of.ensures.seats
    c.in-Ok-clients_of.ensures.seated (c.in-Ok-clients_of.ensures.told ∙ c.deref-3.ensures.value)
    (subst (λ (u : List SavedSurvey). All (IsSurvey till (opening book.start 0) book.history) (map survey_of u)) c.deref-4.ensures.value (c.in-Ok-true.ensures.0 c.in-Ok-true.field-0-test))

pub returns-in-Ok-false-clause-legal : goal.returns-in-Ok-false-clause-legal
returns-in-Ok-false-clause-legal c = λ can.
    let book = c.in-Ok-book_of.book in
    let saved = c.args.saved.now in
    let start : book.start ≡ ring_with saved.k saved.start.items =
    c.in-Ok-book_of.ensures.start ∙ (c.in-Ok.ensures.ok ∙ ap (λ (xs : List ℕ). ring_with saved.k xs) c.deref.ensures.value) in
    let told : book.history ≡ map event_of saved.events.items = c.in-Ok-book_of.ensures.history ∙ ap (λ (es : List SavedEvent). map event_of es) c.deref-2.ensures.value in
    let right = right_surveys c.args.seats (block_of saved) can in
    let lines = map survey_of saved.surveys.items in
    let here : All (IsSurvey till (opening book.start 0) book.history) lines =
    subst (λ (r : Ring). All (IsSurvey till (opening r 0) book.history) lines) (sym start)
    (subst (λ (h : List Event). All (IsSurvey till (opening (ring_with saved.k saved.start.items) 0) h) lines) (sym told) right) in
    both_ways c.in-Ok-false.field-0 c.in-Ok-false.field-0-test
    (c.in-Ok-false.ensures.1 (subst (λ (u : List SavedSurvey). All (IsSurvey till (opening book.start 0) book.history) (map survey_of u)) (sym c.deref-4.ensures.value) here))
