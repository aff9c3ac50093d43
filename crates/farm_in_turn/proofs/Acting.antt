-- What an action of a seat leaves of a ring is the run after that action.
use Rattle.std.proofs.Common.{◌≡◌, ℕ, List, [], ◌∷◌, ◌++◌, length, ap, sym, ◌∙◌}
use Rattle.ring_model.specs.History.{State, opening, after, reply}
use Rattle.ring_model.specs.Resources.{till}
use Rattle.ring_model.specs.Surveys.{survey_at}
use Rattle.ring_model.specs.declared.events.Op.{Op}
use Rattle.ring_model.specs.declared.events.Reply.{Reply}
use Rattle.ring_model.specs.declared.events.Event.{Event}
use Rattle.ring_model.specs.declared.events.Receipt.{Receipt}
use Rattle.ring_model.specs.declared.events.Survey.{Survey}
use Rattle.ring_model.specs.declared.events.Entry.TheVariants as entry
use Rattle.ring_model.proofs.Histories.{StepOf-reply}
use Rattle.ring_book.specs.BookView.{IsRecorded}
use Rattle.ring_logs.specs.LogView.{LogView}
use Rattle.one_thread_ring.specs.Rings.{RingView, IsOneThreadRing, told_more}
use Rattle.farm_in_turn.specs.InTurn.{Run, event_of, with_call, with_survey}
use Rattle.farm_in_turn.specs.Rings.{so_far}

event_is : (s t : ℕ) (o p : Op) (r q : Reply) → s ≡ t → o ≡ p → r ≡ q → ◌≡◌ {A = Event} (record { seat = s; op = o; reply = r }) (record { seat = t; op = p; reply = q })
event_is s t o p r q a b c =
    ap (λ (x : ℕ). record { seat = x; op = o; reply = r }) a ∙ ap (λ (x : Op). record { seat = t; op = x; reply = r }) b ∙ ap (λ (x : Reply). record { seat = t; op = p; reply = x }) c

receipt_is : (m n : ℕ) (e f : Event) → m ≡ n → e ≡ f → ◌≡◌ {A = Receipt} (record { position = m; event = e }) (record { position = n; event = f })
receipt_is m n e f p q = ap (λ (z : ℕ). record { position = z; event = e }) p ∙ ap (λ (z : Event). record { position = n; event = z }) q

run_is : (h k : List Event) (cs ds : List LogView) → h ≡ k → cs ≡ ds → ◌≡◌ {A = Run} (record { history = h; logs = cs }) (record { history = k; logs = ds })
run_is h k cs ds p q = ap (λ (x : List Event). record { history = x; logs = cs }) p ∙ ap (λ (x : List LogView). record { history = k; logs = x }) q

-- a call that was recorded
pub call_made : (old new : RingView ℕ) (seat : ℕ) (o : Op) (r : Receipt) → IsOneThreadRing till 0 old → IsRecorded till old.book new.book seat o r → new.clients ≡ told_more old.clients seat (entry.Receipt r ∷ []) →
    so_far new ≡ with_call old.book.start (so_far old) seat o
call_made old new seat o r ring is told =
    let h : List Event = old.book.history in
    let e : Event = r.event in
    let step : e.reply ≡ reply till old.book.now e.op = StepOf-reply till old.book.now e.op e.reply new.book.now is.step in
    let replied : e.reply ≡ reply till (after till (opening old.book.start 0) h) o =
    step ∙ ap (λ (x : Op). reply till old.book.now x) is.of_call ∙ ap (λ (x : State ℕ). reply till x o) (sym ring.book.current) in
    let made : e ≡ event_of old.book.start h seat o = event_is e.seat seat e.op o e.reply (reply till (after till (opening old.book.start 0) h) o) is.of_seat is.of_call replied in
    let receipt : r ≡ record { position = length h; event = event_of old.book.start h seat o } = receipt_is r.position (length h) e (event_of old.book.start h seat o) is.position made in
    run_is new.book.history (h ++ event_of old.book.start h seat o ∷ []) new.clients
    (told_more old.clients seat (entry.Receipt (record { position = length h; event = event_of old.book.start h seat o }) ∷ []))
    (is.grown ∙ ap (λ (x : Event). h ++ x ∷ []) made) (told ∙ ap (λ (x : Receipt). told_more old.clients seat (entry.Receipt x ∷ [])) receipt)

-- a survey that was given
pub survey_made : (old new : RingView ℕ) (seat : ℕ) (s : Survey) → s ≡ survey_at till (opening old.book.start 0) old.book.history (length old.book.history) → new.book ≡ old.book →
    new.clients ≡ told_more old.clients seat (entry.Survey s ∷ []) → so_far new ≡ with_survey old.book.start (so_far old) seat
survey_made old new seat s is book told =
    run_is new.book.history old.book.history new.clients (told_more old.clients seat (entry.Survey (survey_at till (opening old.book.start 0) old.book.history (length old.book.history)) ∷ []))
    (ap (λ b. b.history) book) (told ∙ ap (λ (x : Survey). told_more old.clients seat (entry.Survey x ∷ [])) is)
