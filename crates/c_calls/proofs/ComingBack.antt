-- What is opened from the saved text of a ring is that ring.
use Rattle.std.proofs.Common.{◌≡◌, ℕ, zero, suc, List, [], ◌∷◌, map, refl, sym, ap, ◌∙◌, subst, Some, Ok, ◌<◌, length, get_or}
use Rattle.std.specs.Prelude.{slice_get, option_map}
use Rattle.std.proofs.lemmas.List.{append-nil}
use Rattle.std.proofs.lemmas.Option.{none-some, same_Some, slice_get-map}
use Rattle.text_lines.proofs.Answering.{spellings_are_apart}
use Rattle.ring_model.specs.Ring.{ring_with}
use Rattle.ring_model.specs.Resources.{till}
use Rattle.ring_model.specs.History.{State, IsLegal, next, opening}
use Rattle.ring_model.specs.declared.events.Event.{Event}
use Rattle.saved_history.specs.declared.saved.SavedRing.{SavedRing}
use Rattle.saved_history.specs.Content.{Block, Content, block_of, content}
use Rattle.saved_history.specs.Spelling.{text}
use Rattle.saved_history.specs.Meaning.{IsRightRead}
use Rattle.saved_history.proofs.TextLaws.{text_reads}
use Rattle.ring_check.specs.Table.{event_of}
use Rattle.one_thread_ring.specs.SavedOf.{saved_event}
use Rattle.ring_logs.specs.LogView.{LogView}
use Rattle.one_thread_ring.specs.Clients.{log_from}
use Rattle.one_thread_ring.specs.Rings.{RingView, IsOneThreadRing, IsClient}
use Rattle.one_thread_ring.specs.Texts.{saved_block, saved_alone, surveys_told}
use Rattle.c_calls.specs.Answers.{IsSavedText}
use Rattle.c_calls.specs.Resumed.{IsResumedAs, IsResumedFrom}
use Rattle.c_calls.specs.Trips.{IsBackAs, SavesComeBack}
use Rattle.c_calls.proofs.OneLog.{surveys_in, only_log}
use Rattle.c_calls.proofs.SeatSurveys.{same_surveys}
use Rattle.one_thread_ring.proofs.WrittenBlocks.{line_tells}

lines_tell : (a : State ℕ) (h : List Event) → IsLegal till a h → map event_of (map saved_event h) ≡ h
lines_tell a [] l = refl
lines_tell a (e ∷ h) l =
    let one : event_of (saved_event e) ≡ e = line_tells a (next till a e.op) e.seat e.op e.reply l.0 in
    ap (λ (x : Event). x ∷ map event_of (map saved_event h)) one ∙ ap (λ (x : List Event). e ∷ x) (lines_tell (next till a e.op) h l.1)

-- a list of one has one
only : (b x : Block) (place : ℕ) → slice_get (b ∷ []) place ≡ Some x → (place ≡ 0) × (x ≡ b)
only b x zero e = (refl, sym (same_Some b x e))
only b x (suc i) e = absurd (none-some x e)

-- the block that is read is the block that was written
block_back : (d e : RingView ℕ) (bytes : List ℕ) (place seats : ℕ) → IsSavedText d bytes → (from : IsResumedFrom bytes place seats e) → (place ≡ 0) × (block_of from.at.ring ≡ saved_block 0 d)
block_back d e bytes place seats t from =
    let rings : List SavedRing = from.saved.rings.items in
    let read : IsRightRead (text (saved_alone d)) (Ok from.saved) = subst (λ (bs : List ℕ). IsRightRead bs (Ok from.saved)) t.text.spelled from.read in
    let same : content from.saved ≡ saved_alone d = sym (spellings_are_apart text_reads (saved_alone d) (content from.saved) [] t.fits read.0 (append-nil (text (saved_alone d)) ∙ read.1)).0 in
    let blocks : map block_of rings ≡ saved_block 0 d ∷ [] = ap (λ (c : Content). c.rings) same in
    let there : slice_get (map block_of rings) place ≡ Some (block_of from.at.ring) = slice_get-map block_of rings place ∙ ap (option_map block_of) from.at.at in
    only (saved_block 0 d) (block_of from.at.ring) place (subst (λ (bs : List Block). slice_get bs place ≡ Some (block_of from.at.ring)) blocks there)

-- a client is known by its place, the history and its surveys
client_back : (d e : RingView ℕ) → IsOneThreadRing till 0 d → IsOneThreadRing till 0 e → e.book.history ≡ d.book.history → surveys_told e.clients ≡ surveys_told d.clients →
    (seat : ℕ) (c : LogView) → seat < length d.clients → seat < length e.clients → get_or e.clients seat c ≡ get_or d.clients seat c
client_back d e one two history told seat c here there =
    let was : IsClient till 0 d.book seat (get_or d.clients seat c) = one.each seat c here in
    let is : IsClient till 0 e.book seat (get_or e.clients seat c) = two.each seat c there in
    let surveys : surveys_in (get_or e.clients seat c).log ≡ surveys_in (get_or d.clients seat c).log =
    same_surveys e.clients d.clients seat c (λ i x lt. (two.each i x lt).number) (λ i x lt. (one.each i x lt).number) told there here in
    let log : (get_or e.clients seat c).log ≡ (get_or d.clients seat c).log =
    only_log till (opening e.book.start 0) e.book.history seat (get_or e.clients seat c).log is.fits
    ∙ ((λ i. log_from seat 0 (history i) (surveys i)) ∙ sym (only_log till (opening d.book.start 0) d.book.history seat (get_or d.clients seat c).log was.fits)) in
    let number : (get_or e.clients seat c).number ≡ (get_or d.clients seat c).number = is.number ∙ sym was.number in
    λ i. record { number = number i; log = log i }

-- a ring that resumes the block of another is that ring again
pub ring_back : (d e : RingView ℕ) (saved : SavedRing) (seats : ℕ) → IsOneThreadRing till 0 d → block_of saved ≡ saved_block 0 d → IsResumedAs saved seats e → IsBackAs d e
ring_back d e saved seats ring same resumed =
    let history : e.book.history ≡ d.book.history = resumed.history ∙ (ap (λ (b : Block). map event_of b.events) same ∙ lines_tell (opening d.book.start 0) d.book.history ring.book.legal) in
    let surveys : surveys_told e.clients ≡ surveys_told d.clients = resumed.surveys ∙ ap (λ (b : Block). b.surveys) same in
    record {
      start = resumed.start ∙ ap (λ (b : Block). ring_with b.k b.start) same;
      history = history;
      surveys = surveys;
      clients = client_back d e ring resumed.right history surveys;
    }

pub comes_back : SavesComeBack
comes_back d e bytes place seats ring t from =
    let back = block_back d e bytes place seats t from in
    (back.0, ring_back d e from.at.ring seats ring back.1 from.at.resumed)
