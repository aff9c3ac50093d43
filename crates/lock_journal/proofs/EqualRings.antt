-- Rings that are the same, room aside, stay so when the same calls are made.
use Rattle.std.proofs.Common.{◌≡◌, ℕ, List, [], ◌∷◌, ◌++◌, sym, ◌∙◌, ap, subst}
use Rattle.ring_model.specs.History.{State}
use Rattle.ring_model.specs.Ring.{Ring}
use Rattle.ring_model.specs.Resources.{till}
use Rattle.ring_model.specs.declared.events.Op.{Op}
use Rattle.ring_model.specs.declared.events.Reply.{Reply}
use Rattle.ring_model.specs.declared.events.Event.{Event}
use Rattle.ring_model.specs.declared.events.Receipt.{Receipt}
use Rattle.ring_logs.specs.LogView.{LogView}
use Rattle.ring_book.specs.BookView.{BookView, IsRecorded}
use Rattle.ring_book.proofs.OneAnswer.{one_answer}
use Rattle.one_thread_ring.specs.Rings.{told_more}
use Rattle.endless_ring.specs.Endless.{EndlessView, IsSameEndless, IsCalled}
use Rattle.held_locks.specs.Locks.{Mark, Survey, Call}
use Rattle.held_locks.specs.Kept.{AreMade}
use Rattle.held_locks.proofs.Calls.{same_twice}
use Rattle.ring_model.specs.declared.events.Entry.TheVariants as entry

book_back : (b c : BookView ℕ) → c ≡ record b { room = c.room } → b ≡ record c { room = b.room }
book_back b c e = ap (λ (x : BookView ℕ). record x { room = b.room }) (sym e)

pub same_back : (a b : EndlessView) → IsSameEndless a b → IsSameEndless b a
same_back a b s = record { base = sym s.base; ring = record { book = book_back a.ring.book b.ring.book s.ring.book; clients = sym s.ring.clients } }

-- two that are the same as two that are the same
pub same_across : (a b c d : EndlessView) → IsSameEndless a b → IsSameEndless a c → IsSameEndless b d → IsSameEndless c d
same_across a b c d s p q = same_twice c a d (same_back a c p) (same_twice a b d s q)

pub book_is : (start : Ring) (r s : Ring) (x y : State ℕ) (h k : List Event) (m n : ℕ) → s ≡ r → y ≡ x → k ≡ h →
    ◌≡◌ {A = BookView ℕ} (record { start = s; now = y; history = k; room = n }) (record { start = r; now = x; history = h; room = n })
book_is start r s x y h k m n e f g =
    ap (λ (z : Ring). record { start = z; now = y; history = k; room = n }) e
    ∙ ap (λ (z : State ℕ). record { start = r; now = z; history = k; room = n }) f
    ∙ ap (λ (z : List Event). record { start = r; now = x; history = z; room = n }) g

event_is : (s t : ℕ) (o p : Op) (x y : Reply) → s ≡ t → o ≡ p → x ≡ y → ◌≡◌ {A = Event} (record { seat = s; op = o; reply = x }) (record { seat = t; op = p; reply = y })
event_is s t o p x y e f g =
    ap (λ (z : ℕ). record { seat = z; op = o; reply = x }) e
    ∙ ap (λ (z : Op). record { seat = t; op = z; reply = x }) f
    ∙ ap (λ (z : Reply). record { seat = t; op = p; reply = z }) g

receipt_is : (m n : ℕ) (e f : Event) → m ≡ n → e ≡ f → ◌≡◌ {A = Receipt} (record { position = m; event = e }) (record { position = n; event = f })
receipt_is m n e f p q = ap (λ (z : ℕ). record { position = z; event = e }) p ∙ ap (λ (z : Event). record { position = n; event = z }) q

-- one call of each
pub called_same : (a b c d : EndlessView) (seat : ℕ) (o : Op) (r s : Receipt) → IsSameEndless a b → IsCalled a c seat o r → IsCalled b d seat o s → IsSameEndless c d
called_same a b c d seat o r s same p q =
    let t : IsRecorded till (record a.ring.book { room = b.ring.book.room }) d.ring.book seat o q.local = subst (λ (x : BookView ℕ). IsRecorded till x d.ring.book seat o q.local) same.ring.book q.recorded in
    let there : IsRecorded till a.ring.book d.ring.book seat o q.local = record { step = t.step; grown = t.grown; position = t.position; of_seat = t.of_seat; of_call = t.of_call; same_start = t.same_start } in
    let one = one_answer till a.ring.book c.ring.book d.ring.book seat o p.local q.local p.recorded there in
    let event : p.local.event ≡ q.local.event = event_is p.local.event.seat q.local.event.seat p.local.event.op q.local.event.op p.local.event.reply q.local.event.reply one.seat one.op one.reply in
    let local : p.local ≡ q.local = receipt_is p.local.position q.local.position p.local.event q.local.event one.position event in
    let history : d.ring.book.history ≡ c.ring.book.history = there.grown ∙ ap (λ (x : Event). a.ring.book.history ++ x ∷ []) (sym event) ∙ sym p.recorded.grown in
    let clients : d.ring.clients ≡ c.ring.clients = q.logged ∙ ap (λ (x : List LogView). told_more x seat (entry.Receipt q.local ∷ [])) same.ring.clients ∙ ap (λ (x : Receipt). told_more a.ring.clients seat (entry.Receipt x ∷ [])) (sym local) ∙ sym p.logged in record {
      base = q.base ∙ same.base ∙ sym p.base;
      ring = record {
        book = book_is c.ring.book.start c.ring.book.start d.ring.book.start c.ring.book.now d.ring.book.now c.ring.book.history d.ring.book.history c.ring.book.room d.ring.book.room (sym one.start) (sym one.now) history;
        clients = clients;
      };
    }

-- the same marks
pub made_same : (a b c d : EndlessView) (ms : List Mark) → IsSameEndless a b → AreMade a ms c → AreMade b ms d → IsSameEndless c d
made_same a b c d [] s p q = same_across a b c d s p q
made_same a b c d (Call e ∷ ms) s p q =
    let now = same_across a b p.0 q.0 s p.3 q.3 in
    made_same p.1 q.1 c d ms (called_same p.0 q.0 p.1 q.1 e.seat e.op p.2 q.2 now p.4 q.4) p.6 q.6
made_same a b c d (Survey seat ∷ ms) s p q = made_same a b c d ms s p q
