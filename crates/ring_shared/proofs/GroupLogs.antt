-- The effect of a group on a ring that is held, and the receipts that its seat gets of it.
use Rattle.std.proofs.Common.{rules, ◌≡◌, refl, ℕ, suc, ◌+◌, ◌-◌, ◌<◌, ◌≤◌, List, [], ◌∷◌, ◌++◌, length, take, drop, length-append, length-drop, sym, ◌∙◌, ap, subst, arith}
use Rattle.std.proofs.lemmas.List.{length-take-le, take_all}
use Rattle.std.proofs.lemmas.List.Elements.{All-append}
use Rattle.ring_state.specs.Sizes.{Size}
use Rattle.ring_model.specs.Ring.{Ring}
use Rattle.ring_model.specs.History.{Works}
use Rattle.ring_model.specs.Groups.{move_order, AreMembers, IsBlockOf}
use Rattle.ring_model.specs.declared.events.Event.{Event}
use Rattle.ring_model.proofs.Orders.{order_length}
use Rattle.ring_model.proofs.Wholes.{members_length}
use Rattle.ring_book.specs.BookView.{BookView, IsBook}
use Rattle.ring_book.specs.GroupView.{HasMoved, IsGroupRecorded}
use Rattle.ring_book.specs.declared.books.groups.GroupReceipt.{GroupReceipt}
use Rattle.ring_logs.specs.Seats.{AreOfSeats, receipts_from}
use Rattle.ring_logs.proofs.Groups.{group_events}
use Rattle.ring_shared.specs.Client.{Client}
use Rattle.ring_shared.specs.Groups.{IsGroupLogged}
use Rattle.ring_shared.specs.Holding.{IsHeld}

members_seats : (n seat order : ℕ) (ms : List ℕ) (es : List Event) → seat < n → AreMembers seat order ms es → AreOfSeats n es
members_seats n seat order [] es l m = subst (λ (x : List Event). AreOfSeats n x) (sym m) (search rules)
members_seats n seat order (k ∷ ms) [] l m = absurd m
members_seats n seat order (k ∷ ms) (e ∷ es) l m =
    let q : e.seat ≡ seat = m.0 in
    let here : e.seat < n = omega arith in
    let more : AreOfSeats n es = members_seats n seat order ms es l m.2 in
    search rules

pub group_held : {C : Type 0} (w : Works C) (first : C) (start : Ring) (seats : ℕ) (legal : List Event → Type 0) (old new : BookView C) (seat order : ℕ) (machines : List ℕ) →
    IsHeld w first start seats legal old → IsBook w first new → seat < seats → HasMoved w old new seat order machines → IsHeld w first start seats legal new
group_held w first start seats legal old new seat order machines k b l m = record {
  book = b;
  begins = m.same_start ∙ k.begins;
  of_seats = subst (λ (h : List Event). AreOfSeats seats h) (sym m.grown)
      (All-append (λ (e : Event). e.seat < seats) old.history m.events k.of_seats (members_seats seats seat order (move_order machines) m.events l m.block.members));
  means_legal = k.means_legal;
}

-- the number of machines of a ring that is held
pub held_size : {C : Type 0} (w : Works C) (first : C) (start : Ring) (seats : ℕ) (legal : List Event → Type 0) (b : BookView C) → IsHeld w first start seats legal b →
    length b.now.ring.values ≡ length start.values
held_size w first start seats legal b k = ap (λ (z : Size). z.n) k.book.same_size ∙ ap (λ (r : Ring). length r.values) k.begins

-- they are as many as its machines
pub group_count : {C : Type 0} (w : Works C) (old new : BookView C) (seat order : ℕ) (machines : List ℕ) (r : GroupReceipt) (g : IsGroupRecorded w old new seat order machines r) →
    length g.moved.events ≡ length machines
group_count w old new seat order machines r g = members_length seat order (move_order machines) g.moved.events g.moved.block.members ∙ order_length machines

-- as they are in a slice of the history
pub group_receipts : {C : Type 0} (w : Works C) (old new : BookView C) (seat order : ℕ) (machines : List ℕ) (r : GroupReceipt) → IsGroupRecorded w old new seat order machines r →
    length (take (length new.history - r.first) (drop r.first new.history)) ≡ length machines
group_receipts w old new seat order machines r g =
    let m : length g.moved.events ≡ length machines = group_count w old new seat order machines r g in
    let e : length (drop r.first new.history) ≡ length g.moved.events = ap (λ (es : List Event). length es) (group_events w old new seat order machines r g) in
    let d : length (drop r.first new.history) ≡ length new.history - r.first = length-drop r.first new.history in
    let t : length (take (length new.history - r.first) (drop r.first new.history)) ≡ length new.history - r.first = length-take-le (length new.history - r.first) (drop r.first new.history) (omega arith) in
    omega arith

-- a seat that saw the whole history then has the group's receipts
pub group_logged : {C : Type 0} (w : Works C) (n room : ℕ) (old new : BookView C) (a b : Client) (order : ℕ) (machines : List ℕ) (r : GroupReceipt) →
    length old.now.ring.values ≡ n → IsGroupRecorded w old new a.number order machines r →
    b ≡ record { number = a.number; log = a.log ++ receipts_from r.first (drop r.first new.history); seen = new.history; room = room } → a.room ≤ room + length machines → IsGroupLogged n a b order machines r
group_logged w n room old new a b order machines r size g is takes =
    let cut : drop r.first new.history ≡ g.moved.events = group_events w old new a.number order machines r g in
    record {
      events = g.moved.events;
      block = subst (λ (x : ℕ). IsBlockOf x a.number order (move_order machines) g.moved.events) size g.moved.block;
      count = g.count;
      number = ap (λ (c : Client). c.number) is;
      logged = ap (λ (c : Client). c.log) is ∙ ap (λ (es : List Event). a.log ++ receipts_from r.first es) cut;
      room = (let kept : b.room ≡ room = ap (λ (c : Client). c.room) is in omega arith);
      past = old.history;
      seen = ap (λ (c : Client). c.seen) is ∙ g.moved.grown;
      first = sym g.first;
    }

-- a receipt for each event
pub receipts_length : (position : ℕ) (es : List Event) → length (receipts_from position es) ≡ length es
receipts_length position [] = refl
receipts_length position (e ∷ es) = ap suc (receipts_length (position + 1) es)

-- the history has grown by the events from the group's first position on
pub group_grown : {C : Type 0} (w : Works C) (old new : BookView C) (seat order : ℕ) (machines : List ℕ) (r : GroupReceipt) (front read : List Event) → IsGroupRecorded w old new seat order machines r →
    front ≡ old.history → read ≡ new.history → new.history ≡ front ++ take (length read - r.first) (drop r.first read)
group_grown w old new seat order machines r front read g is there =
    let d : length (drop r.first new.history) ≡ length new.history - r.first = length-drop r.first new.history in
    let whole : take (length new.history - r.first) (drop r.first new.history) ≡ drop r.first new.history = take_all (length new.history - r.first) (drop r.first new.history) (omega arith) in
    rw (there, is) (g.moved.grown ∙ ap (λ (es : List Event). old.history ++ es) (sym (whole ∙ group_events w old new seat order machines r g)))

pub group_longer : {C : Type 0} (w : Works C) (old new : BookView C) (seat order : ℕ) (machines : List ℕ) (r : GroupReceipt) (shown : List Event) → IsGroupRecorded w old new seat order machines r →
    shown ≡ old.history → 1 ≤ length machines → length shown < length new.history
group_longer w old new seat order machines r shown g is some =
    let m : length g.moved.events ≡ length machines = group_count w old new seat order machines r g in
    let all : length new.history ≡ length (old.history ++ g.moved.events) = ap (λ (h : List Event). length h) g.moved.grown in
    let both : length (old.history ++ g.moved.events) ≡ length old.history + length g.moved.events = length-append old.history g.moved.events in
    let same : length shown ≡ length old.history = ap (λ (h : List Event). length h) is in
    omega arith
