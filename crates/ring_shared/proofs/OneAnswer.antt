-- A ring's call and a ring's group call have one answer.
use Rattle.std.proofs.Common.{◌≡◌, ℕ, zero, suc, ◌+◌, List, [], ◌∷◌, ◌++◌, length, take, Some, slice_get, refl, ap, sym, ◌∙◌, subst, arith, length-append}
use Rattle.ring_model.specs.History.{Works, State, after, next, reply, IsLegal}
use Rattle.ring_model.specs.Groups.{AreMembers, move_order}
use Rattle.ring_model.specs.declared.events.Op.{Op}
use Rattle.ring_model.specs.declared.events.Reply.{Reply}
use Rattle.ring_model.specs.declared.events.Event.{Event}
use Rattle.ring_model.specs.declared.events.Receipt.{Receipt}
use Rattle.ring_model.specs.declared.events.Entry.{Entry}
use Rattle.ring_model.specs.declared.events.Entry.TheVariants as entry
use Rattle.ring_model.proofs.Histories.{StepOf-reply, IsLegal-back, legal_step}
use Rattle.ring_book.specs.declared.books.groups.GroupReceipt.{GroupReceipt}
use Rattle.ring_book.proofs.OneAnswer.{one_answer}
use Rattle.ring_shared.specs.Client.{Client}
use Rattle.ring_logs.specs.Seats.{receipts_from}
use Rattle.ring_shared.specs.OneAnswer.{CallsAreToldAlike, GroupsAreToldAlike, CallsHaveOneOutcome, GroupsHaveOneOutcome}
use Rattle.ring_shared.proofs.Prefixes.{prefix_take}

-- a list whose last element is at p
last_at : {A : Type 0} (xs : List A) (p : ℕ) (x : A) → length xs ≡ p + 1 → slice_get xs p ≡ Some x → xs ≡ take p xs ++ x ∷ []
last_at [] p x n at = absurd (omega arith)
last_at (y ∷ []) zero x n at = cc (at)
last_at (y ∷ z ∷ ys) zero x n at = absurd (omega arith)
last_at (y ∷ ys) (suc p) x n at = ap (λ zs. y ∷ zs) (last_at ys p x (omega arith) at)

-- the rests of two equal lists after prefixes of one length
behind : {A : Type 0} (front back xs ys : List A) → length front ≡ length back → front ++ xs ≡ back ++ ys → (front ≡ back) × (xs ≡ ys)
behind [] [] xs ys n e = (refl, e)
behind [] (b ∷ back) xs ys n e = absurd (omega arith)
behind (f ∷ front) [] xs ys n e = absurd (omega arith)
behind (f ∷ front) (b ∷ back) xs ys n e =
    let tails : front ++ xs ≡ back ++ ys = cc (e) in
    let rest = behind front back xs ys (omega arith) tails in
    let heads : f ≡ b = cc (e) in
    (cc (heads, rest.0), rest.1)

abbrev event_with : ℕ → Op → Reply → Event
event_with s o r = record { seat = s; op = o; reply = r }

same_event : (d e : Event) → d.seat ≡ e.seat → d.op ≡ e.op → d.reply ≡ e.reply → d ≡ e
same_event d e s o r =
    ap (λ (x : ℕ). event_with x d.op d.reply) s ∙ (ap (λ (x : Op). event_with e.seat x d.reply) o ∙ ap (λ (x : Reply). event_with e.seat e.op x) r)

abbrev receipt_with : ℕ → Event → Receipt
receipt_with p e = record { position = p; event = e }

same_receipt : (r s : Receipt) → r.position ≡ s.position → r.event ≡ s.event → r ≡ s
same_receipt r s p e = ap (λ (x : ℕ). receipt_with x r.event) p ∙ ap (λ (x : Event). receipt_with s.position x) e

abbrev block_with : ℕ → ℕ → GroupReceipt
block_with first count = record { first = first; count = count }

same_block : (r s : GroupReceipt) → r.first ≡ s.first → r.count ≡ s.count → r ≡ s
same_block r s f c = ap (λ (x : ℕ). block_with x r.count) f ∙ ap (λ (x : ℕ). block_with s.first x) c

-- the members of a group, from one state on, are determined
members_alike : {C : Type 0} (w : Works C) (a : State C) (seat order : ℕ) (ms : List ℕ) (ds es : List Event) →
    AreMembers seat order ms ds → AreMembers seat order ms es → IsLegal w a ds → IsLegal w a es → ds ≡ es
members_alike w a seat order [] ds es d e l k = d ∙ sym e
members_alike w a seat order (m ∷ ms) [] es d e l k = absurd d
members_alike w a seat order (m ∷ ms) (x ∷ ds) [] d e l k = absurd e
members_alike w a seat order (m ∷ ms) (x ∷ ds) (y ∷ es) d e l k =
    let op : x.op ≡ y.op = d.1 ∙ sym e.1 in
    let one : x.reply ≡ reply w a x.op = StepOf-reply w a x.op x.reply (next w a x.op) l.0 in
    let other : y.reply ≡ reply w a y.op = StepOf-reply w a y.op y.reply (next w a y.op) k.0 in
    let same : x ≡ y = same_event x y (d.0 ∙ sym e.0) op (one ∙ (ap (λ (o : Op). reply w a o) op ∙ sym other)) in
    let rest : ds ≡ es = members_alike w (next w a x.op) seat order ms ds es d.2 e.2 l.1 (subst (λ (o : Op). IsLegal w (next w a o) es) (sym op) k.1) in
    cc (same, rest)

pub calls_are_told_alike : {C : Type 0} → CallsAreToldAlike C
calls_are_told_alike {C} w a before one other op r s h k same =
    let one_is : one.seen ≡ take r.position one.seen ++ r.event ∷ [] = last_at one.seen r.position r.event h.last h.event in
    let other_is : other.seen ≡ take s.position other.seen ++ s.event ∷ [] = last_at other.seen s.position s.event k.last k.event in
    let one_legal : IsLegal w a (take r.position one.seen ++ r.event ∷ []) = subst (λ (x : List Event). IsLegal w a x) one_is h.legal_and_whole.0 in
    let other_legal : IsLegal w a (take s.position other.seen ++ s.event ∷ []) = subst (λ (x : List Event). IsLegal w a x) other_is k.legal_and_whole.0 in
    let one_says : r.event.reply ≡ reply w (after w a (take r.position one.seen)) r.event.op =
    StepOf-reply w (after w a (take r.position one.seen)) r.event.op r.event.reply (next w (after w a (take r.position one.seen)) r.event.op) (legal_step w a (take r.position one.seen) r.event [] one_legal) in
    let other_says : s.event.reply ≡ reply w (after w a (take s.position other.seen)) s.event.op =
    StepOf-reply w (after w a (take s.position other.seen)) s.event.op s.event.reply (next w (after w a (take s.position other.seen)) s.event.op) (legal_step w a (take s.position other.seen) s.event [] other_legal) in
    let calls : r.event.op ≡ s.event.op = h.of_call ∙ sym k.of_call in
    let position : r.position ≡ s.position =
    omega (arith, ap length one_is, length-append (take r.position one.seen) (r.event ∷ []), h.last, ap length other_is, length-append (take s.position other.seen) (s.event ∷ []), k.last, ap length same) in
    let replies : r.event.reply ≡ s.event.reply =
    one_says ∙ (ap (λ (x : List Event). reply w (after w a x) r.event.op) same ∙ (ap (λ (o : Op). reply w (after w a (take s.position other.seen)) o) calls ∙ sym other_says)) in
    let event : r.event ≡ s.event = same_event r.event s.event (h.of_seat ∙ sym k.of_seat) calls replies in
    let receipt : r ≡ s = same_receipt r s position event in
    let log : one.log ≡ other.log = h.logged ∙ (ap (λ (x : Receipt). before.log ++ entry.Receipt x ∷ []) receipt ∙ sym k.logged) in
    let seen : one.seen ≡ other.seen = one_is ∙ (ap (λ (x : List Event). x ++ r.event ∷ []) same ∙ (ap (λ (x : Event). take s.position other.seen ++ x ∷ []) event ∙ sym other_is)) in
    (receipt, record { number = h.number ∙ sym k.number; log = log; seen = seen })

pub groups_are_told_alike : {C : Type 0} → GroupsAreToldAlike C
groups_are_told_alike {C} w a n before one other order machines r s h k same =
    let mine : take r.first one.seen ≡ h.told.past = subst (λ (i : ℕ). take i one.seen ≡ h.told.past) h.told.first (prefix_take h.told.past one.seen (h.told.events, sym h.told.seen)) in
    let yours : take s.first other.seen ≡ k.told.past = subst (λ (i : ℕ). take i other.seen ≡ k.told.past) k.told.first (prefix_take k.told.past other.seen (k.told.events, sym k.told.seen)) in
    let pasts : h.told.past ≡ k.told.past = sym mine ∙ (same ∙ yours) in
    let one_legal : IsLegal w (after w a h.told.past) h.told.events = IsLegal-back w a h.told.past h.told.events (subst (λ (x : List Event). IsLegal w a x) h.told.seen h.legal_and_whole.0) in
    let other_legal : IsLegal w (after w a k.told.past) k.told.events = IsLegal-back w a k.told.past k.told.events (subst (λ (x : List Event). IsLegal w a x) k.told.seen k.legal_and_whole.0) in
    let events : h.told.events ≡ k.told.events =
    members_alike w (after w a h.told.past) before.number order (move_order machines) h.told.events k.told.events h.told.block.members k.told.block.members
    one_legal (subst (λ (x : List Event). IsLegal w (after w a x) k.told.events) (sym pasts) other_legal) in
    let first : r.first ≡ s.first = sym h.told.first ∙ (ap length pasts ∙ k.told.first) in
    let block : r ≡ s = same_block r s first (h.told.count ∙ sym k.told.count) in
    let receipts : receipts_from r.first h.told.events ≡ receipts_from s.first k.told.events =
    ap (λ (i : ℕ). receipts_from i h.told.events) first ∙ ap (λ (x : List Event). receipts_from s.first x) events in
    let log : one.log ≡ other.log = h.told.logged ∙ (ap (λ (x : List Entry). before.log ++ x) receipts ∙ sym k.told.logged) in
    let seen : one.seen ≡ other.seen =
    h.told.seen ∙ (ap (λ (x : List Event). x ++ h.told.events) pasts ∙ (ap (λ (x : List Event). k.told.past ++ x) events ∙ sym k.told.seen)) in
    (block, record { number = h.told.number ∙ sym k.told.number; log = log; seen = seen })

pub calls_have_one_outcome : {C : Type 0} {legal : List Event → Type 0} → CallsHaveOneOutcome C legal
calls_have_one_outcome {C} {legal} w first start seats old one other before after then op r s h k =
    let both = one_answer w old one other before.number op r s h.recorded k.recorded in
    let event : r.event ≡ s.event = same_event r.event s.event both.seat both.op both.reply in
    let receipt : r ≡ s = same_receipt r s both.position event in
    let history : one.history ≡ other.history = h.recorded.grown ∙ (ap (λ (x : Event). old.history ++ x ∷ []) event ∙ sym k.recorded.grown) in
    let log : after.log ≡ then.log =
    ap (λ (c : Client). c.log) h.logged ∙ (ap (λ (x : Receipt). before.log ++ entry.Receipt x ∷ []) receipt ∙ sym (ap (λ (c : Client). c.log) k.logged)) in
    let seen : after.seen ≡ then.seen = ap (λ (c : Client). c.seen) h.logged ∙ (history ∙ sym (ap (λ (c : Client). c.seen) k.logged)) in
    let number : after.number ≡ then.number = ap (λ (c : Client). c.number) h.logged ∙ sym (ap (λ (c : Client). c.number) k.logged) in
    (receipt, record { start = both.start; now = both.now; history = history }, record { number = number; log = log; seen = seen })

pub groups_have_one_outcome : {C : Type 0} {legal : List Event → Type 0} → GroupsHaveOneOutcome C legal
groups_have_one_outcome {C} {legal} w first start seats old one other before then last order machines r s h k =
    let m = h.recorded.moved in
    let n = k.recorded.moved in
    let events : m.events ≡ n.events =
    members_alike w old.now before.number order (move_order machines) m.events n.events m.block.members n.block.members m.legal n.legal in
    let place : r.first ≡ s.first = h.recorded.first ∙ sym k.recorded.first in
    let block : r ≡ s = same_block r s place (h.recorded.count ∙ sym k.recorded.count) in
    let history : one.history ≡ other.history = m.grown ∙ (ap (λ (x : List Event). old.history ++ x) events ∙ sym n.grown) in
    let now : one.now ≡ other.now = m.now ∙ (ap (λ (x : List Event). after w old.now x) events ∙ sym n.now) in
    let mine : h.told.past ++ h.told.events ≡ old.history ++ m.events = sym h.told.seen ∙ (h.all ∙ m.grown) in
    let yours : k.told.past ++ k.told.events ≡ old.history ++ n.events = sym k.told.seen ∙ (k.all ∙ n.grown) in
    let one_told : h.told.events ≡ m.events = (behind h.told.past old.history h.told.events m.events (h.told.first ∙ h.recorded.first) mine).1 in
    let other_told : k.told.events ≡ n.events = (behind k.told.past old.history k.told.events n.events (k.told.first ∙ k.recorded.first) yours).1 in
    let told : h.told.events ≡ k.told.events = one_told ∙ (events ∙ sym other_told) in
    let receipts : receipts_from r.first h.told.events ≡ receipts_from s.first k.told.events =
    ap (λ (i : ℕ). receipts_from i h.told.events) place ∙ ap (λ (x : List Event). receipts_from s.first x) told in
    let log : then.log ≡ last.log = h.told.logged ∙ (ap (λ (x : List Entry). before.log ++ x) receipts ∙ sym k.told.logged) in
    let seen : then.seen ≡ last.seen = h.all ∙ (history ∙ sym k.all) in
    (block, record { start = m.same_start ∙ sym n.same_start; now = now; history = history }, record { number = h.told.number ∙ sym k.told.number; log = log; seen = seen })
