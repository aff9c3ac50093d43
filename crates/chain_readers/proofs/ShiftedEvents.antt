-- The events of a legal segment, shifted, are those of its history, shifted.
use Rattle.std.proofs.Common.{◌≡◌, ℕ, ◌+◌, ◌-◌, ◌^◌, ◌≤◌, ◌<◌, List, [], ◌∷◌, ◌++◌, length, map, take, min, cond, Bool, true, false, refl, sym, ◌∙◌, ap, subst, arith}
use Rattle.std.proofs.lemmas.List.{map-append, length-map}
use Rattle.ring_model.specs.History.{Works, State, StepOf, opening, next, after, IsLegal}
use Rattle.ring_model.specs.Resources.{till, add_order}
use Rattle.ring_model.specs.declared.events.Op.{Op}
use Rattle.ring_model.specs.declared.events.Op.TheVariants.{Pass, Member as MemberOp, Corrupt}
use Rattle.ring_model.specs.declared.events.Reply.{Reply}
use Rattle.ring_model.specs.declared.events.Reply.TheVariants.{Granted as GrantedReply, NotPrivileged, Corrupted as CorruptedReply}
use Rattle.ring_model.specs.declared.events.Event.{Event}
use Rattle.saved_history.specs.declared.saved.SavedEvent.{SavedEvent}
use Rattle.saved_history.specs.declared.saved.SavedEvent.TheVariants.{Granted, Refused, Member, Corrupted}
use Rattle.ring_check.specs.Table.{event_of}
use Rattle.ring_model.specs.declared.bases.Base.{Base}
use Rattle.ring_model.specs.Bases.{no_base, shifted_reply, shifted_event as moved, shifted}
use Rattle.segment_files.specs.Sums.{capped}
use Rattle.chain_readers.specs.Joining.{shifted_event}

-- a sum that needs no cap
fits : (a b m : ℕ) → a + b ≤ m → min (a + b) m ≡ a + b
fits a b m le = omega arith

pub uncapped : (a b : ℕ) → a + b ≤ 2 ^ 64 - 1 → capped (a + b) ≡ a + b
uncapped a b le = fits a b (2 ^ 64 - 1) le

-- grants rise by one at most
grants_next : (a t : State ℕ) (o : Op) (r : Reply) → StepOf till a o r t → t.grants ≤ a.grants + 1
grants_next a t (Pass i order) (GrantedReply number result) h = let e = ap (λ (s : State ℕ). s.grants) h.4 in omega (arith, e)
grants_next a t (Pass i order) NotPrivileged h = let e = ap (λ (s : State ℕ). s.grants) h.2 in omega (arith, e)
grants_next a t (Pass i order) (CorruptedReply old) h = absurd h
grants_next a t (MemberOp i order left) (GrantedReply number result) h = let e = ap (λ (s : State ℕ). s.grants) h.4 in omega (arith, e)
grants_next a t (MemberOp i order left) NotPrivileged h = absurd h
grants_next a t (MemberOp i order left) (CorruptedReply old) h = absurd h
grants_next a t (Corrupt i v) (GrantedReply number result) h = absurd h
grants_next a t (Corrupt i v) NotPrivileged h = absurd h
grants_next a t (Corrupt i v) (CorruptedReply old) h = let e = ap (λ (s : State ℕ). s.grants) h.3 in omega (arith, e)

abbrev granting : ℕ → Op → ℕ → ℕ → Event
granting seat o number result = record { seat = seat; op = o; reply = GrantedReply number result }

-- one event, whose number needs no cap
event_moves : (b : Base) (a t : State ℕ) (e : SavedEvent) → b.grants + (a.grants + 1) ≤ 2 ^ 64 - 1 → StepOf till a (event_of e).op (event_of e).reply t
    → event_of (shifted_event b e) ≡ moved b (event_of e)
event_moves b a t (Granted seat machine order number result) le h =
    let is = h.2 in
    ap (λ (x : ℕ). granting seat (Pass machine order) x (capped (b.amount + result))) (uncapped b.grants number (omega (arith, is, le)))
event_moves b a t (Member seat machine order left number result) le h =
    let is = h.2 in
    ap (λ (x : ℕ). granting seat (MemberOp machine order left) x (capped (b.amount + result))) (uncapped b.grants number (omega (arith, is, le)))
event_moves b a t (Refused seat machine order) le h = refl
event_moves b a t (Corrupted seat machine value old) le h = refl

pub events_move : (b : Base) (a : State ℕ) (es : List SavedEvent) → b.grants + (a.grants + length es) ≤ 2 ^ 64 - 1 → IsLegal till a (map event_of es)
    → map event_of (map (shifted_event b) es) ≡ shifted b (map event_of es)
events_move b a [] le l = refl
events_move b a (e ∷ es) le l =
    let t : State ℕ = next till a (event_of e).op in
    let up : t.grants ≤ a.grants + 1 = grants_next a t (event_of e).op (event_of e).reply l.0 in
    ap (λ (x : Event). x ∷ map event_of (map (shifted_event b) es)) (event_moves b a t e (omega (arith, le)) l.0)
    ∙ ap (λ (xs : List Event). moved b (event_of e) ∷ xs) (events_move b t es (omega (arith, le, up)) l.1)

-- ---- with nothing before, events are not moved

plain : (n r m : ℕ) → r ≡ min n m → min (0 + r) m ≡ r
plain n r m e = omega (arith, e)

none_amount : (c o result : ℕ) → result ≡ add_order c o → add_order 0 result ≡ result
none_amount c o result e = plain (c + o) result (2 ^ 64 - 1) e

none_grant : (c o number result : ℕ) → result ≡ add_order c o → GrantedReply (0 + number) (add_order 0 result) ≡ GrantedReply number result
none_grant c o number result e =
    let z : 0 + number ≡ number = omega arith in
    ap (λ (x : ℕ). GrantedReply x (add_order 0 result)) z ∙ ap (λ (x : ℕ). GrantedReply number x) (none_amount c o result e)

none_reply : (a t : State ℕ) (o : Op) (r : Reply) → StepOf till a o r t → shifted_reply no_base r ≡ r
none_reply a t (Pass i order) (GrantedReply number result) h = none_grant a.content order number result h.3
none_reply a t (MemberOp i order left) (GrantedReply number result) h = none_grant a.content order number result h.3
none_reply a t (Corrupt i v) (GrantedReply number result) h = absurd h
none_reply a t o NotPrivileged h = refl
none_reply a t o (CorruptedReply old) h = refl

abbrev replied : Event → Reply → Event
replied e r = record { seat = e.seat; op = e.op; reply = r }

pub none_moves : (a : State ℕ) (h : List Event) → IsLegal till a h → shifted no_base h ≡ h
none_moves a [] l = refl
none_moves a (e ∷ h) l =
    ap (λ (r : Reply). replied e r ∷ shifted no_base h) (none_reply a (next till a e.op) e.op e.reply l.0)
    ∙ ap (λ (xs : List Event). e ∷ xs) (none_moves (next till a e.op) h l.1)
