-- The seat, the order and the members of a group's block.
use Rattle.std.proofs.Common.{◌≡◌, ℕ, ◌≤◌, Bool, true, false, List, [], ◌∷◌, ◌++◌, length, append_assoc, sym, ◌∙◌, ap, subst, arith}
use Rattle.std.proofs.lemmas.List.{append_cancel_left}
use Rattle.std.proofs.lemmas.Bool.{false≢true}
use Rattle.ring_model.specs.History.{Works}
use Rattle.ring_model.specs.Groups.{AreMembers, move_order}
use Rattle.ring_model.specs.declared.events.Op.{Op}
use Rattle.ring_model.specs.declared.events.Op.TheVariants.{Pass, Member, Corrupt}
use Rattle.ring_model.specs.declared.events.Event.{Event}
use Rattle.ring_model.specs.declared.events.Receipt.{Receipt}
use Rattle.ring_model.proofs.Orders.{order_length}
use Rattle.ring_model.proofs.Wholes.{members_length}
use Rattle.ring_book.specs.BookView.{BookView, IsRecorded}
use Rattle.ring_book.specs.GroupView.{HasMoved, IsGroupRecorded}
use Rattle.ring_book.specs.declared.books.groups.GroupReceipt.{GroupReceipt}

order_of : Op → ℕ
order_of (Pass machine order) = 0
order_of (Member machine order left) = order
order_of (Corrupt machine value) = 0

left_of : Op → ℕ
left_of (Pass machine order) = 0
left_of (Member machine order left) = left
left_of (Corrupt machine value) = 0

is_member : Op → Bool
is_member (Pass machine order) = false
is_member (Member machine order left) = true
is_member (Corrupt machine value) = false

same_order : (m n o p l k : ℕ) → Member m o l ≡ Member n p k → o ≡ p
unfolding order_of
same_order m n o p l k e = ap order_of e

same_left : (m n o p l k : ℕ) → Member m o l ≡ Member n p k → l ≡ k
unfolding left_of
same_left m n o p l k e = ap left_of e

no_member : (m n o p l : ℕ) → Pass m o ≡ Member n p l → ⊥
unfolding is_member
no_member m n o p l e = false≢true (ap is_member e)

none_is_some : (e : Event) (es : List Event) → e ∷ es ≡ [] → ⊥
none_is_some e es q = let l : length (e ∷ es) ≡ length {A = Event} [] = ap length q in omega arith

-- members have their seat and their order
members_tell : (seat other order another : ℕ) (ms ns : List ℕ) (es : List Event) → AreMembers seat order ms es → AreMembers other another ns es → 1 ≤ length ms →
    (other ≡ seat) × (another ≡ order)
members_tell seat other order another [] ns es h k some = absurd (omega arith)
members_tell seat other order another (m ∷ ms) ns [] h k some = absurd h
members_tell seat other order another (m ∷ ms) [] (e ∷ es) h k some = absurd (none_is_some e es k)
members_tell seat other order another (m ∷ ms) (n ∷ ns) (e ∷ es) h k some =
    (sym k.0 ∙ h.0, same_order n m another order (length ns) (length ms) (sym k.1 ∙ h.1))

-- two groups in the same place have the same events
same_events : {C : Type 0} (w : Works C) (old new : BookView C) (seat other order another : ℕ) (ms ns : List ℕ) (h : HasMoved w old new seat order ms) (k : HasMoved w old new other another ns) →
    h.events ≡ k.events
same_events w old new seat other order another ms ns h k = append_cancel_left old.history h.events k.events (sym h.grown ∙ k.grown)

tell : {C : Type 0} (w : Works C) (old new : BookView C) (seat other order another : ℕ) (ms ns : List ℕ) (r s : GroupReceipt) → IsGroupRecorded w old new seat order ms r →
    IsGroupRecorded w old new other another ns s → (other ≡ seat) × (another ≡ order)
tell w old new seat other order another ms ns r s h k =
    let P : List Event → Type 0 = λ (es : List Event). AreMembers seat order (move_order ms) es in
    members_tell seat other order another (move_order ms) (move_order ns) k.moved.events
    (subst P (same_events w old new seat other order another ms ns h.moved k.moved) h.moved.block.members) k.moved.block.members h.moved.block.in_order.some

pub group_tells_the_seat : {C : Type 0} (w : Works C) (old new : BookView C) (seat other order : ℕ) (ms : List ℕ) (r s : GroupReceipt) → IsGroupRecorded w old new seat order ms r →
    IsGroupRecorded w old new other order ms s → other ≡ seat
group_tells_the_seat w old new seat other order ms r s h k = (tell w old new seat other order order ms ms r s h k).0

pub group_tells_the_order : {C : Type 0} (w : Works C) (old new : BookView C) (seat order other : ℕ) (ms : List ℕ) (r s : GroupReceipt) → IsGroupRecorded w old new seat order ms r →
    IsGroupRecorded w old new seat other ms s → other ≡ order
group_tells_the_order w old new seat order other ms r s h k = (tell w old new seat seat order other ms ms r s h k).1

-- as many events as machines
many_events : {C : Type 0} (w : Works C) (old new : BookView C) (seat order : ℕ) (ms : List ℕ) (h : HasMoved w old new seat order ms) → length h.events ≡ length ms
many_events w old new seat order ms h = members_length seat order (move_order ms) h.events h.block.members ∙ order_length ms

pub group_tells_the_length : {C : Type 0} (w : Works C) (old new : BookView C) (seat order : ℕ) (ms ns : List ℕ) (r s : GroupReceipt) → IsGroupRecorded w old new seat order ms r →
    IsGroupRecorded w old new seat order ns s → length ms ≡ length ns
group_tells_the_length w old new seat order ms ns r s h k =
    sym (many_events w old new seat order ms h.moved) ∙ (ap length (same_events w old new seat seat order order ms ns h.moved k.moved) ∙ many_events w old new seat order ns k.moved)

-- the first member has the number of those after it
first_left : (seat order : ℕ) (ms ns : List ℕ) (es more : List Event) → AreMembers seat order ms es → length ms ≡ 1 → AreMembers seat order ns (es ++ more) → length ns ≡ 1
first_left seat order [] ns es more h one k = absurd (omega arith)
first_left seat order (m ∷ ms) ns [] more h one k = absurd h
first_left seat order (m ∷ ms) [] (e ∷ es) more h one k = absurd (none_is_some e (es ++ more) k)
first_left seat order (m ∷ ms) (n ∷ ns) (e ∷ es) more h one k =
    let same : length ms ≡ length ns = same_left m n order order (length ms) (length ns) (sym h.1 ∙ k.1) in
    omega arith

-- so a group of several is not a group of one with another after it
pub pieces_are_no_group : {C : Type 0} (w : Works C) (old mid new : BookView C) (seat order m : ℕ) (ns ms : List ℕ) (r s t : GroupReceipt) →
    IsGroupRecorded w old mid seat order (m ∷ []) r → IsGroupRecorded w mid new seat order ns s → IsGroupRecorded w old new seat order ms t → 2 ≤ length ms → ⊥
pieces_are_no_group w old mid new seat order m ns ms r s t h k g several =
    let all : new.history ≡ old.history ++ (h.moved.events ++ k.moved.events) =
    k.moved.grown ∙ (ap (λ (front : List Event). front ++ k.moved.events) h.moved.grown ∙ append_assoc old.history h.moved.events k.moved.events) in
    let same : g.moved.events ≡ h.moved.events ++ k.moved.events = append_cancel_left old.history g.moved.events (h.moved.events ++ k.moved.events) (sym g.moved.grown ∙ all) in
    let P : List Event → Type 0 = λ (es : List Event). AreMembers seat order (move_order ms) es in
    let one = first_left seat order (move_order (m ∷ [])) (move_order ms) h.moved.events k.moved.events h.moved.block.members (order_length (m ∷ [])) (subst P same g.moved.block.members) in
    let many : length (move_order ms) ≡ length ms = order_length ms in
    omega arith

-- nor is a call by itself
alone : (seat order m o : ℕ) (ns : List ℕ) (e : Event) (es : List Event) → e.op ≡ Pass m o → AreMembers seat order ns (e ∷ es) → ⊥
alone seat order m o [] e es pass k = none_is_some e es k
alone seat order m o (n ∷ ns) e es pass k = no_member m n o order (length ns) (sym pass ∙ k.1)

pub a_pass_is_no_group : {C : Type 0} (w : Works C) (old new : BookView C) (seat m order : ℕ) (ms : List ℕ) (r : Receipt) (t : GroupReceipt) →
    IsRecorded w old new seat (Pass m order) r → IsGroupRecorded w old new seat order ms t → ⊥
a_pass_is_no_group w old new seat m order ms r t h g =
    let same : g.moved.events ≡ r.event ∷ [] = append_cancel_left old.history g.moved.events (r.event ∷ []) (sym g.moved.grown ∙ h.grown) in
    let P : List Event → Type 0 = λ (es : List Event). AreMembers seat order (move_order ms) es in
    alone seat order m order (move_order ms) r.event [] h.of_call (subst P same g.moved.block.members)
