-- Spoiled answers of a group.
use Rattle.std.proofs.Common.{◌≡◌, ℕ, suc, ◌+◌, ◌-◌, ◌<◌, ◌≤◌, List, [], ◌∷◌, ◌++◌, length, take, ap, sym, ◌∙◌, subst, arith, length-append}
use Rattle.ring_model.specs.History.{Works, State}
use Rattle.ring_model.specs.Groups.{Rises, AreMembers, IsHistory, move_order, left_after}
use Rattle.ring_model.specs.declared.events.Op.TheVariants.{Member}
use Rattle.ring_model.specs.declared.events.Event.{Event}
use Rattle.ring_model.specs.declared.events.Entry.{Entry}
use Rattle.ring_model.proofs.Orders.{move_order_law}
use Rattle.ring_model.proofs.Wholes.{members_length, left_rest, whole_left, members_left as open_front}
use Rattle.ring_book.specs.declared.books.groups.GroupReceipt.{GroupReceipt}
use Rattle.ring_shared.specs.Client.{Client, IsUnchanged}
use Rattle.ring_shared.specs.Groups.{IsGroupLogged}
use Rattle.ring_shared.specs.Seats.{receipts_from}
use Rattle.wrong_shared_bodies.proofs.Ends.{behind}

-- the members of a block are of one order
one_order : (seat order other : ℕ) (ms ns : List ℕ) (es : List Event) → 1 ≤ length ms → 1 ≤ length ns → AreMembers seat order ms es → AreMembers seat other ns es → order ≡ other
one_order seat order other [] ns es one some a b = absurd (omega arith)
one_order seat order other (m ∷ ms) [] es one some a b = absurd (omega arith)
one_order seat order other (m ∷ ms) (n ∷ ns) [] one some a b = absurd a
one_order seat order other (m ∷ ms) (n ∷ ns) (e ∷ es) one some a b =
    let same : Member m order (length ms) ≡ Member n other (length ns) = sym a.1 ∙ b.1 in
    cc (same)

-- the receipts that a seat has of a group have its order
pub order_told : (n : ℕ) (before after : Client) (order other : ℕ) (machines : List ℕ) (r : GroupReceipt) →
    IsGroupLogged n before after order machines r → IsGroupLogged n before after other machines r → order ≡ other
order_told n before after order other machines r a b =
    let events : a.events ≡ b.events = behind a.past b.past a.events b.events (a.first ∙ sym b.first) (sym a.seen ∙ b.seen) in
    one_order before.number order other (move_order machines) (move_order machines) b.events a.block.in_order.some b.block.in_order.some
    (subst (λ (x : List Event). AreMembers before.number order (move_order machines) x) events a.block.members) b.block.members

-- it says how long the block is
block_size : (n : ℕ) (before after : Client) (order : ℕ) (machines : List ℕ) (r : GroupReceipt) → IsGroupLogged n before after order machines r →
    length after.seen ≡ r.first + length (move_order machines)
block_size n before after order machines r a =
    omega (arith, ap (λ (x : List Event). length x) a.seen, length-append a.past a.events, a.first, members_length before.number order (move_order machines) a.events a.block.members)

-- and where it begins
pub first_told : (n : ℕ) (before after : Client) (order : ℕ) (machines : List ℕ) (r s : GroupReceipt) →
    IsGroupLogged n before after order machines r → IsGroupLogged n before after order machines s → r.first ≡ s.first
first_told n before after order machines r s a b =
    omega (arith, block_size n before after order machines r a, block_size n before after order machines s b)

-- and how many machines passed
pub size_told : (n : ℕ) (before after : Client) (order : ℕ) (machines fewer : List ℕ) (r s : GroupReceipt) → Rises 0 n machines → Rises 0 n fewer →
    1 ≤ length fewer → length fewer < length machines → length machines < n → r.first ≡ s.first →
    IsGroupLogged n before after order fewer r → IsGroupLogged n before after order machines s → ⊥
size_told n before after order machines fewer r s all few one less out same a b =
    omega (
      arith,
      block_size n before after order fewer r a,
      block_size n before after order machines s b,
      same,
      (move_order_law n machines all (omega arith) out).size,
      (move_order_law n fewer few one (omega arith)).size,
    )

receipts_some : (first : ℕ) (es : List Event) → 1 ≤ length es → 1 ≤ length (receipts_from first es)
receipts_some first [] some = absurd (omega arith)
receipts_some first (e ∷ es) some = omega arith

-- it lengthens the log
pub log_grown : (n : ℕ) (before after : Client) (order : ℕ) (machines : List ℕ) (r : GroupReceipt) → IsGroupLogged n before after order machines r → IsUnchanged before after → ⊥
log_grown n before after order machines r a same =
    let some : 1 ≤ length a.events = omega (arith, a.block.in_order.some, members_length before.number order (move_order machines) a.events a.block.members) in
    let logged : 1 ≤ length (receipts_from r.first a.events) = receipts_some r.first a.events some in
    omega (arith, ap (λ (x : List Entry). length x) a.logged, length-append before.log (receipts_from r.first a.events), ap (λ (x : List Entry). length x) same.log)

-- a prefix of the seen events with just one member after it is not a history
take_part : (past events : List Event) (k : ℕ) → take (length past + k) (past ++ events) ≡ past ++ take k events
take_part [] events k = let n : 0 + k ≡ k = omega arith in ap (λ (i : ℕ). take i events) n
take_part (e ∷ past) events k =
    let n : length (e ∷ past) + k ≡ suc (length past + k) = omega arith in
    ap (λ (i : ℕ). take i (e ∷ past ++ events)) n ∙ ap (λ (x : List Event). e ∷ x) (take_part past events k)

pub piece_seen : {C : Type 0} (w : Works C) (a : State C) (n : ℕ) (before after : Client) (order : ℕ) (machines : List ℕ) (r : GroupReceipt) → Rises 0 n machines →
    2 ≤ length machines → length machines < n → IsGroupLogged n before after order machines r → IsHistory w a (take (length after.seen - 1) after.seen) → ⊥
piece_seen w a n before after order machines r rises two out h history =
    let size : length (move_order machines) ≡ length machines = (move_order_law n machines rises (omega arith) out).size in
    let events : length h.events ≡ length machines = members_length before.number order (move_order machines) h.events h.block.members ∙ size in
    let all : length after.seen ≡ length h.past + length h.events = ap (λ (x : List Event). length x) h.seen ∙ length-append h.past h.events in
    let cut : length after.seen - 1 ≡ length h.past + (length machines - 1) = omega arith in
    let front : take (length after.seen - 1) after.seen ≡ h.past ++ take (length machines - 1) h.events =
    ap (λ (i : ℕ). take i after.seen) cut ∙ (ap (λ (x : List Event). take (length h.past + (length machines - 1)) x) h.seen ∙ take_part h.past h.events (length machines - 1)) in
    let none : left_after (h.past ++ take (length machines - 1) h.events) ≡ 0 =
    subst (λ (x : List Event). left_after x ≡ 0) front (whole_left (length a.ring.values) (take (length after.seen - 1) after.seen) history.1) in
    let rest : left_after (take (length machines - 1) h.events) ≡ 0 = left_rest h.past (take (length machines - 1) h.events) none in
    omega (arith, rest, open_front before.number order (move_order machines) h.events (length machines - 1) h.block.members (omega arith) (omega arith), size)
