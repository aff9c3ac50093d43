-- The seat, the first pass and the end of a row of repairs.
use Rattle.std.proofs.Common.{◌≡◌, ℕ, true, false, List, [], ◌∷◌, ◌++◌, append_assoc, refl, sym, ◌∙◌, ap, subst}
use Rattle.std.proofs.lemmas.List.{append_cancel_left}
use Rattle.std.proofs.lemmas.Bool.{both_ways}
use Rattle.ring_model.specs.Ring.{first_privileged, is_settled}
use Rattle.ring_model.specs.History.{Works, State, next, after}
use Rattle.ring_model.specs.declared.events.Op.{Op}
use Rattle.ring_model.specs.declared.events.Op.TheVariants.{Pass, Member, Corrupt}
use Rattle.ring_model.specs.declared.events.Event.{Event}
use Rattle.ring_model.specs.declared.events.Receipt.{Receipt}
use Rattle.ring_book.specs.BookView.{BookView, IsRecorded}
use Rattle.ring_book.specs.Repairs.{AreRepairs, IsRepairedBy}

-- two seats of the same repairs are one, where there is a repair
one_seat : {C : Type 0} (w : Works C) (a : State C) (seat other : ℕ) (passes : List Event) → AreRepairs w a seat passes → AreRepairs w a other passes →
    (passes ≡ [] → ⊥) → other ≡ seat
one_seat w a seat other [] h k some = absurd (some refl)
one_seat w a seat other (e ∷ es) h k some = sym k.1 ∙ h.1

-- the repairs that settled an open ring are those of one seat
pub repairs_tell_the_seat : {C : Type 0} (w : Works C) (old new : BookView C) (seat other : ℕ) (p q : List Event) → IsRepairedBy w old new seat p → IsRepairedBy w old new other q →
    is_settled old.now.ring.values ≡ false → is_settled new.now.ring.values ≡ true → other ≡ seat
repairs_tell_the_seat {C = C} w old new seat other p q h k unsettled settled =
    let same : p ≡ q = append_cancel_left old.history p q (sym h.grown ∙ k.grown) in
    let P : List Event → Type 0 = λ (es : List Event). AreRepairs w old.now seat es in
    one_seat w old.now seat other q (subst P same h.repairs) k.repairs
    (λ none. both_ways (is_settled old.now.ring.values) unsettled
    (sym (ap (λ (s : State C). is_settled s.ring.values) (k.now ∙ ap (after w old.now) none)) ∙ settled))

-- repairs that begin with a recorded pass, and continue with others
begins : {C : Type 0} (w : Works C) (old mid new : BookView C) (seat : ℕ) (op : Op) (r : Receipt) (q p : List Event) → IsRecorded w old mid seat op r →
    IsRepairedBy w mid new seat q → IsRepairedBy w old new seat p → AreRepairs w old.now seat (r.event ∷ q)
begins w old mid new seat op r q p made rest h =
    let all : new.history ≡ old.history ++ r.event ∷ q = rest.grown ∙ (ap (λ (front : List Event). front ++ q) made.grown ∙ append_assoc old.history (r.event ∷ []) q) in
    let same : p ≡ r.event ∷ q = append_cancel_left old.history p (r.event ∷ q) (sym h.grown ∙ all) in
    let P : List Event → Type 0 = λ (es : List Event). AreRepairs w old.now seat es in
    subst P same h.repairs

machine_of : Op → ℕ
machine_of (Pass machine order) = machine
machine_of (Member machine order left) = machine
machine_of (Corrupt machine value) = machine

order_of : Op → ℕ
order_of (Pass machine order) = order
order_of (Member machine order left) = order
order_of (Corrupt machine value) = 0

same_machine : (m n o p : ℕ) → Pass m o ≡ Pass n p → m ≡ n
unfolding machine_of
same_machine m n o p e = ap machine_of e

same_order : (m n o p : ℕ) → Pass m o ≡ Pass n p → o ≡ p
unfolding order_of
same_order m n o p e = ap order_of e

-- the first is by the first privileged machine
pub repairs_tell_the_first : {C : Type 0} (w : Works C) (old mid new : BookView C) (seat machine order : ℕ) (r : Receipt) (q p : List Event) →
    IsRecorded w old mid seat (Pass machine order) r → IsRepairedBy w mid new seat q → IsRepairedBy w old new seat p → machine ≡ first_privileged old.now.ring.values
repairs_tell_the_first w old mid new seat machine order r q p made rest h =
    same_machine machine (first_privileged old.now.ring.values) order 0 (sym made.of_call ∙ (begins w old mid new seat (Pass machine order) r q p made rest h).2)

-- and has the order 0
pub repairs_tell_the_order : {C : Type 0} (w : Works C) (old mid new : BookView C) (seat machine order : ℕ) (r : Receipt) (q p : List Event) →
    IsRecorded w old mid seat (Pass machine order) r → IsRepairedBy w mid new seat q → IsRepairedBy w old new seat p → order ≡ 0
repairs_tell_the_order w old mid new seat machine order r q p made rest h =
    same_order machine (first_privileged old.now.ring.values) order 0 (sym made.of_call ∙ (begins w old mid new seat (Pass machine order) r q p made rest h).2)

-- before the last repair the ring is not settled
last_is_open : {C : Type 0} (w : Works C) (a : State C) (seat : ℕ) (es : List Event) (e : Event) → AreRepairs w a seat (es ++ e ∷ []) → is_settled (after w a es).ring.values ≡ false
last_is_open w a seat [] e h = h.0
last_is_open w a seat (d ∷ es) e h = last_is_open w (next w a d.op) seat es e h.5

-- so no pass after them is one
pub repairs_end : {C : Type 0} (w : Works C) (old mid new : BookView C) (seat : ℕ) (op : Op) (r : Receipt) (q p : List Event) → IsRepairedBy w old mid seat q →
    IsRecorded w mid new seat op r → IsRepairedBy w old new seat p → is_settled mid.now.ring.values ≡ true → ⊥
repairs_end {C = C} w old mid new seat op r q p front made h settled =
    let all : new.history ≡ old.history ++ (q ++ r.event ∷ []) =
    made.grown ∙ (ap (λ (xs : List Event). xs ++ r.event ∷ []) front.grown ∙ append_assoc old.history q (r.event ∷ [])) in
    let same : p ≡ q ++ r.event ∷ [] = append_cancel_left old.history p (q ++ r.event ∷ []) (sym h.grown ∙ all) in
    let P : List Event → Type 0 = λ (es : List Event). AreRepairs w old.now seat es in
    let unsettled = last_is_open w old.now seat q r.event (subst P same h.repairs) in
    both_ways (is_settled (after w old.now q).ring.values) unsettled (ap (λ (s : State C). is_settled s.ring.values) (sym front.now) ∙ settled)
