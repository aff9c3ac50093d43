-- A history with the ring's own replies has the calls of the other: what depends only on calls is the same.
use Rattle.std.proofs.Common.{◌≡◌, ℕ, zero, suc, ◌+◌, ◌-◌, List, [], ◌∷◌, ◌++◌, length, take, map, Bool, true, cond, refl, sym, ◌∙◌, ap, eqb}
use Rattle.std.specs.Prelude.{nat_lt, ◌&&◌, ◌||◌, Option, None, Some}
use Rattle.std.proofs.lemmas.List.{length-map, map-append}
use Rattle.ring_model.specs.Groups.{left_of, left_after}
use Rattle.ring_model.specs.Replay.{machine_of}
use Rattle.ring_model.specs.Scanning.{opened}
use Rattle.ring_model.specs.declared.events.Op.{Op}
use Rattle.ring_model.specs.declared.events.Op.TheVariants.{Pass, Member, Corrupt}
use Rattle.ring_model.specs.declared.events.Reply.TheVariants.{NotPrivileged}
use Rattle.ring_model.specs.declared.events.Event.{Event}
use Rattle.ring_model.specs.History.{State, next, reply, after}
use Rattle.ring_model.specs.Resources.{till}
use Rattle.ring_check.specs.declared.answers.Kind.{Kind}
use Rattle.ring_check.specs.declared.answers.Kind.TheVariants.{Range, Reply as ReplyKind, Group}
use Rattle.ring_check.specs.Members.{run_behind, run_of, machines_of, is_member_of, goes_on, is_in_order, may_come}
use Rattle.ring_check.specs.Table.{in_range, is_replied, event_fault}
use Rattle.bad_lines.specs.declared.wrongs.Wrong.{Wrong}
use Rattle.bad_lines.specs.declared.wrongs.Wrong.TheVariants.{Disordered, Unfinished, Limit, Replied}
use Rattle.bad_lines.specs.declared.wrongs.Bad.{Bad}
use Rattle.bad_lines.specs.BadLines.{bad_of}
use Rattle.bad_lines.specs.Replays.{own, own_all}
use Rattle.bad_lines.specs.Wrongs.{group_wrong, range_wrong, event_wrong}

pub own_length : (a : State ℕ) (es : List Event) → length (own_all a es) ≡ length es
own_length a [] = refl
own_length a (e ∷ es) = ap (λ (n : ℕ). suc n) (own_length (next till a e.op) es)

pub own_take : (p : ℕ) (a : State ℕ) (es : List Event) → take p (own_all a es) ≡ own_all a (take p es)
own_take zero a es = refl
own_take (suc p) a [] = refl
own_take (suc p) a (e ∷ es) = ap (λ (u : List Event). own a e ∷ u) (own_take p (next till a e.op) es)

pub own_push : (a : State ℕ) (es : List Event) (e : Event) → own_all a (es ++ e ∷ []) ≡ own_all a es ++ own (after till a es) e ∷ []
own_push a [] e = refl
own_push a (d ∷ es) e = ap (λ (u : List Event). own a d ∷ u) (own_push (next till a d.op) es e)

pub own_after : (a : State ℕ) (es : List Event) → after till a (own_all a es) ≡ after till a es
own_after a [] = refl
own_after a (e ∷ es) = own_after (next till a e.op) es

pub own_left : (a : State ℕ) (es : List Event) → left_after (own_all a es) ≡ left_after es
own_left a [] = refl
own_left a (e ∷ []) = refl
own_left a (e ∷ f ∷ es) = own_left (next till a e.op) (f ∷ es)

-- an event without its reply
call : Event → Event
call e = record e { reply = NotPrivileged }

calls : List Event → List Event
calls h = map call h

own_calls : (a : State ℕ) (es : List Event) → calls (own_all a es) ≡ calls es
unfolding calls call
own_calls a [] = refl
own_calls a (e ∷ es) = ap (λ (u : List Event). call e ∷ u) (own_calls (next till a e.op) es)

opened_calls : (left : ℕ) (run : List Event) → calls (opened left run) ≡ opened left (calls run)
unfolding calls
opened_calls zero run = refl
opened_calls (suc left) run = refl

run_calls : (run h : List Event) → calls (run_behind run h) ≡ run_behind (calls run) (calls h)
unfolding calls call
run_calls run [] = refl
run_calls run (e ∷ es) =
    run_calls (opened (left_of e.op) (run ++ e ∷ [])) es
    ∙ ap (λ (u : List Event). run_behind u (calls es)) (opened_calls (left_of e.op) (run ++ e ∷ []))
    ∙ ap (λ (u : List Event). run_behind (opened (left_of e.op) u) (calls es)) (map-append call run (e ∷ []))

goes_calls : (run : List Event) (seat order left : ℕ) → goes_on (calls run) seat order left ≡ goes_on run seat order left
unfolding calls call
goes_calls [] seat order left = refl
goes_calls (d ∷ []) seat order left = refl
goes_calls (c ∷ d ∷ es) seat order left = goes_calls (d ∷ es) seat order left

machines_calls : (run : List Event) → machines_of (calls run) ≡ machines_of run
unfolding calls call
machines_calls [] = refl
machines_calls (e ∷ es) = ap (λ (u : List ℕ). machine_of e.op ∷ u) (machines_calls es)

length_calls : (run : List Event) → length (calls run) ≡ length run
unfolding calls
length_calls run = length-map run call

may_calls : (n : ℕ) (run : List Event) (seat : ℕ) (o : Op) (r : _) →
    (let e : Event = record { seat = seat; op = o; reply = r } in may_come n (calls run) e ≡ may_come n run e)
may_calls n run seat (Pass machine order) r = ap (λ (x : ℕ). eqb x 0) (length_calls run)
may_calls n run seat (Member machine order left) r =
    ap (λ (x : Bool). nat_lt (left + 1) n && (x && (nat_lt 0 left || is_in_order n (machines_of (calls run) ++ machine ∷ [])))) (goes_calls run seat order left)
    ∙ ap (λ (u : List ℕ). nat_lt (left + 1) n && (goes_on run seat order left && (nat_lt 0 left || is_in_order n (u ++ machine ∷ [])))) (machines_calls run)
may_calls n run seat (Corrupt machine value) r = ap (λ (x : ℕ). eqb x 0) (length_calls run)

-- two runs with the same calls
same_calls : (a : State ℕ) (es : List Event) → calls (run_of (own_all a es)) ≡ calls (run_of es)
unfolding calls
same_calls a es =
    run_calls [] (own_all a es)
    ∙ ap (λ (u : List Event). run_behind [] u) (own_calls a es)
    ∙ sym (run_calls [] es)

pub own_goes : (a : State ℕ) (es : List Event) (seat order left : ℕ) → goes_on (run_of (own_all a es)) seat order left ≡ goes_on (run_of es) seat order left
own_goes a es seat order left =
    sym (goes_calls (run_of (own_all a es)) seat order left)
    ∙ ap (λ (u : List Event). goes_on u seat order left) (same_calls a es)
    ∙ goes_calls (run_of es) seat order left

pub own_may : (n : ℕ) (a : State ℕ) (es : List Event) (e : Event) → may_come n (run_of (own_all a es)) e ≡ may_come n (run_of es) e
own_may n a es e =
    sym (may_calls n (run_of (own_all a es)) e.seat e.op e.reply)
    ∙ ap (λ (u : List Event). may_come n u e) (same_calls a es)
    ∙ may_calls n (run_of es) e.seat e.op e.reply

own_group : (n : ℕ) (a : State ℕ) (es : List Event) (last seat : ℕ) (o : Op) → group_wrong n (run_of (own_all a es)) last seat o ≡ group_wrong n (run_of es) last seat o
own_group n a es last seat (Pass machine order) = refl
own_group n a es last seat (Member machine order left) =
    ap (λ (x : Bool). cond (nat_lt (left + 1) n) (cond x Disordered (Unfinished (last - 1))) (Limit left (n - 1))) (own_goes a es seat order left)
own_group n a es last seat (Corrupt machine value) = refl

-- so the fault of an event after a history is that after the other
pub own_bad : (n : ℕ) (a b : State ℕ) (h : List Event) (last : ℕ) (e : Event) →
    bad_of (event_fault n (run_of (own_all a h)) b e) (event_wrong n (run_of (own_all a h)) last b e) ≡ bad_of (event_fault n (run_of h) b e) (event_wrong n (run_of h) last b e)
own_bad n a b h last e =
    ap (λ (x : Bool). bad_of (cond (in_range n b.ring.k e) (cond (is_replied b e) (cond x None (Some Group)) (Some ReplyKind)) (Some Range)) (event_wrong n (run_of (own_all a h)) last b e)) (own_may n a h e)
    ∙ ap (λ (w : Wrong). bad_of (event_fault n (run_of h) b e) (cond (in_range n b.ring.k e) (cond (is_replied b e) w (Replied e.reply (reply till b e.op))) (range_wrong n b.ring.k e))) (own_group n a h last e.seat e.op)
