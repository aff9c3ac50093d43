-- The open block after a history, and which events may come after it, as tests and as defined.
use Rattle.std.proofs.Common.{◌≡◌, ℕ, zero, suc, ◌+◌, ◌-◌, ◌<◌, ◌≤◌, List, [], ◌∷◌, ◌++◌, length, get_or, take, map, true, refl, sym, ◌∙◌, ap, subst, arith, eqb, length-append}
use Rattle.std.specs.Prelude.{nat_lt, ◌&&◌, ◌||◌}
use Rattle.std.proofs.lemmas.List.{length-map}
use Rattle.ring_model.specs.Groups.{left_of, left_after}
use Rattle.ring_model.specs.Replay.{machine_of}
use Rattle.ring_model.specs.Scanning.{and_member, members_of, opened, GoesOn, EndsWell, MayCome}
use Rattle.ring_model.specs.declared.events.Op.{Op}
use Rattle.ring_model.specs.declared.events.Op.TheVariants.{Pass, Member, Corrupt}
use Rattle.ring_model.specs.declared.events.Event.{Event}
use Rattle.ring_check.specs.Members.{run_behind, run_of, machines_of, is_member_of, goes_on, is_in_order, call_may_come}
use Rattle.ring_check.proofs.Booleans.{both, joined, same, below, eq_true, lt_true}
use Rattle.saved_history.specs.declared.saved.SavedEvent.{SavedEvent}
use Rattle.ring_check.specs.Table.{event_of}
use Rattle.ring_check.specs.Meaning.{MembersMean}
use Rattle.ring_check.proofs.GroupOrders.{order_means, order_true}

-- one event more

behind_push : (run h : List Event) (e : Event) → run_behind run (h ++ e ∷ []) ≡ opened (left_of e.op) (run_behind run h ++ e ∷ [])
behind_push run [] e = refl
behind_push run (d ∷ h) e = behind_push (opened (left_of d.op) (run ++ d ∷ [])) h e

pub run_push : (h : List Event) (e : Event) → run_of (h ++ e ∷ []) ≡ opened (left_of e.op) (run_of h ++ e ∷ [])
run_push h e = behind_push [] h e

-- each event of a run is a member: there are some left after it
abbrev pub IsOpen : List Event → Type 0
IsOpen [] = Unit {0}
IsOpen (e ∷ es) = (1 ≤ left_of e.op) × IsOpen es

open_push : (run : List Event) (e : Event) → IsOpen run → 1 ≤ left_of e.op → IsOpen (run ++ e ∷ [])
open_push [] e o l = (l, tt)
open_push (d ∷ run) e o l = (o.0, open_push run e o.1 l)

open_next : (left : ℕ) (run : List Event) (e : Event) → left_of e.op ≡ left → IsOpen run → IsOpen (opened left (run ++ e ∷ []))
open_next zero run e l o = tt
open_next (suc left) run e l o = open_push run e o (omega arith)

open_behind : (run h : List Event) → IsOpen run → IsOpen (run_behind run h)
open_behind run [] o = o
open_behind run (e ∷ h) o = open_behind (opened (left_of e.op) (run ++ e ∷ [])) h (open_next (left_of e.op) run e refl o)

pub run_open : (h : List Event) → IsOpen (run_of h)
run_open h = open_behind [] h tt

-- the machines of a run are its members' machines
member_named : (o : Op) (ms : List ℕ) → 1 ≤ left_of o → machine_of o ∷ ms ≡ and_member o ms
member_named (Pass machine order) ms l = absurd (omega arith)
member_named (Member machine order left) ms l = refl
member_named (Corrupt machine value) ms l = absurd (omega arith)

open_named : (run : List Event) → IsOpen run → machines_of run ≡ members_of run
open_named [] o = refl
open_named (e ∷ run) o = ap (λ (u : List ℕ). machine_of e.op ∷ u) (open_named run o.1) ∙ member_named e.op (members_of run) o.0

-- a run is empty just where none are left after the last event
behind_left : (run h : List Event) (e : Event) → run_behind run (h ++ e ∷ []) ≡ [] → left_of e.op ≡ 0
behind_left run h e q = go (left_of e.op) refl (sym (behind_push run h e) ∙ q)
  where
    go : (left : ℕ) → left_of e.op ≡ left → opened left (run_behind run h ++ e ∷ []) ≡ [] → left_of e.op ≡ 0
    go zero l p = l
    go (suc left) l p =
        let n : length (run_behind run h ++ e ∷ []) ≡ length (run_behind run h) + 1 = length-append (run_behind run h) (e ∷ []) in
        let z : length (run_behind run h ++ e ∷ []) ≡ 0 = ap (λ (u : List Event). length u) p in
        absurd (omega arith)

-- the tests

member_means : (order left : ℕ) (o : Op) → is_member_of order left o ≡ true → (machine : ℕ) × (o ≡ Member machine order left)
member_means order left (Pass machine o) e = absurd (cc)
member_means order left (Member machine o l) e =
    let p = both (eqb o order) (eqb l left) e in
    let a : o ≡ order = same o order p.0 in
    let b : l ≡ left = same l left p.1 in
    (machine, rw (a, b) refl)
member_means order left (Corrupt machine value) e = absurd (cc)

member_true : (order left machine : ℕ) (o : Op) → o ≡ Member machine order left → is_member_of order left o ≡ true
member_true order left machine o e =
    ap (λ (x : Op). is_member_of order left x) e ∙ joined (eqb order order) (eqb left left) (eq_true order order refl) (eq_true left left refl)

goes_means : (run : List Event) (seat order left : ℕ) → goes_on run seat order left ≡ true → GoesOn run seat order left
goes_means [] seat order left e = tt
goes_means (d ∷ []) seat order left e =
    let p = both (eqb d.seat seat) (is_member_of order (left + 1) d.op) e in
    (same d.seat seat p.0, member_means order (left + 1) d.op p.1)
goes_means (c ∷ d ∷ es) seat order left e = goes_means (d ∷ es) seat order left e

goes_true : (run : List Event) (seat order left : ℕ) → GoesOn run seat order left → goes_on run seat order left ≡ true
goes_true [] seat order left g = refl
goes_true (d ∷ []) seat order left g =
    joined (eqb d.seat seat) (is_member_of order (left + 1) d.op) (eq_true d.seat seat g.0) (member_true order (left + 1) g.1.0 d.op g.1.1)
goes_true (c ∷ d ∷ es) seat order left g = goes_true (d ∷ es) seat order left g

-- a member that continues a run does so after its last
pub goes_last : (run : List Event) (d : Event) (seat order left : ℕ) → 0 < length run → goes_on run seat order left ≡ goes_on (get_or run (length run - 1) d ∷ []) seat order left
goes_last [] d seat order left l = absurd (omega arith)
goes_last (e ∷ []) d seat order left l = refl
goes_last (c ∷ e ∷ es) d seat order left l =
    goes_last (e ∷ es) d seat order left (omega arith)
    ∙ (let i : length (c ∷ e ∷ es) - 1 ≡ suc (length (e ∷ es) - 1) = omega arith in
    ap (λ (x : ℕ). goes_on (get_or (c ∷ e ∷ es) x d ∷ []) seat order left) (sym i))

none_means : (run : List Event) → eqb (length run) 0 ≡ true → run ≡ []
none_means [] e = refl
none_means (d ∷ run) e = let z : length (d ∷ run) ≡ 0 = same (length (d ∷ run)) 0 e in absurd (omega arith)

ends_means : (n left : ℕ) (ms : List ℕ) → 1 ≤ length ms → (nat_lt 0 left || is_in_order n ms) ≡ true → EndsWell n ms left
ends_means n zero ms some e = order_means n ms some e
ends_means n (suc left) ms some e = tt

ends_true : (n left : ℕ) (ms : List ℕ) → EndsWell n ms left → (nat_lt 0 left || is_in_order n ms) ≡ true
ends_true n zero ms w = order_true n ms w
ends_true n (suc left) ms w = let l : nat_lt 0 (suc left) ≡ true = lt_true 0 (suc left) (omega arith) in rw l refl

pub come_means : (n : ℕ) (run : List Event) (seat : ℕ) (o : Op) → IsOpen run → call_may_come n run seat o ≡ true → MayCome n run seat o
come_means n run seat (Pass machine order) is e = none_means run e
come_means n run seat (Member machine order left) is e =
    let ms = machines_of run ++ machine ∷ [] in
    let p = both (nat_lt (left + 1) n) (goes_on run seat order left && (nat_lt 0 left || is_in_order n ms)) e in
    let q = both (goes_on run seat order left) (nat_lt 0 left || is_in_order n ms) p.1 in
    let long : length ms ≡ length (machines_of run) + 1 = length-append (machines_of run) (machine ∷ []) in (
      below (left + 1) n p.0,
      goes_means run seat order left q.0,
      subst (λ (u : List ℕ). EndsWell n (u ++ machine ∷ []) left) (open_named run is) (ends_means n left ms (omega arith) q.1),
    )
come_means n run seat (Corrupt machine value) is e = none_means run e

pub come_true : (n : ℕ) (run : List Event) (seat : ℕ) (o : Op) → IsOpen run → MayCome n run seat o → call_may_come n run seat o ≡ true
come_true n run seat (Pass machine order) is m = ap (λ (u : List Event). eqb (length u) 0) m
come_true n run seat (Member machine order left) is m =
    let ends = subst (λ (u : List ℕ). EndsWell n (u ++ machine ∷ []) left) (sym (open_named run is)) m.2 in
    joined (nat_lt (left + 1) n) _ (lt_true (left + 1) n m.0)
    (joined (goes_on run seat order left) _ (goes_true run seat order left m.1) (ends_true n left (machines_of run ++ machine ∷ []) ends))
come_true n run seat (Corrupt machine value) is m = ap (λ (u : List Event). eqb (length u) 0) m

pub members_mean : MembersMean
members_mean n h e = (come_means n (run_of h) e.seat e.op (run_open h), come_true n (run_of h) e.seat e.op (run_open h))

-- the events and the machines of lines
pub event_at : (es : List SavedEvent) (i : ℕ) (d : SavedEvent) → get_or (map event_of es) i (event_of d) ≡ event_of (get_or es i d)
event_at [] i d = refl
event_at (e ∷ es) zero d = refl
event_at (e ∷ es) (suc i) d = event_at es i d

pub machine_told : (es : List SavedEvent) (i : ℕ) (d : SavedEvent) (ms : List ℕ) → i < length es →
    get_or (machines_of (map event_of es) ++ ms) i 0 ≡ machine_of (event_of (get_or es i d)).op
machine_told [] i d ms l = absurd (omega arith)
machine_told (e ∷ es) zero d ms l = refl
machine_told (e ∷ es) (suc i) d ms l = machine_told es i d ms (omega arith)

pub machine_last : (es : List SavedEvent) (m : ℕ) → get_or (machines_of (map event_of es) ++ m ∷ []) (length es) 0 ≡ m
machine_last [] m = refl
machine_last (e ∷ es) m = machine_last es m

pub machines_long : (es : List SavedEvent) (m : ℕ) → length (machines_of (map event_of es) ++ m ∷ []) ≡ length es + 1
machines_long [] m = refl
machines_long (e ∷ es) m = let h = machines_long es m in omega arith

pub goes_last_line : (es : List SavedEvent) (d : SavedEvent) (seat order left : ℕ) → 0 < length es →
    goes_on (map event_of es) seat order left ≡ goes_on (event_of (get_or es (length es - 1) d) ∷ []) seat order left
goes_last_line es d seat order left l =
    let n : length (map event_of es) ≡ length es = length-map es event_of in
    goes_last (map event_of es) (event_of d) seat order left (omega arith)
    ∙ ap (λ (x : ℕ). goes_on (get_or (map event_of es) (x - 1) (event_of d) ∷ []) seat order left) n
    ∙ ap (λ (x : Event). goes_on (x ∷ []) seat order left) (event_at es (length es - 1) d)

-- how many are left after the last of the first n events
left_taken : (h : List Event) (p : ℕ) (d : Event) → p < length h → left_after (take (suc p) h) ≡ left_of (get_or h p d).op
left_taken [] p d l = absurd (omega arith)
left_taken (e ∷ []) zero d l = refl
left_taken (e ∷ []) (suc p) d l = absurd (omega arith)
left_taken (e ∷ f ∷ h) zero d l = refl
left_taken (e ∷ f ∷ h) (suc p) d l = left_taken (f ∷ h) p d (omega arith)

pub left_told : (es : List SavedEvent) (place : ℕ) (d : SavedEvent) → 0 < place → place ≤ length es →
    left_after (take place (map event_of es)) ≡ left_of (event_of (get_or es (place - 1) d)).op
left_told es place d some l =
    let n : length (map event_of es) ≡ length es = length-map es event_of in
    let s : place ≡ suc (place - 1) = omega arith in
    ap (λ (x : ℕ). left_after (take x (map event_of es))) s ∙ left_taken (map event_of es) (place - 1) (event_of d) (omega arith)
    ∙ ap (λ (e : Event). left_of e.op) (event_at es (place - 1) d)
