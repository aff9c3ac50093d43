-- The judge accepts the lines of each step.
use Rattle.std.proofs.Common.{◌≡◌, ℕ, zero, suc, ◌<◌, Bool, true, false, List, [], ◌∷◌, length, Option, None, Some, inl, inr, refl, sym, ◌∙◌, ap, subst, arith, ◌+◌, ◌≤◌, ◌-◌, map}
use Rattle.std.specs.Prelude.{if◌then◌else◌, option_map, slice_get, nat_lt, ◌||◌, slice_set, is_some, slice_index}
use Rattle.std.proofs.lemmas.Bool.{false≢true, cases_Bool, ltb-true, ltb-false, lt-ltb, le-ltb}
use Rattle.std.proofs.lemmas.List.{map-set}
use Rattle.std.proofs.lemmas.Option.{slice_get-map}
use Rattle.ring_model.specs.Ring.{IsRing, is_settled}
use Rattle.ring_model.specs.History.{State, next, reply, after}
use Rattle.ring_model.specs.Resources.{till}
use Rattle.ring_model.specs.declared.events.Reply.{Reply}
use Rattle.ring_model.specs.declared.events.Event.{Event}
use Rattle.ring_model.proofs.Places.{set_ring}
use Rattle.held_locks.specs.declared.answers.Waiter.{Waiter}
use Rattle.held_locks.specs.declared.answers.Holder.{Holder}
use Rattle.held_locks.specs.declared.answers.Answer.{Answer}
use Rattle.held_locks.specs.Queues.{Lock, client_of, without}
use Rattle.held_locks.specs.Grants.{most_passes}
use Rattle.held_locks.specs.Locks.{Ask, Acquire, Try, Release, Cancel, Leave, Corrupt, Stats, Mark, Call, Turn, called, first_pass, granted, ended, repairs, fault, joined, told, turn, step_at}
use Rattle.held_locks.proofs.Rings.{grant_reply, grant_grants, grant_ring}
use Rattle.held_locks.proofs.Moves.{waiter, Move, Stays, Waits, Gets, Ends, Drops, Faults, move_of}
use Rattle.held_locks.proofs.Standing.{get_set_same}
use Rattle.lock_names.specs.Names.{Named, of_ring, fresh, at_ring, NamedStep, grants_at, kept, given, at_none, at_name}
use Rattle.lock_names.specs.Promises.{IsNamed}
use Rattle.lock_names.proofs.Fitting.{top_after, name_after, turned, at_ring_is, lock_at}
use Rattle.name_check.specs.declared.lines.Ring.{Ring}
use Rattle.name_check.specs.Entries.{Entry, Bind, Free, Grant, Repair, End, Other, Judged}
use Rattle.name_check.specs.Judged.{most_grants, AreSaid}
use Rattle.name_check.proofs.Sounding.{set_same}
use Rattle.name_check.proofs.Accepting.{state, nothing_said, said_first, set_twice, may_repair, noted_repair, said_grant, said_bind, said_end, said_free, said_handed}
use Rattle.name_bindings.proofs.Found.{none_some, free_at, found_at}
use Rattle.name_bindings.specs.Bindings.{Bound, found, free}
use Rattle.name_laws.specs.Written.{token_of, ring_seen, state_seen, line_of_call, line_of_mark, lines_between, asked_ring, lines_at}
use Rattle.name_check.specs.declared.lines.Due.TheVariants as due
use Rattle.ring_model.specs.declared.events.Op.TheVariants as op
use Rattle.held_locks.specs.declared.answers.Answer.TheVariants as answer

-- ---- the locks, as the judge knows them

seen_at : (ls : List Lock) (i : ℕ) (l : Lock) → slice_get ls i ≡ Some l → slice_get (map ring_seen ls) i ≡ Some (ring_seen l)
seen_at ls i l e = slice_get-map ring_seen ls i ∙ ap (λ (o : Option Lock). option_map ring_seen o) e

-- the state after a turn, with the name of its ring
abbrev turned_to : Named → ℕ → Lock → Lock → Option Bound → Judged
turned_to s i l m o = state (slice_set (map ring_seen s.locks) i (ring_seen m)) (slice_set s.names i o) s.fixed (s.top + (m.ring.grants - l.ring.grants)) due.Nothing

turned_is : (s : Named) (i : ℕ) (b : Bound) (l : Lock) (t : Turn) (o : Option Bound) → name_after s.fixed i b t ≡ o → turned_to s i l t.lock o ≡ state_seen (turned s i b l t).named
turned_is s i b l t o e =
    ap (λ (rs : List Ring). state rs (slice_set s.names i o) s.fixed (top_after s.top l t) due.Nothing) (sym (map-set ring_seen s.locks i t.lock))
    ∙ ap (λ (x : Option Bound). state (map ring_seen (slice_set s.locks i t.lock)) (slice_set s.names i x) s.fixed (top_after s.top l t) due.Nothing) (sym e)

-- ---- a turn, by its marks

-- the lines of a turn of a ring that has this name before it
abbrev turn_lines : ℕ → List Mark → Option Bound → Option Bound → List Entry
turn_lines i marks was is = lines_between i (map (line_of_mark i) marks) (Some was) (Some is)

-- the ring keeps its name
kept_lines : (i : ℕ) (marks : List Mark) (b : Bound) → turn_lines i marks (Some b) (Some b) ≡ map (line_of_mark i) marks
kept_lines i marks b = refl

-- the name after a turn: of a fixed lock it stays, of the pool while it is held
name_fixed : (fixed i : ℕ) (b : Bound) (t : Turn) → i < fixed → name_after fixed i b t ≡ Some b
name_fixed fixed i b t lt = ap (λ (q : Bool). kept (q || is_some (client_of t.lock.holder)) b) (lt-ltb i fixed lt)

held_name : (fixed i : ℕ) (b : Bound) (o : Option Holder) (q : Bool) → is_some o ≡ true → kept (q || is_some (client_of o)) b ≡ Some b
held_name fixed i b None q e = absurd (false≢true e)
held_name fixed i b (Some h) true e = refl
held_name fixed i b (Some h) false e = refl

name_held : (fixed i : ℕ) (b : Bound) (t : Turn) → is_some t.lock.holder ≡ true → name_after fixed i b t ≡ Some b
name_held fixed i b t e = held_name fixed i b t.lock.holder (nat_lt i fixed) e

name_lost : (fixed i : ℕ) (b : Bound) (t : Turn) → fixed ≤ i → t.lock.holder ≡ None → name_after fixed i b t ≡ None
name_lost fixed i b t le e =
    ap (λ (q : Bool). kept (q || is_some (client_of t.lock.holder)) b) (le-ltb i fixed le)
    ∙ ap (λ (o : Option Holder). kept (false || is_some (client_of o)) b) e

-- ---- a turn that leaves the ring as it was

unmoved : (s : Named) (i : ℕ) (l m : Lock) (o : Option Bound) → slice_get s.locks i ≡ Some l → slice_get s.names i ≡ Some o → ring_seen m ≡ ring_seen l → state_seen s ≡ turned_to s i l m o
unmoved s i l m o there entry e =
    let grants : m.ring.grants ≡ l.ring.grants = ap (λ (g : Ring). g.grants) e in
    let top : s.top ≡ s.top + (m.ring.grants - l.ring.grants) = omega arith in
    ap (λ (rs : List Ring). state rs s.names s.fixed s.top due.Nothing) (sym (set_same (map ring_seen s.locks) i (ring_seen l) (seen_at s.locks i l there)) ∙ ap (λ (g : Ring). slice_set (map ring_seen s.locks) i g) (sym e))
    ∙ ap (λ (os : List (Option Bound)). state (slice_set (map ring_seen s.locks) i (ring_seen m)) os s.fixed s.top due.Nothing) (sym (set_same s.names i o entry))
    ∙ ap (λ (n : ℕ). state (slice_set (map ring_seen s.locks) i (ring_seen m)) (slice_set s.names i o) s.fixed n due.Nothing) top

-- ---- repairs

repair_line : (i : ℕ) (a : State ℕ) → IsRing a.ring → line_of_call i 9 (reply till a (first_pass a 0)) ≡ Repair i
repair_line i a g = ap (λ (r : Reply). line_of_call i 9 r) (grant_reply a 0 g)

-- the state with this number of grants of a ring, and the grants that it has more than before among those of all rings
abbrev mended : List Ring → List (Option Bound) → ℕ → ℕ → ℕ → Option ℕ → ℕ → Judged
mended rings names fixed top i held grants = state (slice_set rings i (record { grants = grants; held = held })) names fixed top due.Nothing

-- what events of repairs say
abbrev Mends : State ℕ → List Event → List Ring → List (Option Bound) → ℕ → ℕ → ℕ → Option ℕ → Type 0
Mends a es rings names fixed top i held =
    top + ((after till a es).grants - a.grants) ≤ most_grants →
    AreSaid (state rings names fixed top due.Nothing) (map (line_of_mark i) (map Call es))
    (mended rings names fixed (top + ((after till a es).grants - a.grants)) i held (after till a es).grants)

abbrev mend : ℕ → State ℕ → Bool → List Event
mend n a settled = if settled then [] else (called a 9 (first_pass a 0) ∷ repairs n (next till a (first_pass a 0)))

mends_none : (a : State ℕ) (rings : List Ring) (names : List (Option Bound)) (fixed top i : ℕ) (held : Option ℕ) → slice_get rings i ≡ Some (record { grants = a.grants; held = held }) → Mends a [] rings names fixed top i held
mends_none a rings names fixed top i held there le =
    let same : top ≡ top + (a.grants - a.grants) = omega arith in
    nothing_said (state rings names fixed top due.Nothing) (mended rings names fixed (top + (a.grants - a.grants)) i held a.grants)
    (ap (λ (rs : List Ring). state rs names fixed top due.Nothing) (sym (set_same rings i (record { grants = a.grants; held = held }) there))
    ∙ ap (λ (n : ℕ). mended rings names fixed n i held a.grants) same)

grows_by : (n : ℕ) (a : State ℕ) → IsRing a.ring → (next till a (first_pass a 0)).grants ≤ (after till (next till a (first_pass a 0)) (repairs n (next till a (first_pass a 0)))).grants → (q : Bool) → a.grants ≤ (after till a (mend n a q)).grants
grows_by n a g le true = omega arith
grows_by n a g le false = let e : (next till a (first_pass a 0)).grants ≡ a.grants + 1 = grant_grants a 0 g in omega arith

grows : (n : ℕ) (a : State ℕ) → IsRing a.ring → a.grants ≤ (after till a (repairs n a)).grants
grows zero a g = omega arith
grows (suc n) a g = grows_by n a g (grows n (next till a (first_pass a 0)) (grant_ring a 0 g)) (is_settled a.ring.values)

mends_by : (n : ℕ) (a : State ℕ) (rings : List Ring) (names : List (Option Bound)) (fixed top i : ℕ) (held : Option ℕ) → IsRing a.ring → slice_get rings i ≡ Some (record { grants = a.grants; held = held }) →
    ((rs : List Ring) (more : ℕ) → slice_get rs i ≡ Some (record { grants = (next till a (first_pass a 0)).grants; held = held }) → Mends (next till a (first_pass a 0)) (repairs n (next till a (first_pass a 0))) rs names fixed more i held) →
    (q : Bool) → Mends a (mend n a q) rings names fixed top i held
mends_by n a rings names fixed top i held g there rest true le = mends_none a rings names fixed top i held there le
mends_by n a rings names fixed top i held g there rest false le =
    let b : State ℕ = next till a (first_pass a 0) in
    let final : ℕ = (after till b (repairs n b)).grants in
    let one : b.grants ≡ a.grants + 1 = grant_grants a 0 g in
    let more : b.grants ≤ final = grows n b (grant_ring a 0 g) in
    let up : top + (final - a.grants) ≤ most_grants = le in
    let few : top < most_grants = below top a.grants b.grants final one more up in
    let rs : List Ring = slice_set rings i (record { grants = a.grants + 1; held = held }) in
    let now : slice_get rs i ≡ Some (record { grants = b.grants; held = held }) =
    get_set_same rings i (record { grants = a.grants + 1; held = held }) (record { grants = a.grants; held = held }) there ∙ ap (λ (k : ℕ). Some (record { grants = k; held = held })) (sym one) in
    let sum : (top + 1) + (final - b.grants) ≡ top + (final - a.grants) = added top a.grants b.grants final one more in
    let later = rest rs (top + 1) now (subst (λ (k : ℕ). k ≤ most_grants) (sym sum) up) in
    let same : mended rs names fixed ((top + 1) + (final - b.grants)) i held final ≡ mended rings names fixed (top + (final - a.grants)) i held final =
    ap (λ (xs : List Ring). state xs names fixed ((top + 1) + (final - b.grants)) due.Nothing) (set_twice rings i (record { grants = a.grants + 1; held = held }) (record { grants = final; held = held }))
    ∙ ap (λ (k : ℕ). mended rings names fixed k i held final) sum in
    subst (λ (e : Entry). AreSaid (state rings names fixed top due.Nothing) (e ∷ map (line_of_mark i) (map Call (repairs n b))) (mended rings names fixed (top + (final - a.grants)) i held final)) (sym (repair_line i a g))
    (said_first (state rings names fixed top due.Nothing) (state rs names fixed (top + 1) due.Nothing) (mended rings names fixed (top + (final - a.grants)) i held final) (Repair i) (map (line_of_mark i) (map Call (repairs n b)))
    (may_repair rings names fixed top i (record { grants = a.grants; held = held }) there few)
    (noted_repair rings names fixed top i (record { grants = a.grants; held = held }) there)
    (subst (λ (t : Judged). AreSaid (state rs names fixed (top + 1) due.Nothing) (map (line_of_mark i) (map Call (repairs n b))) t) same later))
  where
    below : (top x y z : ℕ) → y ≡ x + 1 → y ≤ z → top + (z - x) ≤ most_grants → top < most_grants
    below top x y z e le up = under (top + (z - x)) most_grants (omega arith) up
      where
        under : (k most : ℕ) → top < k → k ≤ most → top < most
        under k most lt up = omega arith

    added : (top x y z : ℕ) → y ≡ x + 1 → y ≤ z → (top + 1) + (z - y) ≡ top + (z - x)
    added top x y z e le = omega arith

mends : (n : ℕ) (a : State ℕ) (rings : List Ring) (names : List (Option Bound)) (fixed top i : ℕ) (held : Option ℕ) → IsRing a.ring → slice_get rings i ≡ Some (record { grants = a.grants; held = held }) →
    Mends a (repairs n a) rings names fixed top i held
mends zero a rings names fixed top i held g there le = mends_none a rings names fixed top i held there le
mends (suc n) a rings names fixed top i held g there le =
    mends_by n a rings names fixed top i held g there (λ rs more now. mends n (next till a (first_pass a 0)) rs names fixed more i held (grant_ring a 0 g) now) (is_settled a.ring.values) le

-- a fault, and its repair
faulted : (s : Named) (i : ℕ) (l : Lock) (o : Option Bound) (at v : ℕ) → IsRing l.ring.ring → at < length l.ring.ring.values → v < l.ring.ring.k → slice_get s.locks i ≡ Some l → slice_get s.names i ≡ Some o →
    s.top + ((after till l.ring (fault l.ring at v)).grants - l.ring.grants) ≤ most_grants →
    AreSaid (state_seen s) (map (line_of_mark i) (map Call (fault l.ring at v))) (turned_to s i l (record l { ring = after till l.ring (fault l.ring at v) }) o)
faulted s i l o at v g lt less there entry le =
    let a : State ℕ = next till l.ring (op.Corrupt at v) in
    let rings : List Ring = map ring_seen s.locks in
    let rest = mends (most_passes (length l.ring.ring.values)) a rings s.names s.fixed s.top i (token_of l.holder) (set_ring l.ring.ring at v g lt less) (seen_at s.locks i l there) le in
    said_first (state_seen s) (state_seen s) (turned_to s i l (record l { ring = after till l.ring (fault l.ring at v) }) o) Other
    (map (line_of_mark i) (map Call (repairs (most_passes (length l.ring.ring.values)) a))) refl refl
    (subst (λ (os : List (Option Bound)). AreSaid (state_seen s) (map (line_of_mark i) (map Call (repairs (most_passes (length l.ring.ring.values)) a)))
    (state (slice_set rings i (record { grants = (after till l.ring (fault l.ring at v)).grants; held = token_of l.holder })) os s.fixed (s.top + ((after till l.ring (fault l.ring at v)).grants - l.ring.grants)) due.Nothing))
    (sym (set_same s.names i o entry)) rest)

-- ---- grants and ends

-- after a grant, and after an end
to_granted : (s : Named) (i : ℕ) (l m : Lock) (o : Option Bound) (names : List (Option Bound)) → m.ring.grants ≡ l.ring.grants + 1 → token_of m.holder ≡ Some (l.ring.grants + 1) → names ≡ slice_set s.names i o →
    state (slice_set (map ring_seen s.locks) i (record { grants = l.ring.grants + 1; held = Some (l.ring.grants + 1) })) names s.fixed (s.top + 1) due.Nothing ≡ turned_to s i l m o
to_granted s i l m o names more held e =
    let top : s.top + 1 ≡ s.top + (m.ring.grants - l.ring.grants) = omega arith in
    ap (λ (n : ℕ). state (slice_set (map ring_seen s.locks) i (record { grants = n; held = Some (l.ring.grants + 1) })) names s.fixed (s.top + 1) due.Nothing) (sym more)
    ∙ ap (λ (q : Option ℕ). state (slice_set (map ring_seen s.locks) i (record { grants = m.ring.grants; held = q })) names s.fixed (s.top + 1) due.Nothing) (sym held)
    ∙ ap (λ (os : List (Option Bound)). state (slice_set (map ring_seen s.locks) i (ring_seen m)) os s.fixed (s.top + 1) due.Nothing) e
    ∙ ap (λ (n : ℕ). state (slice_set (map ring_seen s.locks) i (ring_seen m)) (slice_set s.names i o) s.fixed n due.Nothing) top

to_ended : (s : Named) (i : ℕ) (l m : Lock) (o : Option Bound) (names : List (Option Bound)) → m.ring.grants ≡ l.ring.grants → token_of m.holder ≡ None → names ≡ slice_set s.names i o →
    state (slice_set (map ring_seen s.locks) i (record { grants = l.ring.grants; held = None })) names s.fixed s.top due.Nothing ≡ turned_to s i l m o
to_ended s i l m o names more held e =
    let top : s.top ≡ s.top + (m.ring.grants - l.ring.grants) = omega arith in
    ap (λ (n : ℕ). state (slice_set (map ring_seen s.locks) i (record { grants = n; held = None })) names s.fixed s.top due.Nothing) (sym more)
    ∙ ap (λ (q : Option ℕ). state (slice_set (map ring_seen s.locks) i (record { grants = m.ring.grants; held = q })) names s.fixed s.top due.Nothing) (sym held)
    ∙ ap (λ (os : List (Option Bound)). state (slice_set (map ring_seen s.locks) i (ring_seen m)) os s.fixed s.top due.Nothing) e
    ∙ ap (λ (n : ℕ). state (slice_set (map ring_seen s.locks) i (ring_seen m)) (slice_set s.names i o) s.fixed n due.Nothing) top

grant_line : (i : ℕ) (a : State ℕ) (label : ℕ) → IsRing a.ring → line_of_call i 0 (reply till a (first_pass a label)) ≡ Grant i
grant_line i a label g = ap (λ (r : Reply). line_of_call i 0 r) (grant_reply a label g)

-- no more than are counted
one_more : (top x y : ℕ) → y ≡ x + 1 → top + (y - x) ≤ most_grants → top < most_grants
one_more top x y e le = under (top + (y - x)) most_grants (omega arith) le
  where
    under : (k most : ℕ) → top < k → k ≤ most → top < most
    under k most lt up = omega arith

-- what a turn says, by the name after it
abbrev Says : Named → ℕ → Lock → Turn → Option Bound → Option Bound → Type 0
Says s i l t was is = AreSaid (state_seen s) (turn_lines i t.marks was is) (turned_to s i l t.lock is)

says_named : (s : Named) (i : ℕ) (l : Lock) (t : Turn) (was is o : Option Bound) → o ≡ is → Says s i l t was is → Says s i l t was o
says_named s i l t was is o e w = subst (λ (x : Option Bound). Says s i l t was x) (sym e) w

-- a free fixed lock is granted
gets_fixed : (s : Named) (i : ℕ) (l : Lock) (b : Bound) (w : Waiter) → IsRing l.ring.ring → slice_get s.locks i ≡ Some l → slice_get s.names i ≡ Some (Some b) → i < s.fixed → l.holder ≡ None →
    top_after s.top l (granted l.ring l.queue w) ≤ most_grants → Says s i l (granted l.ring l.queue w) (Some b) (Some b)
gets_fixed s i l b w g there entry lt idle le =
    let m : Lock = (granted l.ring l.queue w).lock in
    let more : m.ring.grants ≡ l.ring.grants + 1 = grant_grants l.ring w.label g in
    let few : s.top < most_grants = one_more s.top l.ring.grants m.ring.grants more le in
    subst (λ (e : Entry). AreSaid (state_seen s) (e ∷ []) (turned_to s i l m (Some b))) (sym (grant_line i l.ring w.label g))
    (subst (λ (t : Judged). AreSaid (state_seen s) (Grant i ∷ []) t) (to_granted s i l m (Some b) s.names more refl (sym (set_same s.names i (Some b) entry)))
    (said_grant (map ring_seen s.locks) s.names s.fixed s.top i (ring_seen l) (seen_at s.locks i l there) (ap (λ (o : Option Holder). is_some (token_of o)) idle) lt few))

-- a free ring of the pool gets a name
gets_name : (s : Named) (i : ℕ) (l : Lock) (b : Bound) (w : Waiter) → IsRing l.ring.ring → slice_get s.locks i ≡ Some l → s.fixed ≤ i → l.holder ≡ None → b.before ≡ l.ring.grants → b.floor ≡ s.top → found b.name s.names ≡ None →
    top_after s.top l (granted l.ring l.queue w) ≤ most_grants → Says s i l (granted l.ring l.queue w) None (Some b)
gets_name s i l b w g there pool idle before floor nobody le =
    let m : Lock = (granted l.ring l.queue w).lock in
    let more : m.ring.grants ≡ l.ring.grants + 1 = grant_grants l.ring w.label g in
    let few : s.top < most_grants = one_more s.top l.ring.grants m.ring.grants more le in
    subst (λ (e : Entry). AreSaid (state_seen s) (Bind i b ∷ e ∷ []) (turned_to s i l m (Some b))) (sym (grant_line i l.ring w.label g))
    (subst (λ (t : Judged). AreSaid (state_seen s) (Bind i b ∷ Grant i ∷ []) t) (to_granted s i l m (Some b) (slice_set s.names i (Some b)) more refl refl)
    (said_bind (map ring_seen s.locks) s.names s.fixed s.top i b (ring_seen l) (seen_at s.locks i l there) pool (ap (λ (o : Option Holder). is_some (token_of o)) idle) before floor nobody few))

-- a hold ends
ends_fixed : (s : Named) (i : ℕ) (l : Lock) (b : Bound) (h : Holder) (seat : ℕ) (answers : List (ℕ × Answer)) → slice_get s.locks i ≡ Some l → slice_get s.names i ≡ Some (Some b) → i < s.fixed → l.holder ≡ Some h →
    Says s i l (ended l.ring [] seat answers) (Some b) (Some b)
ends_fixed s i l b h seat answers there entry lt held =
    let m : Lock = (ended l.ring [] seat answers).lock in
    subst (λ (t : Judged). AreSaid (state_seen s) (End i ∷ []) t) (to_ended s i l m (Some b) s.names refl refl (sym (set_same s.names i (Some b) entry)))
    (said_end (map ring_seen s.locks) s.names s.fixed s.top i (ring_seen l) (seen_at s.locks i l there) (ap (λ (o : Option Holder). is_some (token_of o)) held) lt)

ends_pool : (s : Named) (i : ℕ) (l : Lock) (b : Bound) (h : Holder) (seat : ℕ) (answers : List (ℕ × Answer)) → slice_get s.locks i ≡ Some l → s.fixed ≤ i → l.holder ≡ Some h →
    Says s i l (ended l.ring [] seat answers) (Some b) None
ends_pool s i l b h seat answers there pool held =
    let m : Lock = (ended l.ring [] seat answers).lock in
    subst (λ (t : Judged). AreSaid (state_seen s) (End i ∷ Free i ∷ []) t) (to_ended s i l m None (slice_set s.names i None) refl refl refl)
    (said_free (map ring_seen s.locks) s.names s.fixed s.top i (ring_seen l) (seen_at s.locks i l there) (ap (λ (o : Option Holder). is_some (token_of o)) held) pool)

hands_on : (s : Named) (i : ℕ) (l : Lock) (b : Bound) (h : Holder) (w : Waiter) (queue : List Waiter) (seat : ℕ) (answers : List (ℕ × Answer)) → IsRing l.ring.ring → slice_get s.locks i ≡ Some l → slice_get s.names i ≡ Some (Some b) →
    l.holder ≡ Some h → top_after s.top l (ended l.ring (w ∷ queue) seat answers) ≤ most_grants → Says s i l (ended l.ring (w ∷ queue) seat answers) (Some b) (Some b)
hands_on s i l b h w queue seat answers g there entry held le =
    let m : Lock = (ended l.ring (w ∷ queue) seat answers).lock in
    let more : m.ring.grants ≡ l.ring.grants + 1 = grant_grants l.ring w.label g in
    let few : s.top < most_grants = one_more s.top l.ring.grants m.ring.grants more le in
    subst (λ (e : Entry). AreSaid (state_seen s) (End i ∷ e ∷ []) (turned_to s i l m (Some b))) (sym (grant_line i l.ring w.label g))
    (subst (λ (t : Judged). AreSaid (state_seen s) (End i ∷ Grant i ∷ []) t) (to_granted s i l m (Some b) s.names more refl (sym (set_same s.names i (Some b) entry)))
    (said_handed (map ring_seen s.locks) s.names s.fixed s.top i (ring_seen l) (seen_at s.locks i l there) (ap (λ (o : Option Holder). is_some (token_of o)) held) few))

-- ---- the turn of a ring that has the name

-- a fixed lock, or one of the pool, which is held
keeps : (fixed i : ℕ) (b : Bound) (t : Turn) → (fixed ≤ i → is_some t.lock.holder ≡ true) → name_after fixed i b t ≡ Some b
keeps fixed i b t held = elim (cases_Bool (nat_lt i fixed)) [
  | inl q ↦ name_fixed fixed i b t (ltb-true i fixed q)
  | inr q ↦ name_held fixed i b t (held (ltb-false i fixed q))
]

ends_by : (s : Named) (i : ℕ) (l : Lock) (b : Bound) (h : Holder) (queue : List Waiter) (seat : ℕ) (answers : List (ℕ × Answer)) → IsRing l.ring.ring → slice_get s.locks i ≡ Some l → slice_get s.names i ≡ Some (Some b) →
    l.holder ≡ Some h → top_after s.top l (ended l.ring queue seat answers) ≤ most_grants → Says s i l (ended l.ring queue seat answers) (Some b) (name_after s.fixed i b (ended l.ring queue seat answers))
ends_by s i l b h [] seat answers g there entry held le = elim (cases_Bool (nat_lt i s.fixed)) [
  | inl q ↦
      let lt : i < s.fixed = ltb-true i s.fixed q in
      says_named s i l (ended l.ring [] seat answers) (Some b) (Some b) (name_after s.fixed i b (ended l.ring [] seat answers)) (name_fixed s.fixed i b (ended l.ring [] seat answers) lt)
      (ends_fixed s i l b h seat answers there entry lt held)
  | inr q ↦
      let pool : s.fixed ≤ i = ltb-false i s.fixed q in
      says_named s i l (ended l.ring [] seat answers) (Some b) None (name_after s.fixed i b (ended l.ring [] seat answers)) (name_lost s.fixed i b (ended l.ring [] seat answers) pool refl)
      (ends_pool s i l b h seat answers there pool held)
]
ends_by s i l b h (w ∷ queue) seat answers g there entry held le =
    says_named s i l (ended l.ring (w ∷ queue) seat answers) (Some b) (Some b) (name_after s.fixed i b (ended l.ring (w ∷ queue) seat answers)) (name_held s.fixed i b (ended l.ring (w ∷ queue) seat answers) refl)
    (hands_on s i l b h w queue seat answers g there entry held le)

idle_fixed : (s : Named) (i : ℕ) (l : Lock) → (s.fixed ≤ i → is_some l.holder ≡ true) → l.holder ≡ None → i < s.fixed
idle_fixed s i l held idle = elim (cases_Bool (nat_lt i s.fixed)) [
  | inl q ↦ ltb-true i s.fixed q
  | inr q ↦ absurd (false≢true (sym (ap (λ (o : Option Holder). is_some o) idle) ∙ held (ltb-false i s.fixed q)))
]

abbrev Turns : Named → ℕ → Lock → Option Bound → Bound → Turn → Type 0
Turns s i l was b t = top_after s.top l t ≤ most_grants → Says s i l t was (name_after s.fixed i b t)

said_bound : (s : Named) (c i : ℕ) (l : Lock) (b : Bound) (ask : Ask) (t : Turn) → IsRing l.ring.ring → slice_get s.locks i ≡ Some l → slice_get s.names i ≡ Some (Some b) → (s.fixed ≤ i → is_some l.holder ≡ true) →
    Move s.locks l c ask t → Turns s i l (Some b) b t
said_bound s c i l b ask t g there entry held (Stays a p q e) = subst (λ (x : Turn). Turns s i l (Some b) b x) (sym e) (λ le.
    says_named s i l (told l c a) (Some b) (Some b) (name_after s.fixed i b (told l c a)) (keeps s.fixed i b (told l c a) held) (nothing_said (state_seen s) (turned_to s i l l (Some b)) (unmoved s i l l (Some b) there entry refl)))
said_bound s c i l b ask t g there entry held (Waits order h p q r u v e) = subst (λ (x : Turn). Turns s i l (Some b) b x) (sym e) (λ le.
    let k : Turn = joined l (waiter c order) (Some h) in
    says_named s i l k (Some b) (Some b) (name_after s.fixed i b k) (keeps s.fixed i b k held) (nothing_said (state_seen s) (turned_to s i l k.lock (Some b)) (unmoved s i l k.lock (Some b) there entry refl)))
said_bound s c i l b ask t g there entry held (Gets order p idle e) = subst (λ (x : Turn). Turns s i l (Some b) b x) (sym e) (λ le.
    let k : Turn = granted l.ring l.queue (waiter c order) in
    says_named s i l k (Some b) (Some b) (name_after s.fixed i b k) (name_held s.fixed i b k refl) (gets_fixed s i l b (waiter c order) g there entry (idle_fixed s i l held idle) idle le))
said_bound s c i l b ask t g there entry held (Ends h seat queue answers p q r e) = subst (λ (x : Turn). Turns s i l (Some b) b x) (sym e) (λ le. ends_by s i l b h queue seat answers g there entry p le)
said_bound s c i l b ask t g there entry held (Drops answers p e) = subst (λ (x : Turn). Turns s i l (Some b) b x) (sym e) (λ le.
    let k : Turn = record { lock = record l { queue = without c l.queue }; marks = []; answers = answers } in
    says_named s i l k (Some b) (Some b) (name_after s.fixed i b k) (keeps s.fixed i b k held) (nothing_said (state_seen s) (turned_to s i l k.lock (Some b)) (unmoved s i l k.lock (Some b) there entry refl)))
said_bound s c i l b ask t g there entry held (Faults at v p lt less e) = subst (λ (x : Turn). Turns s i l (Some b) b x) (sym e) (λ le.
    let k : Turn = record { lock = record l { ring = after till l.ring (fault l.ring at v) }; marks = map Call (fault l.ring at v); answers = (c, answer.Corrupted (slice_index l.ring.ring.values at)) ∷ [] } in
    says_named s i l k (Some b) (Some b) (name_after s.fixed i b k) (keeps s.fixed i b k held) (faulted s i l (Some b) at v g lt less there entry le))

-- ---- the turn of a free ring that may get the name

no_holder : {A : Type 0} (o : Option Holder) (h : Holder) → o ≡ None → o ≡ Some h → A
no_holder {A} o h e f = absurd (none_some h (sym e ∙ f))

said_fresh : (s : Named) (c i : ℕ) (l : Lock) (b : Bound) (ask : Ask) (t : Turn) → IsRing l.ring.ring → slice_get s.locks i ≡ Some l → slice_get s.names i ≡ Some None → s.fixed ≤ i → l.holder ≡ None →
    b.before ≡ l.ring.grants → b.floor ≡ s.top → found b.name s.names ≡ None → Move s.locks l c ask t → Turns s i l None b t
said_fresh s c i l b ask t g there entry pool idle before floor nobody (Stays a p q e) = subst (λ (x : Turn). Turns s i l None b x) (sym e) (λ le.
    says_named s i l (told l c a) None None (name_after s.fixed i b (told l c a)) (name_lost s.fixed i b (told l c a) pool idle) (nothing_said (state_seen s) (turned_to s i l l None) (unmoved s i l l None there entry refl)))
said_fresh s c i l b ask t g there entry pool idle before floor nobody (Waits order h p q r u v e) = no_holder l.holder h idle q
said_fresh s c i l b ask t g there entry pool idle before floor nobody (Gets order p q e) = subst (λ (x : Turn). Turns s i l None b x) (sym e) (λ le.
    let k : Turn = granted l.ring l.queue (waiter c order) in
    says_named s i l k None (Some b) (name_after s.fixed i b k) (name_held s.fixed i b k refl) (gets_name s i l b (waiter c order) g there pool idle before floor nobody le))
said_fresh s c i l b ask t g there entry pool idle before floor nobody (Ends h seat queue answers p q r e) = no_holder l.holder h idle p
said_fresh s c i l b ask t g there entry pool idle before floor nobody (Drops answers p e) = subst (λ (x : Turn). Turns s i l None b x) (sym e) (λ le.
    let k : Turn = record { lock = record l { queue = without c l.queue }; marks = []; answers = answers } in
    says_named s i l k None None (name_after s.fixed i b k) (name_lost s.fixed i b k pool idle) (nothing_said (state_seen s) (turned_to s i l k.lock None) (unmoved s i l k.lock None there entry refl)))
said_fresh s c i l b ask t g there entry pool idle before floor nobody (Faults at v p lt less e) = subst (λ (x : Turn). Turns s i l None b x) (sym e) (λ le.
    let k : Turn = record { lock = record l { ring = after till l.ring (fault l.ring at v) }; marks = map Call (fault l.ring at v); answers = (c, answer.Corrupted (slice_index l.ring.ring.values at)) ∷ [] } in
    says_named s i l k None None (name_after s.fixed i b k) (name_lost s.fixed i b k pool idle) (faulted s i l None at v g lt less there entry le))

-- ---- a ring that is asked

said_at : (s : Named) (c i : ℕ) (b : Bound) (ask : Ask) (l : Lock) (was : Option Bound) → slice_get s.locks i ≡ Some l → slice_get s.names i ≡ Some was → Turns s i l was b (turn s.locks l c (of_ring b ask)) →
    (at_ring s c i b ask).named.top ≤ most_grants → AreSaid (state_seen s) (lines_at s c ask (Some (i, b))) (state_seen (at_ring s c i b ask).named)
said_at s c i b ask l was there entry turns le =
    let t : Turn = turn s.locks l c (of_ring b ask) in
    let e = at_ring_is s c i b ask l there in
    let few : top_after s.top l t ≤ most_grants = subst (λ (x : NamedStep). x.named.top ≤ most_grants) e le in
    let own : slice_get (slice_set s.names i (name_after s.fixed i b t)) i ≡ Some (name_after s.fixed i b t) = get_set_same s.names i (name_after s.fixed i b t) was entry in
    subst (λ (x : NamedStep). AreSaid (state_seen s) (lines_between i (map (line_of_mark i) (step_at s.locks c i (of_ring b ask) (slice_get s.locks i)).marks) (slice_get s.names i) (slice_get x.named.names i)) (state_seen x.named)) (sym e)
    (subst (λ (o : Option Lock). AreSaid (state_seen s) (lines_between i (map (line_of_mark i) (step_at s.locks c i (of_ring b ask) o).marks) (slice_get s.names i) (slice_get (slice_set s.names i (name_after s.fixed i b t)) i)) (state_seen (turned s i b l t).named)) (sym there)
    (subst (λ (o : Option (Option Bound)). AreSaid (state_seen s) (lines_between i (map (line_of_mark i) t.marks) o (slice_get (slice_set s.names i (name_after s.fixed i b t)) i)) (state_seen (turned s i b l t).named)) (sym entry)
    (subst (λ (o : Option (Option Bound)). AreSaid (state_seen s) (lines_between i (map (line_of_mark i) t.marks) (Some was) o) (state_seen (turned s i b l t).named)) (sym own)
    (subst (λ (x : Judged). AreSaid (state_seen s) (turn_lines i t.marks was (name_after s.fixed i b t)) x) (turned_is s i b l t (name_after s.fixed i b t) refl) (turns few)))))

said_found : (s : Named) (c : ℕ) (x : List ℕ) (ask : Ask) (p : ℕ × Bound) → IsNamed s → found x s.names ≡ Some p → (at_ring s c p.0 p.1 ask).named.top ≤ most_grants →
    AreSaid (state_seen s) (lines_at s c ask (Some p)) (state_seen (at_ring s c p.0 p.1 ask).named)
said_found s c x ask p n e le =
    let h = found_at x s.names p e in
    let w = lock_at s p.0 (Some p.1) n h.entry in
    let r = n.each p.0 w.0 (Some p.1) w.1 h.entry in
    said_at s c p.0 p.1 ask w.0 (Some p.1) w.1 h.entry
    (said_bound s c p.0 w.0 p.1 (of_ring p.1 ask) (turn s.locks w.0 c (of_ring p.1 ask)) (n.right.each p.0 w.0 w.1).ring w.1 h.entry r.1 (move_of s.locks w.0 c (of_ring p.1 ask))) le

said_given : (s : Named) (c : ℕ) (x : List ℕ) (ask : Ask) (o : Option ℕ) → IsNamed s → found x s.names ≡ None → free s.names ≡ o → (given s c x ask o).named.top ≤ most_grants →
    AreSaid (state_seen s) (lines_at s c ask (option_map (λ (i : ℕ). (i, fresh s x i)) o)) (state_seen (given s c x ask o).named)
said_given s c x ask None n e f le = nothing_said (state_seen s) (state_seen s) refl
said_given s c x ask (Some i) n e f le =
    let entry = free_at s.names i f in
    let w = lock_at s i None n entry in
    let r = n.each i w.0 None w.1 entry in
    let b : Bound = fresh s x i in
    said_at s c i b ask w.0 None w.1 entry
    (said_fresh s c i w.0 b (of_ring b ask) (turn s.locks w.0 c (of_ring b ask)) (n.right.each i w.0 w.1).ring w.1 entry r.0 r.1 (ap grants_at w.1) refl e (move_of s.locks w.0 c (of_ring b ask))) le

said_none : (s : Named) (c : ℕ) (x : List ℕ) (ask : Ask) → IsNamed s → found x s.names ≡ None → (at_none s c x ask).named.top ≤ most_grants →
    AreSaid (state_seen s) (lines_at s c ask (asked_ring s x ask None)) (state_seen (at_none s c x ask).named)
said_none s c x (Acquire label) n e le = said_given s c x (Acquire label) (free s.names) n e refl le
said_none s c x (Try label) n e le = said_given s c x (Try label) (free s.names) n e refl le
said_none s c x (Release token) n e le = nothing_said (state_seen s) (state_seen s) refl
said_none s c x Cancel n e le = nothing_said (state_seen s) (state_seen s) refl
said_none s c x Leave n e le = nothing_said (state_seen s) (state_seen s) refl
said_none s c x (Corrupt i v) n e le = nothing_said (state_seen s) (state_seen s) refl
said_none s c x Stats n e le = nothing_said (state_seen s) (state_seen s) refl

pub said_asked : (s : Named) (c : ℕ) (x : List ℕ) (ask : Ask) (o : Option (ℕ × Bound)) → IsNamed s → found x s.names ≡ o → (at_name s c x ask o).named.top ≤ most_grants →
    AreSaid (state_seen s) (lines_at s c ask (asked_ring s x ask o)) (state_seen (at_name s c x ask o).named)
said_asked s c x ask None n e le = said_none s c x ask n e le
said_asked s c x ask (Some p) n e le = said_found s c x ask p n e le
