-- How a book grows by one step.
use Rattle.std.proofs.Common.{◌≡◌, ℕ, ◌+◌, ◌<◌, ◌≤◌, Bool, true, Option, None, Some, List, [], ◌∷◌, ◌++◌, length, length-append, replicate, cond, refl, sym, ◌∙◌, ap, subst, arith}
use Rattle.std.specs.Prelude.{◌==◌, slice_index}
use Rattle.std.specs.List.{count_by}
use Rattle.std.proofs.lemmas.List.{length-set, take_all}
use Rattle.std.proofs.lemmas.List.Sums.{length-filter, count_by-le-length}
use Rattle.ring_model.specs.Ring.{Ring, is_privileged, moved, moved_value, is_settled}
use Rattle.ring_model.specs.History.{Works, State, opening, granted_state, IsGrant, Step, StepOf, next, after, IsLegal}
use Rattle.ring_model.specs.Surveys.{survey_at, survey_from, calm}
use Rattle.ring_model.specs.Grants.{is_grant_of, settled_grants_of}
use Rattle.ring_model.specs.Groups.{IsAlone, IsWhole}
use Rattle.ring_model.proofs.Wholes.{whole_none, whole_push}
use Rattle.ring_model.specs.HistoryLaws.{IsFair}
use Rattle.ring_model.specs.Logs.{calls_of}
use Rattle.ring_model.specs.declared.events.Op.{Op}
use Rattle.ring_model.specs.declared.events.Op.TheVariants.{Pass, Member, Corrupt}
use Rattle.ring_model.specs.declared.events.Reply.{Reply}
use Rattle.ring_model.specs.declared.events.Reply.TheVariants.{Granted, NotPrivileged, Corrupted}
use Rattle.ring_model.specs.declared.events.Event.{Event}
use Rattle.ring_model.specs.declared.events.Receipt.{Receipt}
use Rattle.ring_model.proofs.Moves.{length_move}
use Rattle.ring_model.proofs.Settled.{move_ring, settled_stays}
use Rattle.ring_model.proofs.Places.{set_ring}
use Rattle.ring_model.proofs.HistoryLaws.{history_fairness}
use Rattle.ring_model.proofs.Histories.{StepOf-next, after-push, IsLegal-push, grants-after}
use Rattle.ring_state.specs.Sizes.{Size, IsRingState, size_of}
use Rattle.ring_model.specs.Limits.{event_limit, seat_limit}
use Rattle.ring_book.specs.EventsView.{EventsView}
use Rattle.ring_book.specs.GrantsView.{IsGrantsOf, raised, no_grants, one_grant}
use Rattle.ring_book.specs.GrantCounts.{IsEven}
use Rattle.ring_book.specs.TallyView.{TallyView, after_call, after_grant, after_corruption}
use Rattle.ring_book.specs.BookView.{BookView, view_of, pass_of, IsOpen, IsBook, IsKept, IsOpenKept, IsRecorded}
use Rattle.ring_book.proofs.Counting.{grants-grant, IsTallyOf-new, IsTallyOf-grant, IsTallyOf-idle, IsTallyOf-corruption}

-- a step keeps a ring, and its size
pub ring_kept : {C : Type 0} (w : Works C) (a b : State C) (o : Op) (r : Reply) → StepOf w a o r b → IsRingState a.ring → IsRingState b.ring
ring_kept w a b (Pass i order) (Granted number result) h g =
    subst (λ (s : State _). IsRingState s.ring) (sym h.4) (record { ring = move_ring a.ring i g.ring h.0; most_machines = rw (length_move a.ring i) g.most_machines; most = g.most })
ring_kept w a b (Pass i order) NotPrivileged h g = subst (λ (s : State _). IsRingState s.ring) (sym h.2) g
ring_kept w a b (Pass i order) (Corrupted old) h g = absurd h
ring_kept w a b (Member i order left) (Granted number result) h g =
    subst (λ (s : State _). IsRingState s.ring) (sym h.4) (record { ring = move_ring a.ring i g.ring h.0; most_machines = rw (length_move a.ring i) g.most_machines; most = g.most })
ring_kept w a b (Member i order left) NotPrivileged h g = absurd h
ring_kept w a b (Member i order left) (Corrupted old) h g = absurd h
ring_kept w a b (Corrupt i v) (Granted number result) h g = absurd h
ring_kept w a b (Corrupt i v) NotPrivileged h g = absurd h
ring_kept w a b (Corrupt i v) (Corrupted old) h g =
    subst (λ (s : State _). IsRingState s.ring) (sym h.3) (record { ring = set_ring a.ring i v g.ring h.0 h.1; most_machines = rw (length-set a.ring.values i v) g.most_machines; most = g.most })

pub same_size-step : {C : Type 0} (w : Works C) (a b : State C) (o : Op) (r : Reply) → StepOf w a o r b → size_of b.ring ≡ size_of a.ring
same_size-step w a b (Pass i order) (Granted number result) h =
    ap (λ (s : State _). size_of s.ring) h.4 ∙ ap (λ (n : ℕ). let s : Size = record { n = n; k = a.ring.k } in s) (length-set a.ring.values i (moved_value a.ring i))
same_size-step w a b (Pass i order) NotPrivileged h = ap (λ (s : State _). size_of s.ring) h.2
same_size-step w a b (Pass i order) (Corrupted old) h = absurd h
same_size-step w a b (Member i order left) (Granted number result) h =
    ap (λ (s : State _). size_of s.ring) h.4 ∙ ap (λ (n : ℕ). let s : Size = record { n = n; k = a.ring.k } in s) (length-set a.ring.values i (moved_value a.ring i))
same_size-step w a b (Member i order left) NotPrivileged h = absurd h
same_size-step w a b (Member i order left) (Corrupted old) h = absurd h
same_size-step w a b (Corrupt i v) (Granted number result) h = absurd h
same_size-step w a b (Corrupt i v) NotPrivileged h = absurd h
same_size-step w a b (Corrupt i v) (Corrupted old) h =
    ap (λ (s : State _). size_of s.ring) h.3 ∙ ap (λ (n : ℕ). let s : Size = record { n = n; k = a.ring.k } in s) (length-set a.ring.values i v)

-- between a book and one that may be inside a group
pub open_of : {C : Type 0} (w : Works C) (first : C) (b : BookView C) → IsBook w first b → IsOpen w first b
open_of w first b k = record {
  legal = k.legal;
  current = k.current;
  bounded = k.bounded;
  start_ring = k.start_ring;
  now_ring = k.now_ring;
  same_size = k.same_size;
  whole = tt;
}

pub closed_of : {C : Type 0} (w : Works C) (first : C) (b : BookView C) → IsOpen w first b → IsWhole (length b.start.values) b.history → IsBook w first b
closed_of w first b k whole = record {
  legal = k.legal;
  current = k.current;
  bounded = k.bounded;
  start_ring = k.start_ring;
  now_ring = k.now_ring;
  same_size = k.same_size;
  whole = whole;
}

pub kept_open : {C : Type 0} (w : Works C) (first : C) (b : BookView C) (t : TallyView) → IsKept w first b t → IsOpenKept w first b t
kept_open w first b t k = record { book = open_of w first b k.book; tally = k.tally }

pub kept_closed : {C : Type 0} (w : Works C) (first : C) (b : BookView C) (t : TallyView) → IsOpenKept w first b t → IsWhole (length b.start.values) b.history → IsKept w first b t
kept_closed w first b t k whole = record { book = closed_of w first b k.book whole; tally = k.tally }

-- a book grows by a step
pub IsOpen-push : {C : Type 0} (w : Works C) (first : C) (old : BookView C) (e : Event) (b : State C) (room : ℕ) →
    IsOpen w first old → length old.history + 1 + room ≤ event_limit → Step w old.now e b →
    IsOpen w first (record { start = old.start; now = b; history = old.history ++ e ∷ []; room = room })
IsOpen-push w first old e b room h fits step =
    let goes : b ≡ next w old.now e.op = StepOf-next w old.now e.op e.reply b step in
    let here : Step w (after w (opening old.start first) old.history) e (next w (after w (opening old.start first) old.history) e.op) =
    rw (h.current, ← goes) step in
    record {
      legal = IsLegal-push w (opening old.start first) old.history e h.legal here;
      current = after-push w (opening old.start first) old.history e ∙ rw h.current (sym goes);
      bounded = rw length-append fits;
      start_ring = h.start_ring;
      now_ring = ring_kept w old.now b e.op e.reply step h.now_ring;
      same_size = same_size-step w old.now b e.op e.reply step ∙ h.same_size;
      whole = tt;
    }

-- the length of a book's history, as a bound of what counts in it
pub calls_few : (seat : ℕ) (h : List Event) → length (calls_of seat h) ≤ length h
calls_few seat h =
    let all : length (calls_of seat h) ≡ count_by (λ (e : Event). e.seat == seat) h = length-filter (λ (e : Event). e.seat == seat) h in
    let few : count_by (λ (e : Event). e.seat == seat) h ≤ length h = count_by-le-length (λ (e : Event). e.seat == seat) h in
    omega arith

pub calls_fit : {C : Type 0} (w : Works C) (first : C) (b : BookView C) (t : TallyView) (seat : ℕ) → IsOpenKept w first b t → seat < seat_limit → slice_index t.calls seat ≤ event_limit
calls_fit w first b t seat k few =
    let same : slice_index t.calls seat ≡ length (calls_of seat b.history) = k.tally.calls seat (omega arith) in
    let le : length (calls_of seat b.history) ≤ length b.history = calls_few seat b.history in
    let bounded = k.book.bounded in
    omega arith

pub grants_fit : {C : Type 0} (w : Works C) (first : C) (b : BookView C) → IsOpen w first b → b.now.grants ≤ event_limit
grants_fit w first b k =
    let most : (after w (opening b.start first) b.history).grants ≤ 0 + length b.history = grants-after w (opening b.start first) b.history in
    let same : (after w (opening b.start first) b.history).grants ≡ b.now.grants = ap (λ (s : State _). s.grants) k.current in
    let bounded = k.bounded in
    omega arith

-- the machines of a book's ring are as many as those at the start
same_length : {C : Type 0} (w : Works C) (first : C) (b : BookView C) → IsOpen w first b → length (after w (opening b.start first) b.history).ring.values ≡ length b.start.values
same_length w first b k = ap (λ (s : State _). length s.ring.values) k.current ∙ ap (λ (z : Size). z.n) k.same_size

-- a book and its counts grow by a granted pass, by itself or as a member of a group
pub IsOpenKept-grant : {C : Type 0} (w : Works C) (first : C) (old : BookView C) (t : TallyView) (b : State C) (seat m order number result room : ℕ) (settled : Bool) (o : Op) →
    ((i : ℕ) → is_grant_of i o (Granted number result) ≡ (m == i)) →
    IsOpenKept w first old t → length old.history + 1 + room ≤ event_limit → StepOf w old.now o (Granted number result) b → IsGrant w old.now m order number result b → seat < seat_limit →
    settled ≡ is_settled b.ring.values →
    IsOpenKept w first (record { start = old.start; now = b; history = old.history ++ record { seat = seat; op = o; reply = Granted number result } ∷ []; room = room })
    (after_call (after_grant t m settled) seat)
IsOpenKept-grant w first old t b seat m order number result room settled o mine k fits step grant few s = record {
  book = IsOpen-push w first old (record { seat = seat; op = o; reply = Granted number result }) b room k.book fits step;
  tally = IsTallyOf-grant w (opening old.start first) old.history t b seat m order number result settled o mine k.tally (rw k.book.current step) (rw k.book.current grant)
      (rw k.book.current k.book.now_ring.ring) (same_length w first old k.book) few s;
}

pub IsOpenKept-pass : {C : Type 0} (w : Works C) (first : C) (old : BookView C) (t : TallyView) (b : State C) (seat m order number result room : ℕ) (settled : Bool) (left : Option ℕ) →
    IsOpenKept w first old t → length old.history + 1 + room ≤ event_limit → IsGrant w old.now m order number result b → seat < seat_limit → settled ≡ is_settled b.ring.values →
    IsOpenKept w first (record { start = old.start; now = b; history = old.history ++ record { seat = seat; op = pass_of m order left; reply = Granted number result } ∷ []; room = room })
    (after_call (after_grant t m settled) seat)
IsOpenKept-pass w first old t b seat m order number result room settled None k fits grant few s =
    IsOpenKept-grant w first old t b seat m order number result room settled (Pass m order) (λ i. refl) k fits grant grant few s
IsOpenKept-pass w first old t b seat m order number result room settled (Some left) k fits grant few s =
    IsOpenKept-grant w first old t b seat m order number result room settled (Member m order left) (λ i. refl) k fits grant grant few s

-- by a pass that was not granted
pub IsOpenKept-idle : {C : Type 0} (w : Works C) (first : C) (old : BookView C) (t : TallyView) (b : State C) (seat m order room : ℕ) →
    IsOpenKept w first old t → length old.history + 1 + room ≤ event_limit → StepOf w old.now (Pass m order) NotPrivileged b → seat < seat_limit →
    IsOpenKept w first (record { start = old.start; now = b; history = old.history ++ record { seat = seat; op = Pass m order; reply = NotPrivileged } ∷ []; room = room })
    (after_call t seat)
IsOpenKept-idle w first old t b seat m order room k fits step few = record {
  book = IsOpen-push w first old (record { seat = seat; op = Pass m order; reply = NotPrivileged }) b room k.book fits step;
  tally = IsTallyOf-idle w (opening old.start first) old.history t b seat m order k.tally (rw k.book.current step) few;
}

-- and by a corruption
pub IsOpenKept-corruption : {C : Type 0} (w : Works C) (first : C) (old : BookView C) (t : TallyView) (b : State C) (seat m value was room : ℕ) (settled : Bool) →
    IsOpenKept w first old t → length old.history + 1 + room ≤ event_limit → StepOf w old.now (Corrupt m value) (Corrupted was) b → seat < seat_limit →
    settled ≡ is_settled b.ring.values →
    IsOpenKept w first (record { start = old.start; now = b; history = old.history ++ record { seat = seat; op = Corrupt m value; reply = Corrupted was } ∷ []; room = room })
    (after_call (after_corruption t settled) seat)
IsOpenKept-corruption w first old t b seat m value was room settled k fits step few s = record {
  book = IsOpen-push w first old (record { seat = seat; op = Corrupt m value; reply = Corrupted was }) b room k.book fits step;
  tally = IsTallyOf-corruption w (opening old.start first) old.history t b seat m value was settled k.tally (rw k.book.current step) few s;
}

-- a whole history stays whole by a call by itself
pub alone_keeps : {C : Type 0} (w : Works C) (first : C) (old new : BookView C) (t : TallyView) (seat : ℕ) (op : Op) (r : Receipt) → IsAlone op →
    IsOpenKept w first new t → IsRecorded w old new seat op r → IsWhole (length old.start.values) old.history → IsKept w first new t
alone_keeps w first old new t seat op r alone kept rec whole =
    kept_closed w first new t kept
    (rw (rec.same_start, rec.grown) (whole_push (length old.start.values) old.history r.event whole (subst IsAlone (sym rec.of_call) alone)))

-- a settled ring stays settled by a move, so the counted mark and the look at the new values together are right
pub settled_mark : {C : Type 0} (w : Works C) (first : C) (old : BookView C) (t : TallyView) (m : ℕ) → IsOpenKept w first old t → m < length old.now.ring.values →
    is_privileged old.now.ring.values m ≡ true → t.settled ≡ true → is_settled (moved old.now.ring m).values ≡ true
settled_mark w first old t m k l e y =
    let now : is_settled old.now.ring.values ≡ true = sym (k.tally.settled ∙ ap (λ (s : State _). is_settled s.ring.values) k.book.current) ∙ y in
    settled_stays old.now.ring m k.book.now_ring.ring l e now

-- a survey after all events
pub survey_end : {C : Type 0} (w : Works C) (a : State C) (h : List Event) → survey_at w a h (length h) ≡ survey_from (after w a h).ring (length h) (calm h)
survey_end w a h = ap (λ (front : List Event). survey_from (after w a front).ring (length h) (calm front)) (take_all (length h) h (omega arith))

-- a book with no events
pub IsKept-new : {C : Type 0} (w : Works C) (first : C) (start ring : Ring) (content : C) (events : EventsView) (t : TallyView) (n : ℕ) (settled : Bool) →
    IsRingState ring → start ≡ ring → content ≡ first → events ≡ record { list = []; room = 0 } → n ≡ length ring.values → settled ≡ is_settled ring.values →
    t ≡ record { calm = 0; calls = replicate seat_limit 0; settled = settled; grants = no_grants n } →
    IsKept w first (view_of (record { start = start; ring = ring; resource = content; events = events; tally = t })) t
IsKept-new w first start ring content events t n settled g q r e m s u = rw (q, r, e, u, m) (record {
  book = record {
    legal = tt;
    current = refl;
    bounded = omega arith;
    start_ring = g;
    now_ring = g;
    same_size = refl;
    whole = whole_none (length ring.values);
  };
  tally = IsTallyOf-new w (opening ring first) settled s;
})

-- in a settled run a privileged machine's grant keeps the counts even
pub grant_even : {C : Type 0} (w : Works C) (first : C) (old : BookView C) (t : TallyView) (m : ℕ) → IsOpenKept w first old t → m < length old.now.ring.values →
    is_privileged old.now.ring.values m ≡ true → t.settled ≡ true → IsEven (raised t.grants.settled m)
grant_even {C = C} w first old t m k l e y = λ i j li lj.
    let a : State C = opening old.start first in
    let now : State C = old.now in
    let h : List Event = old.history in
    let granted : Event = record { seat = 0; op = Pass m 0; reply = Granted (now.grants + 1) (w.answer now.content m 0) } in
    let step : Step w now granted (granted_state w now m 0) = (l, e, refl, refl, refl) in
    let goes : granted_state w now m 0 ≡ next w now granted.op = StepOf-next w now granted.op granted.reply (granted_state w now m 0) step in
    let here : Step w (after w a h) granted (next w (after w a h) granted.op) = rw (k.book.current, ← goes) step in
    let legal : IsLegal w a (h ++ granted ∷ []) = IsLegal-push w a h granted k.book.legal here in
    let fair : IsFair w a (h ++ granted ∷ []) = history_fairness w a (h ++ granted ∷ []) k.book.start_ring.ring legal in
    let n : ℕ = length old.start.values in
    let size : length now.ring.values ≡ n = ap (λ (z : Size). z.n) k.book.same_size in
    let counts : IsGrantsOf w a (h ++ granted ∷ []) n (one_grant t.grants m t.settled) =
    grants-grant w a h n t.grants t.settled 0 m (now.grants + 1) (w.answer now.content m 0) (Pass m 0) (λ i. refl) k.tally.grants k.tally.settled k.tally.no_run (omega arith) in
    let on : (x : ℕ) → slice_index (cond t.settled (raised t.grants.settled m) t.grants.settled) x ≡ slice_index (raised t.grants.settled m) x =
    λ (x : ℕ). ap (λ (b : Bool). slice_index (cond b (raised t.grants.settled m) t.grants.settled) x) y in
    let machines : length t.grants.settled ≡ n = k.tally.grants.settled_machines in
    let same : length (raised t.grants.settled m) ≡ length t.grants.settled = length-set t.grants.settled m (slice_index t.grants.settled m + 1) in
    let li' : i < n = omega arith in
    let lj' : j < n = omega arith in
    let at_i = on i in
    let at_j = on j in
    let of_i = counts.settled i li' in
    let of_j = counts.settled j lj' in
    let le : settled_grants_of w a i (h ++ granted ∷ []) ≤ settled_grants_of w a j (h ++ granted ∷ []) + 1 = fair i j li' lj' in
    omega arith
