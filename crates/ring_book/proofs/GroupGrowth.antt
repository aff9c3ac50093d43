-- How a book grows by a group, one member after the other.
use Rattle.std.proofs.Common.{◌≡◌, ℕ, suc, ◌+◌, ◌-◌, ◌<◌, ◌≤◌, true, List, [], ◌∷◌, ◌++◌, length, get_or, drop, drop-cons, zero, false, append_assoc, append-nil, length-drop, refl, sym, ◌∙◌, ap, subst, inl, inr, arith}
use Rattle.std.proofs.lemmas.Bool.{cases_lt, cases_eq, both_ways}
use Rattle.std.proofs.lemmas.List.{drop_all}
use Rattle.ring_model.specs.Ring.{Ring, is_privileged, moved}
use Rattle.ring_model.specs.History.{Works, State, granted_state, next, reply, after, IsLegal}
use Rattle.ring_model.specs.Groups.{has, Rises, move_order, IsBlock, IsBlockOf, IsWhole}
use Rattle.ring_model.specs.GroupLaws.{CanMove, AreAllPrivileged, block_of}
use Rattle.ring_model.specs.declared.events.Op.{Op}
use Rattle.ring_model.specs.declared.events.Op.TheVariants.{Member}
use Rattle.ring_model.specs.declared.events.Reply.{Reply}
use Rattle.ring_model.specs.declared.events.Event.{Event}
use Rattle.ring_model.specs.declared.events.Receipt.{Receipt}
use Rattle.ring_model.proofs.Histories.{StepOf-next, StepOf-reply, after-push}
use Rattle.ring_model.proofs.Groups.{Walks, Walked, has_parts, has_first, has_later}
use Rattle.ring_model.proofs.Orders.{order_length, order_able, group_of, group_start, group_turn, group_end}
use Rattle.ring_model.proofs.Blocks.{member_next, blocks_are_legal}
use Rattle.ring_model.proofs.Wholes.{whole_block}
use Rattle.ring_book.specs.TallyView.{TallyView}
use Rattle.ring_book.specs.BookView.{BookView, IsOpenKept, IsRecorded}
use Rattle.ring_book.specs.GroupView.{HasMoved, IsLeastWithout}

-- the book b is the old one after the first members of a group
pub record MembersTo {C : Type 0} (w : Works C) (first : C) (old : BookView C) (seat order : ℕ) (machines : List ℕ) (b : BookView C) (t : TallyView) (turn : ℕ) : Type 0 where
  pub kept : IsOpenKept w first b t
  pub done : List ℕ
  pub walks : Walks old.now.ring (move_order machines) done (drop turn (move_order machines)) b.now.ring
  pub events : List Event
  pub grown : b.history ≡ old.history ++ events
  pub block : events ++ block_of w b.now seat order (drop turn (move_order machines)) ≡ block_of w old.now seat order (move_order machines)
  pub now : b.now ≡ after w old.now events
  pub room : b.room + turn ≡ old.room
  pub same_start : b.start ≡ old.start

pub members_start : {C : Type 0} (w : Works C) (first : C) (old : BookView C) (seat order : ℕ) (machines : List ℕ) (t : TallyView) →
    IsOpenKept w first old t → CanMove old.now.ring.values machines → MembersTo w first old seat order machines old t 0
members_start w first old seat order machines t k c = record {
  kept = k;
  done = [];
  walks = group_start old.now.ring machines c;
  events = [];
  grown = sym (append-nil old.history);
  block = refl;
  now = refl;
  room = omega arith;
  same_start = refl;
}

-- the machine whose turn it is can pass
pub record CanPass {C : Type 0} (b : BookView C) (m : ℕ) : Type 0 where
  pub below : m < length b.now.ring.values
  pub privileged : is_privileged b.now.ring.values m ≡ true

in_turn : {C : Type 0} (w : Works C) (first : C) (old : BookView C) (seat order : ℕ) (machines : List ℕ) (b : BookView C) (t : TallyView) (turn : ℕ)
    (v : MembersTo w first old seat order machines b t turn) → turn < length machines →
    Walked old.now.ring (move_order machines) v.done (get_or (move_order machines) turn 0) (drop (turn + 1) (move_order machines)) b.now.ring
in_turn w first old seat order machines b t turn v l =
    let n : length (move_order machines) ≡ length machines = order_length machines in
    group_turn old.now.ring (move_order machines) v.done turn b.now.ring (omega arith) v.walks

pub can_pass : {C : Type 0} (w : Works C) (first : C) (old : BookView C) (seat order : ℕ) (machines : List ℕ) (b : BookView C) (t : TallyView) (turn m : ℕ) →
    CanMove old.now.ring.values machines → MembersTo w first old seat order machines b t turn → turn < length machines → m ≡ get_or (move_order machines) turn 0 → CanPass b m
can_pass w first old seat order machines b t turn m c v l e =
    let k = in_turn w first old seat order machines b t turn v l in
    subst (λ (x : ℕ). CanPass b x) (sym e)
    (record { below = k.below; privileged = k.privileged ∙ order_able old.now.ring.values machines c (get_or (move_order machines) turn 0) k.member })

event_is : (e : Event) (seat : ℕ) (o : Op) (r : Reply) → e.seat ≡ seat → e.op ≡ o → e.reply ≡ r → record { seat = seat; op = o; reply = r } ≡ e
event_is e seat o r p q s =
    sym (ap (λ (x : ℕ). let d : Event = record { seat = x; op = e.op; reply = e.reply } in d) p
    ∙ (ap (λ (x : Op). let d : Event = record { seat = seat; op = x; reply = e.reply } in d) q
    ∙ ap (λ (x : Reply). let d : Event = record { seat = seat; op = o; reply = x } in d) s))

pub members_turn : {C : Type 0} (w : Works C) (first : C) (old : BookView C) (seat order : ℕ) (machines : List ℕ) (b c : BookView C) (t u : TallyView) (turn m left : ℕ) (r : Receipt) →
    CanMove old.now.ring.values machines → MembersTo w first old seat order machines b t turn → turn < length machines → m ≡ get_or (move_order machines) turn 0 →
    left ≡ length machines - 1 - turn → IsRecorded w b c seat (Member m order left) r → IsOpenKept w first c u → c.room + 1 ≡ b.room →
    MembersTo w first old seat order machines c u (turn + 1)
members_turn {C = C} w first old seat order machines b c t u turn m left r can v l e lq rec k room' =
    let os : List ℕ = move_order machines in
    let n : length os ≡ length machines = order_length machines in
    let x : ℕ = get_or os turn 0 in
    let more : List ℕ = drop (turn + 1) os in
    let one : suc turn ≡ turn + 1 = omega arith in
    let cut : drop turn os ≡ x ∷ more = drop-cons os turn 0 (omega arith) ∙ ap (λ i. x ∷ drop i os) one in
    let size : length (drop turn os) ≡ suc (length more) = ap (λ (ys : List ℕ). length ys) cut in
    let all : length (drop turn os) ≡ length os - turn = length-drop turn os in
    let leftq : left ≡ length more = omega arith in
    let k' = in_turn w first old seat order machines b t turn v l in
    let on : is_privileged b.now.ring.values x ≡ true = k'.privileged ∙ order_able old.now.ring.values machines can x k'.member in
    let o : Op = Member x order (length more) in
    let called : r.event.op ≡ o = rec.of_call ∙ (ap (λ (i : ℕ). let p : Op = Member i order left in p) e ∙ ap (λ (i : ℕ). let p : Op = Member x order i in p) leftq) in
    let goes : c.now ≡ next w b.now o = StepOf-next w b.now r.event.op r.event.reply c.now rec.step ∙ ap (λ (p : Op). next w b.now p) called in
    let told : r.event.reply ≡ reply w b.now o = StepOf-reply w b.now r.event.op r.event.reply c.now rec.step ∙ ap (λ (p : Op). reply w b.now p) called in
    let moves : c.now ≡ granted_state w b.now x order = goes ∙ member_next w b.now x order (length more) on in
    let ev : record { seat = seat; op = o; reply = reply w b.now o } ≡ r.event = event_is r.event seat o (reply w b.now o) rec.of_seat called told in
    let unrolled : block_of w b.now seat order (drop turn os) ≡ r.event ∷ block_of w c.now seat order more =
    ap (λ (ys : List ℕ). block_of w b.now seat order ys) cut
    ∙ (ap (λ (d : Event). d ∷ block_of w (next w b.now o) seat order more) ev ∙ ap (λ (s : State C). r.event ∷ block_of w s seat order more) (sym goes)) in
    let to : c.now.ring ≡ moved b.now.ring x = ap (λ (s : State C). s.ring) moves in
    let room'' = v.room in
    record {
      kept = k;
      done = x ∷ v.done;
      walks = subst (λ (g : Ring). Walks old.now.ring os (x ∷ v.done) more g) (sym to) k'.more;
      events = v.events ++ r.event ∷ [];
      grown = rec.grown ∙ (ap (λ (h : List Event). h ++ r.event ∷ []) v.grown ∙ append_assoc old.history v.events (r.event ∷ []));
      block = append_assoc v.events (r.event ∷ []) (block_of w c.now seat order more) ∙ (ap (λ (es : List Event). v.events ++ es) (sym unrolled) ∙ v.block);
      now = StepOf-next w b.now r.event.op r.event.reply c.now rec.step
          ∙ (ap (λ (s : State C). next w s r.event.op) v.now ∙ sym (after-push w old.now v.events r.event));
      room = omega arith;
      same_start = rec.same_start ∙ v.same_start;
    }

pub members_end : {C : Type 0} (w : Works C) (first : C) (old : BookView C) (seat order : ℕ) (machines : List ℕ) (b : BookView C) (s t : TallyView) (turn : ℕ) →
    IsOpenKept w first old s → CanMove old.now.ring.values machines → MembersTo w first old seat order machines b t turn → length machines ≤ turn →
    HasMoved w old b seat order machines
members_end {C = C} w first old seat order machines b s t turn k can v l =
    let os : List ℕ = move_order machines in
    let n : length os ≡ length machines = order_length machines in
    let none : drop turn os ≡ [] = drop_all turn os (omega arith) in
    let law = blocks_are_legal w old.now seat order os k.book.now_ring.ring (group_of old.now.ring.values machines can).in_order (order_able old.now.ring.values machines can) in
    let all : v.events ≡ block_of w old.now seat order os =
    sym (append-nil v.events) ∙ (sym (ap (λ (ys : List ℕ). v.events ++ block_of w b.now seat order ys) none) ∙ v.block) in
    record {
      events = v.events;
      block = subst (λ (es : List Event). IsBlockOf (length old.now.ring.values) seat order os es) (sym all) law.1;
      legal = subst (λ (es : List Event). IsLegal w old.now es) (sym all) law.0;
      grown = v.grown;
      now = v.now;
      moves = group_end old.now.ring machines v.done b.now.ring can
          (subst (λ (ys : List ℕ). Walks old.now.ring os v.done ys b.now.ring) none v.walks);
      same_start = v.same_start;
    }

-- a whole history stays whole by a group
pub moved_whole : {C : Type 0} (w : Works C) (old b : BookView C) (seat order : ℕ) (machines : List ℕ) →
    length old.now.ring.values ≡ length old.start.values → IsWhole (length old.start.values) old.history → HasMoved w old b seat order machines → IsWhole (length b.start.values) b.history
moved_whole w old b seat order machines size whole m =
    let block : IsBlock (length old.start.values) m.events =
    record { seat = seat; order = order; machines = move_order machines; is = subst (λ (n : ℕ). IsBlockOf n seat order (move_order machines) m.events) size m.block } in
    rw (m.same_start, m.grown) (whole_block (length old.start.values) old.history m.events whole block)

-- the search for the least machine that is not privileged

has_place : (ms : List ℕ) (m : ℕ) → has ms m ≡ true → (i : ℕ) × (i < length ms) × (get_or ms i 0 ≡ m)
has_place [] m h = absurd (both_ways false refl h)
has_place (x ∷ ms) m h = elim (has_parts x m ms h) [
  | inl e ↦ (0, omega arith, sym e)
  | inr t ↦ let w = has_place ms m t in (suc w.0, omega (arith, w.1), w.2)
]

place_has : (ms : List ℕ) (i : ℕ) → i < length ms → has ms (get_or ms i 0) ≡ true
place_has [] i l = absurd (omega arith)
place_has (x ∷ ms) zero l = has_first x ms
place_has (x ∷ ms) (suc i) l = has_later x (get_or ms i 0) ms (place_has ms i (omega arith))

rising_from : (low high : ℕ) (ms : List ℕ) (i : ℕ) → Rises low high ms → i < length ms → (low ≤ get_or ms i 0) × (get_or ms i 0 < high)
rising_from low high [] i r l = absurd (omega arith)
rising_from low high (x ∷ ms) zero r l = (r.0, r.1)
rising_from low high (x ∷ ms) (suc i) r l =
    let w = rising_from (suc x) high ms i r.2 (omega arith) in
    let a : low ≤ x = r.0 in
    let b : suc x ≤ get_or ms i 0 = w.0 in
    (omega arith, w.1)

rising_order : (low high : ℕ) (ms : List ℕ) (i j : ℕ) → Rises low high ms → i < j → j < length ms → get_or ms i 0 < get_or ms j 0
rising_order low high [] i j r l m = absurd (omega arith)
rising_order low high (x ∷ ms) i zero r l m = absurd (omega arith)
rising_order low high (x ∷ ms) zero (suc j) r l m = let w = rising_from (suc x) high ms j r.2 (omega arith) in let a : suc x ≤ get_or ms j 0 = w.0 in omega arith
rising_order low high (x ∷ ms) (suc i) (suc j) r l m = rising_order (suc x) high ms i j r.2 (omega arith) (omega arith)

pub machine_below : (n : ℕ) (ms : List ℕ) (i : ℕ) → Rises 0 n ms → i < length ms → get_or ms i 0 < n
machine_below n ms i r l = (rising_from 0 n ms i r l).1

pub first_without : (n : ℕ) (s ms : List ℕ) (i : ℕ) → Rises 0 n ms → i < length ms → ((j : ℕ) → j < i → is_privileged s (get_or ms j 0) ≡ true) →
    is_privileged s (get_or ms i 0) ≡ false → IsLeastWithout s ms (get_or ms i 0)
first_without n s ms i r l before off = record {
  member = place_has ms i l;
  without = off;
  least = λ m h lt.
      let w = has_place ms m h in
      let wl : w.0 < length ms = w.1 in
      elim (cases_lt w.0 i) [
        | inl lo ↦ sym (ap (is_privileged s) w.2) ∙ before w.0 lo
        | inr hi ↦ elim (cases_eq w.0 i) [
          | inl e ↦ let q : get_or ms i 0 ≡ m = sym (ap (λ x. get_or ms x 0) e) ∙ w.2 in absurd (omega arith)
          | inr ne ↦ let o : get_or ms i 0 < get_or ms w.0 0 = rising_order 0 n ms i w.0 r (omega arith) wl in let q : get_or ms w.0 0 ≡ m = w.2 in absurd (omega arith)
        ]
      ];
}

pub none_without : (s ms : List ℕ) (i : ℕ) → length ms ≤ i → ((j : ℕ) → j < i → is_privileged s (get_or ms j 0) ≡ true) → AreAllPrivileged s ms
none_without s ms i l before m h = let w = has_place ms m h in let wl : w.0 < length ms = w.1 in sym (ap (is_privileged s) w.2) ∙ before w.0 (omega arith)

-- a rising list below n has at most n machines
pub rising_few : (low high : ℕ) (ms : List ℕ) → Rises low high ms → low ≤ high → low + length ms ≤ high
rising_few low high [] r l = omega arith
rising_few low high (x ∷ ms) r l =
    let a : low ≤ x = r.0 in
    let b : x < high = r.1 in
    let ih : suc x + length ms ≤ high = rising_few (suc x) high ms r.2 (omega arith) in
    omega arith

-- which groups can move
pub can_move : (s ms : List ℕ) → Rises 0 (length s) ms → 1 ≤ length ms → (length ms ≡ length s → ⊥) → AreAllPrivileged s ms → CanMove s ms
can_move s ms r one ne able =
    let few : 0 + length ms ≤ length s = rising_few 0 (length s) ms r (omega arith) in
    record { rising = r; some = one; fewer = omega arith; able = able }

pub without_cannot : (s ms : List ℕ) (m : ℕ) → IsLeastWithout s ms m → AreAllPrivileged s ms → ⊥
without_cannot s ms m w able = both_ways (is_privileged s m) w.without (able m w.member)

pub without_one : (s ms : List ℕ) (m n : ℕ) → IsLeastWithout s ms m → IsLeastWithout s ms n → m ≡ n
without_one s ms m n a b = elim (cases_lt m n) [
  | inl l ↦ absurd (both_ways (is_privileged s m) a.without (b.least m a.member l))
  | inr g ↦ elim (cases_eq m n) [
    | inl e ↦ e
    | inr ne ↦ absurd (both_ways (is_privileged s n) b.without (a.least n b.member (omega arith)))
  ]
]
