-- A turn keeps each ring a right one, and records just what it leaves.
use Rattle.std.proofs.Common.{◌≡◌, ℕ, ◌+◌, ◌<◌, ◌≤◌, Bool, true, false, cond, List, [], ◌∷◌, ◌++◌, length, take, drop, slice_index, refl, sym, ap, subst, ◌∙◌, arith, length-append}
use Rattle.std.proofs.lemmas.List.{take_all, drop_at}
use Rattle.ring_model.specs.Limits.{event_limit}
use Rattle.ring_model.specs.Resources.{till}
use Rattle.ring_model.specs.History.{State, Step, StepOf, next, reply, after, opening, IsLegal}
use Rattle.ring_model.specs.Groups.{IsAlone, IsWhole, IsBlockOf, GroupMove, has, move_order}
use Rattle.ring_model.specs.GroupLaws.{CanMove, AreAllPrivileged, block_of}
use Rattle.ring_model.specs.HistoryLaws.{between}
use Rattle.ring_model.specs.Steps.{IsInRange}
use Rattle.ring_model.specs.declared.events.Op.{Op}
use Rattle.ring_model.specs.declared.events.Op.TheVariants as op
use Rattle.ring_model.specs.declared.events.Event.{Event}
use Rattle.ring_model.specs.declared.events.Entry.TheVariants as entry
use Rattle.ring_model.proofs.Histories.{IsLegal-append, after-append}
use Rattle.ring_model.proofs.Places.{kept_after}
use Rattle.ring_model.proofs.Blocks.{blocks_are_legal, blocks_move}
use Rattle.ring_model.proofs.Orders.{move_order_law}
use Rattle.ring_model.proofs.Wholes.{whole_push, whole_block, members_length}
use Rattle.ring_book.specs.BookView.{BookView, IsBook, IsRecorded}
use Rattle.ring_book.specs.GroupView.{HasMoved, IsGroupRecorded}
use Rattle.ring_book.specs.declared.books.groups.GroupReceipt.{GroupReceipt}
use Rattle.ring_model.specs.Ring.{Ring, moved_value, is_privileged}
use Rattle.ring_logs.specs.LogView.{LogView}
use Rattle.ring_logs.specs.Seats.{receipts_from}
use Rattle.ring_state.specs.Sizes.{Size, size_of}
use Rattle.one_thread_ring.specs.Rings.{RingView, IsOneThreadRing, told_more}
use Rattle.one_thread_ring.proofs.Kept.{called_ring, grouped_ring, surveyed_ring}
use Rattle.ring_model.specs.declared.bases.Base.{Base}
use Rattle.ring_model.specs.Bases.{IsBase}
use Rattle.ring_service.specs.Standings.{Standing, standing_of, state_of, event_now, block_now, with_events, with_survey, survey_now}
use Rattle.ring_service.specs.Saved.{IsRight}

-- ---- a book that grew

abbrev pub gone_on : BookView ℕ → List Event → BookView ℕ
gone_on b es = record { start = b.start; now = after till b.now es; history = b.history ++ es; room = 0 }

pub goes_on : (b : BookView ℕ) (es : List Event) → IsBook till 0 b → IsLegal till b.now es → length b.history + length es ≤ event_limit → IsWhole (length b.start.values) (b.history ++ es) → IsBook till 0 (gone_on b es)
goes_on b es k legal few whole =
    let kept = kept_after till b.now es k.now_ring.ring legal in
    let size : length (after till b.now es).ring.values ≡ length b.now.ring.values = kept.size in
    let same : (after till b.now es).ring.k ≡ b.now.ring.k = kept.same in
    let now : size_of (after till b.now es).ring ≡ size_of b.now.ring = λ i. record { n = size i; k = same i } in
    let machines = k.now_ring.most_machines in
    let values = k.now_ring.most in
    record {
      legal = IsLegal-append till (opening b.start 0) b.history es k.legal (subst (λ (a : State ℕ). IsLegal till a es) (sym k.current) legal);
      current = after-append till (opening b.start 0) b.history es ∙ ap (λ (a : State ℕ). after till a es) k.current;
      bounded = omega (arith, length-append b.history es);
      start_ring = k.start_ring;
      now_ring = record { ring = kept.ring; most_machines = omega (arith, size, machines); most = omega (arith, same, values) };
      same_size = now ∙ k.same_size;
      whole = whole;
    }

-- the number of machines is that of the start
pub as_many : (b : BookView ℕ) → IsBook till 0 b → length b.now.ring.values ≡ length b.start.values
as_many b k = ap (λ (s : Size). s.n) k.same_size

-- a call in range is a step
call_step : (a : State ℕ) (o : Op) → IsInRange a.ring o → StepOf till a o (reply till a o) (next till a o)
call_step a (op.Pass i order) h = go (is_privileged a.ring.values i) refl
  where
    go : (p : Bool) → is_privileged a.ring.values i ≡ p → StepOf till a (op.Pass i order) (reply till a (op.Pass i order)) (next till a (op.Pass i order))
    go true e = rw e (h, e, refl, refl, refl)
    go false e = rw e (h, e, refl)
call_step a (op.Member i order left) h = let e : is_privileged a.ring.values i ≡ true = h.1 in rw e (h.0, e, refl, refl, refl)
call_step a (op.Corrupt i v) h = (h.0, h.1, refl, refl)

-- ---- one call more

module _ (b : Base) (d : RingView ℕ) (seat : ℕ) (base : IsBase b) (k : IsOneThreadRing till 0 d) (within : seat < length d.clients) where
  abbrev standing : Standing
  standing = standing_of (record { base = b; ring = d })

  pub call_right : (o : Op) → IsInRange (state_of standing).ring o → IsAlone o → length d.book.history < event_limit → IsRight (with_events standing seat (event_now standing seat o ∷ []))
  call_right o range alone room =
      let e : Event = event_now standing seat o in
      let step : Step till (state_of standing) e (next till (state_of standing) o) = call_step (state_of standing) o range in
      let here : Step till d.book.now e (next till d.book.now o) = subst (λ (a : State ℕ). Step till a e (next till a o)) k.book.current step in
      let book : IsBook till 0 (gone_on d.book (e ∷ [])) = goes_on d.book (e ∷ []) k.book (here, tt) (omega (arith, room)) (whole_push (length d.book.start.values) d.book.history e k.book.whole alone) in
      let rec : IsRecorded till d.book (gone_on d.book (e ∷ [])) seat o (record { position = length d.book.history; event = e }) = record { step = here; grown = refl; position = refl; of_seat = refl; of_call = refl; same_start = refl } in (
        record { base = b; ring = record { book = gone_on d.book (e ∷ []); clients = told_more d.clients seat (entry.Receipt (record { position = length d.book.history; event = e }) ∷ []) } },
        record { base = base; ring = called_ring till 0 d.book (gone_on d.book (e ∷ [])) d.clients seat o (record { position = length d.book.history; event = e }) k book within rec },
        refl,
      )

  pub survey_right : IsRight (with_survey standing seat (survey_now standing))
  survey_right = (
    record { base = b; ring = record { book = d.book; clients = told_more d.clients seat (entry.Survey (survey_now standing) ∷ []) } },
    record { base = base; ring = surveyed_ring till 0 d.book d.clients seat (survey_now standing) k within refl },
    refl,
  )

-- ---- a group more

-- a group's move is that of the same machines in another order
same_group : (ring t : Ring) (ms machines : List ℕ) → ((i : ℕ) → has ms i ≡ has machines i) → 1 ≤ length machines → GroupMove ring ms t → GroupMove ring machines t
same_group ring t ms machines same some g = record {
  some = some;
  leaves_out = (g.leaves_out.0, g.leaves_out.1, sym (same g.leaves_out.0) ∙ g.leaves_out.2);
  privileged = λ i h. g.privileged i (same i ∙ h);
  same = g.same;
  size = g.size;
  values = λ i l. g.values i l ∙ ap (λ (b : Bool). cond b (moved_value ring i) (slice_index ring.values i)) (same i);
}

module _ (b : Base) (d : RingView ℕ) (seat order : ℕ) (machines : List ℕ) (base : IsBase b) (k : IsOneThreadRing till 0 d) (within : seat < length d.clients) (can : CanMove d.book.now.ring.values machines)
    (room : length d.book.history + length machines ≤ event_limit) where
  abbrev ms : List ℕ
  ms = move_order machines

  abbrev es : List Event
  es = block_of till d.book.now seat order ms

  abbrev receipt : GroupReceipt
  receipt = record { first = length d.book.history; count = length machines }

  abbrev standing_now : Standing
  standing_now = standing_of (record { base = b; ring = d })

  pub group_right : IsRight (with_events standing_now seat (block_now standing_now seat order machines))
  group_right =
      let law = move_order_law (length d.book.now.ring.values) machines can.rising can.some can.fewer in
      let able : AreAllPrivileged d.book.now.ring.values ms = λ i h. can.able i (sym (law.same i) ∙ h) in
      let both = blocks_are_legal till d.book.now seat order ms k.book.now_ring.ring law.in_order able in
      let size : length d.book.now.ring.values ≡ length d.book.start.values = as_many d.book k.book in
      let long : length es ≡ length ms = members_length seat order ms es both.1.members in
      let many : length ms ≡ length machines = law.size in
      let block : IsBlockOf (length d.book.start.values) seat order ms es = subst (λ (n : ℕ). IsBlockOf n seat order ms es) size both.1 in
      let whole : IsWhole (length d.book.start.values) (d.book.history ++ es) = whole_block (length d.book.start.values) d.book.history es k.book.whole (record { seat = seat; order = order; machines = ms; is = block }) in
      let book : IsBook till 0 (gone_on d.book es) = goes_on d.book es k.book both.0 (omega (arith, long, many, room)) whole in
      let all : between es 0 (length es) ≡ es = take_all (length es) es (omega arith) in
      let moves : GroupMove d.book.now.ring ms (after till d.book.now (take (length es) es)).ring = blocks_move till d.book.now es k.book.now_ring.ring both.0 0 (length es) seat order ms (omega arith) (omega arith)
      (subst (λ (x : List Event). IsBlockOf (length d.book.now.ring.values) seat order ms x) (sym all) both.1) in
      let there : GroupMove d.book.now.ring ms (after till d.book.now es).ring = subst (λ (x : List Event). GroupMove d.book.now.ring ms (after till d.book.now x).ring) (take_all (length es) es (omega arith)) moves in
      let moved : HasMoved till d.book (gone_on d.book es) seat order machines = record {
        events = es;
        block = both.1;
        legal = both.0;
        grown = refl;
        now = refl;
        moves = same_group d.book.now.ring (after till d.book.now es).ring ms machines law.same can.some there;
        same_start = refl;
      } in
      let g : IsGroupRecorded till d.book (gone_on d.book es) seat order machines receipt = record { moved = moved; first = refl; count = refl } in
      let cut : drop (length d.book.history) (d.book.history ++ es) ≡ es = drop_at d.book.history es (length d.book.history) refl in
      let now : es ≡ block_now standing_now seat order machines = ap (λ (a : State ℕ). block_of till a seat order ms) (sym k.book.current) in
      let told : List Event → List LogView = λ x. told_more d.clients seat (receipts_from (length d.book.history) x) in (
        record { base = b; ring = record { book = gone_on d.book es; clients = told (drop (length d.book.history) (d.book.history ++ es)) } },
        record { base = base; ring = grouped_ring till 0 d.book (gone_on d.book es) d.clients seat order machines receipt k book within g },
        λ i. record { base = b; start = d.book.start; history = d.book.history ++ now i; clients = told ((cut ∙ now) i) },
      )
