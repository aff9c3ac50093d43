-- The marks of a lock's turn as calls of its journal.
use Rattle.std.proofs.Common.{◌≡◌, ℕ, suc, Bool, true, false, List, [], ◌∷◌, ◌++◌, map, length, Option, Some, None, refl, sym, ◌∙◌, ap, subst, inl, inr, arith, slice_get, ◌<◌, ◌^◌, append_assoc, slice_set, cond, zero, drop, ◌≤◌, length-append, ◌⊎◌, not}
use Rattle.std.specs.Prelude.{◌==◌, if◌then◌else◌}
use Rattle.std.proofs.lemmas.List.{append-nil, length-set, drop_at}
use Rattle.ring_model.specs.Limits.{event_limit}
use Rattle.ring_model.specs.Ring.{is_settled}
use Rattle.ring_model.specs.Resources.{till}
use Rattle.ring_model.specs.History.{State, next}
use Rattle.ring_model.specs.declared.events.Event.{Event}
use Rattle.ring_model.specs.declared.events.Survey.{Survey as SurveyOf}
use Rattle.ring_book.specs.BookView.{BookView}
use Rattle.journal.specs.declared.calls.JournalLine.{JournalLine}
use Rattle.journal.specs.Spelling.{journal_line}
use Rattle.one_thread_ring.specs.Journals.{event_lines, line_of_survey, line_of_event}
use Rattle.ring_model.specs.Bases.{shifted_event, shifted}
use Rattle.endless_ring.specs.Endless.{EndlessView}
use Rattle.ring_service.specs.Standings.{Standing, survey_now, with_survey, with_events}
use Rattle.ring_service.specs.Saved.{IsRight}
use Rattle.ring_service.proofs.Effects.{set_same}
use Rattle.ring_service.proofs.RecordedBlocks.{set_there, set_twice}
use Rattle.ring_service.specs.Recovered.{HasGrown}
use Rattle.ring_service.proofs.Grown.{with_more, looked_more, grown_same, grown_then}
use Rattle.ring_service.proofs.Recovering.{lines_of}
use Rattle.held_locks.specs.declared.answers.Waiter.{Waiter}
use Rattle.held_locks.specs.declared.answers.Holder.{Holder}
use Rattle.held_locks.specs.declared.answers.Answer.{Answer}
use Rattle.held_locks.specs.declared.answers.HoldEnd.{HoldEnd}
use Rattle.held_locks.specs.Grants.{most_passes, repairs, first_pass}
use Rattle.held_locks.specs.Queues.{Lock, without}
use Rattle.held_locks.specs.Locks.{Ask, Acquire, Try, Mark, Survey, Turn, called, Call, advanced}
use Rattle.held_locks.specs.Promises.{Alternate, events_of, open_after, open_behind}
use Rattle.held_locks.specs.Kept.{ended_in, AreMade}
use Rattle.held_locks.proofs.Moves.{Move, Stays, Waits, Gets, Ends, Drops, Faults, IsEnd, Released, Left, IsAsking, Acquires, Tries}
use Rattle.lock_journal.proofs.Chains.{Chain, called_one, ended_one}
use Rattle.lock_journal.proofs.Shadows.{open_of, IsCalledSo, IsEndedSo, Shadows, shadows_same, IsPlain, called_so, ended_so}
use Rattle.lock_journal.specs.Begun.{AreSmall}
use Rattle.lock_journal.specs.Noting.{end_line}
use Rattle.ring_model.specs.declared.events.Op.TheVariants as op

-- ---- which marks there are

abbrev pub AreCalls : List Mark → Type 0
AreCalls [] = Unit {0}
AreCalls (Call e ∷ ms) = (e.seat < 10) × IsPlain e.op × AreCalls ms
AreCalls (Survey seat ∷ ms) = ⊥

-- calls; or the end of a hold, and then calls
pub data AreMarks (ms : List Mark) : Type 0 where
  Calls : AreCalls ms → AreMarks ms
  EndsFirst : (seat : ℕ) (more : List Mark) → ms ≡ Survey seat ∷ more → (seat ≡ 1) ⊎ (seat ≡ 2) → AreCalls more → AreMarks ms

abbrev pub IsSmallAsk : Ask → Type 0
IsSmallAsk (Acquire order) = order < 2 ^ 64
IsSmallAsk (Try order) = order < 2 ^ 64
IsSmallAsk _ = Unit {0}

small_append : (xs : List Waiter) (w : Waiter) → AreSmall xs → w.label < 2 ^ 64 → AreSmall (xs ++ w ∷ [])
small_append [] w s l = (l, tt)
small_append (x ∷ xs) w s l = (s.0, small_append xs w s.1 l)

small_kept : (keep : Bool) (w : Waiter) (line : List Waiter) → w.label < 2 ^ 64 → AreSmall line → AreSmall (cond keep (w ∷ line) line)
small_kept true w line l s = (l, s)
small_kept false w line l s = s

small_without : (c : ℕ) (line : List Waiter) → AreSmall line → AreSmall (without c line)
small_without c [] s = tt
small_without c (w ∷ line) s = small_kept (not (w.client == c)) w (without c line) s.0 (small_without c line s.1)

-- the marks of a turn, and the clients that wait after it
pub record AreMarksOf (t : Turn) : Type 0 where
  pub marks : AreMarks t.marks
  pub small : AreSmall t.lock.queue

advanced_calls : (a : State ℕ) (line : List Waiter) → AreSmall line → AreCalls (advanced a line).marks
advanced_calls a [] s = tt
advanced_calls a (w ∷ line) s = (omega arith, s.0, tt)

advanced_small : (a : State ℕ) (line : List Waiter) → AreSmall line → AreSmall (advanced a line).lock.queue
advanced_small a [] s = tt
advanced_small a (w ∷ line) s = s.1

repairs_calls : (most : ℕ) (a : State ℕ) → AreCalls (map Call (repairs most a))
repairs_calls zero a = tt
repairs_calls (suc most) a = go (is_settled a.ring.values) (repairs_calls most (next till a (first_pass a 0)))
  where
    go : (b : Bool) → AreCalls (map Call (repairs most (next till a (first_pass a 0)))) → AreCalls (map Call (if b then [] else (called a 9 (first_pass a 0) ∷ repairs most (next till a (first_pass a 0)))))
    go true more = tt
    go false more = (omega arith, omega arith, more)

asking_small : (ask : Ask) (order : ℕ) → IsAsking ask order → IsSmallAsk ask → order < 2 ^ 64
asking_small ask order (Acquires e) s = subst IsSmallAsk e s
asking_small ask order (Tries e) s = subst IsSmallAsk e s

end_seat : (l : Lock) (c : ℕ) (ask : Ask) (seat : ℕ) (h : Holder) (line : List Waiter) (answers : List (ℕ × Answer)) → IsEnd l c h ask seat line answers → ((seat ≡ 1) ⊎ (seat ≡ 2)) × (AreSmall l.queue → AreSmall line)
end_seat l c ask seat h line answers (Released a b e f) = (inl b, λ s. subst AreSmall (sym e) s)
end_seat l c ask seat h line answers (Left a b e f) = (inr b, λ s. subst AreSmall (sym e) (small_without c l.queue s))

pub marks_of_move : (ls : List Lock) (l : Lock) (c : ℕ) (ask : Ask) (t : Turn) → Move ls l c ask t → IsSmallAsk ask → AreSmall l.queue → AreMarksOf t
marks_of_move ls l c ask t (Stays a q leave e) small s = subst AreMarksOf (sym e) (record { marks = Calls tt; small = s })
marks_of_move ls l c ask t (Waits order h a held other free back e) small s =
    subst AreMarksOf (sym e) (record { marks = Calls tt; small = small_append l.queue (record { client = c; label = order }) s (subst IsSmallAsk a small) })
marks_of_move ls l c ask t (Gets order asking a e) small s =
    subst AreMarksOf (sym e) (record { marks = Calls (omega arith, asking_small ask order asking small, tt); small = s })
marks_of_move ls l c ask t (Ends h seat line answers held own is e) small s =
    let k = end_seat l c ask seat h line answers is in
    subst AreMarksOf (sym e) (record { marks = EndsFirst seat (advanced l.ring line).marks refl k.0 (advanced_calls l.ring line (k.1 s)); small = advanced_small l.ring line (k.1 s) })
marks_of_move ls l c ask t (Drops answers is e) small s = subst AreMarksOf (sym e) (record { marks = Calls tt; small = small_without c l.queue s })
marks_of_move ls l c ask t (Faults i v a lt lk e) small s =
    subst AreMarksOf (sym e) (record { marks = Calls (omega arith, tt, repairs_calls (most_passes (length l.ring.ring.values)) (next till l.ring (op.Corrupt i v))); small = s })

-- ---- histories grow

pub made_longer : (old new : EndlessView) (ms : List Mark) → AreMade old ms new → length old.ring.book.history ≤ length new.ring.book.history
made_longer old new [] m =
    let same : length new.ring.book.history ≡ length old.ring.book.history = ap (λ (b : BookView ℕ). length b.history) m.ring.book in
    omega (arith, same)
made_longer old new (Call e ∷ ms) m =
    let same : length m.0.ring.book.history ≡ length old.ring.book.history = ap (λ (b : BookView ℕ). length b.history) m.3.ring.book in
    let one : length m.1.ring.book.history ≡ length (m.0.ring.book.history ++ m.4.local.event ∷ []) = ap (λ (h : List Event). length h) m.4.recorded.grown in
    let long = length-append m.0.ring.book.history (m.4.local.event ∷ []) in
    let more = made_longer m.1 new ms m.6 in
    omega (arith, same, one, long, more)
made_longer old new (Survey seat ∷ ms) m = made_longer old new ms m

-- ---- the calls of marks

pub record AreCalledSo (rings : List Standing) (ring : ℕ) (s : Standing) (old new : EndlessView) (ms : List Mark) : Type 0 where
  pub calls : List JournalLine
  pub es : List Event
  pub behind : Standing
  pub chain : Chain rings calls (slice_set rings ring behind)
  pub shadows : Shadows behind new
  pub open_hold : open_of behind ≡ open_after (open_of s) ms
  pub history : new.ring.book.history ≡ old.ring.book.history ++ es
  pub told : behind.history ≡ s.history ++ es
  pub shown : shifted s.base es ≡ events_of ms
  pub grown : HasGrown s behind
  pub lines : lines_of calls ≡ event_lines ring es
  pub counted : length calls ≡ length ms

one_right : (ring : ℕ) (s : Standing) (old : EndlessView) (new : EndlessView) (seat : ℕ) (shown : Event) (c : IsCalledSo ring s old new seat shown) → IsRight (with_events s seat (c.local ∷ []))
one_right ring s old new seat shown c = subst (λ (k : ℕ). IsRight (with_events s k (c.local ∷ []))) c.of_seat (subst (λ (es : List Event). IsRight (with_events s c.grew.seat es)) c.of_call c.grew.right)

module _ (ring : ℕ) where
  pub calls_so : (rings : List Standing) (s : Standing) (old new : EndlessView) (ms : List Mark) → length rings < 2 ^ 32 → slice_get rings ring ≡ Some s → IsRight s → AreCalls ms → AreMade old ms new → Shadows s old → length new.ring.book.history ≤ event_limit → Alternate (open_of s) ms →
      AreCalledSo rings ring s old new ms
  calls_so rings s old new [] few there right are m h most alt = record {
    calls = [];
    es = [];
    behind = s;
    chain = set_same rings ring s there;
    shadows = shadows_same s old new h m;
    open_hold = refl;
    history = ap (λ (b : BookView ℕ). b.history) m.ring.book ∙ sym (append-nil old.ring.book.history);
    told = sym (append-nil s.history);
    shown = refl;
    grown = grown_same s;
    lines = refl;
    counted = refl;
  }
  calls_so rings s old new (Call e ∷ ms) few there right are m h most alt =
      let now : EndlessView = m.0 in
      let next_ : EndlessView = m.1 in
      let longer = made_longer next_ new ms m.6 in
      let here : Shadows s now = shadows_same s old now h m.3 in
      let one : IsCalledSo ring s now next_ e.seat m.2.event = call_at s right here (omega (arith, longer, most)) in
      let s1 : Standing = with_events s e.seat (one.local ∷ []) in
      let rings1 : List Standing = slice_set rings ring s1 in
      let many : length rings1 ≡ length rings = length-set rings ring s1 in
      let first : Alternate (open_of s) (Call m.2.event ∷ []) = subst (λ (x : Event). Alternate (open_of s) (Call x ∷ [])) (sym m.5) (alt.0, alt.1, tt) in
      let rest : Alternate (open_of s1) ms = subst (λ (x : Option ℕ). Alternate x ms) (sym (one.open_hold ∙ ap (λ (x : Event). open_behind (open_of s) x) m.5)) alt.2 in
      let r = calls_so rings1 s1 next_ new ms (omega (arith, few, many)) (set_there rings ring s s1 there) (one_right ring s now next_ e.seat m.2.event one) are.2 m.6 one.shadows most rest in
      let last : Chain rings1 r.calls (slice_set rings ring r.behind) = subst (λ (x : List Standing). Chain rings1 r.calls x) (set_twice rings ring s1 r.behind) r.chain in
      let same : now.ring.book.history ≡ old.ring.book.history = ap (λ (b : BookView ℕ). b.history) m.3.ring.book in record {
        calls = line_of_event ring one.local ∷ r.calls;
        es = one.local ∷ r.es;
        behind = r.behind;
        chain = (rings1, called_one rings ring s now next_ e.seat m.2.event few there right one first, last);
        shadows = r.shadows;
        open_hold = r.open_hold ∙ ap (λ (t : Option ℕ). open_after t ms) (one.open_hold ∙ ap (λ (x : Event). open_after (open_of s) (Call x ∷ [])) m.5);
        history = r.history ∙ (ap (λ (x : List Event). x ++ r.es) (one.history ∙ ap (λ (x : List Event). x ++ one.local ∷ []) same) ∙ append_assoc old.ring.book.history (one.local ∷ []) r.es);
        told = r.told ∙ append_assoc s.history (one.local ∷ []) r.es;
        shown = (let first : shifted_event s.base one.local ≡ e = one.is_shown ∙ m.5 in ap (λ (x : Event). x ∷ shifted s.base r.es) first ∙ ap (λ (x : List Event). e ∷ x) r.shown);
        grown = grown_then s s1 r.behind (with_more s e.seat (one.local ∷ [])) r.grown;
        lines = ap (λ (x : List ℕ). journal_line (line_of_event ring one.local) ++ x) r.lines;
        counted = ap suc r.counted;
      }
    where
      call_at : (y : Standing) → IsRight y → Shadows y m.0 → length m.1.ring.book.history ≤ event_limit → IsCalledSo ring y m.0 m.1 e.seat m.2.event
      call_at y k here_ l = subst (λ (z : Standing). IsCalledSo ring z m.0 m.1 e.seat m.2.event) k.2 (called_so ring k.0 k.1 m.0 m.1 e.seat e.op m.2 (subst (λ (z : Standing). Shadows z m.0) (sym k.2) here_) m.4 are.0 are.1 l)
  calls_so rings s old new (Survey seat ∷ ms) few there right are m h most alt = absurd are

-- the seat of the survey with which marks begin
abbrev pub first_seat : List Mark → ℕ
first_seat (Survey seat ∷ ms) = seat
first_seat _ = 0

-- the journal's line of the end of a hold, after which the ring shows none
pub record IsEndFirst (rings : List Standing) (ring : ℕ) (old : EndlessView) (calls : List JournalLine) : Type 0 where
  pub call : JournalLine
  pub later : List JournalLine
  pub parts : calls ≡ call ∷ later
  pub mid : Standing
  pub chain : Chain rings (call ∷ []) (slice_set rings ring mid)
  pub shadows : Shadows mid old
  pub open_hold : open_of mid ≡ None

-- what the journal gets of marks, from the ring before to the ring after them
pub record AreMarkedSo (rings : List Standing) (ring : ℕ) (s : Standing) (old new : EndlessView) (ms : List Mark) : Type 0 where
  pub calls : List JournalLine
  pub behind : Standing
  pub chain : Chain rings calls (slice_set rings ring behind)
  pub shadows : Shadows behind new
  pub open_hold : open_of behind ≡ open_after (open_of s) ms
  pub es : List Event
  pub told : behind.history ≡ s.history ++ es
  pub shown : shifted s.base es ≡ events_of ms
  pub ends : (seat : ℕ) (more : List Mark) → ms ≡ Survey seat ∷ more → HasGrown (with_survey s seat (survey_now s)) behind
  pub grown : HasGrown s behind
  pub lines : lines_of calls ≡ end_line ring (ended_in old ms) ++ event_lines ring (drop (length old.ring.book.history) new.ring.book.history)
  pub counted : length calls ≡ length ms
  pub first : (seat : ℕ) (more : List Mark) → ms ≡ Survey seat ∷ more → IsEndFirst rings ring old calls

no_end : (old : EndlessView) (ms : List Mark) → AreCalls ms → ended_in old ms ≡ None
no_end old [] are = refl
no_end old (Call e ∷ ms) are = refl
no_end old (Survey seat ∷ ms) are = absurd are

new_events : (old new : EndlessView) (es : List Event) → new.ring.book.history ≡ old.ring.book.history ++ es → drop (length old.ring.book.history) new.ring.book.history ≡ es
new_events old new es e = ap (λ (x : List Event). drop (length old.ring.book.history) x) e ∙ drop_at old.ring.book.history es (length old.ring.book.history) refl

pub marks_so : (rings : List Standing) (ring : ℕ) (s : Standing) (old new : EndlessView) (ms : List Mark) → length rings < 2 ^ 32 → slice_get rings ring ≡ Some s → IsRight s → AreMarks ms → AreMade old ms new → Shadows s old → length new.ring.book.history ≤ event_limit → Alternate (open_of s) ms →
    AreMarkedSo rings ring s old new ms
marks_so rings ring s old new ms few there right (Calls are) m h most alt =
    let r = calls_so ring rings s old new ms few there right are m h most alt in record {
      calls = r.calls;
      behind = r.behind;
      chain = r.chain;
      shadows = r.shadows;
      open_hold = r.open_hold;
      es = r.es;
      told = r.told;
      shown = r.shown;
      ends = λ seat more e. absurd (subst AreCalls e are);
      grown = r.grown;
      lines = r.lines ∙ (ap (λ (x : List Event). event_lines ring x) (sym (new_events old new r.es r.history)) ∙ ap (λ (x : Option HoldEnd). end_line ring x ++ event_lines ring (drop (length old.ring.book.history) new.ring.book.history)) (sym (no_end old ms are)));
      counted = r.counted;
      first = λ seat more e. absurd (subst AreCalls e are);
    }
marks_so rings ring s old new ms few there right (EndsFirst seat more e is are) m h most alt =
    let parts : Alternate (open_of s) (Survey seat ∷ more) = subst (λ (x : List Mark). Alternate (open_of s) x) e alt in
    let made : AreMade old more new = subst (λ (x : List Mark). AreMade old x new) e m in
    let one : IsEndedSo ring s old seat = subst (λ (z : Standing). IsEndedSo ring z old seat) right.2 (ended_so ring right.0 right.1 old seat (subst (λ (z : Standing). Shadows z old) (sym right.2) h) is) in
    let s1 : Standing = with_survey s seat (survey_now s) in
    let rings1 : List Standing = slice_set rings ring s1 in
    let many : length rings1 ≡ length rings = length-set rings ring s1 in
    let right1 : IsRight s1 = subst (λ (k : ℕ). IsRight (with_survey s k (survey_now s))) one.of_seat one.looked.right in
    let rest : Alternate (open_of s1) more = subst (λ (x : Option ℕ). Alternate x more) (sym one.open_hold) parts.2 in
    let r = calls_so ring rings1 s1 old new more (omega (arith, few, many)) (set_there rings ring s s1 there) right1 are made one.shadows most rest in
    let last : Chain rings1 r.calls (slice_set rings ring r.behind) = subst (λ (x : List Standing). Chain rings1 r.calls x) (set_twice rings ring s1 r.behind) r.chain in
    let ends : end_line ring (ended_in old ms) ≡ journal_line (line_of_survey ring seat (survey_now s)) =
    ap (λ (x : List Mark). end_line ring (ended_in old x)) e ∙ ap (λ (x : SurveyOf). journal_line (line_of_survey ring seat x)) one.survey in record {
      calls = line_of_survey ring seat (survey_now s) ∷ r.calls;
      behind = r.behind;
      chain = (rings1, ended_one rings ring s old seat few there right one (parts.0, parts.1, tt), last);
      shadows = r.shadows;
      open_hold = r.open_hold ∙ (ap (λ (t : Option ℕ). open_after t more) one.open_hold ∙ ap (λ (x : List Mark). open_after (open_of s) x) (sym e));
      es = r.es;
      told = r.told;
      shown = r.shown ∙ ap events_of (sym e);
      ends = λ k ns f. subst (λ (j : ℕ). HasGrown (with_survey s j (survey_now s)) r.behind) (ap first_seat (sym e ∙ f)) r.grown;
      grown = grown_then s s1 r.behind (looked_more s seat) r.grown;
      lines = ap (λ (x : List ℕ). journal_line (line_of_survey ring seat (survey_now s)) ++ x) (r.lines ∙ ap (λ (x : List Event). event_lines ring x) (sym (new_events old new r.es r.history)))
          ∙ ap (λ (x : List ℕ). x ++ event_lines ring (drop (length old.ring.book.history) new.ring.book.history)) (sym ends);
      counted = ap suc r.counted ∙ ap (λ (x : List Mark). length x) (sym e);
      first = λ k ns f. record {
        call = line_of_survey ring seat (survey_now s);
        later = r.calls;
        parts = refl;
        mid = s1;
        chain = (rings1, ended_one rings ring s old seat few there right one (parts.0, parts.1, tt), refl);
        shadows = one.shadows;
        open_hold = one.open_hold;
      };
    }
