-- The notes of lines are calls of the journal, after which its rings follow the locks.
use Rattle.std.proofs.Common.{◌≡◌, ℕ, suc, Bool, true, false, List, [], ◌∷◌, ◌++◌, length, Option, Some, None, refl, sym, ◌∙◌, ap, subst, inl, inr, arith, slice_get, ◌<◌, ◌^◌, slice_set, zero, drop, ◌≤◌, ◌⊎◌}
use Rattle.std.specs.Prelude.{nat_lt, if◌then◌else◌, option_map}
use Rattle.std.specs.List.{flat_map, AllByRecursion}
use Rattle.std.proofs.lemmas.Bool.{cases_eq, ltb-true}
use Rattle.std.proofs.lemmas.List.{append-nil, length-set}
use Rattle.std.proofs.lemmas.Grind.{flat_map-append}
use Rattle.std.proofs.lemmas.Option.{slice_get_within, slice_get-map}
use Rattle.text_lines.specs.LongNumbers.{in_32_bits, in_64_bits}
use Rattle.ring_model.specs.Limits.{event_limit}
use Rattle.ring_model.specs.History.{State}
use Rattle.ring_model.specs.declared.events.Event.{Event}
use Rattle.ring_book.specs.BookView.{BookView}
use Rattle.journal.specs.declared.calls.JournalLine.{JournalLine}
use Rattle.journal.specs.Spelling.{journal_line}
use Rattle.one_thread_ring.specs.Journals.{event_lines}
use Rattle.endless_ring.specs.Endless.{IsSameEndless, local_survey}
use Rattle.ring_service.specs.Standings.{Standing}
use Rattle.ring_service.specs.Saved.{IsRight}
use Rattle.ring_service.proofs.Effects.{right_at}
use Rattle.ring_service.proofs.Recovering.{lines_of}
use Rattle.held_locks.specs.declared.answers.Waiter.{Waiter}
use Rattle.held_locks.specs.declared.answers.Holder.{Holder}
use Rattle.held_locks.specs.declared.answers.Answer.{Answer}
use Rattle.held_locks.specs.declared.answers.Refusal.{Refusal}
use Rattle.held_locks.specs.declared.answers.Answers.{Answers}
use Rattle.held_locks.specs.declared.answers.HoldEnd.{HoldEnd}
use Rattle.held_locks.specs.declared.answers.Left.{Left}
use Rattle.held_locks.specs.Queues.{Lock, without, is_held_by}
use Rattle.held_locks.specs.Locks.{Ask, Acquire, Try, Release, Cancel, Corrupt, Stats, Mark, step, Leave, Turn, ended, dropped, turn, Asked, Step, step_at, advanced}
use Rattle.held_locks.specs.Promises.{locks_after, leaves, AreRight}
use Rattle.held_locks.specs.Kept.{LockView, IsAnswer, other_grant, locks_of, answers_of, IsLeft, lock_of, ended_in, ended_at, IsDone, IsLack, AreMade, left_by, left_at, left_of, state_of, own_answer, IsFull}
use Rattle.held_locks.proofs.Calls.{same_itself}
use Rattle.held_locks.proofs.Right.{right_step, right_stays}
use Rattle.held_locks.proofs.Shown.{locks_append}
use Rattle.held_locks.proofs.Standing.{get_set_other, get_set_same}
use Rattle.held_locks.proofs.AllLeft.{there_is}
use Rattle.ring_service.proofs.RecordedBlocks.{set_there}
use Rattle.lock_protocol.specs.Asks.{heard, of_one}
use Rattle.lock_protocol.specs.Names.{Names, name_of, lock_named}
use Rattle.lock_protocol.specs.Inputs.{IsReadAs}
use Rattle.lock_protocol.specs.Answers.{answer_line, denial_line}
use Rattle.lock_protocol.specs.declared.answers.Denial.{Denial}
use Rattle.lock_protocol.specs.Views.{Input}
use Rattle.lock_journal.specs.declared.terms.Terms.{Terms}
use Rattle.held_locks.specs.Asked.{events_at, IsAnswerTo}
use Rattle.lock_journal.proofs.Answering.{AreShownIn, AreToldIn, tellings_of, lines_are, all_in, told_quiet, told_one, told_denied, told_unknown, told_nobody}
use Rattle.lock_journal.proofs.Chains.{Chain, chain_append, chain_many, chain_right}
use Rattle.lock_journal.proofs.Following.{some_is, none_is, also_there, lock_there, Followed, Follows, step_is, turned_so, follows_same, as_many, step_many}
use Rattle.lock_journal.proofs.Marks.{IsSmallAsk}
use Rattle.lock_journal.specs.Answering.{IsLineAnswered, IsSaid, IsToldOf, IsToldOfNamed, IsTold, IsAnsweredIf, IsInputAnswered, denial_of}
use Rattle.lock_journal.specs.Asking.{one_ask, is_off}
use Rattle.lock_journal.specs.Counting.{SegmentView}
use Rattle.lock_journal.specs.Noting.{lines_about, note_about, lines_of_left, notes_of_left, events_from, end_line, note_of_left, line_of_left}
use Rattle.lock_journal.specs.Told.{IsToldIn, Telling, text_of}
use Rattle.held_locks.specs.declared.answers.Answer.TheVariants as answer
use Rattle.held_locks.specs.declared.answers.Refusal.TheVariants as refusal
use Rattle.lock_protocol.specs.Asks as asks
use Rattle.lock_protocol.specs.declared.answers.Denial.TheVariants as denial
use Rattle.lock_protocol.specs.Views as input

-- no ring has more events than a segment may
abbrev pub AreBounded : List LockView → Type 0
AreBounded vs = (i : ℕ) (v : LockView) → slice_get vs i ≡ Some v → length v.ring.ring.book.history ≤ event_limit

-- the notes are those of calls, after which the rings follow these locks
pub record IsNotedSo (rings : List Standing) (new : List LockView) (noted : List ℕ) : Type 0 where
  pub calls : List JournalLine
  pub behind : List Standing
  pub chain : Chain rings calls behind
  pub followed : Followed behind new
  pub lines : noted ≡ lines_of calls

-- and the answers that are said are in the rings
pub record IsLineSo (names : Names) (rings : List Standing) (new : List LockView) (said notes : List ℕ) : Type 0 where
  pub noted : IsNotedSo rings new notes
  pub told : AreToldIn names rings noted.behind said

-- nothing is noted, and the locks are the same, room aside
pub record AreSame (old new : List LockView) : Type 0 where
  pub locks : locks_of new ≡ locks_of old
  pub each : (i : ℕ) (v w : LockView) → slice_get old i ≡ Some v → slice_get new i ≡ Some w → IsSameEndless v.ring w.ring

nothing_new : (rings : List Standing) (old new : List LockView) → Followed rings old → AreSame old new → IsNotedSo rings new []
nothing_new rings old new f same =
    let n : length new ≡ length old = as_many old new (locks_of old) same.locks refl in
    let many = f.many in record {
      calls = [];
      behind = rings;
      chain = refl;
      followed = record {
        many = omega (arith, n, many);
        right = f.right;
        each = λ i w e.
            let v = also_there new old i w n e in
            let k = f.each i v.0 v.1 in
            let lock : lock_of w ≡ lock_of v.0 = some_is (lock_of w) (lock_of v.0) (sym (lock_there new i w e) ∙ (ap (λ (x : List Lock). slice_get x i) same.locks ∙ lock_there old i v.0 v.1)) in
            (k.0, k.1, follows_same k.0 v.0 w k.2 (same.each i v.0 w v.1 e) lock);
        locks = subst AreRight (sym same.locks) f.locks;
      };
      lines = refl;
    }

itself : (vs : List LockView) → AreSame vs vs
itself vs = record {
  locks = refl;
  each = λ i v w e f. subst (λ (x : LockView). IsSameEndless v.ring x.ring) (some_is v w (sym e ∙ f)) (same_itself v.ring);
}

-- ---- one lock is asked

pub all_past : (i : ℕ) (xs : List Event) (m : ℕ) → length xs ≡ m → event_lines i (drop m xs) ≡ []
all_past i xs m e = ap (λ (k : ℕ). event_lines i (drop k xs)) (sym e) ∙ end xs
  where
    end : (ys : List Event) → event_lines i (drop (length ys) ys) ≡ []
    end [] = refl
    end (y ∷ ys) = end ys

module _ (names : Names) (rings : List Standing) (old new : List LockView) (few : length rings < 2 ^ 32) (f : Followed rings old) (most : AreBounded new) (c i : ℕ) (ask : Ask) where
  abbrev ls : List Lock
  ls = locks_of old

  abbrev marks : List Mark
  marks = (step ls (Asked c i ask)).marks

  noted_none : (r : Answers) → IsDone old new c i ask r → slice_get old i ≡ None → IsLineSo names rings new (lines_about names i (answers_of c r)) (note_about i old new r.ended)
  noted_none r d none =
      let gone : slice_get ls i ≡ None = slice_get-map lock_of old i ∙ ap (λ (x : Option LockView). option_map lock_of x) none in
      let s : step ls (Asked c i ask) ≡ step_at ls c i ask None = ap (λ (x : Option Lock). step_at ls c i ask x) gone in
      let same : locks_of new ≡ ls = d.locks ∙ ap (λ (x : Step). x.locks) s in
      let n : length new ≡ length old = as_many old new ls same refl in
      let missing : slice_get new i ≡ None = go (slice_get new i) refl n in
      let quiet : r.ended ≡ None = d.ended ∙ ap (λ (x : Option LockView). ended_at x marks) none in
      let note : note_about i old new r.ended ≡ [] =
      ap (λ (x : Option HoldEnd). end_line i x ++ events_from i (events_at (slice_get old i)) (slice_get new i)) quiet
      ∙ ap (λ (x : Option LockView). events_from i (events_at (slice_get old i)) x) missing in
      let unchanged : IsNotedSo rings new [] = nothing_new rings old new f (record {
        locks = same;
        each = λ j v w e g. elim (cases_eq j i) [
          | inl q ↦ absurd (none_is v (sym none ∙ (ap (λ (k : ℕ). slice_get old k) (sym q) ∙ e)))
          | inr q ↦ subst (λ (x : LockView). IsSameEndless v.ring x.ring) (some_is v w (sym e ∙ (sym (d.others j q) ∙ g))) (same_itself v.ring)
        ];
      }) in
      subst (λ (x : List ℕ). IsLineSo names rings new (lines_about names i (answers_of c r)) x) (sym note) (record {
        noted = unchanged;
        told = told_quiet names rings unchanged.behind i c (answer.Refused refusal.Lock) (answers_of c r) refl (d.answers ∙ ap (λ (x : Step). x.answers) s);
      })
    where
      go : (o : Option LockView) → slice_get new i ≡ o → length new ≡ length old → o ≡ None
      go None e n = refl
      go (Some w) e n = let v = also_there new old i w n e in absurd (none_is v.0 (sym none ∙ v.1))

  noted_one : (v : LockView) (r : Answers) → IsDone old new c i ask r → slice_get old i ≡ Some v → IsSmallAsk ask → IsLineSo names rings new (lines_about names i (answers_of c r)) (note_about i old new r.ended)
  noted_one v r d at small =
      let here : slice_get ls i ≡ Some (lock_of v) = lock_there old i v at in
      let s : step ls (Asked c i ask) ≡ step_at ls c i ask (Some (lock_of v)) = step_is ls i c ask (lock_of v) here in
      let n : length new ≡ length old = as_many old new (step ls (Asked c i ask)).locks d.locks (step_many ls c i ask) in
      let w = also_there old new i v (sym n) at in
      let turned : Turn = turn ls (lock_of v) c ask in
      let is : marks ≡ turned.marks = ap (λ (x : Step). x.marks) s in
      let lock : lock_of w.0 ≡ turned.lock = some_is (lock_of w.0) turned.lock (sym (lock_there new i w.0 w.1) ∙ (ap (λ (x : List Lock). slice_get x i) (d.locks ∙ ap (λ (x : Step). x.locks) s) ∙ get_set_same ls i turned.lock (lock_of v) here)) in
      let k = f.each i v at in
      let made : AreMade v.ring turned.marks w.0.ring = subst (λ (x : List Mark). AreMade v.ring x w.0.ring) is (d.marks v w.0 at w.1) in
      let t = turned_so rings i k.0 v w.0 ls c ask few k.1 (right_at rings i k.0 f.right k.1) k.2 f.locks here small made lock (most i w.0 w.1) in
      let ends : r.ended ≡ ended_in v.ring turned.marks = d.ended ∙ (ap (λ (x : Option LockView). ended_at x marks) at ∙ ap (λ (x : List Mark). ended_in v.ring x) is) in
      let note : note_about i old new r.ended ≡ lines_of t.calls =
      ap (λ (x : Option HoldEnd). end_line i x ++ events_from i (events_at (slice_get old i)) (slice_get new i)) ends
      ∙ ap (λ (x : Option LockView). end_line i (ended_in v.ring turned.marks) ++ events_from i (events_at x) (slice_get new i)) at
      ∙ ap (λ (x : Option LockView). end_line i (ended_in v.ring turned.marks) ++ events_from i (length v.ring.ring.book.history) x) w.1
      ∙ sym t.lines in
      let many = f.many in
      let size : length (slice_set rings i t.behind) ≡ length rings = length-set rings i t.behind in
      let said : answers_of c r ≡ turned.answers = d.answers ∙ ap (λ (x : Step). x.answers) s in
      let noted_ : IsNotedSo rings new (note_about i old new r.ended) = record {
        calls = t.calls;
        behind = slice_set rings i t.behind;
        chain = t.chain;
        followed = record {
          many = omega (arith, n, many, size);
          right = chain_right rings (slice_set rings i t.behind) t.calls f.right t.chain;
          each = λ j x e. elim (cases_eq j i) [
            | inl q ↦
                let same : w.0 ≡ x = some_is w.0 x (sym w.1 ∙ (ap (λ (m : ℕ). slice_get new m) (sym q) ∙ e)) in (
                  t.behind,
                  subst (λ (m : ℕ). slice_get (slice_set rings i t.behind) m ≡ Some t.behind) (sym q) (set_there rings i k.0 t.behind k.1),
                  subst (λ (y : LockView). Follows t.behind y) same t.follows,
                )
            | inr q ↦
                let was : slice_get old j ≡ Some x = sym (d.others j q) ∙ e in
                let g = f.each j x was in
                (g.0, get_set_other rings i j t.behind q ∙ g.1, g.2)
          ];
          locks = subst AreRight (sym d.locks) (right_step ls (Asked c i ask) f.locks);
        };
        lines = note;
      } in record {
        noted = noted_;
        told = told_one names rings (slice_set rings i t.behind) k.0 t.behind i (answers_of c r) k.1 (set_there rings i k.0 t.behind k.1) (subst (λ (x : List (ℕ × Answer)). AreShownIn k.0 t.behind x) (sym said) t.tells);
      }

  noted_done : (r : Answers) → IsDone old new c i ask r → IsSmallAsk ask → IsLineSo names rings new (lines_about names i (answers_of c r)) (note_about i old new r.ended)
  noted_done r d small = go (slice_get old i) refl
    where
      go : (o : Option LockView) → slice_get old i ≡ o → IsLineSo names rings new (lines_about names i (answers_of c r)) (note_about i old new r.ended)
      go None e = noted_none r d e
      go (Some v) e = noted_one v r d e small

  noted_lack : (r : Answers) → IsLack old new i ask r → IsLineSo names rings new (lines_about names i (answers_of c r)) (note_about i old new r.ended)
  noted_lack r d =
      let note : note_about i old new r.ended ≡ [] = ap (λ (x : Option HoldEnd). end_line i x ++ events_from i (events_at (slice_get old i)) (slice_get new i)) d.none.0 ∙ go (slice_get old i) (slice_get new i) refl refl in
      let unchanged : IsNotedSo rings new [] = nothing_new rings old new f still in
      subst (λ (x : List ℕ). IsLineSo names rings new (lines_about names i (answers_of c r)) x) (sym note) (record { noted = unchanged; told = wanted unchanged.behind d.why })
    where
      still : AreSame old new
      still = subst (λ (vs : List LockView). AreSame old vs) (sym d.same) (itself old)

      only : (why : Refusal) → r.own ≡ Some (answer.Refused why) → answers_of c r ≡ (c, answer.Refused why) ∷ []
      only why e = ap (λ (x : Option Answer). own_answer c x ++ other_grant r.granted) e ∙ ap (λ (x : Option Holder). (c, answer.Refused why) ∷ other_grant x) d.none.1

      wanted : (behind : List Standing) → ((r.own ≡ Some (answer.Refused refusal.Full)) × IsFull old i ask) ⊎ (r.own ≡ Some (answer.Refused refusal.Memory)) → AreToldIn names rings behind (lines_about names i (answers_of c r))
      wanted behind (inl w) = told_quiet names rings behind i c (answer.Refused refusal.Full) (answers_of c r) refl (only refusal.Full w.0)
      wanted behind (inr w) = told_quiet names rings behind i c (answer.Refused refusal.Memory) (answers_of c r) refl (only refusal.Memory w)

      n : length new ≡ length old
      n = ap (λ (vs : List LockView). length vs) d.same

      go : (x y : Option LockView) → slice_get old i ≡ x → slice_get new i ≡ y → events_from i (events_at x) y ≡ []
      go x None e g = refl
      go None (Some w) e g = let v = also_there new old i w n g in absurd (none_is v.0 (sym e ∙ v.1))
      go (Some v) (Some w) e g = all_past i w.ring.ring.book.history (length v.ring.ring.book.history) (ap (λ (b : BookView ℕ). length b.history) (still.each i v w e g).ring.book)

  noted_answer : (r : Answers) → IsAnswer old new c i ask r → IsSmallAsk ask → IsLineSo names rings new (lines_about names i (answers_of c r)) (note_about i old new r.ended)
  noted_answer r (inl d) small = noted_done r d small
  noted_answer r (inr d) small = noted_lack r d

-- an ask is answered
pub noted_ask : (names : Names) (rings : List Standing) (old new : List LockView) → length rings < 2 ^ 32 → Followed rings old → AreBounded new → (c i : ℕ) (ask : Ask) (r : Answers) → IsAnswerTo old new c i ask r → IsSmallAsk ask → IsLineSo names rings new (lines_about names i (answers_of c r)) (note_about i old new r.ended)
noted_ask names rings old new few f most c i (Acquire order) r d small = noted_answer names rings old new few f most c i (Acquire order) r d small
noted_ask names rings old new few f most c i (Try order) r d small = noted_answer names rings old new few f most c i (Try order) r d small
noted_ask names rings old new few f most c i (Corrupt machine value) r d small = noted_answer names rings old new few f most c i (Corrupt machine value) r d small
noted_ask names rings old new few f most c i (Release token) r d small = noted_done names rings old new few f most c i (Release token) r d small
noted_ask names rings old new few f most c i Cancel r d small = noted_done names rings old new few f most c i Cancel r d small
noted_ask names rings old new few f most c i Leave r d small = noted_done names rings old new few f most c i Leave r d small
noted_ask names rings old new few f most c i Stats r d small = noted_done names rings old new few f most c i Stats r d small

-- ---- a client leaves all locks

pub stays : (ls : List Lock) (c m j : ℕ) → m ≤ j → slice_get (locks_after ls (leaves c m)) j ≡ slice_get ls j
stays ls c zero j l = refl
stays ls c (suc m) j l =
    let now : List Lock = locks_after ls (leaves c m) in
    ap (λ (x : List Lock). slice_get x j) (locks_append ls (leaves c m) (Asked c m Leave ∷ [])) ∙ (go now (slice_get now m) ∙ stays ls c m j (omega (arith, l)))
  where
    go : (xs : List Lock) (o : Option Lock) → slice_get (step_at xs c m Leave o).locks j ≡ slice_get xs j
    go xs None = refl
    go xs (Some x) = get_set_other xs m j (turn xs x c Leave).lock (λ q. omega (arith, q, l))

pub left_lock : (ls : List Lock) (c m j : ℕ) (l : Lock) → slice_get ls j ≡ Some l → j < m → slice_get (locks_after ls (leaves c m)) j ≡ Some (turn ls l c Leave).lock
left_lock ls c zero j l e lt = absurd (omega (arith, lt))
left_lock ls c (suc m) j l e lt =
    let now : List Lock = locks_after ls (leaves c m) in
    ap (λ (x : List Lock). slice_get x j) (locks_append ls (leaves c m) (Asked c m Leave ∷ [])) ∙ elim (cases_eq j m) [
      | inl q ↦
          let here : slice_get now m ≡ Some l = stays ls c m m (omega arith) ∙ (ap (λ (k : ℕ). slice_get ls k) (sym q) ∙ e) in
          ap (λ (k : ℕ). slice_get (step now (Asked c m Leave)).locks k) q ∙ (ap (λ (x : Step). slice_get x.locks m) (step_is now m c Leave l here) ∙ get_set_same now m (turn now l c Leave).lock l here)
      | inr q ↦ go now (slice_get now m) q ∙ left_lock ls c m j l e (omega (arith, lt, q))
    ]
  where
    go : (xs : List Lock) (o : Option Lock) → (j ≡ m → ⊥) → slice_get (step_at xs c m Leave o).locks j ≡ slice_get xs j
    go xs None q = refl
    go xs (Some x) q = get_set_other xs m j (turn xs x c Leave).lock q

pub left_many : (xs : List Lock) (c m : ℕ) → length (locks_after xs (leaves c m)) ≡ length xs
left_many xs c zero = refl
left_many xs c (suc m) =
    ap (λ (x : List Lock). length x) (locks_append xs (leaves c m) (Asked c m Leave ∷ [])) ∙ (step_many (locks_after xs (leaves c m)) c m Leave ∙ left_many xs c m)

-- the turn of a leave, of a client that holds the lock or does not
abbrev pub left_turn : ℕ → LockView → Bool → Turn
left_turn c v b = if b then ended (state_of v.ring) (without c v.queue) 2 [] else dropped (lock_of v) c []

-- what is noted of one lock
pub left_note : (c n : ℕ) (v w : LockView) (new : List LockView) → slice_get new n ≡ Some w → AreMade v.ring (turn [] (lock_of v) c Leave).marks w.ring →
    flat_map (note_of_left new) (left_at c n (Some v)) ≡ end_line n (ended_in v.ring (turn [] (lock_of v) c Leave).marks) ++ event_lines n (drop (length v.ring.ring.book.history) w.ring.ring.book.history)
left_note c n v w new there made = go (is_held_by c v.holder) made
  where
    go : (b : Bool) → AreMade v.ring (left_turn c v b).marks w.ring →
        flat_map (note_of_left new) (left_by n (ended_in v.ring (left_turn c v b).marks) (left_turn c v b).lock.holder) ≡ end_line n (ended_in v.ring (left_turn c v b).marks) ++ event_lines n (drop (length v.ring.ring.book.history) w.ring.ring.book.history)
    go true m =
        let e : HoldEnd = record { seat = 2; survey = local_survey v.ring.ring } in
        append-nil (end_line n (Some e) ++ events_from n (length v.ring.ring.book.history) (slice_get new n)) ∙ ap (λ (x : Option LockView). end_line n (Some e) ++ events_from n (length v.ring.ring.book.history) x) there
    go false m = sym (all_past n w.ring.ring.book.history (length v.ring.ring.book.history) (ap (λ (b : BookView ℕ). length b.history) m.ring.book))

-- the client has left the first of the locks
pub record AreLeftSo (rings : List Standing) (old new : List LockView) (c n : ℕ) : Type 0 where
  pub calls : List JournalLine
  pub behind : List Standing
  pub chain : Chain rings calls behind
  pub lines : flat_map (note_of_left new) (left_of c old n) ≡ lines_of calls
  pub gone : (j : ℕ) (w : LockView) → j < n → slice_get new j ≡ Some w → (s : Standing) × (slice_get behind j ≡ Some s) × Follows s w
  pub tells : (j : ℕ) (v : LockView) → j < n → slice_get old j ≡ Some v → AllByRecursion (λ (t : Telling). IsToldIn rings behind t.lock t.said) (tellings_of j (turn [] (lock_of v) c Leave).answers)
  pub rest : (j : ℕ) → n ≤ j → slice_get behind j ≡ slice_get rings j

-- the answers about a lock are still in the rings when another lock changes
told_still : (was is : List Standing) (n lock : ℕ) (s : Standing) (answers : List (ℕ × Answer)) → (lock ≡ n → ⊥) → AllByRecursion (λ (t : Telling). IsToldIn was is t.lock t.said) (tellings_of lock answers) →
    AllByRecursion (λ (t : Telling). IsToldIn was (slice_set is n s) t.lock t.said) (tellings_of lock answers)
told_still was is n lock s [] ne all = tt
told_still was is n lock s (a ∷ answers) ne all = (one a.1 all.0, told_still was is n lock s answers ne all.1)
  where
    one : (x : Answer) → IsToldIn was is lock x → IsToldIn was (slice_set is n s) lock x
    one (answer.Granted token) t = record { old = t.old; new = t.new; there = t.there; here = get_set_other is n lock s ne ∙ t.here; grant = t.grant }
    one (answer.Waiting before) t = tt
    one answer.Busy t = tt
    one answer.Released t = record { old = t.old; new = t.new; there = t.there; here = get_set_other is n lock s ne ∙ t.here; release = t.release }
    one answer.Cancelled t = tt
    one (answer.Corrupted was_) t = tt
    one (answer.Stats s_) t = tt
    one (answer.Refused why) t = tt

-- what a leave says
record AreLinesOf (names : Names) (rings behind : List Standing) (left : List Left) : Type 0 where
  pub tellings : List Telling
  pub text : lines_of_left names left ≡ text_of names tellings
  pub each : AllByRecursion (λ (t : Telling). IsToldIn rings behind t.lock t.said) tellings

all_both : (P : Telling → Type 0) (xs ys : List Telling) → AllByRecursion P xs → AllByRecursion P ys → AllByRecursion P (xs ++ ys)
all_both P [] ys a b = b
all_both P (x ∷ xs) ys a b = (a.0, all_both P xs ys a.1 b)

lines_then : (names : Names) (rings behind : List Standing) (xs ys : List Left) → AreLinesOf names rings behind xs → AreLinesOf names rings behind ys → AreLinesOf names rings behind (xs ++ ys)
lines_then names rings behind xs ys a b = record {
  tellings = a.tellings ++ b.tellings;
  text = flat_map-append (line_of_left names) xs ys ∙ (ap (λ (x : List ℕ). x ++ lines_of_left names ys) a.text ∙ (ap (λ (x : List ℕ). text_of names a.tellings ++ x) b.text ∙ sym (flat_map-append (λ (t : Telling). answer_line t.client (name_of names t.lock) t.said) a.tellings b.tellings)));
  each = all_both (λ (t : Telling). IsToldIn rings behind t.lock t.said) a.tellings b.tellings a.each b.each;
}

-- of one lock
said_of : (names : Names) (rings behind : List Standing) (c n : ℕ) (v : LockView) → AllByRecursion (λ (t : Telling). IsToldIn rings behind t.lock t.said) (tellings_of n (turn [] (lock_of v) c Leave).answers) → AreLinesOf names rings behind (left_at c n (Some v))
said_of names rings behind c n v all = go (is_held_by c v.holder) all
  where
    grants : (a : State ℕ) (line : List Waiter) → other_grant (advanced a line).lock.holder ≡ (advanced a line).answers
    grants a [] = refl
    grants a (w ∷ line) = refl

    go : (b : Bool) → AllByRecursion (λ (t : Telling). IsToldIn rings behind t.lock t.said) (tellings_of n (left_turn c v b).answers) → AreLinesOf names rings behind (left_by n (ended_in v.ring (left_turn c v b).marks) (left_turn c v b).lock.holder)
    go true all = record {
      tellings = tellings_of n (left_turn c v true).answers;
      text = append-nil (lines_about names n (other_grant (left_turn c v true).lock.holder)) ∙ (ap (λ (x : List (ℕ × Answer)). lines_about names n x) (grants (state_of v.ring) (without c v.queue)) ∙ lines_are names n (left_turn c v true).answers);
      each = all;
    }
    go false all = record { tellings = []; text = refl; each = tt }

module _ (rings : List Standing) (old new : List LockView) (few : length rings < 2 ^ 32) (f : Followed rings old) (most : AreBounded new) (c : ℕ) (said : List Left) (d : IsLeft old new c said) where
  old_new : length new ≡ length old
  old_new = as_many old new (locks_after (locks_of old) (leaves c (length old))) d.locks (left_many (locks_of old) c (length old))

  left_one : (n : ℕ) (v w : LockView) → slice_get old n ≡ Some v → slice_get new n ≡ Some w → n < length old → AreLeftSo rings old new c n → AreLeftSo rings old new c (suc n)
  left_one n v w at there l a =
      let k = f.each n v at in
      let here : slice_get a.behind n ≡ Some k.0 = a.rest n (omega arith) ∙ k.1 in
      let right : AllByRecursion IsRight a.behind = chain_right rings a.behind a.calls f.right a.chain in
      let size : length a.behind ≡ length rings = chain_many rings a.behind a.calls a.chain in
      let lock_at : slice_get (locks_of old) n ≡ Some (lock_of v) = lock_there old n v at in
      let lock : lock_of w ≡ (turn (locks_of old) (lock_of v) c Leave).lock = some_is (lock_of w) (turn (locks_of old) (lock_of v) c Leave).lock
      (sym (lock_there new n w there) ∙ (ap (λ (x : List Lock). slice_get x n) d.locks ∙ left_lock (locks_of old) c (length old) n (lock_of v) lock_at l)) in
      let made : AreMade v.ring (turn (locks_of old) (lock_of v) c Leave).marks w.ring = d.marks n v w at there in
      let t = turned_so a.behind n k.0 v w (locks_of old) c Leave (omega (arith, few, size)) here (right_at a.behind n k.0 right here) k.2 f.locks lock_at tt made lock (most n w there) in
      let one : flat_map (note_of_left new) (left_at c n (slice_get old n)) ≡ lines_of t.calls = ap (λ (x : Option LockView). flat_map (note_of_left new) (left_at c n x)) at ∙ (left_note c n v w new there made ∙ sym t.lines) in record {
        calls = a.calls ++ t.calls;
        behind = slice_set a.behind n t.behind;
        chain = chain_append rings a.behind (slice_set a.behind n t.behind) a.calls t.calls a.chain t.chain;
        lines = flat_map-append (note_of_left new) (left_of c old n) (left_at c n (slice_get old n))
            ∙ (ap (λ (x : List ℕ). x ++ flat_map (note_of_left new) (left_at c n (slice_get old n))) a.lines ∙ (ap (λ (x : List ℕ). lines_of a.calls ++ x) one ∙ sym (flat_map-append journal_line a.calls t.calls)));
        gone = λ j x lt e. elim (cases_eq j n) [
          | inl q ↦
              let same : w ≡ x = some_is w x (sym there ∙ (ap (λ (m : ℕ). slice_get new m) (sym q) ∙ e)) in (
                t.behind,
                subst (λ (m : ℕ). slice_get (slice_set a.behind n t.behind) m ≡ Some t.behind) (sym q) (set_there a.behind n k.0 t.behind here),
                subst (λ (y : LockView). Follows t.behind y) same t.follows,
              )
          | inr q ↦
              let g = a.gone j x (omega (arith, lt, q)) e in
              (g.0, get_set_other a.behind n j t.behind q ∙ g.1, g.2)
        ];
        tells = λ j x lt e. elim (cases_eq j n) [
          | inl q ↦
              let same : v ≡ x = some_is v x (sym at ∙ (ap (λ (m : ℕ). slice_get old m) (sym q) ∙ e)) in
              let first : slice_get rings n ≡ Some k.0 = k.1 in
              let told : AllByRecursion (λ (u : Telling). IsToldIn rings (slice_set a.behind n t.behind) u.lock u.said) (tellings_of n (turn [] (lock_of v) c Leave).answers) =
              all_in rings (slice_set a.behind n t.behind) k.0 t.behind n (turn [] (lock_of v) c Leave).answers first (set_there a.behind n k.0 t.behind here) t.tells in
              subst (λ (m : ℕ). AllByRecursion (λ (u : Telling). IsToldIn rings (slice_set a.behind n t.behind) u.lock u.said) (tellings_of m (turn [] (lock_of x) c Leave).answers)) (sym q)
              (subst (λ (y : LockView). AllByRecursion (λ (u : Telling). IsToldIn rings (slice_set a.behind n t.behind) u.lock u.said) (tellings_of n (turn [] (lock_of y) c Leave).answers)) same told)
          | inr q ↦ told_still rings a.behind n j t.behind (turn [] (lock_of x) c Leave).answers q (a.tells j x (omega (arith, lt, q)) e)
        ];
        rest = λ j le. get_set_other a.behind n j t.behind (λ q. omega (arith, q, le)) ∙ a.rest j (omega (arith, le));
      }

  pub left_so : (n : ℕ) → n ≤ length old → AreLeftSo rings old new c n
  left_so zero l = record { calls = []; behind = rings; chain = refl; lines = refl; gone = λ j w lt e. absurd (omega (arith, lt)); tells = λ j v lt e. absurd (omega (arith, lt)); rest = λ j le. refl }
  left_so (suc n) l =
      let v = there_is old n (omega (arith, l)) in
      let w = also_there old new n v.0 (sym old_new) v.1 in
      left_one n v.0 w.0 v.1 w.1 (omega (arith, l)) (left_so n (omega (arith, l)))

  -- what is said of the first of them
  said_first : (names : Names) (behind : List Standing) (n : ℕ) → n ≤ length old →
      ((j : ℕ) (v : LockView) → j < n → slice_get old j ≡ Some v → AllByRecursion (λ (t : Telling). IsToldIn rings behind t.lock t.said) (tellings_of j (turn [] (lock_of v) c Leave).answers)) →
      AreLinesOf names rings behind (left_of c old n)
  said_first names behind zero l tells = record { tellings = []; text = refl; each = tt }
  said_first names behind (suc n) l tells =
      let v = there_is old n (omega (arith, l)) in
      let before = said_first names behind n (omega (arith, l)) (λ j x lt e. tells j x (omega (arith, lt)) e) in
      let one = said_of names rings behind c n v.0 (tells n v.0 (omega arith) v.1) in
      subst (λ (x : Option LockView). AreLinesOf names rings behind (left_of c old n ++ left_at c n x)) (sym v.1) (lines_then names rings behind (left_of c old n) (left_at c n (Some v.0)) before one)

  pub noted_left : (names : Names) → IsLineSo names rings new (lines_of_left names said) (notes_of_left new said)
  noted_left names =
      let a = left_so (length old) (omega arith) in
      let size : length a.behind ≡ length rings = chain_many rings a.behind a.calls a.chain in
      let many = f.many in
      let n = old_new in
      let first = said_first names a.behind (length old) (omega arith) a.tells in
      let noted_ : IsNotedSo rings new (notes_of_left new said) = record {
        calls = a.calls;
        behind = a.behind;
        chain = a.chain;
        followed = record {
          many = omega (arith, size, many, n);
          right = chain_right rings a.behind a.calls f.right a.chain;
          each = λ i w e. let l = slice_get_within new i w e in a.gone i w (omega (arith, l, n)) e;
          locks = subst AreRight (sym d.locks) (right_stays (locks_of old) (leaves c (length old)) f.locks);
        };
        lines = ap (λ (x : List Left). notes_of_left new x) d.told ∙ a.lines;
      } in record {
        noted = noted_;
        told = record { tellings = first.tellings; text = inl (ap (λ (x : List Left). lines_of_left names x) d.told ∙ first.text); each = first.each };
      }

-- ---- a line

pub order_small : (make : ℕ → asks.Ask) (order : ℕ) (x : asks.Ask) → of_one make (in_64_bits order) ≡ Some x → order < 2 ^ 64
order_small make order x e = go (nat_lt order (2 ^ 64)) refl e
  where
    go : (b : Bool) → nat_lt order (2 ^ 64) ≡ b → of_one make (if b then Some order else None) ≡ Some x → order < 2 ^ 64
    go true t e = ltb-true order (2 ^ 64) t
    go false t e = absurd (none_is x e)

module _ (rings : List Standing) (old new : SegmentView) (few : length rings < 2 ^ 32) (f : Followed rings old.locks) (most : AreBounded new.locks) where
  unchanged : (noted : List ℕ) → noted ≡ [] → new ≡ old → IsNotedSo rings new.locks noted
  unchanged noted n e = subst (λ (x : List ℕ). IsNotedSo rings new.locks x) (sym n) (subst (λ (x : SegmentView). IsNotedSo rings x.locks []) (sym e) (nothing_new rings old.locks old.locks f (itself old.locks)))

  noted_denied : (client : ℕ) (why : Denial) (said noted : List ℕ) → IsSaid (denial_line client why) old said noted new → IsLineSo old.names rings new.locks said noted
  noted_denied client why said noted s = let n = unchanged noted s.notes s.leaves in record { noted = n; told = told_denied old.names rings n.behind client why said s.says }

  noted_told : (strict : Bool) (c i : ℕ) (ask : Ask) (said noted : List ℕ) → IsSmallAsk ask → IsToldOf strict true c i ask old said noted new → IsLineSo old.names rings new.locks said noted
  noted_told strict c i ask said noted small t =
      subst (λ (x : List ℕ). IsLineSo old.names rings new.locks x noted) (sym t.says)
      (subst (λ (x : List ℕ). IsLineSo old.names rings new.locks (lines_about old.names i (answers_of c t.answers)) x) (sym t.notes) (noted_ask old.names rings old.locks new.locks few f most c i ask t.answers t.done small))

  noted_named : (o : Option ℕ) (strict : Bool) (c : ℕ) (name : List ℕ) (ask : Ask) (said noted : List ℕ) → lock_named old.names name ≡ o → IsSmallAsk ask → IsToldOfNamed o strict true c name ask old said noted new → IsLineSo old.names rings new.locks said noted
  noted_named None strict c name ask said noted e small t = let n = unchanged noted t.notes t.leaves in record { noted = n; told = told_unknown old.names rings n.behind c name said e t.says }
  noted_named (Some i) strict c name ask said noted e small t = noted_told strict c i ask said noted small t

  noted_of : (strict : Bool) (c : ℕ) (a : asks.Ask) (said noted : List ℕ) → heard a ≡ Some a → IsTold strict true c (one_ask a) old said noted new → IsLineSo old.names rings new.locks said noted
  noted_of strict c (asks.acquire name order) said noted h t = noted_named (lock_named old.names name) strict c name (Acquire order) said noted refl (order_small (asks.acquire name) order (asks.acquire name order) h) t
  noted_of strict c (asks.try name order) said noted h t = noted_named (lock_named old.names name) strict c name (Try order) said noted refl (order_small (asks.try name) order (asks.try name order) h) t
  noted_of strict c (asks.release name token) said noted h t = noted_named (lock_named old.names name) strict c name (Release token) said noted refl tt t
  noted_of strict c (asks.cancel name) said noted h t = noted_named (lock_named old.names name) strict c name Cancel said noted refl tt t
  noted_of strict c asks.leave said noted h t =
      subst (λ (x : List ℕ). IsLineSo old.names rings new.locks x noted) (sym t.says)
      (subst (λ (x : List ℕ). IsLineSo old.names rings new.locks (lines_of_left old.names t.left) x) (sym t.notes) (noted_left rings old.locks new.locks few f most c t.left t.done old.names))
  noted_of strict c (asks.corrupt name machine value) said noted h t = noted_named (lock_named old.names name) strict c name (Corrupt (in_32_bits machine) (in_32_bits value)) said noted refl tt t
  noted_of strict c (asks.stats name) said noted h t = noted_named (lock_named old.names name) strict c name Stats said noted refl tt t

  noted_if : (off : Bool) (terms : Terms) (c : ℕ) (a : asks.Ask) (said noted : List ℕ) → terms.noting ≡ true → heard a ≡ Some a → IsAnsweredIf off terms c a old said noted new → IsLineSo old.names rings new.locks said noted
  noted_if true terms c a said noted noting h t = noted_denied c denial.Off said noted t
  noted_if false terms c a said noted noting h t = noted_of terms.strict c a said noted h (subst (λ (b : Bool). IsTold terms.strict b c (one_ask a) old said noted new) noting t)

  noted_input : (terms : Terms) (line : List ℕ) (i : Input) (said noted : List ℕ) → terms.noting ≡ true → IsReadAs line i → IsInputAnswered terms i old said noted new → IsLineSo old.names rings new.locks said noted
  noted_input terms line (input.Asked c ask) said noted noting r t = noted_if (is_off terms.faults ask) terms c ask said noted noting r.2 t
  noted_input terms line (input.Refused c why) said noted noting r t = noted_denied c (denial_of why) said noted t
  noted_input terms line input.Nobody said noted noting r t = let n = unchanged noted t.notes t.leaves in record { noted = n; told = told_nobody old.names rings n.behind said t.says }

  pub noted_line : (terms : Terms) (line said noted : List ℕ) → terms.noting ≡ true → IsLineAnswered terms old line said noted new → IsLineSo old.names rings new.locks said noted
  noted_line terms line said noted noting a = noted_input terms line a.0 said noted noting a.1 a.2
