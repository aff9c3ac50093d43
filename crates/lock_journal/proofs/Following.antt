-- The rings that a journal records follow the locks.
use Rattle.std.proofs.Common.{◌≡◌, ℕ, Bool, true, List, [], ◌∷◌, ◌++◌, length, Option, Some, None, refl, sym, ◌∙◌, ap, subst, arith, slice_get, ◌<◌, ◌^◌, slice_set, drop, ◌≤◌}
use Rattle.std.specs.Prelude.{◌==◌, if◌then◌else◌, option_map}
use Rattle.std.specs.List.{AllByRecursion}
use Rattle.std.proofs.lemmas.Bool.{eq-eqb}
use Rattle.std.proofs.lemmas.List.{append-nil, length-set, length-map}
use Rattle.std.proofs.lemmas.Option.{slice_get_within, slice_get-map}
use Rattle.ring_model.specs.Limits.{event_limit}
use Rattle.journal.specs.declared.calls.JournalLine.{JournalLine}
use Rattle.one_thread_ring.specs.Journals.{event_lines}
use Rattle.endless_ring.specs.Endless.{IsSameEndless}
use Rattle.ring_service.specs.Standings.{Standing}
use Rattle.ring_service.specs.Saved.{IsRight}
use Rattle.ring_service.proofs.Recovering.{lines_of}
use Rattle.held_locks.specs.Queues.{Lock}
use Rattle.held_locks.specs.Locks.{Ask, Mark, step, Survey, Turn, turn, Asked, Step, step_at}
use Rattle.held_locks.specs.Promises.{Alternate, open_after, token_of, AreRight, marks_of}
use Rattle.held_locks.specs.Kept.{LockView, locks_of, lock_of, ended_in, AreMade, state_of}
use Rattle.held_locks.proofs.Moves.{move_of}
use Rattle.held_locks.proofs.Shown.{history_shows_holds}
use Rattle.held_locks.proofs.Standing.{get_set_same}
use Rattle.held_locks.proofs.AllLeft.{there_is}
use Rattle.lock_journal.proofs.Answering.{AreShownIn, turn_in, tells_of}
use Rattle.lock_journal.proofs.Chains.{Chain}
use Rattle.lock_journal.proofs.Marks.{IsSmallAsk, AreMarksOf, IsEndFirst, marks_of_move, marks_so}
use Rattle.lock_journal.proofs.Shadows.{open_of, Shadows, shadows_same}
use Rattle.lock_journal.specs.Begun.{AreSmall}
use Rattle.lock_journal.specs.Noting.{end_line}

-- the ring that the journal records is that of the lock, and shows its hold
pub record Follows (s : Standing) (v : LockView) : Type 0 where
  pub shadows : Shadows s v.ring
  pub hold : open_of s ≡ token_of v.holder
  pub small : AreSmall v.queue

-- all of them
pub record Followed (rings : List Standing) (vs : List LockView) : Type 0 where
  pub many : length rings ≡ length vs
  pub right : AllByRecursion IsRight rings
  pub each : (i : ℕ) (v : LockView) → slice_get vs i ≡ Some v → (s : Standing) × (slice_get rings i ≡ Some s) × Follows s v
  pub locks : AreRight (locks_of vs)

pub some_is : {X : Type 0} (x y : X) → ◌≡◌ {A = Option X} (Some x) (Some y) → x ≡ y
some_is x y e = cc

pub none_is : {X : Type 0} (x : X) → ◌≡◌ {A = Option X} None (Some x) → ⊥
none_is x e = cc

-- ---- a turn shows its holds

pub step_is : (ls : List Lock) (i c : ℕ) (ask : Ask) (l : Lock) → slice_get ls i ≡ Some l → step ls (Asked c i ask) ≡ step_at ls c i ask (Some l)
step_is ls i c ask l e = ap (λ (x : Option Lock). step_at ls c i ask x) e

turn_marks : (ls : List Lock) (i c : ℕ) (ask : Ask) (l : Lock) → slice_get ls i ≡ Some l → marks_of i ls (Asked c i ask ∷ []) ≡ (turn ls l c ask).marks
turn_marks ls i c ask l e =
    let s : step ls (Asked c i ask) ≡ step_at ls c i ask (Some l) = step_is ls i c ask l e in
    let own : (i == i) ≡ true = eq-eqb i i refl in
    ap (λ (b : Bool). (if b then (step ls (Asked c i ask)).marks else []) ++ []) own ∙ (append-nil (step ls (Asked c i ask)).marks ∙ ap (λ (x : Step). x.marks) s)

turn_shows : (ls : List Lock) (i c : ℕ) (ask : Ask) (l : Lock) → AreRight ls → slice_get ls i ≡ Some l → token_of (turn ls l c ask).lock.holder ≡ open_after (token_of l.holder) (turn ls l c ask).marks
turn_shows ls i c ask l right e =
    let h = history_shows_holds ls (Asked c i ask ∷ []) i l right e in
    let s : step ls (Asked c i ask) ≡ step_at ls c i ask (Some l) = step_is ls i c ask l e in
    let there : slice_get (step ls (Asked c i ask)).locks i ≡ Some (turn ls l c ask).lock = ap (λ (x : Step). slice_get x.locks i) s ∙ get_set_same ls i (turn ls l c ask).lock l e in
    let lock : h.0 ≡ (turn ls l c ask).lock = some_is h.0 (turn ls l c ask).lock (sym h.1 ∙ there) in
    let marks : marks_of i ls (Asked c i ask ∷ []) ≡ (turn ls l c ask).marks = turn_marks ls i c ask l e in
    ap (λ (x : Lock). token_of x.holder) (sym lock) ∙ (h.2.open_hold ∙ ap (λ (x : List Mark). open_after (token_of l.holder) x) marks)

-- and its grants and ends of holds alternate
turn_alternates : (ls : List Lock) (i c : ℕ) (ask : Ask) (l : Lock) → AreRight ls → slice_get ls i ≡ Some l → Alternate (token_of l.holder) (turn ls l c ask).marks
turn_alternates ls i c ask l right e =
    let h = history_shows_holds ls (Asked c i ask ∷ []) i l right e in
    subst (λ (x : List Mark). Alternate (token_of l.holder) x) (turn_marks ls i c ask l e) h.2.alternate

-- ---- one lock

pub record IsTurnedSo (rings : List Standing) (ring : ℕ) (s : Standing) (old new : LockView) (t : Turn) : Type 0 where
  pub calls : List JournalLine
  pub behind : Standing
  pub chain : Chain rings calls (slice_set rings ring behind)
  pub follows : Follows behind new
  pub tells : AreShownIn s behind t.answers
  pub lines : lines_of calls ≡ end_line ring (ended_in old.ring t.marks) ++ event_lines ring (drop (length old.ring.ring.book.history) new.ring.ring.book.history)
  pub counted : length calls ≡ length t.marks
  pub first : (seat : ℕ) (more : List Mark) → t.marks ≡ Survey seat ∷ more → IsEndFirst rings ring old.ring calls

pub turned_so : (rings : List Standing) (ring : ℕ) (s : Standing) (old new : LockView) (ls : List Lock) (c : ℕ) (ask : Ask) → length rings < 2 ^ 32 → slice_get rings ring ≡ Some s → IsRight s → Follows s old → AreRight ls → slice_get ls ring ≡ Some (lock_of old) → IsSmallAsk ask →
    AreMade old.ring (turn ls (lock_of old) c ask).marks new.ring → lock_of new ≡ (turn ls (lock_of old) c ask).lock → length new.ring.ring.book.history ≤ event_limit → IsTurnedSo rings ring s old new (turn ls (lock_of old) c ask)
turned_so rings ring s old new ls c ask few there right f locks at small made is most =
    let t : Turn = turn ls (lock_of old) c ask in
    let shape : AreMarksOf t = marks_of_move ls (lock_of old) c ask t (move_of ls (lock_of old) c ask) small f.small in
    let m = marks_so rings ring s old.ring new.ring t.marks few there right shape.marks made f.shadows most (subst (λ (x : Option ℕ). Alternate x t.marks) (sym f.hold) (turn_alternates ls ring c ask (lock_of old) locks at)) in record {
      calls = m.calls;
      behind = m.behind;
      chain = m.chain;
      follows = record {
        shadows = m.shadows;
        hold = m.open_hold ∙ (ap (λ (x : Option ℕ). open_after x t.marks) f.hold ∙ (sym (turn_shows ls ring c ask (lock_of old) locks at) ∙ ap (λ (x : Lock). token_of x.holder) (sym is)));
        small = subst AreSmall (sym (ap (λ (x : Lock). x.queue) is)) shape.small;
      };
      tells = turn_in s m.behind (state_of old.ring) c t m.es (tells_of ls (lock_of old) c ask) (locks.each ring (lock_of old) at).ring m.told m.shown m.ends;
      lines = m.lines;
      counted = m.counted;
      first = m.first;
    }

-- a lock that stays as it is, room aside
pub follows_same : (s : Standing) (old new : LockView) → Follows s old → IsSameEndless old.ring new.ring → lock_of new ≡ lock_of old → Follows s new
follows_same s old new f e is = record {
  shadows = shadows_same s old.ring new.ring f.shadows e;
  hold = f.hold ∙ ap (λ (x : Lock). token_of x.holder) (sym is);
  small = subst AreSmall (sym (ap (λ (x : Lock). x.queue) is)) f.small;
}

-- ---- lists of as many

pub also_there : {X Y : Type 0} (xs : List X) (ys : List Y) (i : ℕ) (x : X) → length xs ≡ length ys → slice_get xs i ≡ Some x → (y : Y) × (slice_get ys i ≡ Some y)
also_there xs ys i x e at = let l = slice_get_within xs i x at in there_is ys i (omega (arith, e, l))

pub lock_there : (vs : List LockView) (i : ℕ) (v : LockView) → slice_get vs i ≡ Some v → slice_get (locks_of vs) i ≡ Some (lock_of v)
lock_there vs i v e = slice_get-map lock_of vs i ∙ ap (λ (x : Option LockView). option_map lock_of x) e

pub as_many : (old new : List LockView) (ls : List Lock) → locks_of new ≡ ls → length ls ≡ length (locks_of old) → length new ≡ length old
as_many old new ls e n =
    let a : length (locks_of new) ≡ length new = length-map new lock_of in
    let b : length (locks_of old) ≡ length old = length-map old lock_of in
    let c : length (locks_of new) ≡ length ls = ap (λ (x : List Lock). length x) e in
    omega (arith, a, b, c, n)

pub step_many : (ls : List Lock) (c i : ℕ) (ask : Ask) → length (step ls (Asked c i ask)).locks ≡ length ls
step_many ls c i ask = go (slice_get ls i)
  where
    go : (o : Option Lock) → length (step_at ls c i ask o).locks ≡ length ls
    go None = refl
    go (Some l) = length-set ls i (turn ls l c ask).lock
