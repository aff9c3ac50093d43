-- Equal locks that are asked the same answer the same, and are equal again.
use Rattle.std.proofs.Common.{◌≡◌, ℕ, suc, ◌+◌, Bool, true, false, List, [], ◌∷◌, ◌++◌, length, Option, Some, None, refl, sym, ◌∙◌, ap, subst, inl, inr, slice_get, ◌-◌, zero, drop}
use Rattle.std.specs.Prelude.{◌||◌}
use Rattle.std.proofs.lemmas.Bool.{cases_eq, true≢false}
use Rattle.std.proofs.lemmas.List.Sums.{sum_by-cons}
use Rattle.one_thread_ring.specs.Journals.{event_lines}
use Rattle.ring_book.specs.BookView.{BookView}
use Rattle.endless_ring.specs.Endless.{IsSameEndless, local_survey}
use Rattle.held_locks.specs.declared.answers.Answers.{Answers}
use Rattle.held_locks.specs.declared.answers.HoldEnd.{HoldEnd}
use Rattle.held_locks.specs.declared.answers.Left.{Left}
use Rattle.held_locks.specs.Queues.{Lock}
use Rattle.held_locks.specs.Locks.{Ask, Mark, step, Leave, Survey, Turn, turn, Call, Asked}
use Rattle.held_locks.specs.Promises.{locks_after, leaves}
use Rattle.held_locks.specs.Kept.{LockView, IsAnswer, locks_of, answers_of, IsLeft, lock_of, ended_in, ended_at, IsDone, IsLack, AreMade, left_by, left_at, left_of}
use Rattle.held_locks.specs.Asked.{events_at, IsAnswerTo}
use Rattle.held_locks.proofs.Asking.{as_answer}
use Rattle.lock_journal.proofs.EqualRings.{made_same}
use Rattle.lock_journal.proofs.Following.{some_is, none_is, also_there, lock_there}
use Rattle.lock_journal.proofs.Short.{short_like, left_long}
use Rattle.lock_journal.specs.Asking.{is_lack}
use Rattle.lock_journal.specs.Counting.{count_about, count_of_all, count_of_left}
use Rattle.lock_journal.specs.Due.{has_short, is_short}
use Rattle.lock_journal.specs.Equal.{AreEqualLocks}
use Rattle.lock_journal.specs.Noting.{note_about, notes_of_left, events_from, end_line, note_of_left}

pub others_equal : (v w : LockView) (a b : List LockView) → AreEqualLocks (v ∷ a) (w ∷ b) → AreEqualLocks a b
others_equal v w a b e = record { locks = tail_of (lock_of v) (lock_of w) (locks_of a) (locks_of b) e.locks; rings = λ i x y p q. e.rings (suc i) x y p q }
  where
    tail_of : (l m : Lock) (ls ms : List Lock) → ◌≡◌ {A = List Lock} (m ∷ ms) (l ∷ ls) → ms ≡ ls
    tail_of l m ls ms q = cc

pub not_none : (l : Lock) (ls : List Lock) → ◌≡◌ {A = List Lock} [] (l ∷ ls) → ⊥
not_none l ls e = cc

pub as_many_equal : (a b : List LockView) → AreEqualLocks a b → length b ≡ length a
as_many_equal [] [] e = refl
as_many_equal [] (w ∷ b) e = absurd (not_none (lock_of w) (locks_of b) (sym e.locks))
as_many_equal (v ∷ a) [] e = absurd (not_none (lock_of v) (locks_of a) e.locks)
as_many_equal (v ∷ a) (w ∷ b) e = ap suc (as_many_equal a b (others_equal v w a b e))

-- what is seen of the lock of a number
module _ (a b : List LockView) (e : AreEqualLocks a b) where
  pub lock_equal : (i : ℕ) (v w : LockView) → slice_get a i ≡ Some v → slice_get b i ≡ Some w → lock_of w ≡ lock_of v
  lock_equal i v w p q = some_is (lock_of w) (lock_of v) (sym (lock_there b i w q) ∙ (ap (λ (x : List Lock). slice_get x i) e.locks ∙ lock_there a i v p))

  pub seen_equal : {X : Type 0} (f : Option LockView → X) → ((v w : LockView) → lock_of w ≡ lock_of v → IsSameEndless v.ring w.ring → f (Some w) ≡ f (Some v)) → (i : ℕ) → f (slice_get b i) ≡ f (slice_get a i)
  seen_equal {X} f one i = go (slice_get a i) (slice_get b i) refl refl
    where
      go : (x y : Option LockView) → slice_get a i ≡ x → slice_get b i ≡ y → f y ≡ f x
      go None None p q = refl
      go None (Some w) p q = let v = also_there b a i w (as_many_equal a b e) q in absurd (none_is v.0 (sym p ∙ v.1))
      go (Some v) None p q = let w = also_there a b i v (sym (as_many_equal a b e)) p in absurd (none_is w.0 (sym q ∙ w.1))
      go (Some v) (Some w) p q = one v w (lock_equal i v w p q) (e.rings i v w p q)

  pub events_equal : (i : ℕ) → events_at (slice_get b i) ≡ events_at (slice_get a i)
  events_equal i = seen_equal events_at (λ v w l s. ap (λ (x : BookView ℕ). length x.history) s.ring.book) i

  pub lines_equal : (lock place i : ℕ) → events_from lock place (slice_get b i) ≡ events_from lock place (slice_get a i)
  lines_equal lock place i = seen_equal (events_from lock place) (λ v w l s. ap (λ (x : BookView ℕ). event_lines lock (drop place x.history)) s.ring.book) i

  ended_like : (v w : LockView) (ms : List Mark) → IsSameEndless v.ring w.ring → ended_in w.ring ms ≡ ended_in v.ring ms
  ended_like v w [] s = refl
  ended_like v w (Call x ∷ ms) s = refl
  ended_like v w (Survey seat ∷ ms) s = ap (λ (x : BookView ℕ). Some (record { seat = seat; survey = local_survey (record { book = x; clients = w.ring.ring.clients }) })) s.ring.book

  pub ended_equal : (ms : List Mark) (i : ℕ) → ended_at (slice_get b i) ms ≡ ended_at (slice_get a i) ms
  ended_equal ms i = seen_equal (λ (x : Option LockView). ended_at x ms) (λ v w l s. ended_like v w ms s) i

  left_like : (c i : ℕ) (v w : LockView) → lock_of w ≡ lock_of v → IsSameEndless v.ring w.ring → left_at c i (Some w) ≡ left_at c i (Some v)
  left_like c i v w l s =
      let t : Turn = turn [] (lock_of v) c Leave in
      ap (λ (x : Lock). left_by i (ended_in w.ring (turn [] x c Leave).marks) (turn [] x c Leave).lock.holder) l
      ∙ ap (λ (x : Option HoldEnd). left_by i x t.lock.holder) (ended_like v w t.marks s)

  pub left_equal : (c n : ℕ) → left_of c b n ≡ left_of c a n
  left_equal c zero = refl
  left_equal c (suc n) = ap (λ (x : List Left). x ++ left_at c n (slice_get b n)) (left_equal c n) ∙ ap (λ (x : List Left). left_of c a n ++ x) (seen_equal (left_at c n) (left_like c n) n)

pub short_equal : (a b : List LockView) → AreEqualLocks a b → has_short b ≡ has_short a
short_equal [] [] e = refl
short_equal [] (w ∷ b) e = absurd (not_none (lock_of w) (locks_of b) (sym e.locks))
short_equal (v ∷ a) [] e = absurd (not_none (lock_of v) (locks_of a) e.locks)
short_equal (v ∷ a) (w ∷ b) e =
    ap (λ (x : Bool). x || has_short b) (short_like v w (lock_equal (v ∷ a) (w ∷ b) e 0 v w refl refl) (e.rings 0 v w refl refl))
    ∙ ap (λ (x : Bool). is_short v || x) (short_equal a b (others_equal v w a b e))

-- ---- notes and counts of locks before and after

module _ (a b c d : List LockView) (e : AreEqualLocks a b) (f : AreEqualLocks c d) where
  pub note_equal : (lock : ℕ) (ended : Option HoldEnd) → note_about lock b d ended ≡ note_about lock a c ended
  note_equal lock ended =
      ap (λ (n : ℕ). end_line lock ended ++ events_from lock n (slice_get d lock)) (events_equal a b e lock)
      ∙ ap (λ (x : List ℕ). end_line lock ended ++ x) (lines_equal c d f lock (events_at (slice_get a lock)) lock)

  pub count_equal : (lock : ℕ) (ended : Option HoldEnd) → count_about lock b d ended ≡ count_about lock a c ended
  count_equal lock ended = let m = events_equal a b e lock in let n = events_equal c d f lock in rw (m, n) refl

module _ (c d : List LockView) (f : AreEqualLocks c d) where
  pub notes_left_equal : (left : List Left) → notes_of_left d left ≡ notes_of_left c left
  notes_left_equal [] = refl
  notes_left_equal (l ∷ left) =
      ap (λ (x : List ℕ). (end_line l.lock (Some l.ended) ++ x) ++ notes_of_left d left) (lines_equal c d f l.lock l.ended.survey.position l.lock)
      ∙ ap (λ (x : List ℕ). note_of_left c l ++ x) (notes_left_equal left)

  pub count_left_equal : (left : List Left) → count_of_all d left ≡ count_of_all c left
  count_left_equal [] = refl
  count_left_equal (l ∷ left) =
      sum_by-cons (count_of_left d) l left
      ∙ ap (λ (n : ℕ). (1 + (n - l.ended.survey.position)) + count_of_all d left) (events_equal c d f l.lock)
      ∙ ap (λ (n : ℕ). count_of_left c l + n) (count_left_equal left)
      ∙ sym (sum_by-cons (count_of_left c) l left)

-- ---- a lock is asked

module _ (a b c d : List LockView) (e : AreEqualLocks a b) where
  pub record AreAnsweredAlike (client : ℕ) (r s : Answers) : Type 0 where
    pub locks : AreEqualLocks c d
    pub answers : answers_of client s ≡ answers_of client r
    pub ended : s.ended ≡ r.ended

  module _ (client i : ℕ) (ask : Ask) (r s : Answers) (p : IsDone a c client i ask r) (q : IsDone b d client i ask s) where
    marks_equal : (step (locks_of b) (Asked client i ask)).marks ≡ (step (locks_of a) (Asked client i ask)).marks
    marks_equal = ap (λ (x : List Lock). (step x (Asked client i ask)).marks) e.locks

    asked_ring : (n : length c ≡ length a) (m : length d ≡ length b) (v w : LockView) → slice_get c i ≡ Some v → slice_get d i ≡ Some w → IsSameEndless v.ring w.ring
    asked_ring n m v w f g =
        let x = also_there c a i v n f in
        let y = also_there d b i w m g in
        let ms = (step (locks_of a) (Asked client i ask)).marks in
        made_same x.0.ring y.0.ring v.ring w.ring ms (e.rings i x.0 y.0 x.1 y.1) (p.marks x.0 v x.1 f)
        (subst (λ (k : List Mark). AreMade y.0.ring k w.ring) marks_equal (q.marks y.0 w y.1 g))

    pub done_alike : length c ≡ length a → length d ≡ length b → AreAnsweredAlike client r s
    done_alike n m = record {
      locks = record {
        locks = q.locks ∙ ap (λ (x : List Lock). (step x (Asked client i ask)).locks) e.locks ∙ sym p.locks;
        rings = λ j v w f g. elim (cases_eq j i) [
          | inl same ↦ asked_ring n m v w (ap (λ (k : ℕ). slice_get c k) (sym same) ∙ f) (ap (λ (k : ℕ). slice_get d k) (sym same) ∙ g)
          | inr other ↦ e.rings j v w (sym (p.others j other) ∙ f) (sym (q.others j other) ∙ g)
        ];
      };
      answers = q.answers ∙ ap (λ (x : List Lock). (step x (Asked client i ask)).answers) e.locks ∙ sym p.answers;
      ended = q.ended ∙ ap (λ (ms : List Mark). ended_at (slice_get b i) ms) marks_equal ∙ ended_equal a b e (step (locks_of a) (Asked client i ask)).marks i ∙ sym p.ended;
    }

-- nobody is refused for lack of room or memory
lack_is : (old new : List LockView) (i : ℕ) (ask : Ask) (r : Answers) → IsLack old new i ask r → is_lack r.own ≡ true
lack_is old new i ask r w = elim w.why [
  | inl f ↦ ap is_lack f.0
  | inr m ↦ ap is_lack m
]

pub asked_done : (old new : List LockView) (c i : ℕ) (ask : Ask) (r : Answers) → IsAnswerTo old new c i ask r → is_lack r.own ≡ false → IsDone old new c i ask r
asked_done old new c i ask r a given = go (as_answer old new c i ask r a)
  where
    go : IsAnswer old new c i ask r → IsDone old new c i ask r
    go (inl d) = d
    go (inr w) = absurd (true≢false (sym (lack_is old new i ask r w) ∙ given))

-- ---- a client leaves

pub left_alike : (a b c d : List LockView) (client : ℕ) (said told : List Left) → AreEqualLocks a b → IsLeft a c client said → IsLeft b d client told → AreEqualLocks c d × (told ≡ said)
left_alike a b c d client said told e p q =
    let many = as_many_equal a b e in
    let n = left_long a c client said p in
    let m = left_long b d client told q in (
      record {
        locks = q.locks ∙ ap (λ (x : List Lock). locks_after x (leaves client (length b))) e.locks ∙ ap (λ (k : ℕ). locks_after (locks_of a) (leaves client k)) many ∙ sym p.locks;
        rings = λ i v w f g.
            let x = also_there c a i v n f in
            let y = also_there d b i w m g in
            let l : lock_of y.0 ≡ lock_of x.0 = lock_equal a b e i x.0 y.0 x.1 y.1 in
            made_same x.0.ring y.0.ring v.ring w.ring (turn [] (lock_of x.0) client Leave).marks (e.rings i x.0 y.0 x.1 y.1) (p.marks i x.0 v x.1 f)
            (subst (λ (k : Lock). AreMade y.0.ring (turn [] k client Leave).marks w.ring) l (q.marks i y.0 w y.1 g));
      },
      q.told ∙ ap (λ (k : ℕ). left_of client b k) many ∙ left_equal a b e client (length a) ∙ sym p.told,
    )
