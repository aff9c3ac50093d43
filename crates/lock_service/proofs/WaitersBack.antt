-- Clients that wait come back.
use Rattle.std.proofs.Common.{◌≡◌, ℕ, suc, ◌+◌, ◌<◌, ◌≤◌, ◌&&◌, Bool, true, false, cond, List, [], ◌∷◌, ◌++◌, length, drop, map, Option, Some, None, inl, inr, refl, ap, sym, subst, ◌∙◌, append_assoc, append-nil, length-append, arith}
use Rattle.std.specs.Prelude.{slice_get, slice_set, option_map}
use Rattle.std.specs.List.{AllByRecursion}
use Rattle.std.proofs.Math.Seq.{drop-length}
use Rattle.std.proofs.lemmas.Bool.{cases_order, or_left, true≢false}
use Rattle.std.proofs.lemmas.List.{length-map, length-set}
use Rattle.std.proofs.lemmas.Option.{slice_get-map, slice_get_within}
use Rattle.disks.specs.Held.{Held}
use Rattle.line_service.specs.Answering.{Answers}
use Rattle.line_service.specs.Stands.{Stand, by_stand, stand}
use Rattle.ring_model.specs.declared.events.Event.{Event}
use Rattle.one_thread_ring.specs.Journals.{event_lines}
use Rattle.endless_ring.specs.Endless.{IsSameEndless}
use Rattle.held_locks.specs.declared.answers.Answer.{Answer}
use Rattle.held_locks.specs.declared.answers.Answer.TheVariants as answer
use Rattle.held_locks.specs.declared.answers.HoldEnd.{HoldEnd}
use Rattle.held_locks.specs.declared.answers.Waiter.{Waiter}
use Rattle.held_locks.specs.Queues.{Lock, stands}
use Rattle.held_locks.specs.Locks.{Acquire, Asked, Mark, Step, Turn, step}
use Rattle.held_locks.specs.Promises.{AreRight}
use Rattle.held_locks.specs.Kept.{LockView, lock_of, locks_of, IsDone, AreMade, ended_at, answers_of}
use Rattle.held_locks.proofs.Right.{right_step}
use Rattle.held_locks.proofs.Standing.{get_set, stands_append}
use Rattle.lock_protocol.specs.Names.{Names, IsName, lock_named, name_of}
use Rattle.lock_protocol.specs.Asks.{acquire}
use Rattle.lock_protocol.specs.Views.{Input}
use Rattle.lock_protocol.specs.Views as input
use Rattle.lock_protocol.proofs.NameTables.{name_there}
use Rattle.lock_protocol.specs.Answers.{answer_line}
use Rattle.lock_protocol.proofs.Whole.{one_reading}
use Rattle.lock_service.specs.declared.service.LockService.{LockService}
use Rattle.lock_journal.specs.declared.terms.Terms.{Terms}
use Rattle.lock_journal.specs.Asking.{is_lack}
use Rattle.held_locks.specs.Asked.{events_at}
use Rattle.lock_journal.specs.Noting.{lines_about, note_about, events_from}
use Rattle.lock_journal.specs.Answering.{IsToldOf, IsToldOfNamed, IsInputAnswered}
use Rattle.lock_service.specs.Serving.{IsServed}
use Rattle.lock_journal.specs.State.{wait_line, wait_lines, waits_from}
use Rattle.lock_service.specs.WaitersBack.{holders_of, waiters_of, IsOfBits, HaveState, HaveTheHolds, waiting_lines, waiting_from, WaitersComeBack}
use Rattle.lock_journal.proofs.EqualLocks.{asked_done}
use Rattle.lock_journal.proofs.Following.{some_is, step_is, also_there, lock_there, as_many, step_many}
use Rattle.lock_service.proofs.Rejoining.{ArePart, waits_again}
use Rattle.lock_service.proofs.WaitingLines.{reads_wait}

-- ---- locks of which the first have all who waited, one has a part, and the others nobody

record IsAt (k : ℕ) (front : List Waiter) (j : ℕ) (l m : Lock) : Type 0 where
  pub held : m.holder ≡ l.holder
  pub below : j < k → m.queue ≡ l.queue
  pub here : j ≡ k → m.queue ≡ front
  pub above : k < j → m.queue ≡ []

record Partly (ls : List Lock) (k : ℕ) (front : List Waiter) (ms : List Lock) : Type 0 where
  pub many : length ms ≡ length ls
  pub each : (j : ℕ) (m : Lock) → slice_get ms j ≡ Some m → (l : Lock) × (slice_get ls j ≡ Some l) × IsAt k front j l m

part_of : (ls ms : List Lock) (k : ℕ) (front back : List Waiter) (l : Lock) → slice_get ls k ≡ Some l → l.queue ≡ front ++ back → Partly ls k front ms → ArePart ms ls
part_of ls ms k front back l at line p j m there =
    let x = p.each j m there in
    let stood : (c : ℕ) → stands c m.queue ≡ true → stands c x.0.queue ≡ true = λ c s. elim (cases_order j k) [
      | inl same ↦
          let is : x.0 ≡ l = some_is x.0 l (sym x.1 ∙ ap (λ (i : ℕ). slice_get ls i) same ∙ at) in
          let s : stands c front ≡ true = subst (λ (u : List Waiter). stands c u ≡ true) (x.2.here same) s in
          subst (λ (z : Lock). stands c z.queue ≡ true) (sym is) (subst (λ (u : List Waiter). stands c u ≡ true) (sym line) (stands_append c front back ∙ or_left (stands c front) (stands c back) s))
      | inr other ↦ elim other [
        | inl lt ↦ subst (λ (u : List Waiter). stands c u ≡ true) (x.2.below lt) s
        | inr gt ↦ absurd (true≢false (sym s ∙ ap (λ (u : List Waiter). stands c u) (x.2.above gt)))
      ]
    ] in
    (x.0, x.1, x.2.held, stood)

-- one client more waits
abbrev with_one : Lock → Waiter → Lock
with_one m w = record m { queue = m.queue ++ w ∷ [] }

at_one : (k : ℕ) (front : List Waiter) (w : Waiter) (j : ℕ) (l m x : Lock) → j ≡ k → x ≡ with_one m w → IsAt k front k l m → IsAt k (front ++ w ∷ []) j l x
at_one k front w j l m x same is a = record {
  held = ap (λ (z : Lock). z.holder) is ∙ a.held;
  below = λ lt. absurd (omega (arith, lt, same));
  here = λ e. ap (λ (z : Lock). z.queue) is ∙ ap (λ (u : List Waiter). u ++ w ∷ []) (a.here refl);
  above = λ gt. absurd (omega (arith, gt, same));
}

one_more : (ls ms : List Lock) (k : ℕ) (front : List Waiter) (w : Waiter) (m : Lock) → slice_get ms k ≡ Some m → Partly ls k front ms → Partly ls k (front ++ w ∷ []) (slice_set ms k (with_one m w))
one_more ls ms k front w m there p = record {
  many = length-set ms k (with_one m w) ∙ p.many;
  each = λ j x f. elim (get_set ms k j (with_one m w) m x there f) [
    | inl q ↦ let y = p.each k m there in (y.0, ap (λ (i : ℕ). slice_get ls i) q.0 ∙ y.1, at_one k front w j y.0 m x q.0 q.1 y.2)
    | inr q ↦ let y = p.each j x q.1 in (y.0, y.1, record { held = y.2.held; below = y.2.below; here = λ e. absurd (q.0 e); above = y.2.above })
  ];
}

-- the next lock
one_on : (ls ms : List Lock) (k : ℕ) (l : Lock) → slice_get ls k ≡ Some l → Partly ls k l.queue ms → Partly ls (k + 1) [] ms
one_on ls ms k l at p = record {
  many = p.many;
  each = λ j m there.
      let x = p.each j m there in
      let full : j < k + 1 → m.queue ≡ x.0.queue = λ lt. elim (cases_order j k) [
        | inl same ↦
            let is : l ≡ x.0 = some_is l x.0 (sym at ∙ ap (λ (i : ℕ). slice_get ls i) (sym same) ∙ x.1) in
            x.2.here same ∙ ap (λ (z : Lock). z.queue) is
        | inr other ↦ elim other [
          | inl less ↦ x.2.below less
          | inr more ↦ absurd (omega (arith, lt, more))
        ]
      ] in
      (x.0, x.1, record { held = x.2.held; below = full; here = λ e. x.2.above (omega (arith, e)); above = λ gt. x.2.above (omega (arith, gt)) });
}

-- ---- one client that waits again

-- the step of the machine
abbrev waiting_step : Lock → Waiter → List Lock → ℕ → Step
waiting_step m w ms k = record { locks = slice_set ms k (with_one m w); marks = []; answers = (w.client, answer.Waiting (length m.queue)) ∷ [] }

joins : (ls ms : List Lock) (k : ℕ) (front back : List Waiter) (w : Waiter) (l m : Lock) → AreRight ls → AreRight ms → Partly ls k front ms → slice_get ls k ≡ Some l → slice_get ms k ≡ Some m → l.queue ≡ front ++ w ∷ back →
    step ms (Asked w.client k (Acquire w.label)) ≡ waiting_step m w ms k
joins ls ms k front back w l m good fair p at there line =
    let x = p.each k m there in
    let is : x.0 ≡ l = some_is x.0 l (sym x.1 ∙ at) in
    let held : m.holder ≡ l.holder = x.2.held ∙ ap (λ (z : Lock). z.holder) is in
    let whole : l.queue ≡ m.queue ++ w ∷ back = line ∙ ap (λ (u : List Waiter). u ++ w ∷ back) (sym (x.2.here refl)) in
    step_is ms k w.client (Acquire w.label) m there
    ∙ ap (λ (t : Turn). record { locks = slice_set ms k t.lock; marks = t.marks; answers = t.answers })
    (waits_again ls ms good fair (part_of ls ms k front (w ∷ back) l at line p) k l m at there w back whole held)

-- nothing is noted of it
no_end : (o : Option LockView) → ended_at o [] ≡ None
no_end None = refl
no_end (Some v) = refl

no_events : (k : ℕ) (v w : LockView) → IsSameEndless v.ring w.ring → events_from k (events_at (Some v)) (Some w) ≡ []
no_events k v w same =
    let is : w.ring.ring.book.history ≡ v.ring.ring.book.history = ap (λ b. b.history) same.ring.book in
    ap (λ (h : List Event). event_lines k (drop (length v.ring.ring.book.history) h)) is ∙ ap (λ (h : List Event). event_lines k h) (drop-length v.ring.ring.book.history)

no_note : (k : ℕ) (old new : List LockView) (v w : LockView) (ended : Option HoldEnd) → slice_get old k ≡ Some v → slice_get new k ≡ Some w → ended ≡ None → IsSameEndless v.ring w.ring → note_about k old new ended ≡ []
no_note k old new v w ended at there none same =
    ap (λ (x : Option HoldEnd). note_about k old new x) none
    ∙ ap (λ (x : Option LockView). events_from k (events_at x) (slice_get new k)) at
    ∙ ap (λ (x : Option LockView). events_from k (events_at (Some v)) x) there
    ∙ no_events k v w same

nothing : (b : Bool) → cond {A = List ℕ} b [] [] ≡ []
nothing true = refl
nothing false = refl

module _ (names : Names) (vs : List LockView) (state : HaveState names vs) where
  record IsWaiting (k : ℕ) (front : List Waiter) (w : Waiter) (was : Option Held) (said noted : List ℕ) (new : LockService) (is : Option Held) : Type 0 where
    pub partly : Partly (locks_of vs) k (front ++ w ∷ []) (locks_of new.segment.locks)
    pub fair : AreRight (locks_of new.segment.locks)
    pub strict : new.terms.strict ≡ true
    pub named : new.segment.names ≡ names
    pub says : said ≡ answer_line w.client (name_of names k) (answer.Waiting (length front))
    pub notes : noted ≡ []
    pub files : is ≡ was

  module _ (k : ℕ) (v : LockView) (at : slice_get (locks_of vs) k ≡ Some (lock_of v)) (is_name : IsName (name_of names k)) (found : lock_named names (name_of names k) ≡ Some k) where
    told_of : (w : Waiter) (old new : LockService) (was is : Option Held) (said noted : List ℕ) → IsOfBits w → old.segment.names ≡ names → IsServed old was (wait_line (name_of names k) w) said noted new is → IsToldOf old.terms.strict old.terms.noting w.client k (Acquire w.label) old.segment said noted new.segment
    told_of w old new was is said noted bits named s =
        let a = s.answered in
        let name : List ℕ = name_of names k in
        let read : a.0 ≡ input.Asked w.client (acquire name w.label) = one_reading (wait_line name w) a.0 (input.Asked w.client (acquire name w.label)) a.1 (reads_wait name w is_name bits) in
        let told : IsInputAnswered old.terms (input.Asked w.client (acquire name w.label)) old.segment said noted new.segment = subst (λ (i : Input). IsInputAnswered old.terms i old.segment said noted new.segment) read a.2 in
        let there : lock_named old.segment.names name ≡ Some k = ap (λ (x : Names). lock_named x name) named ∙ found in
        subst (λ (o : Option ℕ). IsToldOfNamed o old.terms.strict old.terms.noting w.client name (Acquire w.label) old.segment said noted new.segment) there told

    waits_on : (front back : List Waiter) (w : Waiter) (old new : LockService) (was is : Option Held) (said noted : List ℕ) → IsOfBits w → v.queue ≡ front ++ w ∷ back → old.terms.strict ≡ true → old.segment.names ≡ names → AreRight (locks_of old.segment.locks) → Partly (locks_of vs) k front (locks_of old.segment.locks) →
        IsServed old was (wait_line (name_of names k) w) said noted new is → IsWaiting k front w was said noted new is
    waits_on front back w old new was is said noted bits line strict named fair p s =
        let a = old.segment.locks in
        let b = new.segment.locks in
        let t = told_of w old new was is said noted bits named s in
        let done : IsDone a b w.client k (Acquire w.label) t.answers = asked_done a b w.client k (Acquire w.label) t.answers t.done (subst (λ (x : Bool). (x && is_lack t.answers.own) ≡ false) strict t.given) in
        let there = also_there (locks_of vs) (locks_of a) k (lock_of v) (sym p.many) at in
        let m = there.0 in
        let e : step (locks_of a) (Asked w.client k (Acquire w.label)) ≡ waiting_step m w (locks_of a) k = joins (locks_of vs) (locks_of a) k front back w (lock_of v) m state.right fair p at there.1 line in
        let front_is : m.queue ≡ front = (p.each k m there.1).2.here refl in
        let no_marks : (step (locks_of a) (Asked w.client k (Acquire w.label))).marks ≡ [] = ap (λ (x : Step). x.marks) e in
        let many : length (locks_of a) ≡ length a = length-map a lock_of in
        let x = also_there (locks_of a) a k m many there.1 in
        let same_many : length b ≡ length a = as_many a b (step (locks_of a) (Asked w.client k (Acquire w.label))).locks done.locks (step_many (locks_of a) w.client k (Acquire w.label)) in
        let y = also_there a b k x.0 (sym same_many) x.1 in
        let same : IsSameEndless x.0.ring y.0.ring = subst (λ (ms : List Mark). AreMade x.0.ring ms y.0.ring) no_marks (done.marks x.0 y.0 x.1 y.1) in
        let none : t.answers.ended ≡ None = done.ended ∙ ap (λ (ms : List Mark). ended_at (slice_get a k) ms) no_marks ∙ no_end (slice_get a k) in
        record {
          partly = subst (λ (ms : List Lock). Partly (locks_of vs) k (front ++ w ∷ []) ms) (sym (done.locks ∙ ap (λ (x : Step). x.locks) e)) (one_more (locks_of vs) (locks_of a) k front w m there.1 p);
          fair = subst (λ (ms : List Lock). AreRight ms) (sym done.locks) (right_step (locks_of a) (Asked w.client k (Acquire w.label)) fair);
          strict = ap (λ (x : Terms). x.strict) s.terms ∙ strict;
          named = t.counted.names ∙ named;
          says = t.says ∙ ap (λ (x : Names). lines_about x k (answers_of w.client t.answers)) named ∙ ap (λ (x : List (ℕ × Answer)). lines_about names k x) (done.answers ∙ ap (λ (x : Step). x.answers) e)
              ∙ append-nil (answer_line w.client (name_of names k) (answer.Waiting (length m.queue))) ∙ ap (λ (u : List Waiter). answer_line w.client (name_of names k) (answer.Waiting (length u))) front_is;
          notes = t.notes ∙ ap (λ (u : List ℕ). cond old.terms.noting u []) (no_note k a b x.0 y.0 t.answers.ended x.1 y.1 none same) ∙ nothing old.terms.noting;
          files = s.files;
        }

    -- ---- all that wait for one lock

    record Went (front : List Waiter) (text : List ℕ) (more : List (List ℕ)) (was : Option Held) (said noted : List ℕ) (new : LockService) (is : Option Held) : Type 0 where
      pub mid : LockService
      pub between : Option Held
      pub partly : Partly (locks_of vs) k front (locks_of mid.segment.locks)
      pub fair : AreRight (locks_of mid.segment.locks)
      pub strict : mid.terms.strict ≡ true
      pub named : mid.segment.names ≡ names
      pub later : List ℕ
      pub says : said ≡ text ++ later
      pub files : between ≡ was
      pub rest : Answers (by_stand IsServed) (stand mid between) more later noted (stand new is)

    went_on : (front full : List Waiter) (w : Waiter) (text : List ℕ) (more : List (List ℕ)) (mid new : LockService) (was between is : Option Held) (first later said note notes noted : List ℕ) → IsWaiting k front w was first note mid between →
        said ≡ first ++ later → noted ≡ note ++ notes → Went full text more between later notes new is → Went full (answer_line w.client (name_of names k) (answer.Waiting (length front)) ++ text) more was said noted new is
    went_on front full w text more mid new was between is first later said note notes noted one p q g =
        let line = answer_line w.client (name_of names k) (answer.Waiting (length front)) in
        record {
          mid = g.mid;
          between = g.between;
          partly = g.partly;
          fair = g.fair;
          strict = g.strict;
          named = g.named;
          later = g.later;
          says = p ∙ ap (λ (u : List ℕ). u ++ later) one.says ∙ ap (λ (u : List ℕ). line ++ u) g.says ∙ sym (append_assoc line text g.later);
          files = g.files ∙ one.files;
          rest = subst (λ (u : List ℕ). Answers (by_stand IsServed) (stand g.mid g.between) more g.later u (stand new is)) (sym (q ∙ ap (λ (u : List ℕ). u ++ notes) one.notes)) g.rest;
        }

    of_lock : (back front : List Waiter) (more : List (List ℕ)) (old new : LockService) (was is : Option Held) (said noted : List ℕ) → AllByRecursion IsOfBits back → v.queue ≡ front ++ back → old.terms.strict ≡ true → old.segment.names ≡ names → AreRight (locks_of old.segment.locks) →
        Partly (locks_of vs) k front (locks_of old.segment.locks) → Answers (by_stand IsServed) (stand old was) (wait_lines (name_of names k) back ++ more) said noted (stand new is) → Went v.queue (waiting_lines (name_of names k) (length front) back) more was said noted new is
    of_lock [] front more old new was is said noted bits line strict named fair p a = record {
      mid = old;
      between = was;
      partly = subst (λ (u : List Waiter). Partly (locks_of vs) k u (locks_of old.segment.locks)) (sym (line ∙ append-nil front)) p;
      fair = fair;
      strict = strict;
      named = named;
      later = said;
      says = refl;
      files = refl;
      rest = a;
    }
    of_lock (w ∷ back) front more old new was is said noted bits line strict named fair p a =
        let one = waits_on front back w old a.0.service was a.0.files a.1 a.3 bits.0 line strict named fair p a.5 in
        let g = of_lock back (front ++ w ∷ []) more a.0.service new a.0.files is a.2 a.4 bits.1 (line ∙ sym (append_assoc front (w ∷ []) back)) one.strict one.named one.fair one.partly a.8 in
        let all = went_on front v.queue w (waiting_lines (name_of names k) (length (front ++ w ∷ [])) back) more a.0.service new was a.0.files is a.1 a.2 said a.3 a.4 noted one a.6 a.7 g in
        subst (λ (n : ℕ). Went v.queue (answer_line w.client (name_of names k) (answer.Waiting (length front)) ++ waiting_lines (name_of names k) n back) more was said noted new is) (length-append front (w ∷ [])) all

  -- ---- all locks

  record AllWait (n : ℕ) (text : List ℕ) (was : Option Held) (said noted : List ℕ) (new : LockService) (is : Option Held) : Type 0 where
    pub partly : Partly (locks_of vs) n [] (locks_of new.segment.locks)
    pub says : said ≡ text
    pub notes : noted ≡ []
    pub files : is ≡ was

  of_all : (us : List LockView) (k : ℕ) (old new : LockService) (was is : Option Held) (said noted : List ℕ) → ((i : ℕ) (v : LockView) → slice_get us i ≡ Some v → slice_get (locks_of vs) (k + i) ≡ Some (lock_of v)) →
      k + length us ≤ length names → AllByRecursion (λ (v : LockView). AllByRecursion IsOfBits v.queue) us → old.terms.strict ≡ true → old.segment.names ≡ names → AreRight (locks_of old.segment.locks) →
      Partly (locks_of vs) k [] (locks_of old.segment.locks) → Answers (by_stand IsServed) (stand old was) (waits_from names k us) said noted (stand new is) → AllWait (k + length us) (waiting_from names k us) was said noted new is
  of_all [] k old new was is said noted at few bits strict named fair p a = record {
    partly = subst (λ (n : ℕ). Partly (locks_of vs) n [] (locks_of new.segment.locks)) (let e : k ≡ k + 0 = omega arith in e)
        (subst (λ (s : Stand LockService). Partly (locks_of vs) k [] (locks_of s.service.segment.locks)) (sym a.2) p);
    says = a.0;
    notes = a.1;
    files = ap (λ (s : Stand LockService). s.files) a.2;
  }
  of_all (v ∷ us) k old new was is said noted at few bits strict named fair p a =
      let lt : k < length names = omega (arith, few) in
      let name = name_there names k state.named lt in
      let here : slice_get (locks_of vs) k ≡ Some (lock_of v) = ap (λ (n : ℕ). slice_get (locks_of vs) n) (let e : k ≡ k + 0 = omega arith in e) ∙ at 0 v refl in
      let g = of_lock k v here name.0 name.1 v.queue [] (waits_from names (k + 1) us) old new was is said noted bits.0 refl strict named fair p a in
      let on = one_on (locks_of vs) (locks_of g.mid.segment.locks) k (lock_of v) here g.partly in
      let there : (i : ℕ) (u : LockView) → slice_get us i ≡ Some u → slice_get (locks_of vs) (k + 1 + i) ≡ Some (lock_of u) = λ i u e. ap (λ (n : ℕ). slice_get (locks_of vs) n) (let q : k + 1 + i ≡ k + suc i = omega arith in q) ∙ at (suc i) u e in
      let w = of_all us (k + 1) g.mid new g.between is g.later noted there (omega (arith, few)) bits.1 g.strict g.named g.fair on g.rest in
      record {
        partly = subst (λ (n : ℕ). Partly (locks_of vs) n [] (locks_of new.segment.locks)) (let q : k + 1 + length us ≡ k + suc (length us) = omega arith in q) w.partly;
        says = g.says ∙ ap (λ (u : List ℕ). waiting_lines (name_of names k) 0 v.queue ++ u) w.says;
        notes = w.notes;
        files = w.files ∙ g.files;
      }

-- ---- lists that are the same, place by place

same_lists : {X : Type 0} (f : LockView → X) (xs ys : List LockView) → length xs ≡ length ys → ((j : ℕ) (x y : LockView) → slice_get xs j ≡ Some x → slice_get ys j ≡ Some y → f x ≡ f y) → map f xs ≡ map f ys
same_lists f [] [] e same = refl
same_lists f [] (y ∷ ys) e same = absurd cc
same_lists f (x ∷ xs) [] e same = absurd cc
same_lists f (x ∷ xs) (y ∷ ys) e same =
    let first = same 0 x y refl refl in
    let rest = same_lists f xs ys (let n : length xs ≡ length ys = omega (arith, e) in n) (λ j a b p q. same (suc j) a b p q) in
    λ i. first i ∷ rest i

same_at : {X : Type 0} (f g : LockView → X) (xs ys : List LockView) (j : ℕ) (x y : LockView) → map f xs ≡ map g ys → slice_get xs j ≡ Some x → slice_get ys j ≡ Some y → f x ≡ g y
same_at f g xs ys j x y e p q =
    some_is (f x) (g y)
    (sym (slice_get-map f xs j ∙ ap (λ (o : Option LockView). option_map f o) p) ∙ ap (λ u. slice_get u j) e ∙ (slice_get-map g ys j ∙ ap (λ (o : Option LockView). option_map g o) q))

-- ---- the law

begins : (vs now : List LockView) → HaveTheHolds vs now → Partly (locks_of vs) 0 [] (locks_of now)
begins vs now h =
    let a : length (holders_of now) ≡ length now = length-map now (λ (v : LockView). v.holder) in
    let b : length (holders_of vs) ≡ length vs = length-map vs (λ (v : LockView). v.holder) in
    let c : length (locks_of now) ≡ length now = length-map now lock_of in
    let d : length (locks_of vs) ≡ length vs = length-map vs lock_of in
    let e = ap (λ u. length u) h.holders in
    let many : length now ≡ length vs = sym a ∙ e ∙ b in record {
      many = c ∙ many ∙ sym d;
      each = λ j m there.
          let x = also_there (locks_of now) now j m c there in
          let y = also_there now vs j x.0 many x.1 in
          let is : m ≡ lock_of x.0 = some_is m (lock_of x.0) (sym there ∙ lock_there now j x.0 x.1) in
          let none : m.queue ≡ [] = ap (λ (l : Lock). l.queue) is ∙ same_at (λ (v : LockView). v.queue) (λ (v : LockView). []) now vs j x.0 y.0 h.nobody x.1 y.1 in (
            lock_of y.0,
            lock_there vs j y.0 y.1,
            record {
              held = ap (λ (l : Lock). l.holder) is ∙ same_at (λ (v : LockView). v.holder) (λ (v : LockView). v.holder) now vs j x.0 y.0 h.holders x.1 y.1;
              below = λ lt. absurd (omega (arith, lt));
              here = λ same. none;
              above = λ gt. none;
            },
          );
    }

ends : (vs now : List LockView) (n : ℕ) → length vs ≤ n → Partly (locks_of vs) n [] (locks_of now) → (waiters_of now ≡ waiters_of vs) × (holders_of now ≡ holders_of vs)
ends vs now n le p =
    let many : length now ≡ length vs = as_many vs now (locks_of now) refl p.many in
    let at : (j : ℕ) (x y : LockView) → slice_get now j ≡ Some x → slice_get vs j ≡ Some y → IsAt n [] j (lock_of y) (lock_of x) = λ j x y e f.
    let a = p.each j (lock_of x) (lock_there now j x e) in
    subst (λ (l : Lock). IsAt n [] j l (lock_of x)) (some_is a.0 (lock_of y) (sym a.1 ∙ lock_there vs j y f)) a.2 in (
      same_lists (λ (v : LockView). v.queue) now vs many (λ j x y e f. (at j x y e f).below (let within = slice_get_within vs j y f in omega (arith, within, le))),
      same_lists (λ (v : LockView). v.holder) now vs many (λ j x y e f. (at j x y e f).held),
    )

pub waiters_come_back : WaitersComeBack
waiters_come_back vs old new was is said noted strict state holds a =
    let there : (i : ℕ) (v : LockView) → slice_get vs i ≡ Some v → slice_get (locks_of vs) (0 + i) ≡ Some (lock_of v) = λ i v e. ap (λ (n : ℕ). slice_get (locks_of vs) n) (let q : 0 + i ≡ i = omega arith in q) ∙ lock_there vs i v e in
    let many = state.each in
    let w = of_all old.segment.names vs state vs 0 old new was is said noted there (omega (arith, many)) state.bits strict refl holds.right (begins vs old.segment.locks holds) a in
    let e = ends vs new.segment.locks (0 + length vs) (omega arith) w.partly in
    (record { says = w.says; notes = w.notes; waiters = e.0; holders = e.1 }, w.files)
