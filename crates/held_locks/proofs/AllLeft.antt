-- A client that leaves all locks, one after the other.
use Rattle.std.proofs.Common.{◌≡◌, ℕ, zero, suc, ◌+◌, ◌<◌, ◌≤◌, Bool, true, false, List, [], ◌∷◌, ◌++◌, length, refl, sym, ◌∙◌, ap, subst, inl, inr, arith, Option, Some, None}
use Rattle.std.specs.Prelude.{◌==◌, slice_get, option_map}
use Rattle.std.proofs.lemmas.Bool.{cases_Bool, cases_eq, or_parts}
use Rattle.std.proofs.lemmas.List.{append-nil, append_assoc, length-map}
use Rattle.std.proofs.lemmas.Option.{slice_get-map, slice_get_within}
use Rattle.ring_model.specs.History.{State}
use Rattle.held_locks.specs.declared.answers.Waiter.{Waiter}
use Rattle.held_locks.specs.declared.answers.Holder.{Holder}
use Rattle.endless_ring.specs.Endless.{local_survey}
use Rattle.held_locks.specs.declared.answers.Answer.{Answer}
use Rattle.held_locks.specs.declared.answers.Answer.TheVariants as answer
use Rattle.held_locks.specs.declared.answers.Answers.{Answers}
use Rattle.held_locks.specs.declared.answers.HoldEnd.{HoldEnd}
use Rattle.held_locks.specs.declared.answers.Left.{Left}
use Rattle.held_locks.specs.declared.parts.LockParts.{LockParts}
use Rattle.held_locks.specs.Parts.{view_of, views_of}
use Rattle.held_locks.specs.Kept.{LockView, state_of, lock_of, locks_of, AreMade, ended_in, ended_at, own_answer, other_grant, IsDone, left_by, left_at, left_of, grants_after, IsLeft}
use Rattle.held_locks.specs.Queues.{Lock, stands, without, is_held_by}
use Rattle.held_locks.specs.Locks.{Leave, Asked, Input, Step, advanced, turn, step, step_at}
use Rattle.held_locks.specs.Promises.{locks_after, answers_after, leaves, LeaversAreGone}
use Rattle.held_locks.proofs.Standing.{get_set, stands_without}
use Rattle.held_locks.proofs.Shown.{locks_append}

-- the client holds the lock no more, and does not wait for it
abbrev IsGone : ℕ → Lock → Type 0
IsGone c l = (is_held_by c l.holder ≡ false) × (stands c l.queue ≡ false)

gone_on : (a : State ℕ) (queue : List Waiter) (c : ℕ) → stands c queue ≡ false → IsGone c (advanced a queue).lock
gone_on a [] c s = (refl, refl)
gone_on a (w ∷ queue) c s = or_parts (w.client == c) (stands c queue) s

gone_turn : (ls : List Lock) (l : Lock) (c : ℕ) → IsGone c (turn ls l c Leave).lock
gone_turn ls l c = elim (cases_Bool (is_held_by c l.holder)) [
  | inl h ↦ rw h (gone_on l.ring (without c l.queue) c (stands_without c l.queue))
  | inr h ↦ rw h (h, stands_without c l.queue)
]

-- the locks so far
gone_step : (ls : List Lock) (c n : ℕ) (o : Option Lock) → slice_get ls n ≡ o → ((i : ℕ) (l : Lock) → i < n → slice_get ls i ≡ Some l → IsGone c l) →
    (i : ℕ) (l : Lock) → i < suc n → slice_get (step_at ls c n Leave o).locks i ≡ Some l → IsGone c l
gone_step ls c n None e gone i l m f = elim (cases_eq i n) [
  | inl q ↦ absurd (nothing l (sym e ∙ ap (λ (k : ℕ). slice_get ls k) (sym q) ∙ f))
  | inr q ↦ gone i l (omega (arith, q, m)) f
]
  where
    nothing : (l : Lock) → ◌≡◌ {A = Option Lock} None (Some l) → ⊥
    nothing l e = cc
gone_step ls c n (Some x) e gone i l m f = elim (get_set ls n i (turn ls x c Leave).lock x l e f) [
  | inl p ↦ subst (λ (y : Lock). IsGone c y) (sym p.1) (gone_turn ls x c)
  | inr p ↦ let q = p.0 in gone i l (omega (arith, q, m)) p.1
]

pub gone_so_far : (ls : List Lock) (c n i : ℕ) (l : Lock) → i < n → slice_get (locks_after ls (leaves c n)) i ≡ Some l → IsGone c l
gone_so_far ls c zero i l m e = absurd (omega arith)
gone_so_far ls c (suc n) i l m e =
    gone_step (locks_after ls (leaves c n)) c n (slice_get (locks_after ls (leaves c n)) n) refl (λ j k o f. gone_so_far ls c n j k o f) i l m
    (ap (λ (x : List Lock). slice_get x i) (sym (locks_append ls (leaves c n) (Asked c n Leave ∷ []))) ∙ e)

pub leavers_are_gone : LeaversAreGone
leavers_are_gone ls c i l m e = gone_so_far ls c (length ls) i l m e

-- ---- the calls, as views

pub answers_append : (ls : List Lock) (is js : List Input) → answers_after ls (is ++ js) ≡ answers_after ls is ++ answers_after (locks_after ls is) js
answers_append ls [] js = refl
answers_append ls (i ∷ is) js = ap (λ (x : List (ℕ × Answer)). (step ls i).answers ++ x) (answers_append (step ls i).locks is js) ∙ sym (append_assoc (step ls i).answers (answers_after (step ls i).locks is) (answers_after (locks_after (step ls i).locks is) js))

grants_append : (xs ys : List Left) → grants_after (xs ++ ys) ≡ grants_after xs ++ grants_after ys
grants_append [] ys = refl
grants_append (x ∷ xs) ys = ap (λ (z : List (ℕ × Answer)). other_grant x.granted ++ z) (grants_append xs ys) ∙ sym (append_assoc (other_grant x.granted) (grants_after xs) (grants_after ys))

-- the client that is granted after the end of a hold
holder_by : (a : State ℕ) (queue : List Waiter) (h : Option Holder) → other_grant h ≡ (advanced a queue).answers → h ≡ (advanced a queue).lock.holder
holder_by a [] None e = refl
holder_by a [] (Some h) e = absurd (one h e)
  where
    one : (h : Holder) → ◌≡◌ {A = List (ℕ × Answer)} ((h.client, answer.Granted h.token) ∷ []) [] → ⊥
    one h e = cc
holder_by a (w ∷ queue) None e = absurd (one w e)
  where
    one : (w : Waiter) → ◌≡◌ {A = List (ℕ × Answer)} [] ((w.client, answer.Granted (a.grants + 1)) ∷ []) → ⊥
    one w e = cc
holder_by a (w ∷ queue) (Some h) e =
    let p : h.client ≡ w.client = client_is h.client w.client h.token (a.grants + 1) e in
    let q : h.token ≡ a.grants + 1 = token_is h.client w.client h.token (a.grants + 1) e in
    ap (λ (x : ℕ). Some (record { client = x; token = h.token })) p ∙ ap (λ (x : ℕ). Some (record { client = w.client; token = x })) q
  where
    pair_is : (c d s t : ℕ) → ◌≡◌ {A = List (ℕ × Answer)} ((c, answer.Granted s) ∷ []) ((d, answer.Granted t) ∷ []) → ◌≡◌ {A = ℕ × Answer} (c, answer.Granted s) (d, answer.Granted t)
    pair_is c d s t e = cc

    client_is : (c d s t : ℕ) → ◌≡◌ {A = List (ℕ × Answer)} ((c, answer.Granted s) ∷ []) ((d, answer.Granted t) ∷ []) → c ≡ d
    client_is c d s t e = ap (λ (x : ℕ × Answer). x.0) (pair_is c d s t e)

    token_is : (c d s t : ℕ) → ◌≡◌ {A = List (ℕ × Answer)} ((c, answer.Granted s) ∷ []) ((d, answer.Granted t) ∷ []) → s ≡ t
    token_is c d s t e = let p : answer.Granted s ≡ answer.Granted t = ap (λ (x : ℕ × Answer). x.1) (pair_is c d s t e) in cc

-- what is reported of one lock
pub record IsTold (c i : ℕ) (v : LockView) (said : List Left) : Type 0 where
  pub told : said ≡ left_at c i (Some v)
  pub answers : grants_after said ≡ (turn [] (lock_of v) c Leave).answers

told_lock : (c i : ℕ) (v : LockView) (ended : Option HoldEnd) (granted : Option Holder) (held : Bool) → is_held_by c v.holder ≡ held →
    ended ≡ ended_in v.ring (turn [] (lock_of v) c Leave).marks → other_grant granted ≡ (turn [] (lock_of v) c Leave).answers → IsTold c i v (left_by i ended granted)
told_lock c i v ended granted true h e f =
    let queue : List Waiter = without c v.queue in
    let end : HoldEnd = record { seat = 2; survey = local_survey v.ring.ring } in
    let g : other_grant granted ≡ (advanced (state_of v.ring) queue).answers = rw h at f in
    let d : ended ≡ Some end = rw h at e in
    let holder : granted ≡ (advanced (state_of v.ring) queue).lock.holder = holder_by (state_of v.ring) queue granted g in
    subst (λ (x : Option HoldEnd). IsTold c i v (left_by i x granted)) (sym d) (record {
      told = rw h (ap (λ (x : Option Holder). left_by i (Some end) x) holder);
      answers = rw h (append-nil (other_grant granted) ∙ g);
    })
told_lock c i v ended granted false h e f =
    let d : ended ≡ None = rw h at e in
    subst (λ (x : Option HoldEnd). IsTold c i v (left_by i x granted)) (sym d) (record { told = rw h refl; answers = rw h refl })

-- the client has left the first of the locks
pub record AreLeft (old now : List LockView) (c n : ℕ) (said : List Left) : Type 0 where
  pub locks : locks_of now ≡ locks_after (locks_of old) (leaves c n)
  pub answers : grants_after said ≡ answers_after (locks_of old) (leaves c n)
  pub told : said ≡ left_of c old n
  pub rest : (j : ℕ) → n ≤ j → slice_get now j ≡ slice_get old j
  pub marks : (j : ℕ) (v w : LockView) → j < n → slice_get old j ≡ Some v → slice_get now j ≡ Some w → AreMade v.ring (turn [] (lock_of v) c Leave).marks w.ring

pub none_left : (old : List LockView) (c : ℕ) → AreLeft old old c 0 []
none_left old c = record { locks = refl; answers = refl; told = refl; rest = λ j l. refl; marks = λ j v w l e f. absurd (omega arith) }

pub one_more_left : (old now new : List LockView) (c n : ℕ) (said : List Left) (v : LockView) (r : Answers) → slice_get now n ≡ Some v → AreLeft old now c n said → IsDone now new c n Leave r → r.own ≡ None →
    AreLeft old new c (n + 1) (said ++ left_by n r.ended r.granted)
one_more_left old now new c n said v r at a d own =
    let there : slice_get old n ≡ Some v = sym (a.rest n (omega arith)) ∙ at in
    let s : step (locks_of now) (Asked c n Leave) ≡ step_at (locks_of now) c n Leave (Some (lock_of v)) = ap (λ (x : Option Lock). step_at (locks_of now) c n Leave x) (slice_get-map lock_of now n ∙ ap (λ (x : Option LockView). option_map lock_of x) at) in
    let one : step (locks_of now) (Asked c n Leave) ≡ step (locks_after (locks_of old) (leaves c n)) (Asked c n Leave) = ap (λ (x : List Lock). step x (Asked c n Leave)) a.locks in
    let ended : r.ended ≡ ended_in v.ring (turn [] (lock_of v) c Leave).marks = d.ended ∙ ap (λ (x : Option LockView). ended_at x (step (locks_of now) (Asked c n Leave)).marks) at ∙ ap (λ (x : Step). ended_in v.ring x.marks) s in
    let granted : other_grant r.granted ≡ (turn [] (lock_of v) c Leave).answers = ap (λ (x : Option Answer). own_answer c x ++ other_grant r.granted) (sym own) ∙ d.answers ∙ ap (λ (x : Step). x.answers) s in
    let told : IsTold c n v (left_by n r.ended r.granted) = told_lock c n v r.ended r.granted (is_held_by c v.holder) refl ended granted in
    let size : n + 1 ≡ suc n = omega arith in
    subst (λ (k : ℕ). AreLeft old new c k (said ++ left_by n r.ended r.granted)) (sym size) (record {
      locks = d.locks ∙ ap (λ (x : Step). x.locks) one ∙ sym (locks_append (locks_of old) (leaves c n) (Asked c n Leave ∷ []));
      answers = grants_append said (left_by n r.ended r.granted)
          ∙ ap (λ (x : List (ℕ × Answer)). x ++ grants_after (left_by n r.ended r.granted)) a.answers
          ∙ ap (λ (x : List (ℕ × Answer)). answers_after (locks_of old) (leaves c n) ++ x) (told.answers ∙ sym (ap (λ (x : Step). x.answers) s) ∙ ap (λ (x : Step). x.answers) one ∙ sym (append-nil (step (locks_after (locks_of old) (leaves c n)) (Asked c n Leave)).answers))
          ∙ sym (answers_append (locks_of old) (leaves c n) (Asked c n Leave ∷ []));
      told = ap (λ (x : List Left). x ++ left_by n r.ended r.granted) a.told ∙ ap (λ (x : List Left). left_of c old n ++ x) (told.told ∙ ap (λ (x : Option LockView). left_at c n x) (sym there));
      rest = λ j l. d.others j (λ q. omega (arith, q, l)) ∙ a.rest j (omega (arith, l));
      marks = λ j x w l e f. elim (cases_eq j n) [
        | inl q ↦
            let p : v ≡ x = same v x (sym there ∙ ap (λ (k : ℕ). slice_get old k) (sym q) ∙ e) in
            subst (λ (y : LockView). AreMade y.ring (turn [] (lock_of y) c Leave).marks w.ring) p
            (subst (λ (y : Step). AreMade v.ring y.marks w.ring) s (d.marks v w at (ap (λ (k : ℕ). slice_get new k) (sym q) ∙ f)))
        | inr q ↦ a.marks j x w (omega (arith, q, l)) e (sym (d.others j q) ∙ f)
      ];
    })
  where
    same : (x y : LockView) → ◌≡◌ {A = Option LockView} (Some x) (Some y) → x ≡ y
    same x y e = cc

pub there_is : {X : Type 0} (xs : List X) (i : ℕ) → i < length xs → (x : X) × (slice_get xs i ≡ Some x)
there_is [] i l = absurd (omega arith)
there_is (x ∷ xs) zero l = (x, refl)
there_is (x ∷ xs) (suc i) l = there_is xs i (omega arith)

pub more_left : (ps qs : List LockParts) (old : List LockView) (c n : ℕ) (said : List Left) (r : Answers) → n < length ps → AreLeft old (views_of ps) c n said → IsDone (views_of ps) (views_of qs) c n Leave r → r.own ≡ None →
    AreLeft old (views_of qs) c (n + 1) (said ++ left_by n r.ended r.granted)
more_left ps qs old c n said r l a d own =
    let m : length (views_of ps) ≡ length ps = length-map ps view_of in
    let v = there_is (views_of ps) n (omega arith) in
    one_more_left old (views_of ps) (views_of qs) c n said v.0 r v.1 a d own

pub all_left : (old now : List LockView) (c n : ℕ) (said : List Left) → n ≡ length old → AreLeft old now c n said → IsLeft old now c said
all_left old now c n said e a =
    let b : AreLeft old now c (length old) said = subst (λ (k : ℕ). AreLeft old now c k said) e a in
    record { locks = b.locks; answers = b.answers; told = b.told; marks = λ i v w f g. b.marks i v w (slice_get_within old i v f) f g }
