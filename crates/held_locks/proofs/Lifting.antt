-- From the turn of one lock to the step of all.
use Rattle.std.proofs.Common.{◌≡◌, ◌≢◌, ℕ, zero, suc, ◌<◌, ◌≤◌, true, false, List, [], ◌∷◌, ◌++◌, length, get_or, refl, sym, ◌∙◌, ap, subst, inl, inr, arith, Option, Some, None}
use Rattle.std.specs.Prelude.{◌||◌, ◌==◌, slice_get, slice_set, option_map, ◌⊎◌}
use Rattle.std.proofs.lemmas.Bool.{cases_Bool, cases_eq, eqb-true, eq-eqb, ne_eqb, or_cases, or_right, or_parts, both_ways, cond-true, cond-false, false≢true}
use Rattle.std.proofs.lemmas.List.{map-set, length-map, length-set}
use Rattle.std.proofs.lemmas.Option.{slice_get-map, slice_get_past, slice_get_read}
use Rattle.ring_model.specs.Ring.{is_settled}
use Rattle.held_locks.specs.declared.answers.Waiter.{Waiter}
use Rattle.held_locks.specs.declared.answers.Holder.{Holder}
use Rattle.held_locks.specs.declared.answers.Answer.TheVariants as answer
use Rattle.held_locks.specs.declared.answers.Answers.{Answers}
use Rattle.held_locks.specs.declared.answers.Refusal.TheVariants as refusal
use Rattle.held_locks.specs.declared.parts.LockParts.{LockParts}
use Rattle.held_locks.specs.Queues.{Lock, stands, without, is_held_by}
use Rattle.held_locks.specs.Locks.{Ask, Turn, turn, Asked, Step, step, step_at}
use Rattle.held_locks.specs.Promises.{AreRight, AreApart}
use Rattle.held_locks.specs.Waiting.{lock_in, AreWaits}
use Rattle.held_locks.specs.Kept.{LockView, state_of, lock_of, locks_of, lock_limit, IsKeptLock, AreKept, AreMade, ended_at, answers_of, IsDone, need, IsLack, IsAnswer}
use Rattle.held_locks.specs.Parts.{view_of, views_of, IsEntryOf, WaitsChange, Unchanged, Begun, Passed, Dropped, IsTurnedIn, IsLackingIn}
use Rattle.held_locks.proofs.Standing.{Once, get_set, get_set_same, get_set_other, stands_append, stands_without, stands_without_other, stood_before}
use Rattle.held_locks.proofs.Right.{right_asked}
use Rattle.held_locks.proofs.Answered.{not_in_own_queue}

-- ---- the clients that wait

some_nat : (i j : ℕ) → ◌≡◌ {A = Option ℕ} (Some i) (Some j) → i ≡ j
some_nat i j e = cc

no_nat : (j : ℕ) → ◌≡◌ {A = Option ℕ} None (Some j) → ⊥
no_nat j e = cc

module _ (ls : List Lock) (i : ℕ) (l m : Lock) (es fs : List (ℕ × ℕ)) (once : Once ls) (again : Once (slice_set ls i m)) (at : slice_get ls i ≡ Some l) (k : AreWaits ls es) where
  abbrev Here : Type 0
  Here = (e : ℕ) → stands e m.queue ≡ true → lock_in fs e ≡ Some i

  abbrev Left : Type 0
  Left = (e : ℕ) → stands e m.queue ≡ false → stands e l.queue ≡ true → lock_in fs e ≡ None

  abbrev Same : Type 0
  Same = (e : ℕ) → stands e m.queue ≡ false → stands e l.queue ≡ false → lock_in fs e ≡ lock_in es e

  there : Here → Left → Same → (e j : ℕ) → lock_in fs e ≡ Some j → (x : Lock) × (slice_get (slice_set ls i m) j ≡ Some x) × (stands e x.queue ≡ true)
  there here gone same e j q = elim (cases_Bool (stands e m.queue)) [
    | inl s ↦
        let p : i ≡ j = some_nat i j (sym (here e s) ∙ q) in
        (m, ap (λ (n : ℕ). slice_get (slice_set ls i m) n) (sym p) ∙ get_set_same ls i m l at, s)
    | inr s ↦ elim (cases_Bool (stands e l.queue)) [
      | inl t ↦ absurd (no_nat j (sym (gone e s t) ∙ q))
      | inr t ↦
          let w = k.there e j (sym (same e s t) ∙ q) in
          let n : j ≢ i = λ (p : j ≡ i).
          let is : ◌≡◌ {A = Option Lock} (Some w.0) (Some l) = sym w.1 ∙ ap (λ (n : ℕ). slice_get ls n) p ∙ at in
          let r : w.0 ≡ l = cc in
          both_ways (stands e l.queue) t (subst (λ (x : Lock). stands e x.queue ≡ true) r w.2) in
          (w.0, get_set_other ls i j m n ∙ w.1, w.2)
    ]
  ]

  known : Here → Left → Same → (e j : ℕ) (x : Lock) → slice_get (slice_set ls i m) j ≡ Some x → stands e x.queue ≡ true → lock_in fs e ≡ Some j
  known here gone same e j x q s = elim (get_set ls i j m l x at q) [
    | inl p ↦ here e (subst (λ (y : Lock). stands e y.queue ≡ true) p.1 s) ∙ ap (λ (n : ℕ). Some n) (sym p.0)
    | inr p ↦ elim (cases_Bool (stands e m.queue)) [
      | inl t ↦ absurd (p.0 (sym (again e i j m x (get_set_same ls i m l at) q t s)))
      | inr t ↦ elim (cases_Bool (stands e l.queue)) [
        | inl u ↦ absurd (p.0 (sym (once e i j l x at p.1 u s)))
        | inr u ↦ same e t u ∙ k.known e j x p.1 s
      ]
    ]
  ]

  pub waits_after : Here → Left → Same → AreWaits (slice_set ls i m) fs
  waits_after here gone same = record { there = there here gone same; known = known here gone same }

  unchanged : m.queue ≡ l.queue → fs ≡ es → AreWaits (slice_set ls i m) fs
  unchanged e f =
      let as_known : (c : ℕ) → stands c l.queue ≡ true → lock_in fs c ≡ Some i = λ c s. ap (λ (x : List (ℕ × ℕ)). lock_in x c) f ∙ k.known c i l at s in
      waits_after (λ c s. as_known c (subst (λ (x : List Waiter). stands c x ≡ true) e s)) (λ c s t. absurd (both_ways (stands c m.queue) s (subst (λ (x : List Waiter). stands c x ≡ true) (sym e) t)))
      (λ c s t. ap (λ (x : List (ℕ × ℕ)). lock_in x c) f)

  begun : (w : Waiter) → m.queue ≡ l.queue ++ w ∷ [] → IsEntryOf w.client (Some i) es fs → AreWaits (slice_set ls i m) fs
  begun w e f =
      let stand : (c : ℕ) → stands c m.queue ≡ (stands c l.queue || ((w.client == c) || false)) = λ c. ap (λ (x : List Waiter). stands c x) e ∙ stands_append c l.queue (w ∷ []) in
      waits_after
      (λ c s. elim (cases_Bool (w.client == c)) [
        | inl q ↦ f c ∙ cond-true (w.client == c) (Some i) (lock_in es c) q
        | inr q ↦ elim (or_cases (stands c l.queue) ((w.client == c) || false) (sym (stand c) ∙ s)) [
          | inl t ↦ f c ∙ cond-false (w.client == c) (Some i) (lock_in es c) q ∙ k.known c i l at t
          | inr t ↦ elim (or_cases (w.client == c) false t) [
            | inl u ↦ absurd (both_ways (w.client == c) q u)
            | inr u ↦ absurd (false≢true u)
          ]
        ]
      ])
      (λ c s t. absurd (both_ways (stands c l.queue) (or_parts (stands c l.queue) ((w.client == c) || false) (sym (stand c) ∙ s)).0 t))
      (λ c s t.
      let p = or_parts (stands c l.queue) ((w.client == c) || false) (sym (stand c) ∙ s) in
      f c ∙ cond-false (w.client == c) (Some i) (lock_in es c) (or_parts (w.client == c) false p.1).0)

  passed : (w : Waiter) → AreApart l.queue → l.queue ≡ w ∷ m.queue → IsEntryOf w.client None es fs → AreWaits (slice_set ls i m) fs
  passed w apart e f =
      let one : stands w.client m.queue ≡ false = (subst (λ (x : List Waiter). AreApart x) e apart).0 in
      let stand : (c : ℕ) → stands c l.queue ≡ ((w.client == c) || stands c m.queue) = λ c. ap (λ (x : List Waiter). stands c x) e in
      waits_after
      (λ c s. elim (cases_Bool (w.client == c)) [
        | inl q ↦ absurd (both_ways (stands c m.queue) (subst (λ (x : ℕ). stands x m.queue ≡ false) (eqb-true w.client c q) one) s)
        | inr q ↦ f c ∙ cond-false (w.client == c) None (lock_in es c) q ∙ k.known c i l at (stand c ∙ or_right (w.client == c) (stands c m.queue) s)
      ])
      (λ c s t. elim (or_cases (w.client == c) (stands c m.queue) (sym (stand c) ∙ t)) [
        | inl q ↦ f c ∙ cond-true (w.client == c) None (lock_in es c) q
        | inr q ↦ absurd (both_ways (stands c m.queue) s q)
      ])
      (λ c s t. f c ∙ cond-false (w.client == c) None (lock_in es c) (or_parts (w.client == c) (stands c m.queue) (sym (stand c) ∙ t)).0)

  dropped : (d : ℕ) → stands d l.queue ≡ true → m.queue ≡ without d l.queue → IsEntryOf d None es fs → AreWaits (slice_set ls i m) fs
  dropped d was e f =
      let stand : (c : ℕ) → stands c m.queue ≡ stands c (without d l.queue) = λ c. ap (λ (x : List Waiter). stands c x) e in
      waits_after
      (λ c s. elim (cases_eq c d) [
        | inl q ↦ absurd (both_ways (stands d (without d l.queue)) (stands_without d l.queue) (subst (λ (x : ℕ). stands x (without d l.queue) ≡ true) q (sym (stand c) ∙ s)))
        | inr q ↦ f c ∙ cond-false (d == c) None (lock_in es c) (ne_eqb d c (λ r. q (sym r))) ∙ k.known c i l at (stood_before d c l.queue (sym (stand c) ∙ s))
      ])
      (λ c s t. elim (cases_eq c d) [
        | inl q ↦ f c ∙ cond-true (d == c) None (lock_in es c) (eq-eqb d c (sym q))
        | inr q ↦ absurd (both_ways (stands c l.queue) (sym (stands_without_other d c l.queue q) ∙ sym (stand c) ∙ s) t)
      ])
      (λ c s t. elim (cases_eq c d) [
        | inl q ↦ absurd (both_ways (stands d l.queue) (subst (λ (x : ℕ). stands x l.queue ≡ false) q t) was)
        | inr q ↦ f c ∙ cond-false (d == c) None (lock_in es c) (ne_eqb d c (λ r. q (sym r)))
      ])

  pub waits_changed : AreApart l.queue → WaitsChange i l.queue m.queue es fs → AreWaits (slice_set ls i m) fs
  waits_changed apart (Unchanged e f) = unchanged e f
  waits_changed apart (Begun w e f) = begun w e f
  waits_changed apart (Passed w e f) = passed w apart e f
  waits_changed apart (Dropped d was e f) = dropped d was e f

-- ---- a step

lock_there : (vs : List LockView) (i : ℕ) (v : LockView) → slice_get vs i ≡ Some v → slice_get (locks_of vs) i ≡ Some (lock_of v)
lock_there vs i v e = slice_get-map lock_of vs i ∙ ap (λ (x : Option LockView). option_map lock_of x) e

step_there : (vs : List LockView) (c i : ℕ) (ask : Ask) (v : LockView) → slice_get vs i ≡ Some v → step (locks_of vs) (Asked c i ask) ≡ step_at (locks_of vs) c i ask (Some (lock_of v))
step_there vs c i ask v e = ap (λ (x : Option Lock). step_at (locks_of vs) c i ask x) (lock_there vs i v e)

module _ (vs : List LockView) (es : List (ℕ × ℕ)) (c i : ℕ) (ask : Ask) (v w : LockView) (k : AreKept vs es) (at : slice_get vs i ≡ Some v) where
  abbrev t : Turn
  t = turn (locks_of vs) (lock_of v) c ask

  locks_behind : (m : Lock) → lock_of w ≡ m → locks_of (slice_set vs i w) ≡ slice_set (locks_of vs) i m
  locks_behind m e = map-set lock_of vs i w ∙ ap (λ (x : Lock). slice_set (locks_of vs) i x) e

  each_after : IsKeptLock w → (j : ℕ) (x : LockView) → slice_get (slice_set vs i w) j ≡ Some x → IsKeptLock x
  each_after r j x e = elim (get_set vs i j w v x at e) [
    | inl p ↦ subst (λ (y : LockView). IsKeptLock y) (sym p.1) r
    | inr p ↦ k.each j x p.1
  ]

  few_after : length (slice_set vs i w) ≤ lock_limit
  few_after = let n : length (slice_set vs i w) ≡ length vs = length-set vs i w in let few = k.few in omega arith

  done : (fs : List (ℕ × ℕ)) (r : Answers) → IsTurnedIn i v w es fs c t r → IsDone vs (slice_set vs i w) c i ask r × AreKept (slice_set vs i w) fs
  done fs r d =
      let s : step (locks_of vs) (Asked c i ask) ≡ step_at (locks_of vs) c i ask (Some (lock_of v)) = step_there vs c i ask v at in
      let ls : locks_of (slice_set vs i w) ≡ slice_set (locks_of vs) i t.lock = locks_behind t.lock d.turned.lock in
      let right : AreRight (slice_set (locks_of vs) i t.lock) = right_asked (locks_of vs) (lock_of v) c i ask k.right (lock_there vs i v at) in
      let right' : AreRight (slice_set (locks_of vs) i (lock_of w)) = subst (λ (x : Lock). AreRight (slice_set (locks_of vs) i x)) (sym d.turned.lock) right in (
        record {
          locks = ls ∙ sym (ap (λ (x : Step). x.locks) s);
          answers = d.turned.answers ∙ sym (ap (λ (x : Step). x.answers) s);
          ended = d.turned.ended ∙ ap (λ (x : Option LockView). ended_at x t.marks) (sym at) ∙ ap (λ (x : Step). ended_at (slice_get vs i) x.marks) (sym s);
          marks = λ x y f g.
              let p : v ≡ x = one v x (sym at ∙ f) in
              let q : w ≡ y = one w y (sym (get_set_same vs i w v at) ∙ g) in
              subst (λ (z : LockView). AreMade z.ring (step (locks_of vs) (Asked c i ask)).marks y.ring) p
              (subst (λ (z : LockView). AreMade v.ring (step (locks_of vs) (Asked c i ask)).marks z.ring) q
              (subst (λ (z : Step). AreMade v.ring z.marks w.ring) (sym s) d.turned.marks));
          others = λ j n. get_set_other vs i j w n;
        },
        record {
          right = subst (λ (x : List Lock). AreRight x) (sym ls) right;
          few = few_after;
          each = each_after d.turned.kept;
          waits = subst (λ (x : List Lock). AreWaits x fs) (sym (locks_behind (lock_of w) refl))
              (waits_changed (locks_of vs) i (lock_of v) (lock_of w) es fs k.right.once right'.once (lock_there vs i v at) k.waits (k.right.each i (lock_of v) (lock_there vs i v at)).apart d.waits);
        },
      )
    where
      one : (x y : LockView) → ◌≡◌ {A = Option LockView} (Some x) (Some y) → x ≡ y
      one x y e = cc

  still : w ≡ v → slice_set vs i w ≡ vs
  still e = ap (λ (x : LockView). slice_set vs i x) e ∙ set_there vs i v at
    where
      set_there : (xs : List LockView) (i : ℕ) (x : LockView) → slice_get xs i ≡ Some x → slice_set xs i x ≡ xs
      set_there [] i x e = refl
      set_there (y ∷ xs) zero x e = let p : ◌≡◌ {A = Option LockView} (Some y) (Some x) = e in ap (λ (z : LockView). z ∷ xs) (sym (one y x p))
        where
          one : (x y : LockView) → ◌≡◌ {A = Option LockView} (Some x) (Some y) → x ≡ y
          one x y e = cc
      set_there (y ∷ xs) (suc i) x e = ap (λ (z : List LockView). y ∷ z) (set_there xs i x e)

  lack : (fs : List (ℕ × ℕ)) (r : Answers) → IsLackingIn v w es fs (need v ask) r → IsLack vs (slice_set vs i w) i ask r × AreKept (slice_set vs i w) fs
  lack fs r d =
      let same : slice_set vs i w ≡ vs = still d.lacking.same in
      let own : r.own ≡ Some (answer.Refused d.lacking.why) = ap (λ (x : Answers). x.own) d.lacking.refused in (
        record {
          why = elim d.lacking.lack [
            | inl p ↦ inl (own ∙ ap (λ x. Some (answer.Refused x)) p.0, (v, at, p.1))
            | inr p ↦ inr (own ∙ ap (λ x. Some (answer.Refused x)) p)
          ];
          none = (ap (λ (x : Answers). x.ended) d.lacking.refused, ap (λ (x : Answers). x.granted) d.lacking.refused);
          same = same;
        },
        subst (λ (x : List LockView). AreKept x fs) (sym same) (record {
          right = k.right;
          few = k.few;
          each = k.each;
          waits = record {
            there = λ c j e. k.waits.there c j (sym (d.waits c) ∙ e);
            known = λ c j l f g. d.waits c ∙ k.waits.known c j l f g;
          };
        }),
      )

  pub lifted : (fs : List (ℕ × ℕ)) (u : Turn) (n : ℕ) (r : Answers) → u ≡ turn (locks_of vs) (lock_of v) c ask → n ≡ need v ask → IsTurnedIn i v w es fs c u r ⊎ IsLackingIn v w es fs n r →
      IsAnswer vs (slice_set vs i w) c i ask r × AreKept (slice_set vs i w) fs
  lifted fs u n r e f d = elim d [
    | inl p ↦ let x = done fs r (subst (λ (y : Turn). IsTurnedIn i v w es fs c y r) e p) in (inl x.0, x.1)
    | inr p ↦ let x = lack fs r (subst (λ (y : ℕ). IsLackingIn v w es fs y r) f p) in (inr x.0, x.1)
  ]

-- a lock that there is not
pub no_lock : (vs : List LockView) (es : List (ℕ × ℕ)) (c i : ℕ) (ask : Ask) (r : Answers) → AreKept vs es → length vs ≤ i → r ≡ record { own = Some (answer.Refused refusal.Lock); ended = None; granted = None } → IsDone vs vs c i ask r × AreKept vs es
no_lock vs es c i ask r k l e =
    let past : slice_get (locks_of vs) i ≡ None = let n : length (locks_of vs) ≡ length vs = length-map vs lock_of in slice_get_past (locks_of vs) i (omega arith) in
    let s : step (locks_of vs) (Asked c i ask) ≡ step_at (locks_of vs) c i ask None = ap (λ (x : Option Lock). step_at (locks_of vs) c i ask x) past in (
      record {
        locks = sym (ap (λ (x : Step). x.locks) s);
        answers = ap (λ (x : Answers). answers_of c x) e ∙ sym (ap (λ (x : Step). x.answers) s);
        ended = ap (λ (x : Answers). x.ended) e ∙ ap (λ (x : Option LockView). ended_at x (step (locks_of vs) (Asked c i ask)).marks) (sym (slice_get_past vs i l));
        marks = λ v w f g. absurd (nothing v (sym (slice_get_past vs i l) ∙ f));
        others = λ j n. refl;
      },
      k,
    )
  where
    nothing : (v : LockView) → ◌≡◌ {A = Option LockView} None (Some v) → ⊥
    nothing v e = cc

-- ---- parts

pub view_there : (ps : List LockParts) (i : ℕ) (p : LockParts) → slice_get ps i ≡ Some p → slice_get (views_of ps) i ≡ Some (view_of p)
view_there ps i p e = slice_get-map view_of ps i ∙ ap (λ (x : Option LockParts). option_map view_of x) e

pub lifted_parts : (ps qs : List LockParts) (es fs : List (ℕ × ℕ)) (c i : ℕ) (ask : Ask) (p q : LockParts) (u : Turn) (n : ℕ) (r : Answers) → AreKept (views_of ps) es → slice_get ps i ≡ Some p → qs ≡ slice_set ps i q →
    u ≡ turn (locks_of (views_of ps)) (lock_of (view_of p)) c ask → n ≡ need (view_of p) ask → IsTurnedIn i (view_of p) (view_of q) es fs c u r ⊎ IsLackingIn (view_of p) (view_of q) es fs n r →
    IsAnswer (views_of ps) (views_of qs) c i ask r × AreKept (views_of qs) fs
lifted_parts ps qs es fs c i ask p q u n r k at set e f d =
    let s : views_of qs ≡ slice_set (views_of ps) i (view_of q) = ap (λ (x : List LockParts). views_of x) set ∙ map-set view_of ps i q in
    let x = lifted (views_of ps) es c i ask (view_of p) (view_of q) k (view_there ps i p at) fs u n r e f d in
    (subst (λ (y : List LockView). IsAnswer (views_of ps) y c i ask r) (sym s) x.0, subst (λ (y : List LockView). AreKept y fs) (sym s) x.1)

-- and of an ask that is never refused for lack of room or memory
pub lifted_done : (ps qs : List LockParts) (es fs : List (ℕ × ℕ)) (c i : ℕ) (ask : Ask) (p q : LockParts) (u : Turn) (r : Answers) → AreKept (views_of ps) es → slice_get ps i ≡ Some p → qs ≡ slice_set ps i q →
    u ≡ turn (locks_of (views_of ps)) (lock_of (view_of p)) c ask → IsTurnedIn i (view_of p) (view_of q) es fs c u r → IsDone (views_of ps) (views_of qs) c i ask r × AreKept (views_of qs) fs
lifted_done ps qs es fs c i ask p q u r k at set e d =
    let s : views_of qs ≡ slice_set (views_of ps) i (view_of q) = ap (λ (x : List LockParts). views_of x) set ∙ map-set view_of ps i q in
    let x = done (views_of ps) es c i ask (view_of p) (view_of q) k (view_there ps i p at) fs r (subst (λ (y : Turn). IsTurnedIn i (view_of p) (view_of q) es fs c y r) e d) in
    (subst (λ (y : List LockView). IsDone (views_of ps) y c i ask r) (sym s) x.0, subst (λ (y : List LockView). AreKept y fs) (sym s) x.1)

pub part_at : (ps : List LockParts) (i : ℕ) (p : LockParts) → i < length ps → p ≡ get_or ps i p → slice_get ps i ≡ Some p
part_at ps i p l e = slice_get_read ps (length ps) i p refl l e

pub lock_kept : (ps : List LockParts) (es : List (ℕ × ℕ)) (i : ℕ) (p : LockParts) → AreKept (views_of ps) es → slice_get ps i ≡ Some p → IsKeptLock (view_of p)
lock_kept ps es i p k e = k.each i (view_of p) (view_there ps i p e)

-- and its ring is settled
pub lock_settled : (ps : List LockParts) (es : List (ℕ × ℕ)) (i : ℕ) (p : LockParts) → AreKept (views_of ps) es → slice_get ps i ≡ Some p → is_settled (state_of p.ring).ring.values ≡ true
lock_settled ps es i p k e = (k.right.each i (lock_of (view_of p)) (lock_there (views_of ps) i (view_of p) (view_there ps i p e))).settled

pub held_out : (ls : List Lock) (i : ℕ) (l : Lock) (c : ℕ) (h : Option Holder) → AreRight ls → slice_get ls i ≡ Some l → l.holder ≡ h → is_held_by c h ≡ true → stands c l.queue ≡ false
held_out ls i l c None r e f g = absurd (false≢true g)
held_out ls i l c (Some h) r e f g = subst (λ (x : ℕ). stands x l.queue ≡ false) (eqb-true h.client c g) (not_in_own_queue ls i l h r e f)

pub holder_out : (ps : List LockParts) (es : List (ℕ × ℕ)) (i : ℕ) (p : LockParts) (c : ℕ) → AreKept (views_of ps) es → slice_get ps i ≡ Some p → is_held_by c p.holder ≡ true → stands c p.queue.items ≡ false
holder_out ps es i p c k e g = held_out (locks_of (views_of ps)) i (lock_of (view_of p)) c p.holder k.right (lock_there (views_of ps) i (view_of p) (view_there ps i p e)) refl g

pub parts_same : (ps : List LockParts) (i : ℕ) (p : LockParts) → slice_get ps i ≡ Some p → ps ≡ slice_set ps i p
parts_same [] i p e = refl
parts_same (q ∷ ps) zero p e = let f : ◌≡◌ {A = Option LockParts} (Some q) (Some p) = e in ap (λ (x : LockParts). x ∷ ps) cc
parts_same (q ∷ ps) (suc i) p e = ap (λ (x : List LockParts). q ∷ x) (parts_same ps i p e)
