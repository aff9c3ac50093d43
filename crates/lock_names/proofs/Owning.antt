-- Names are answered as locks of their own.
use Rattle.std.proofs.Common.{◌≡◌, ◌≢◌, ℕ, zero, suc, ◌+◌, ◌<◌, ◌≤◌, Bool, true, false, List, [], ◌∷◌, ◌++◌, map, length, Option, None, Some, ◌⊎◌, inl, inr, refl, sym, ◌∙◌, ap, subst, arith}
use Rattle.std.specs.Prelude.{◌||◌, nat_le, nat_lt, if◌then◌else◌, slice_get, slice_set, is_some, option_map}
use Rattle.std.specs.Str.{bytes_eq}
use Rattle.std.proofs.lemmas.Bool.{cases_Bool, cases_eq, or_parts, both_ways, true≢false}
use Rattle.std.proofs.lemmas.List.{append-nil, length-set}
use Rattle.std.proofs.lemmas.Option.{slice_get_within}
use Rattle.ring_model.specs.History.{State}
use Rattle.held_locks.specs.declared.answers.Waiter.{Waiter}
use Rattle.held_locks.specs.declared.answers.Holder.{Holder}
use Rattle.held_locks.specs.declared.answers.Answer.{Answer}
use Rattle.held_locks.specs.declared.answers.Answer.TheVariants as answer
use Rattle.held_locks.specs.declared.answers.Refusal.TheVariants as refusal
use Rattle.held_locks.specs.Queues.{Lock, stands, is_held_with, waits_for, client_of, holder_of, comes_to}
use Rattle.held_locks.specs.Locks.{Ask, Acquire, Try, Release, Cancel, Leave, Corrupt, Stats, Turn, told, faulted, turn, Input, Asked, step_at, restarted}
use Rattle.held_locks.specs.Promises.{AreRight, locks_after, answers_after}
use Rattle.held_locks.proofs.Standing.{get_set_same, get_set_other, get_set, waits_at, waits_nowhere, waits_there}
use Rattle.held_locks.proofs.Right.{right_asked, right_restarted}
use Rattle.lock_names.specs.Names.{Bound, Named, NamedInput, Of, Again, More, NamedStep, token_in, number_in, of_ring, found, free, fresh, at_ring, given, at_none, at_name, restarted_named, free_lock, grown, step_named}
use Rattle.lock_names.specs.Promises.{IsNamed, IsForHold}
use Rattle.lock_names.specs.Alike.{said_aside, answer_aside, place, told_at, own_token, own_ask, own_of, own_inputs, AreOwn, IsRefused, IsExcused, IsAnsweredAlike, NamesAreLocks}
use Rattle.name_bindings.proofs.Found.{same_name, own_name, some_same, none_some, there_is, pushed, found_at, found_more, unlike, found_nowhere, free_at, none_free}
use Rattle.lock_names.proofs.Fitting.{turned, name_after, at_ring_is, IsMoved, moved, Fits, kept_some, lock_at, fits_found, fits_free, was_lock, zeroth, still_none, still_held, length_restarted, named_step}
use Rattle.lock_names.proofs.Keeping.{kept_stays}
use Rattle.lock_names.proofs.Twins.{Same, TurnsAlike, IsPlain, AreEqualWaits, turn_alike, release_alike, held_with_alike, circle_alike, said_alike}

-- ---- one name changes

-- what became of the name and of the lock of its own
record Changed (s z : Named) (x : List ℕ) (m : Lock) : Type 0 where
  used : (i : ℕ) (d : Bound) (l : Lock) → slice_get z.names i ≡ Some (Some d) → slice_get z.locks i ≡ Some l →
      ((d.name ≡ x) × Same l m) ⊎ ((d.name ≢ x) × (slice_get s.names i ≡ Some (Some d)) × (slice_get s.locks i ≡ Some l))
  unused : (y : List ℕ) → found y z.names ≡ None → ((y ≡ x) × (m.holder ≡ None) × (m.queue ≡ [])) ⊎ ((y ≢ x) × (found y s.names ≡ None))
  known : (i : ℕ) (d : Bound) → slice_get z.names i ≡ Some (Some d) → (d.name ≡ x) ⊎ (slice_get s.names i ≡ Some (Some d))

same_at : (ns : List (List ℕ)) (j k : ℕ) (x y : List ℕ) → slice_get ns j ≡ Some y → slice_get ns k ≡ Some x → j ≡ k → y ≡ x
same_at ns j k x y e f q = some_same y x (sym e ∙ ap (λ (n : ℕ). slice_get ns n) q ∙ f)

own_changed : (ns : List (List ℕ)) (s z : Named) (ls : List Lock) (k : ℕ) (x : List ℕ) (m v : Lock) → AreOwn ns s ls → slice_get ns k ≡ Some x → slice_get ls k ≡ Some m → Changed s z x v →
    AreRight (slice_set ls k v) → ((h : Holder) → v.holder ≡ Some h → 0 < h.token) → AreOwn ns z (slice_set ls k v)
own_changed ns s z ls k x m v w at there ch right pos = record {
  right = right;
  many = length-set ls k v ∙ w.many;
  apart = w.apart;
  tokens = λ j n h e q. elim (get_set ls k j v m n there e) [
    | inl p ↦ pos h (sym (ap (λ (y : Lock). y.holder) p.1) ∙ q)
    | inr p ↦ w.tokens j n h p.1 q
  ];
  known = λ i b e. elim (ch.known i b e) [
    | inl q ↦ (k, at ∙ ap (λ (y : List ℕ). Some y) (sym q))
    | inr q ↦ w.known i b q
  ];
  used = λ j n i b l e f g h. elim (ch.used i b l g h) [
    | inl p ↦
        let is : j ≡ k = w.apart j k x (e ∙ ap (λ (y : List ℕ). Some y) p.0) at in
        elim (get_set ls k j v m n there f) [
          | inl q ↦ (p.1.held ∙ ap (λ (y : Lock). client_of y.holder) (sym q.1), p.1.queue ∙ ap (λ (y : Lock). y.queue) (sym q.1))
          | inr q ↦ absurd (q.0 is)
        ]
    | inr p ↦ elim (get_set ls k j v m n there f) [
      | inl q ↦ absurd (p.0 (same_at ns j k x b.name e at q.0))
      | inr q ↦ w.used j n i b l e q.1 p.1 p.2
    ]
  ];
  unused = λ j y n e f g. elim (ch.unused y g) [
    | inl p ↦
        let is : j ≡ k = w.apart j k x (e ∙ ap (λ (a : List ℕ). Some a) p.0) at in
        elim (get_set ls k j v m n there f) [
          | inl q ↦ (ap (λ (a : Lock). a.holder) q.1 ∙ p.1, ap (λ (a : Lock). a.queue) q.1 ∙ p.2)
          | inr q ↦ absurd (q.0 is)
        ]
    | inr p ↦ elim (get_set ls k j v m n there f) [
      | inl q ↦ absurd (p.0 (same_at ns j k x y e at q.0))
      | inr q ↦ w.unused j y n e q.1 p.1
    ]
  ];
}

no_one : (o : Option ℕ) → is_some o ≡ false → o ≡ None
no_one None e = refl
no_one (Some n) e = absurd (true≢false e)

no_holder : (h : Option Holder) → client_of h ≡ None → h ≡ None
no_holder None e = refl
no_holder (Some h) e = absurd (none_some h.client (sym e))

-- a ring was asked under the name
changed_turn : (s : Named) (i : ℕ) (b : Bound) (t : Turn) (x : List ℕ) (v : Lock) (f : Fits s i b) → b.name ≡ x → Same t.lock v → (v.holder ≡ None → v.queue ≡ []) → Changed s (turned s i b f.lock t).named x v
changed_turn s i b t x v f own same empty = record {
  used = λ j d l e g. elim (get_set s.names i j o f.was (Some d) f.entry e) [
    | inl p ↦ elim (get_set s.locks i j t.lock f.lock l f.there g) [
      | inl q ↦ inl (mine d p.1, record { held = ap (λ (y : Lock). client_of y.holder) q.1 ∙ same.held; queue = ap (λ (y : Lock). y.queue) q.1 ∙ same.queue })
      | inr q ↦ absurd (q.0 p.0)
    ]
    | inr p ↦ elim (get_set s.locks i j t.lock f.lock l f.there g) [
      | inl q ↦ absurd (p.0 q.0)
      | inr q ↦ inr (λ y. f.alone j d p.0 p.1 (y ∙ sym own), p.1, q.1)
    ]
  ];
  unused = λ y g. elim (cases_Bool (bytes_eq y x)) [
    | inl q ↦ elim (cases_Bool (nat_lt i s.fixed || is_some (client_of t.lock.holder))) [
      | inl on ↦ absurd (unlike y (slice_set s.names i o) i b g (get_set_same s.names i o f.was f.entry ∙ ap (λ (a : Option Bound). Some a) (kept_stays _ b on)) (own ∙ sym (same_name y x q)))
      | inr off ↦
          let nobody : v.holder ≡ None = no_holder v.holder (sym same.held ∙ no_one (client_of t.lock.holder) (or_parts (nat_lt i s.fixed) (is_some (client_of t.lock.holder)) off).1) in
          inl (same_name y x q, nobody, empty nobody)
    ]
    | inr q ↦
        let other : y ≢ x = λ e. both_ways (bytes_eq y x) q (own_name y x e) in
        inr (
          other,
          found_nowhere y s.names (λ j d e n. elim (cases_eq j i) [
            | inl p ↦ elim f.which [
              | inl a ↦ other (sym n ∙ ap (λ (k : Bound). k.name) (some_same d b (was_is j d p e ∙ a)) ∙ own)
              | inr a ↦ none_some d (sym a.0 ∙ sym (was_is j d p e))
            ]
            | inr p ↦ unlike y (slice_set s.names i o) j d g (get_set_other s.names i j o p ∙ e) n
          ]),
        )
  ];
  known = λ j d e. elim (get_set s.names i j o f.was (Some d) f.entry e) [
    | inl p ↦ inl (mine d p.1)
    | inr p ↦ inr p.1
  ];
}
  where
    o : Option Bound
    o = name_after s.fixed i b t

    mine : (d : Bound) → Some d ≡ name_after s.fixed i b t → d.name ≡ x
    mine d e = ap (λ (a : Bound). a.name) (sym (kept_some (nat_lt i s.fixed || is_some (client_of t.lock.holder)) b d (sym e))) ∙ own

    was_is : (j : ℕ) (d : Bound) → j ≡ i → slice_get s.names j ≡ Some (Some d) → Some d ≡ f.was
    was_is j d p e = some_same (Some d) f.was (sym e ∙ ap (λ (k : ℕ). slice_get s.names k) p ∙ f.entry)

-- no ring has the name
changed_none : (s : Named) (x : List ℕ) (v : Lock) → found x s.names ≡ None → v.holder ≡ None → v.queue ≡ [] → Changed s s x v
changed_none s x v e h l = record {
  used = λ i d k f g. inr (λ q. unlike x s.names i d e f q, f, g);
  unused = λ y g. elim (cases_Bool (bytes_eq y x)) [
    | inl q ↦ inl (same_name y x q, h, l)
    | inr q ↦ inr (λ a. both_ways (bytes_eq y x) q (own_name y x a), g)
  ];
  known = λ i d f. inr f;
}

-- ---- clients that wait

data WaitAlike (v w : Option Lock) : Type 0 where
  Neither : v ≡ None → w ≡ None → WaitAlike v w
  Both : (l m : Lock) → v ≡ Some l → w ≡ Some m → client_of l.holder ≡ client_of m.holder → WaitAlike v w

nobody_there : (c : ℕ) (queue : List Waiter) → queue ≡ [] → stands c queue ≡ true → ⊥
nobody_there c queue e s = both_ways (stands c queue) (ap (λ (x : List Waiter). stands c x) e) s

module _ (ns : List (List ℕ)) (s : Named) (ls : List Lock) (n : IsNamed s) (w : AreOwn ns s ls) where
  -- the lock of the place
  own_lock : (j : ℕ) (x : List ℕ) → slice_get ns j ≡ Some x → (m : Lock) × (slice_get ls j ≡ Some m)
  own_lock j x e = there_is ls j (subst (λ (k : ℕ). j < k) (sym w.many) (slice_get_within ns j x e))

  own_place : (j : ℕ) (m : Lock) → slice_get ls j ≡ Some m → (x : List ℕ) × (slice_get ns j ≡ Some x)
  own_place j m e = there_is ns j (subst (λ (k : ℕ). j < k) w.many (slice_get_within ls j m e))

  entry_at : (i : ℕ) (l : Lock) → slice_get s.locks i ≡ Some l → (o : Option Bound) × (slice_get s.names i ≡ Some o)
  entry_at i l e = there_is s.names i (subst (λ (k : ℕ). i < k) (sym n.many) (slice_get_within s.locks i l e))

  waiting : (c i : ℕ) (l : Lock) (o : Option Bound) → slice_get s.locks i ≡ Some l → slice_get s.names i ≡ Some o → stands c l.queue ≡ true → (m : Lock) × (waits_for ls c ≡ Some m) × (client_of l.holder ≡ client_of m.holder)
  waiting c i l None e f g = absurd (nobody_there c l.queue ((n.right.each i l e).held (n.each i l None e f).1) g)
  waiting c i l (Some b) e f g =
      let j = w.known i b f in
      let m = own_lock j.0 b.name j.1 in
      let same = w.used j.0 m.0 i b l j.1 m.1 f e in
      (m.0, waits_there ls c j.0 m.0 w.right.once m.1 (subst (λ (x : List Waiter). stands c x ≡ true) same.1 g), same.0)

  not_waiting : (c j : ℕ) (m : Lock) (x : List ℕ) (o : Option (ℕ × Bound)) → waits_for s.locks c ≡ None → slice_get ls j ≡ Some m → slice_get ns j ≡ Some x → found x s.names ≡ o → stands c m.queue ≡ true → ⊥
  not_waiting c j m x None e f g h t = nobody_there c m.queue (w.unused j x m g f h).1 t
  not_waiting c j m x (Some p) e f g h t =
      let a = found_at x s.names p h in
      let l = lock_at s p.0 (Some p.1) n a.entry in
      let same = w.used j m p.0 p.1 l.0 (g ∙ ap (λ (y : List ℕ). Some y) a.name) f a.entry l.1 in
      both_ways (stands c l.0.queue) (waits_nowhere s.locks c p.0 l.0 e l.1) (subst (λ (y : List Waiter). stands c y ≡ true) (sym same.1) t)

  neither : (c : ℕ) (v : Option Lock) → waits_for s.locks c ≡ None → waits_for ls c ≡ v → v ≡ None
  neither c None e f = refl
  neither c (Some m) e f =
      let a = waits_at ls c m f in
      let x = own_place a.at m a.lock in
      absurd (not_waiting c a.at m x.0 (found x.0 s.names) e a.lock x.1 refl a.stands)

  wait_by : (c : ℕ) (v : Option Lock) → waits_for s.locks c ≡ v → WaitAlike v (waits_for ls c)
  wait_by c None e = Neither refl (neither c (waits_for ls c) e refl)
  wait_by c (Some l) e =
      let a = waits_at s.locks c l e in
      let o = entry_at a.at l a.lock in
      let m = waiting c a.at l o.0 a.lock o.1 a.stands in
      Both l m.0 refl m.1 m.2

  wait_alike : (c : ℕ) → WaitAlike (waits_for s.locks c) (waits_for ls c)
  wait_alike c = wait_by c (waits_for s.locks c) refl

  some_alike : (v u : Option Lock) → WaitAlike v u → is_some v ≡ is_some u
  some_alike v u (Neither e f) = ap (λ (x : Option Lock). is_some x) e ∙ sym (ap (λ (x : Option Lock). is_some x) f)
  some_alike v u (Both l m e f same) = ap (λ (x : Option Lock). is_some x) e ∙ sym (ap (λ (x : Option Lock). is_some x) f)

  whom_alike : (v u : Option Lock) → WaitAlike v u → holder_of v ≡ holder_of u
  whom_alike v u (Neither e f) = ap (λ (x : Option Lock). holder_of x) e ∙ sym (ap (λ (x : Option Lock). holder_of x) f)
  whom_alike v u (Both l m e f same) = ap (λ (x : Option Lock). holder_of x) e ∙ same ∙ sym (ap (λ (x : Option Lock). holder_of x) f)

  equal_waits : (i k : ℕ) (l m : Lock) (c : ℕ) → slice_get s.locks i ≡ Some l → slice_get ls k ≡ Some m → client_of l.holder ≡ client_of m.holder → AreEqualWaits s.locks ls l m c
  equal_waits i k l m c e f same = record {
    waits = some_alike (waits_for s.locks c) (waits_for ls c) (wait_alike c);
    circle = circle_alike s.locks ls i k l m c n.right w.right e f same (λ d. whom_alike (waits_for s.locks d) (waits_for ls d) (wait_alike d));
  }

-- ---- a ring is asked, and the lock of its own

own_answers : (ls : List Lock) (c k : ℕ) (u : Ask) (m : Lock) → slice_get ls k ≡ Some m → answers_after ls (Asked c k u ∷ []) ≡ (turn ls m c u).answers
own_answers ls c k u m e = ap (λ (o : Option Lock). (step_at ls c k u o).answers ++ []) e ∙ append-nil (turn ls m c u).answers

own_locks : (ls : List Lock) (c k : ℕ) (u : Ask) (m : Lock) → slice_get ls k ≡ Some m → locks_after ls (Asked c k u ∷ []) ≡ slice_set ls k (turn ls m c u).lock
own_locks ls c k u m e = ap (λ (o : Option Lock). (step_at ls c k u o).locks) e

-- the state after it, and what is said of it
abbrev StepsAlike : List (List ℕ) → NamedStep → List Lock → List Input → Type 0
StepsAlike ns z ls js = (map said_aside z.said ≡ map answer_aside (answers_after ls js)) × AreOwn ns z.named (locks_after ls js)

token_after : (ls : List Lock) (m : Lock) (c : ℕ) (u : Ask) (h : Holder) → IsMoved m (turn ls m c u).lock → ((k : Holder) → m.holder ≡ Some k → 0 < k.token) → (turn ls m c u).lock.holder ≡ Some h → 0 < h.token
token_after ls m c u h g pos e = elim (g.held h e) [
  | inl q ↦ pos h q
  | inr q ↦ let is : h.token ≡ m.ring.grants + 1 = q.0 in omega arith
]

module _ (ns : List (List ℕ)) (s : Named) (ls : List Lock) (n : IsNamed s) (w : AreOwn ns s ls) (c k : ℕ) (x : List ℕ) (m : Lock) (at : slice_get ns k ≡ Some x) (there : slice_get ls k ≡ Some m) where
  -- the lock of its own continues
  own_turn : (z : Named) (u : Ask) → Changed s z x (turn ls m c u).lock → AreOwn ns z (slice_set ls k (turn ls m c u).lock)
  own_turn z u ch =
      own_changed ns s z ls k x m (turn ls m c u).lock w at there ch (right_asked ls m c k u w.right there)
      (λ h e. token_after ls m c u h (moved ls m c u (w.right.each k m there).ring) (λ h q. w.tokens k m h there q) e)

  own_empty : (u : Ask) → (turn ls m c u).lock.holder ≡ None → (turn ls m c u).lock.queue ≡ []
  own_empty u e = ((right_asked ls m c k u w.right there).each k (turn ls m c u).lock (get_set_same ls k (turn ls m c u).lock m there)).held e

  turned_steps : (i : ℕ) (b : Bound) (f : Fits s i b) (a u : Ask) → b.name ≡ x → TurnsAlike (turn s.locks f.lock c a) (turn ls m c u) →
      StepsAlike ns (turned s i b f.lock (turn s.locks f.lock c a)) ls (Asked c k u ∷ [])
  turned_steps i b f a u own alike = (
    said_alike b (turn s.locks f.lock c a).answers ∙ alike.answers ∙ ap (λ (y : List (ℕ × Answer)). map answer_aside y) (sym (own_answers ls c k u m there)),
    subst (λ (y : List Lock). AreOwn ns (turned s i b f.lock (turn s.locks f.lock c a)).named y) (sym (own_locks ls c k u m there))
        (own_turn (turned s i b f.lock (turn s.locks f.lock c a)).named u (changed_turn s i b (turn s.locks f.lock c a) x (turn ls m c u).lock f own alike.lock (own_empty u))),
  )

  ring_steps : (i : ℕ) (b : Bound) (f : Fits s i b) (ask u v : Ask) → b.name ≡ x → u ≡ v → TurnsAlike (turn s.locks f.lock c (of_ring b ask)) (turn ls m c u) → StepsAlike ns (at_ring s c i b ask) ls (Asked c k v ∷ [])
  ring_steps i b f ask u v own e alike =
      subst (λ (y : Ask). StepsAlike ns (at_ring s c i b ask) ls (Asked c k y ∷ [])) e
      (subst (λ (y : NamedStep). StepsAlike ns y ls (Asked c k u ∷ [])) (sym (at_ring_is s c i b ask f.lock f.there)) (turned_steps i b f (of_ring b ask) u own alike))

  -- an ask that both understand alike
  plain_steps : (i : ℕ) (b : Bound) (f : Fits s i b) (ask : Ask) → b.name ≡ x → of_ring b ask ≡ ask → IsPlain ask → Same f.lock m → StepsAlike ns (at_ring s c i b ask) ls (Asked c k ask ∷ [])
  plain_steps i b f ask own same plain h =
      ring_steps i b f ask ask ask own refl
      (subst (λ (y : Ask). TurnsAlike (turn s.locks f.lock c y) (turn ls m c ask)) (sym same)
      (turn_alike s.locks ls f.lock m c ask h (equal_waits ns s ls n w i k f.lock m c f.there there h.held) plain))

  -- ---- a fault

  set_same : {X : Type 0} (xs : List X) (i : ℕ) (y : X) → slice_get xs i ≡ Some y → slice_set xs i y ≡ xs
  set_same [] i y e = refl
  set_same (z ∷ xs) zero y e = ap (λ a. a ∷ xs) (sym (some_same z y e))
  set_same (z ∷ xs) (suc i) y e = ap (λ a. z ∷ a) (set_same xs i y e)

  fault_same : (l : Lock) (i v : ℕ) → Same l m → Same (turn s.locks l c (Corrupt i v)).lock m
  fault_same l i v h = by (nat_le (length l.ring.ring.values) i) (nat_le l.ring.ring.k v)
    where
      by : (far great : Bool) → Same (if far then told l c (answer.Refused refusal.Machine) else if great then told l c (answer.Refused refusal.Value) else faulted l c i v).lock m
      by true great = h
      by false true = h
      by false false = record { held = h.held; queue = h.queue }

  fault_own : (i : ℕ) (b : Bound) (f : Fits s i b) (j v : ℕ) → b.name ≡ x → Same f.lock m → AreOwn ns (at_ring s c i b (Corrupt j v)).named ls
  fault_own i b f j v own h =
      subst (λ (y : NamedStep). AreOwn ns y.named ls) (sym (at_ring_is s c i b (Corrupt j v) f.lock f.there))
      (subst (λ (y : List Lock). AreOwn ns (turned s i b f.lock (turn s.locks f.lock c (Corrupt j v))).named y) (set_same ls k m there)
      (own_changed ns s (turned s i b f.lock (turn s.locks f.lock c (Corrupt j v))).named ls k x m m w at there
      (changed_turn s i b (turn s.locks f.lock c (Corrupt j v)) x m f own (fault_same f.lock j v h) (λ e. (w.right.each k m there).held e))
      (subst (λ (y : List Lock). AreRight y) (sym (set_same ls k m there)) w.right) (λ a q. w.tokens k m a there q)))

  -- ---- by the ring that is found

  abbrev Goal : Ask → Option (ℕ × Bound) → Option ℕ → Type 0
  Goal ask o g =
      ((map said_aside (at_name s c x ask o).said ≡ map answer_aside (answers_after ls (own_of s ls c ask o g (Some k)))) ⊎ ((own_of s ls c ask o g (Some k) ≡ []) × IsExcused s (Of c x ask)))
      × AreOwn ns (at_name s c x ask o).named (locks_after ls (own_of s ls c ask o g (Some k)))

  same_found : (p : ℕ × Bound) (e : found x s.names ≡ Some p) → Same (fits_found s x p n e).lock m
  same_found p e =
      let f = fits_found s x p n e in
      let a = found_at x s.names p e in
      let same = w.used k m p.0 p.1 f.lock (at ∙ ap (λ (y : List ℕ). Some y) a.name) there a.entry f.there in
      record { held = same.0; queue = same.1 }

  found_steps : (p : ℕ × Bound) (g : Option ℕ) (ask : Ask) → found x s.names ≡ Some p → Goal ask (Some p) g
  found_steps p g (Acquire label) e = let r = plain_steps p.0 p.1 (fits_found s x p n e) (Acquire label) (sym (found_at x s.names p e).name) refl tt (same_found p e) in (inl r.0, r.1)
  found_steps p g (Try label) e = let r = plain_steps p.0 p.1 (fits_found s x p n e) (Try label) (sym (found_at x s.names p e).name) refl tt (same_found p e) in (inl r.0, r.1)
  found_steps p g Cancel e = let r = plain_steps p.0 p.1 (fits_found s x p n e) Cancel (sym (found_at x s.names p e).name) refl tt (same_found p e) in (inl r.0, r.1)
  found_steps p g Leave e = let r = plain_steps p.0 p.1 (fits_found s x p n e) Leave (sym (found_at x s.names p e).name) refl tt (same_found p e) in (inl r.0, r.1)
  found_steps p g Stats e = let r = plain_steps p.0 p.1 (fits_found s x p n e) Stats (sym (found_at x s.names p e).name) refl tt (same_found p e) in (inl r.0, r.1)
  found_steps p g (Corrupt i v) e = (inr (refl, tt), fault_own p.0 p.1 (fits_found s x p n e) i v (sym (found_at x s.names p e).name) (same_found p e))
  found_steps p g (Release token) e =
      let f = fits_found s x p n e in
      let h = same_found p e in
      let u : Ask = Release (own_token token (option_map (λ (y : Holder). token_in p.1 y.token) f.lock.holder) m.holder) in
      let is : u ≡ own_ask (Release token) (told_at p.1 (slice_get s.locks p.0)) (slice_get ls k) =
      ap (λ (o : Option Lock). own_ask (Release token) (told_at p.1 o) (Some m)) (sym f.there) ∙ ap (λ (o : Option Lock). own_ask (Release token) (told_at p.1 (slice_get s.locks p.0)) o) (sym there) in
      let r = ring_steps p.0 p.1 f (Release token) u (own_ask (Release token) (told_at p.1 (slice_get s.locks p.0)) (slice_get ls k)) (sym (found_at x s.names p e).name) is
      (release_alike s.locks ls f.lock m c (number_in p.1 token) (own_token token (option_map (λ (y : Holder). token_in p.1 y.token) f.lock.holder) m.holder) h
      (held_with_alike c token p.1 f.lock.holder m.holder h.held (λ y q. (f.right.held y q).0) (λ y q. w.tokens k m y there q))) in
      (inl r.0, r.1)

  -- ---- a name that no ring has

  -- a lock that nobody holds, and for which nobody waits
  abbrev none : Lock
  none = record { ring = m.ring; queue = []; holder = None }

  quiet_steps : (u v : Ask) (z : NamedStep) → found x s.names ≡ None → v ≡ u → z.named ≡ s → map said_aside z.said ≡ map answer_aside (turn ls none c u).answers → (turn ls none c u).lock.holder ≡ None → (turn ls none c u).lock.queue ≡ [] →
      TurnsAlike (turn ls none c u) (turn ls m c u) → StepsAlike ns z ls (Asked c k v ∷ [])
  quiet_steps u v z e q same said holder queue alike =
      let nobody : (turn ls m c u).lock.holder ≡ None = no_holder (turn ls m c u).lock.holder (sym alike.lock.held ∙ ap (λ (h : Option Holder). client_of h) holder) in
      subst (λ (y : Ask). StepsAlike ns z ls (Asked c k y ∷ [])) (sym q) (
        said ∙ alike.answers ∙ ap (λ (y : List (ℕ × Answer)). map answer_aside y) (sym (own_answers ls c k u m there)),
        subst (λ (y : List Lock). AreOwn ns z.named y) (sym (own_locks ls c k u m there))
            (subst (λ (y : Named). AreOwn ns y (slice_set ls k (turn ls m c u).lock)) (sym same)
            (own_turn s u (changed_none s x (turn ls m c u).lock e nobody (sym alike.lock.queue ∙ queue)))),
      )

  none_same : found x s.names ≡ None → Same none m
  none_same e = let q = w.unused k x m at there e in record { held = sym (ap (λ (h : Option Holder). client_of h) q.0); queue = sym q.1 }

  none_waits : found x s.names ≡ None → AreEqualWaits ls ls none m c
  none_waits e = record { waits = refl; circle = ap (λ (h : Option Holder). comes_to (length ls) ls c (client_of h)) (sym (w.unused k x m at there e).0) }

  free_steps : (i : ℕ) (ask : Ask) → found x s.names ≡ None → free s.names ≡ Some i → of_ring (fresh s x i) ask ≡ ask → IsPlain ask → StepsAlike ns (at_ring s c i (fresh s x i) ask) ls (Asked c k ask ∷ [])
  free_steps i ask e g same plain =
      let f = fits_free s x i n e g in
      let q = w.unused k x m at there e in
      let held : f.lock.holder ≡ None = (n.each i f.lock None f.there (free_at s.names i g)).1 in
      let queue : f.lock.queue ≡ [] = (n.right.each i f.lock f.there).held held in
      plain_steps i (fresh s x i) f ask refl same plain (record {
        held = ap (λ (h : Option Holder). client_of h) held ∙ sym (ap (λ (h : Option Holder). client_of h) q.0);
        queue = queue ∙ sym q.1;
      })

  all_held : free s.names ≡ None → (i : ℕ) (l : Lock) → s.fixed ≤ i → slice_get s.locks i ≡ Some l → is_some l.holder ≡ true
  all_held g i l le e = by (entry_at ns s ls n w i l e).0 (entry_at ns s ls n w i l e).1
    where
      by : (o : Option Bound) → slice_get s.names i ≡ Some o → is_some l.holder ≡ true
      by None q = absurd (none_free s.names i g q)
      by (Some b) q = (n.each i l (Some b) e q).1 le

  refused : (ask : Ask) → found x s.names ≡ None → free s.names ≡ None → IsForHold ask → at_none s c x ask ≡ given s c x ask (free s.names) → IsRefused s c x ask
  refused ask e g hold is = record {
    for_hold = hold;
    unused = e;
    all_held = all_held g;
    refused = ap (λ (o : Option (ℕ × Bound)). at_name s c x ask o) e ∙ is ∙ ap (λ (o : Option ℕ). given s c x ask o) g;
  }

  acquire_steps : (label : ℕ) (g : Option ℕ) → found x s.names ≡ None → free s.names ≡ g → StepsAlike ns (given s c x (Acquire label) g) ls (own_of s ls c (Acquire label) None g (Some k)) ⊎ (IsRefused s c x (Acquire label) × (g ≡ None))
  acquire_steps label None e q = inr (refused (Acquire label) e q tt refl, refl)
  acquire_steps label (Some i) e q = inl (free_steps i (Acquire label) e q refl tt)

  try_steps : (label : ℕ) (g : Option ℕ) → found x s.names ≡ None → free s.names ≡ g → StepsAlike ns (given s c x (Try label) g) ls (own_of s ls c (Try label) None g (Some k)) ⊎ (IsRefused s c x (Try label) × (g ≡ None))
  try_steps label None e q = inr (refused (Try label) e q tt refl, refl)
  try_steps label (Some i) e q = inl (free_steps i (Try label) e q refl tt)

  none_steps : (ask : Ask) → found x s.names ≡ None → Goal ask None (free s.names)
  none_steps (Acquire label) e = elim (acquire_steps label (free s.names) e refl) [
    | inl r ↦ (inl r.0, r.1)
    | inr r ↦ subst (λ (g : Option ℕ). ((map said_aside (given s c x (Acquire label) g).said ≡ map answer_aside (answers_after ls (own_of s ls c (Acquire label) None g (Some k)))) ⊎ ((own_of s ls c (Acquire label) None g (Some k) ≡ []) × IsRefused s c x (Acquire label)))
        × AreOwn ns (given s c x (Acquire label) g).named (locks_after ls (own_of s ls c (Acquire label) None g (Some k)))) (sym r.1) (inr (refl, r.0), w)
  ]
  none_steps (Try label) e = elim (try_steps label (free s.names) e refl) [
    | inl r ↦ (inl r.0, r.1)
    | inr r ↦ subst (λ (g : Option ℕ). ((map said_aside (given s c x (Try label) g).said ≡ map answer_aside (answers_after ls (own_of s ls c (Try label) None g (Some k)))) ⊎ ((own_of s ls c (Try label) None g (Some k) ≡ []) × IsRefused s c x (Try label)))
        × AreOwn ns (given s c x (Try label) g).named (locks_after ls (own_of s ls c (Try label) None g (Some k)))) (sym r.1) (inr (refl, r.0), w)
  ]
  none_steps (Release token) e =
      let r = quiet_steps (Release 0) (own_ask (Release token) None (slice_get ls k)) (at_none s c x (Release token)) e (ap (λ (o : Option Lock). own_ask (Release token) None o) there) refl refl refl refl
      (release_alike ls ls none m c 0 0 (none_same e) (ap (λ (h : Option Holder). is_held_with c 0 h) (sym (w.unused k x m at there e).0))) in
      (inl r.0, r.1)
  none_steps Cancel e = let r = quiet_steps Cancel Cancel (at_none s c x Cancel) e refl refl refl refl refl (turn_alike ls ls none m c Cancel (none_same e) (none_waits e) tt) in (inl r.0, r.1)
  none_steps Leave e = let r = quiet_steps Leave Leave (at_none s c x Leave) e refl refl refl refl refl (turn_alike ls ls none m c Leave (none_same e) (none_waits e) tt) in (inl r.0, r.1)
  none_steps Stats e = let r = quiet_steps Stats Stats (at_none s c x Stats) e refl refl refl refl refl (turn_alike ls ls none m c Stats (none_same e) (none_waits e) tt) in (inl r.0, r.1)
  none_steps (Corrupt i v) e = (inr (refl, tt), w)

  name_steps : (ask : Ask) (o : Option (ℕ × Bound)) → found x s.names ≡ o → Goal ask o (free s.names)
  name_steps ask None e = none_steps ask e
  name_steps ask (Some p) e = found_steps p (free s.names) ask e

-- ---- a restart

zeroed_alike : (h k : Option Holder) → client_of h ≡ client_of k → client_of (option_map zeroth h) ≡ client_of (option_map zeroth k)
zeroed_alike None None e = refl
zeroed_alike (Some h) (Some k) e = refl
zeroed_alike None (Some k) e = absurd (none_some k.client e)
zeroed_alike (Some h) None e = absurd (none_some h.client (sym e))

own_restarted : (ns : List (List ℕ)) (s : Named) (ls : List Lock) → AreOwn ns s ls → AreOwn ns (restarted_named s) (map restarted ls)
own_restarted ns s ls w = record {
  right = right_restarted ls w.right;
  many = length_restarted ls ∙ w.many;
  apart = w.apart;
  tokens = λ j m h e q.
      let a = was_lock ls j m e in
      let k = still_held a.0.holder h (sym (ap (λ (y : Lock). y.holder) a.2) ∙ q) in
      subst (λ (t : ℕ). 0 < t) (sym k.2) (w.tokens j a.0 k.0 a.1 k.1);
  known = w.known;
  used = λ j m i b l e f g h.
      let a = was_lock ls j m f in
      let d = was_lock s.locks i l h in
      let same = w.used j a.0 i b d.0 e a.1 g d.1 in (
        ap (λ (y : Lock). client_of y.holder) d.2 ∙ zeroed_alike d.0.holder a.0.holder same.0 ∙ sym (ap (λ (y : Lock). client_of y.holder) a.2),
        ap (λ (y : Lock). y.queue) d.2 ∙ sym (ap (λ (y : Lock). y.queue) a.2),
      );
  unused = λ j x m e f g.
      let a = was_lock ls j m f in
      let q = w.unused j x a.0 e a.1 g in
      (ap (λ (y : Lock). y.holder) a.2 ∙ still_none a.0.holder q.0, ap (λ (y : Lock). y.queue) a.2);
}

-- ---- a ring more

own_grown : (ns : List (List ℕ)) (s : Named) (a : State ℕ) (ls : List Lock) → IsNamed s → AreOwn ns s ls → AreOwn ns (grown s a) ls
own_grown ns s a ls n w = record {
  right = w.right;
  many = w.many;
  apart = w.apart;
  tokens = w.tokens;
  known = λ i b e. w.known i b (named_before i b (pushed s.names None i (Some b) e));
  used = λ j m i b l e f g h.
      let q = named_before i b (pushed s.names None i (Some b) g) in
      w.used j m i b l e f q (locked_before i b l q (pushed s.locks (free_lock a) i l h));
  unused = λ j x m e f g. w.unused j x m e f (sym (found_more x s.names) ∙ g);
}
  where
    named_before : (i : ℕ) (b : Bound) → (slice_get s.names i ≡ Some (Some b)) ⊎ ((i ≡ length s.names) × (Some b ≡ None)) → slice_get s.names i ≡ Some (Some b)
    named_before i b (inl p) = p
    named_before i b (inr p) = absurd (none_some b (sym p.1))

    locked_before : (i : ℕ) (b : Bound) (l : Lock) → slice_get s.names i ≡ Some (Some b) → (slice_get s.locks i ≡ Some l) ⊎ ((i ≡ length s.locks) × (l ≡ free_lock a)) → slice_get s.locks i ≡ Some l
    locked_before i b l q (inl p) = p
    locked_before i b l q (inr p) =
        let lt : i < length s.names = slice_get_within s.names i (Some b) q in
        let at : i ≡ length s.locks = p.0 in
        let many : length s.names ≡ length s.locks = n.many in
        absurd (omega arith)

-- ---- all

abbrev Placed : List ℕ → List (List ℕ) → Option ℕ → Type 0
Placed x ns o = (k : ℕ) × (o ≡ Some k) × (slice_get ns k ≡ Some x)

placed_on : (x y : List ℕ) (ns : List (List ℕ)) (j : ℕ) → ((i : ℕ) → slice_get ns i ≡ Some x → Placed x ns (place x ns)) → slice_get (y ∷ ns) j ≡ Some x →
    (q : Bool) → bytes_eq x y ≡ q → Placed x (y ∷ ns) (if q then Some zero else option_map suc (place x ns))
placed_on x y ns j rest e true q = (zero, refl, ap (λ (z : List ℕ). Some z) (sym (same_name x y q)))
placed_on x y ns zero rest e false q = absurd (both_ways (bytes_eq x y) q (own_name x y (sym (some_same y x e))))
placed_on x y ns (suc j) rest e false q =
    let r = rest j e in
    (suc r.0, ap (λ (o : Option ℕ). option_map suc o) r.1, r.2)

placed : (x : List ℕ) (ns : List (List ℕ)) (j : ℕ) → slice_get ns j ≡ Some x → Placed x ns (place x ns)
placed x [] j e = absurd (none_some x e)
placed x (y ∷ ns) j e = placed_on x y ns j (λ i. placed x ns i) e (bytes_eq x y) refl

abbrev Step : List (List ℕ) → Named → List Lock → NamedInput → Type 0
Step ns s ls i = IsAnsweredAlike ns s ls i × AreOwn ns (step_named s i).named (locks_after ls (own_inputs ns s ls i))

of_step : (ns : List (List ℕ)) (s : Named) (ls : List Lock) (c : ℕ) (x : List ℕ) (ask : Ask) (j : ℕ) → IsNamed s → AreOwn ns s ls → slice_get ns j ≡ Some x → Step ns s ls (Of c x ask)
of_step ns s ls c x ask j n w e =
    let k = placed x ns j e in
    let m = own_lock ns s ls n w k.0 x k.2 in
    subst (λ (p : Option ℕ). ((map said_aside (step_named s (Of c x ask)).said ≡ map answer_aside (answers_after ls (own_of s ls c ask (found x s.names) (free s.names) p)))
    ⊎ ((own_of s ls c ask (found x s.names) (free s.names) p ≡ []) × IsExcused s (Of c x ask)))
    × AreOwn ns (step_named s (Of c x ask)).named (locks_after ls (own_of s ls c ask (found x s.names) (free s.names) p))) (sym k.1)
    (name_steps ns s ls n w c k.0 x m.0 k.2 m.1 ask (found x s.names) refl)

pub names_are_locks : NamesAreLocks
names_are_locks ns s ls [] n al w a = tt
names_are_locks ns s ls (Of c x ask ∷ is) n al w a =
    let r = of_step ns s ls c x ask a.0.0 n w a.0.1 in
    (r.0, names_are_locks ns (step_named s (Of c x ask)).named (locks_after ls (own_inputs ns s ls (Of c x ask))) is (named_step s (Of c x ask) n al.0) al.1 r.1 a.1)
names_are_locks ns s ls (Again ∷ is) n al w a = (inl refl, names_are_locks ns (restarted_named s) (map restarted ls) is (named_step s Again n al.0) al.1 (own_restarted ns s ls w) a)
names_are_locks ns s ls (More b ∷ is) n al w a = (inl refl, names_are_locks ns (grown s b) ls is (named_step s (More b) n al.0) al.1 (own_grown ns s b ls n w) a)
