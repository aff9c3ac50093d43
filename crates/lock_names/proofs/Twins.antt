-- Two locks, of two machines, with the same holder and the same waiting clients: what they do alike.
use Rattle.std.proofs.Common.{◌≡◌, ◌≢◌, ℕ, zero, suc, ◌+◌, ◌-◌, ◌<◌, ◌≤◌, Bool, true, false, List, [], ◌∷◌, ◌++◌, map, length, Option, None, Some, inl, inr, refl, sym, ◌∙◌, ap, subst, arith}
use Rattle.std.specs.Prelude.{◌==◌, ◌&&◌, nat_le, if◌then◌else◌, slice_get, is_some, option_map}
use Rattle.std.proofs.lemmas.Bool.{cases_Bool, cases_eq, eq-eqb, ne_eqb, or_left, or_right, leb-true, leb-false, both_ways}
use Rattle.ring_model.specs.History.{State}
use Rattle.held_locks.specs.declared.answers.Waiter.{Waiter}
use Rattle.held_locks.specs.declared.answers.Holder.{Holder}
use Rattle.held_locks.specs.declared.answers.Answer.{Answer}
use Rattle.held_locks.specs.declared.answers.Answer.TheVariants as answer
use Rattle.held_locks.specs.declared.answers.Refusal.TheVariants as refusal
use Rattle.held_locks.specs.Queues.{Lock, stands, without, is_held_by, is_held_with, waits_for, client_of, holder_of, comes_to}
use Rattle.held_locks.specs.Locks.{Ask, Acquire, Try, Release, Cancel, Leave, Corrupt, Stats, Turn, told, granted, advanced, ended, joined, acquired, tried, tried_of, dropped, turn}
use Rattle.held_locks.specs.Promises.{AreRight, comes}
use Rattle.held_locks.proofs.Answered.{circles_are_real}
use Rattle.lock_names.specs.declared.replies.Reply.{Reply}
use Rattle.lock_names.specs.declared.replies.Reply.TheVariants as reply
use Rattle.lock_names.specs.Names.{Bound, token_in, number_in, as_told, said_of}
use Rattle.lock_names.specs.Alike.{aside, said_aside, answer_aside, own_token}
use Rattle.name_bindings.proofs.Found.{some_same, none_some}

-- the same holder, and the same waiting clients
pub record Same (l m : Lock) : Type 0 where
  pub held : client_of l.holder ≡ client_of m.holder
  pub queue : l.queue ≡ m.queue

-- turns that are alike
pub record TurnsAlike (t u : Turn) : Type 0 where
  pub lock : Same t.lock u.lock
  pub answers : map answer_aside t.answers ≡ map answer_aside u.answers

-- ---- parts

pub held_by_alike : (c : ℕ) (h k : Option Holder) → client_of h ≡ client_of k → is_held_by c h ≡ is_held_by c k
held_by_alike c None None e = refl
held_by_alike c (Some h) (Some k) e = ap (λ (n : ℕ). n == c) (some_same h.client k.client e)
held_by_alike c None (Some k) e = absurd (none_some k.client e)
held_by_alike c (Some h) None e = absurd (none_some h.client (sym e))

told_alike : (l m : Lock) (c : ℕ) (a b : Answer) → Same l m → aside a ≡ aside b → TurnsAlike (told l c a) (told m c b)
told_alike l m c a b h e = record { lock = h; answers = ap (λ (x : Answer). (c, reply.Lock x) ∷ []) e }

granted_alike : (a b : State ℕ) (queue other : List Waiter) (w : Waiter) → queue ≡ other → TurnsAlike (granted a queue w) (granted b other w)
granted_alike a b queue other w e = record { lock = record { held = refl; queue = e }; answers = refl }

advanced_alike : (a b : State ℕ) (queue : List Waiter) → TurnsAlike (advanced a queue) (advanced b queue)
advanced_alike a b [] = record { lock = record { held = refl; queue = refl }; answers = refl }
advanced_alike a b (w ∷ queue) = granted_alike a b queue queue w refl

before_alike : (front list bs : List (ℕ × Answer)) → map answer_aside list ≡ map answer_aside bs → map answer_aside (front ++ list) ≡ map answer_aside (front ++ bs)
before_alike [] list bs e = e
before_alike (x ∷ front) list bs e = ap (λ (y : List (ℕ × Reply)). answer_aside x ∷ y) (before_alike front list bs e)

ended_same : (a b : State ℕ) (queue : List Waiter) (seat : ℕ) (front : List (ℕ × Answer)) → TurnsAlike (ended a queue seat front) (ended b queue seat front)
ended_same a b queue seat front =
    let h = advanced_alike a b queue in
    record { lock = record { held = h.lock.held; queue = h.lock.queue }; answers = before_alike front (advanced a queue).answers (advanced b queue).answers h.answers }

ended_alike : (a b : State ℕ) (queue other : List Waiter) (seat : ℕ) (front : List (ℕ × Answer)) → queue ≡ other → TurnsAlike (ended a queue seat front) (ended b other seat front)
ended_alike a b queue other seat front e = subst (λ (x : List Waiter). TurnsAlike (ended a queue seat front) (ended b x seat front)) e (ended_same a b queue seat front)

dropped_alike : (l m : Lock) (c : ℕ) (answers : List (ℕ × Answer)) → Same l m → TurnsAlike (dropped l c answers) (dropped m c answers)
dropped_alike l m c answers h = record { lock = record { held = h.held; queue = ap (λ (x : List Waiter). without c x) h.queue }; answers = refl }

-- ---- asks for a hold

joins : (l m : Lock) (w : Waiter) (h k : Option Holder) → Same l m → client_of h ≡ client_of k → TurnsAlike (joined l w h) (joined m w k)
joins l m w None None s e = granted_alike l.ring m.ring l.queue m.queue w s.queue
joins l m w (Some h) (Some k) s e = record {
  lock = record { held = s.held; queue = ap (λ (x : List Waiter). x ++ w ∷ []) s.queue };
  answers = ap (λ (x : List Waiter). (w.client, reply.Lock (answer.Waiting (length x))) ∷ []) s.queue;
}
joins l m w None (Some k) s e = absurd (none_some k.client e)
joins l m w (Some h) None s e = absurd (none_some h.client (sym e))

acquires : (l m : Lock) (w : Waiter) → Same l m → (held waits circle : Bool) →
    TurnsAlike (acquired l w (if held then Some refusal.Holds else if waits then Some refusal.Waits else if circle then Some refusal.Circle else None))
    (acquired m w (if held then Some refusal.Holds else if waits then Some refusal.Waits else if circle then Some refusal.Circle else None))
acquires l m w s true waits circle = told_alike l m w.client (answer.Refused refusal.Holds) (answer.Refused refusal.Holds) s refl
acquires l m w s false true circle = told_alike l m w.client (answer.Refused refusal.Waits) (answer.Refused refusal.Waits) s refl
acquires l m w s false false true = told_alike l m w.client (answer.Refused refusal.Circle) (answer.Refused refusal.Circle) s refl
acquires l m w s false false false = joins l m w l.holder m.holder s s.held

tries_of : (l m : Lock) (w : Waiter) (h k : Option Holder) → Same l m → client_of h ≡ client_of k → TurnsAlike (tried_of l w h) (tried_of m w k)
tries_of l m w None None s e = granted_alike l.ring m.ring l.queue m.queue w s.queue
tries_of l m w (Some h) (Some k) s e = told_alike l m w.client answer.Busy answer.Busy s refl
tries_of l m w None (Some k) s e = absurd (none_some k.client e)
tries_of l m w (Some h) None s e = absurd (none_some h.client (sym e))

tries : (l m : Lock) (w : Waiter) → Same l m → (held waits : Bool) →
    TurnsAlike (tried l w (if held then Some refusal.Holds else if waits then Some refusal.Waits else None)) (tried m w (if held then Some refusal.Holds else if waits then Some refusal.Waits else None))
tries l m w s true waits = told_alike l m w.client (answer.Refused refusal.Holds) (answer.Refused refusal.Holds) s refl
tries l m w s false true = told_alike l m w.client (answer.Refused refusal.Waits) (answer.Refused refusal.Waits) s refl
tries l m w s false false = tries_of l m w l.holder m.holder s s.held

-- ---- other asks

releases : (l m : Lock) (c : ℕ) → Same l m → (q : Bool) →
    TurnsAlike (if q then ended l.ring l.queue 1 ((c, answer.Released) ∷ []) else told l c (answer.Refused refusal.Holder)) (if q then ended m.ring m.queue 1 ((c, answer.Released) ∷ []) else told m c (answer.Refused refusal.Holder))
releases l m c s true = ended_alike l.ring m.ring l.queue m.queue 1 ((c, answer.Released) ∷ []) s.queue
releases l m c s false = told_alike l m c (answer.Refused refusal.Holder) (answer.Refused refusal.Holder) s refl

cancels : (l m : Lock) (c : ℕ) → Same l m → (q : Bool) →
    TurnsAlike (if q then dropped l c ((c, answer.Cancelled) ∷ []) else told l c (answer.Refused refusal.Waiter)) (if q then dropped m c ((c, answer.Cancelled) ∷ []) else told m c (answer.Refused refusal.Waiter))
cancels l m c s true = dropped_alike l m c ((c, answer.Cancelled) ∷ []) s
cancels l m c s false = told_alike l m c (answer.Refused refusal.Waiter) (answer.Refused refusal.Waiter) s refl

leaves : (l m : Lock) (c : ℕ) → Same l m → (q : Bool) →
    TurnsAlike (if q then ended l.ring (without c l.queue) 2 [] else dropped l c []) (if q then ended m.ring (without c m.queue) 2 [] else dropped m c [])
leaves l m c s true = ended_alike l.ring m.ring (without c l.queue) (without c m.queue) 2 [] (ap (λ (x : List Waiter). without c x) s.queue)
leaves l m c s false = dropped_alike l m c [] s

abbrev nameless : Option Holder → Option Holder
nameless h = option_map (λ (x : Holder). record { client = x.client; token = 0 }) h

nameless_alike : (h k : Option Holder) → client_of h ≡ client_of k → nameless h ≡ nameless k
nameless_alike None None e = refl
nameless_alike (Some h) (Some k) e = ap (λ (n : ℕ). Some (record { client = n; token = 0 })) (some_same h.client k.client e)
nameless_alike None (Some k) e = absurd (none_some k.client e)
nameless_alike (Some h) None e = absurd (none_some h.client (sym e))

stats_alike : (l m : Lock) (c : ℕ) (n p j q : ℕ) → Same l m →
    TurnsAlike (told l c (answer.Stats (record { machines = n; waiters = length l.queue; passes = p; holder = l.holder })))
    (told m c (answer.Stats (record { machines = j; waiters = length m.queue; passes = q; holder = m.holder })))
stats_alike l m c n p j q s = told_alike l m c
    (answer.Stats (record { machines = n; waiters = length l.queue; passes = p; holder = l.holder }))
    (answer.Stats (record { machines = j; waiters = length m.queue; passes = q; holder = m.holder })) s
    (ap (λ (x : List Waiter). answer.Stats (record { machines = 0; waiters = length x; passes = 0; holder = nameless l.holder })) s.queue
    ∙ ap (λ (x : Option Holder). answer.Stats (record { machines = 0; waiters = length m.queue; passes = 0; holder = x })) (nameless_alike l.holder m.holder s.held))

-- ---- turns

-- no release, and no fault
abbrev pub IsPlain : Ask → Type 0
IsPlain (Release token) = ⊥
IsPlain (Corrupt i v) = ⊥
IsPlain _ = Unit {0}

-- the clients that wait, and those they wait for, are the same in both machines
pub record AreEqualWaits (ls ms : List Lock) (l m : Lock) (c : ℕ) : Type 0 where
  pub waits : is_some (waits_for ls c) ≡ is_some (waits_for ms c)
  pub circle : comes_to (length ls) ls c (client_of l.holder) ≡ comes_to (length ms) ms c (client_of m.holder)

pub turn_alike : (ls ms : List Lock) (l m : Lock) (c : ℕ) (ask : Ask) → Same l m → AreEqualWaits ls ms l m c → IsPlain ask → TurnsAlike (turn ls l c ask) (turn ms m c ask)
turn_alike ls ms l m c (Acquire label) s w p =
    let v : Waiter = record { client = c; label = label } in
    subst (λ (x : Bool). TurnsAlike (turn ls l c (Acquire label)) (acquired m v (if x then Some refusal.Holds else if is_some (waits_for ms c) then Some refusal.Waits else if comes_to (length ms) ms c (client_of m.holder) then Some refusal.Circle else None)))
    (held_by_alike c l.holder m.holder s.held)
    (subst (λ (x : Bool). TurnsAlike (turn ls l c (Acquire label)) (acquired m v (if is_held_by c l.holder then Some refusal.Holds else if x then Some refusal.Waits else if comes_to (length ms) ms c (client_of m.holder) then Some refusal.Circle else None)))
    w.waits
    (subst (λ (x : Bool). TurnsAlike (turn ls l c (Acquire label)) (acquired m v (if is_held_by c l.holder then Some refusal.Holds else if is_some (waits_for ls c) then Some refusal.Waits else if x then Some refusal.Circle else None)))
    w.circle
    (acquires l m v s (is_held_by c l.holder) (is_some (waits_for ls c)) (comes_to (length ls) ls c (client_of l.holder)))))
turn_alike ls ms l m c (Try label) s w p =
    let v : Waiter = record { client = c; label = label } in
    subst (λ (x : Bool). TurnsAlike (turn ls l c (Try label)) (tried m v (if x then Some refusal.Holds else if stands c m.queue then Some refusal.Waits else None)))
    (held_by_alike c l.holder m.holder s.held)
    (subst (λ (x : List Waiter). TurnsAlike (turn ls l c (Try label)) (tried m v (if is_held_by c l.holder then Some refusal.Holds else if stands c x then Some refusal.Waits else None)))
    s.queue
    (tries l m v s (is_held_by c l.holder) (stands c l.queue)))
turn_alike ls ms l m c (Release token) s w p = absurd p
turn_alike ls ms l m c Cancel s w p =
    subst (λ (x : List Waiter). TurnsAlike (turn ls l c Cancel) (if stands c x then dropped m c ((c, answer.Cancelled) ∷ []) else told m c (answer.Refused refusal.Waiter))) s.queue (cancels l m c s (stands c l.queue))
turn_alike ls ms l m c Leave s w p =
    subst (λ (x : Bool). TurnsAlike (turn ls l c Leave) (if x then ended m.ring (without c m.queue) 2 [] else dropped m c [])) (held_by_alike c l.holder m.holder s.held) (leaves l m c s (is_held_by c l.holder))
turn_alike ls ms l m c (Corrupt i v) s w p = absurd p
turn_alike ls ms l m c Stats s w p = stats_alike l m c (length l.ring.ring.values) l.ring.grants (length m.ring.ring.values) m.ring.grants s

pub release_alike : (ls ms : List Lock) (l m : Lock) (c t u : ℕ) → Same l m → is_held_with c t l.holder ≡ is_held_with c u m.holder → TurnsAlike (turn ls l c (Release t)) (turn ms m c (Release u))
release_alike ls ms l m c t u s e =
    subst (λ (x : Bool). TurnsAlike (turn ls l c (Release t)) (if x then ended m.ring m.queue 1 ((c, answer.Released) ∷ []) else told m c (answer.Refused refusal.Holder))) e (releases l m c s (is_held_with c t l.holder))

-- ---- tokens

no_hold : (c t : ℕ) (o : Option Holder) → o ≡ None → is_held_with c t o ≡ false
no_hold c t o e = ap (λ (x : Option Holder). is_held_with c t x) e

-- the token of the hold, and no other, is that of the hold of the other machine
pub same_token : (b : Bound) (t n k : ℕ) → b.before < n → 0 < k → (n == number_in b t) ≡ (k == (if t == token_in b n then k else 0))
same_token b t n k lo pos = elim (cases_eq t (token_in b n)) [
  | inl q ↦ own q
  | inr q ↦ other q
]
  where
    turned_back : (far : Bool) → nat_le t b.floor ≡ far → t ≡ token_in b n → n ≡ (if far then 0 else ((t - b.floor) + b.before))
    turned_back true far e = let le : t ≤ b.floor = leb-true t b.floor far in absurd (omega arith)
    turned_back false far e = omega arith

    own : t ≡ token_in b n → (n == number_in b t) ≡ (k == (if t == token_in b n then k else 0))
    own q =
        eq-eqb n (number_in b t) (turned_back (nat_le t b.floor) refl q)
        ∙ sym (ap (λ (x : Bool). k == (if x then k else 0)) (eq-eqb t (token_in b n) q) ∙ eq-eqb k k refl)

    not_back : (far : Bool) → nat_le t b.floor ≡ far → t ≢ token_in b n → n ≢ (if far then 0 else ((t - b.floor) + b.before))
    not_back true far ne e = omega arith
    not_back false far ne e = let lt : b.floor < t = leb-false t b.floor far in ne (omega arith)

    other : t ≢ token_in b n → (n == number_in b t) ≡ (k == (if t == token_in b n then k else 0))
    other q =
        ne_eqb n (number_in b t) (not_back (nat_le t b.floor) refl q)
        ∙ sym (ap (λ (x : Bool). k == (if x then k else 0)) (ne_eqb t (token_in b n) q) ∙ ne_eqb k 0 (λ (e : k ≡ 0). absurd (omega arith)))

pub held_with_alike : (c t : ℕ) (b : Bound) (h k : Option Holder) → client_of h ≡ client_of k → ((x : Holder) → h ≡ Some x → b.before < x.token) → ((x : Holder) → k ≡ Some x → 0 < x.token) →
    is_held_with c (number_in b t) h ≡ is_held_with c (own_token t (option_map (λ (x : Holder). token_in b x.token) h) k) k
held_with_alike c t b None None e lo pos = refl
held_with_alike c t b (Some h) (Some k) e lo pos =
    ap (λ (n : ℕ). (n == c) && (h.token == number_in b t)) (some_same h.client k.client e)
    ∙ ap (λ (q : Bool). (k.client == c) && q) (same_token b t h.token k.token (lo h refl) (pos k refl))
held_with_alike c t b None (Some k) e lo pos = absurd (none_some k.client e)
held_with_alike c t b (Some h) None e lo pos = absurd (none_some h.client (sym e))

-- ---- circles

-- the holder of what the client waits for
abbrev pub whom : List Lock → ℕ → Option ℕ
whom ls c = holder_of (waits_for ls c)

comes_alike : (ls ms : List Lock) → ((c : ℕ) → whom ls c ≡ whom ms c) → (steps : ℕ) (at : Option ℕ) → comes steps ls at ≡ comes steps ms at
comes_alike ls ms e zero None = refl
comes_alike ls ms e (suc n) None = refl
comes_alike ls ms e zero (Some c) = refl
comes_alike ls ms e (suc n) (Some c) = comes_alike ls ms e n (whom ls c) ∙ ap (λ (x : Option ℕ). comes n ms x) (e c)

nobody : (steps asker : ℕ) (ls : List Lock) → comes steps ls None ≡ Some asker → ⊥
nobody zero asker ls e = none_some asker e
nobody (suc n) asker ls e = none_some asker e

-- one that comes back is seen to, in however few steps one looks
seen : (ls : List Lock) (asker n steps : ℕ) (at : Option ℕ) → comes steps ls at ≡ Some asker → comes_to n ls asker at ≡ true
seen ls asker n steps None e = absurd (nobody steps asker ls e)
seen ls asker zero steps (Some c) e = refl
seen ls asker (suc n) zero (Some c) e = or_left (c == asker) (comes_to n ls asker (whom ls c)) (eq-eqb c asker (some_same c asker e))
seen ls asker (suc n) (suc steps) (Some c) e = or_right (c == asker) (comes_to n ls asker (whom ls c)) (seen ls asker n steps (whom ls c) e)

pub circle_alike : (ls ms : List Lock) (i j : ℕ) (l m : Lock) (c : ℕ) → AreRight ls → AreRight ms → slice_get ls i ≡ Some l → slice_get ms j ≡ Some m → client_of l.holder ≡ client_of m.holder →
    ((d : ℕ) → whom ls d ≡ whom ms d) → comes_to (length ls) ls c (client_of l.holder) ≡ comes_to (length ms) ms c (client_of m.holder)
circle_alike ls ms i j l m c r s e f same whoms = elim (cases_Bool (comes_to (length ls) ls c (client_of l.holder))) [
  | inl p ↦
      let real = circles_are_real ls i l c r e p in
      p ∙ sym (seen ms c (length ms) real.0 (client_of m.holder) (sym (comes_alike ls ms whoms real.0 (client_of m.holder)) ∙ ap (λ (x : Option ℕ). comes real.0 ls x) (sym same) ∙ real.1))
  | inr p ↦ elim (cases_Bool (comes_to (length ms) ms c (client_of m.holder))) [
    | inl q ↦
        let real = circles_are_real ms j m c s f q in
        absurd (both_ways (comes_to (length ls) ls c (client_of l.holder)) p
        (seen ls c (length ls) real.0 (client_of l.holder) (comes_alike ls ms whoms real.0 (client_of l.holder) ∙ ap (λ (x : Option ℕ). comes real.0 ms x) same ∙ real.1)))
    | inr q ↦ p ∙ sym q
  ]
]

-- ---- what is reported, tokens aside

aside_holder : (b : Bound) (h : Option Holder) → nameless (option_map (λ (x : Holder). record { client = x.client; token = token_in b x.token }) h) ≡ nameless h
aside_holder b None = refl
aside_holder b (Some h) = refl

aside_told : (b : Bound) (a : Answer) → aside (as_told b a) ≡ aside a
aside_told b (answer.Granted n) = refl
aside_told b (answer.Waiting n) = refl
aside_told b answer.Busy = refl
aside_told b answer.Released = refl
aside_told b answer.Cancelled = refl
aside_told b (answer.Corrupted old) = refl
aside_told b (answer.Stats s) = ap (λ (h : Option Holder). answer.Stats (record { machines = 0; waiters = s.waiters; passes = 0; holder = h })) (aside_holder b s.holder)
aside_told b (answer.Refused why) = refl

pub said_alike : (b : Bound) (list : List (ℕ × Answer)) → map said_aside (map (said_of b) list) ≡ map answer_aside list
said_alike b [] = refl
said_alike b (a ∷ list) =
    ap (λ (x : Answer). (a.0, reply.Lock x) ∷ map said_aside (map (said_of b) list)) (aside_told b a.1)
    ∙ ap (λ (x : List (ℕ × Reply)). answer_aside a ∷ x) (said_alike b list)
