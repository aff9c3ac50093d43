-- The token of a client that waits, less those before it that give up.
use Rattle.std.proofs.Common.{◌≡◌, ◌≢◌, ℕ, suc, ◌+◌, Bool, true, false, cond, not, List, [], ◌∷◌, ◌++◌, length, refl, sym, ◌∙◌, ap, subst, inl, inr, arith, Option, Some, None}
use Rattle.std.specs.Prelude.{◌&&◌, ◌||◌, ◌==◌, if◌then◌else◌, slice_get}
use Rattle.std.proofs.lemmas.Bool.{cases_eq, and_from, eq-eqb, eqb-true, eqb-false, ne_eqb, or_parts, both_ways, true≢false}
use Rattle.std.proofs.lemmas.List.{append_assoc, append-nil}
use Rattle.held_locks.specs.declared.answers.Waiter.{Waiter}
use Rattle.held_locks.specs.declared.answers.Holder.{Holder}
use Rattle.held_locks.specs.declared.answers.Answer.{Answer}
use Rattle.held_locks.specs.declared.answers.Answer.TheVariants as answer
use Rattle.held_locks.specs.declared.answers.Refusal.TheVariants as refusal
use Rattle.held_locks.specs.Queues.{Lock, stands, without, is_held_by}
use Rattle.held_locks.specs.Locks.{Ask, Acquire, Try, Release, Cancel, Leave, Corrupt, Stats, Turn, told, granted, advanced, dropped, ended, Input, Asked, Restart, Step, turn, step, step_at}
use Rattle.held_locks.specs.Promises.{AreRight, AreApart, IsRightLock, locks_after, names, grants_in, grants_of, gives_up, breaks, NoneIs, before, gives_way, given_up, NoneOf, TokensAreForeseen}
use Rattle.held_locks.proofs.Rings.{grant_grants}
use Rattle.held_locks.proofs.Moves.{Move, Stays, Waits, Gets, Ends, Drops, Faults, Released, Left, Cancelled, Gone, waiter, move_of}
use Rattle.held_locks.proofs.Standing.{get_set_same, get_set_other, stands_append}
use Rattle.held_locks.proofs.Right.{right_step, right_stays}
use Rattle.held_locks.proofs.Excluded.{no_grants, ended_grants, grants_if}
use Rattle.held_locks.proofs.Answered.{not_in_own_queue}
use Rattle.held_locks.proofs.Order.{without_split}
use Rattle.held_locks.proofs.Turned.{without_absent}

-- ---- queues

abbrev bit : Bool → ℕ
bit b = if b then 1 else 0

apart_front : (front back : List Waiter) → AreApart (front ++ back) → AreApart front
apart_front [] back a = tt
apart_front (f ∷ front) back a = ((or_parts (stands f.client front) (stands f.client back) (sym (stands_append f.client front back) ∙ a.0)).0, apart_front front back a.1)

-- the clients before the client
before_is : (front : List Waiter) (w : Waiter) (back : List Waiter) → AreApart (front ++ w ∷ back) → before w.client (front ++ w ∷ back) ≡ front
before_is [] w back a = let own : (w.client == w.client) ≡ true = eq-eqb w.client w.client refl in rw own refl
before_is (f ∷ front) w back a =
    let there = or_parts (stands f.client front) (stands f.client (w ∷ back)) (sym (stands_append f.client front (w ∷ back)) ∙ a.0) in
    let other : (w.client == f.client) ≡ false = (or_parts (w.client == f.client) (stands f.client back) there.1).0 in
    let n : (f.client == w.client) ≡ false = ne_eqb f.client w.client (λ e. eqb-false w.client f.client other (sym e)) in
    rw n (ap (λ (x : List Waiter). f ∷ x) (before_is front w back a.1))

-- one fewer, if the client was there
fewer_more : (c : ℕ) (f : Waiter) (front : List Waiter) → stands f.client front ≡ false → length front ≡ length (without c front) + bit (stands c front) → (b : Bool) → (f.client == c) ≡ b →
    suc (length front) ≡ length (cond (not b) (f ∷ without c front) (without c front)) + bit (b || stands c front)
fewer_more c f front a n true e =
    let out : stands c front ≡ false = subst (λ (x : ℕ). stands x front ≡ false) (eqb-true f.client c e) a in
    let m : length (without c front) ≡ length front = ap (λ (x : List Waiter). length x) (without_absent c front out) in
    omega (arith, m)
fewer_more c f front a n false e = omega (arith, n)

fewer : (c : ℕ) (front : List Waiter) → AreApart front → length front ≡ length (without c front) + bit (stands c front)
fewer c [] a = refl
fewer c (f ∷ front) a = fewer_more c f front a.0 (fewer c front a.1) (f.client == c) refl

-- ---- a step

-- the client still waits, or the first before it was granted, or it was
pub data Nears (l m : Lock) (front : List Waiter) (w : Waiter) (answers : List (ℕ × Answer)) (gone : Bool) : Type 0 where
  Keeps : grants_in answers ≡ [] → m.ring.grants ≡ l.ring.grants → (others back : List Waiter) → m.queue ≡ others ++ w ∷ back → length front ≡ length others + bit gone → Nears l m front w answers gone
  Serves : (h : Holder) (f : Waiter) (others back : List Waiter) → grants_in answers ≡ h ∷ [] → h.client ≡ f.client → m.ring.grants ≡ l.ring.grants + 1 → m.queue ≡ others ++ w ∷ back → front ≡ f ∷ others → gone ≡ false →
      Nears l m front w answers gone
  Its : (h : Holder) → grants_in answers ≡ h ∷ [] → h.client ≡ w.client → h.token ≡ l.ring.grants + 1 → front ≡ [] → Nears l m front w answers gone

nobody_there : (front : List Waiter) (w : Waiter) (back : List Waiter) → front ++ w ∷ back ≡ [] → ⊥
nobody_there [] w back e = cc
nobody_there (f ∷ front) w back e = cc

nears_advanced : (l : Lock) (front : List Waiter) (w : Waiter) (back : List Waiter) (told : List (ℕ × Answer)) → ((more : List (ℕ × Answer)) → grants_in (told ++ more) ≡ grants_in more) → IsRightLock l →
    Nears l (advanced l.ring (front ++ w ∷ back)).lock front w (told ++ (advanced l.ring (front ++ w ∷ back)).answers) false
nears_advanced l [] w back told none r = Its (record { client = w.client; token = l.ring.grants + 1 }) (none (granted l.ring back w).answers) refl refl refl
nears_advanced l (f ∷ front) w back told none r =
    Serves (record { client = f.client; token = l.ring.grants + 1 }) f front back (none (granted l.ring (front ++ w ∷ back) f).answers) refl (grant_grants l.ring f.label r.ring) refl refl refl

nears_dropped : (l : Lock) (c : ℕ) (front : List Waiter) (w : Waiter) (back : List Waiter) (answers : List (ℕ × Answer)) → l.queue ≡ front ++ w ∷ back → AreApart front → c ≢ w.client → grants_in answers ≡ [] →
    Nears l (dropped l c answers).lock front w answers (stands c front)
nears_dropped l c front w back answers p a n none = Keeps none refl (without c front) (without c back) (ap (λ (x : List Waiter). without c x) p ∙ without_split c front w back n) (fewer c front a)

stays_there : (l m : Lock) (front : List Waiter) (w : Waiter) (back : List Waiter) (answers : List (ℕ × Answer)) (gone : Bool) → grants_in answers ≡ [] → m.ring.grants ≡ l.ring.grants → m.queue ≡ front ++ w ∷ back → gone ≡ false → Nears l m front w answers gone
stays_there l m front w back answers gone none e p g = subst (λ (b : Bool). Nears l m front w answers b) (sym g) (Keeps none e front back p (omega arith))

out_of_front : (c : ℕ) (front : List Waiter) (w : Waiter) (back queue : List Waiter) → queue ≡ front ++ w ∷ back → stands c queue ≡ false → stands c front ≡ false
out_of_front c front w back queue p s = (or_parts (stands c front) (stands c (w ∷ back)) (sym (stands_append c front (w ∷ back)) ∙ ap (λ (x : List Waiter). stands c x) (sym p) ∙ s)).0

nears_cancel : (ls : List Lock) (l : Lock) (c : ℕ) (front : List Waiter) (w : Waiter) (back : List Waiter) → l.queue ≡ front ++ w ∷ back → AreApart front → c ≢ w.client → (b : Bool) → stands c l.queue ≡ b →
    Nears l (if b then dropped l c ((c, answer.Cancelled) ∷ []) else told l c (answer.Refused refusal.Waiter)).lock front w (if b then dropped l c ((c, answer.Cancelled) ∷ []) else told l c (answer.Refused refusal.Waiter)).answers (stands c front)
nears_cancel ls l c front w back p a n true s = nears_dropped l c front w back ((c, answer.Cancelled) ∷ []) p a n refl
nears_cancel ls l c front w back p a n false s = stays_there l l front w back ((c, answer.Refused refusal.Waiter) ∷ []) (stands c front) refl refl p (out_of_front c front w back l.queue p s)

nears_leave : (ls : List Lock) (at : ℕ) (l : Lock) (c : ℕ) (front : List Waiter) (w : Waiter) (back : List Waiter) → AreRight ls → slice_get ls at ≡ Some l → l.queue ≡ front ++ w ∷ back → AreApart front → c ≢ w.client → (h : Option Holder) → l.holder ≡ h →
    (b : Bool) → is_held_by c h ≡ b →
    Nears l (if b then ended l.ring (without c l.queue) 2 [] else dropped l c []).lock front w (if b then ended l.ring (without c l.queue) 2 [] else dropped l c []).answers (stands c front)
nears_leave ls at l c front w back r e p a n h q false f = nears_dropped l c front w back [] p a n refl
nears_leave ls at l c front w back r e p a n None q true f = absurd (true≢false (sym f))
nears_leave ls at l c front w back r e p a n (Some k) q true f =
    let out : stands c l.queue ≡ false = subst (λ (x : ℕ). stands x l.queue ≡ false) (eqb-true k.client c f) (not_in_own_queue ls at l k r e q) in
    let queue : without c l.queue ≡ front ++ w ∷ back = without_absent c l.queue out ∙ p in
    let gone : stands c front ≡ false = out_of_front c front w back l.queue p out in
    subst (λ (b : Bool). Nears l (ended l.ring (without c l.queue) 2 []).lock front w (ended l.ring (without c l.queue) 2 []).answers b) (sym gone)
    (subst (λ (x : List Waiter). Nears l (ended l.ring x 2 []).lock front w (ended l.ring x 2 []).answers false) (sym queue)
    (nears_advanced l front w back [] (λ more. refl) (r.each at l e)))

-- an ask that takes nobody out of the queue but who is granted
abbrev is_plain : Ask → Bool
is_plain Cancel = false
is_plain Leave = false
is_plain _ = true

nears_plain : (ls : List Lock) (at : ℕ) (l : Lock) (c : ℕ) (ask : Ask) (t : Turn) (front : List Waiter) (w : Waiter) (back : List Waiter) → IsRightLock l → l.queue ≡ front ++ w ∷ back → is_plain ask ≡ true → breaks at (Asked c at ask) ≡ false →
    Move ls l c ask t → Nears l t.lock front w t.answers false
nears_plain ls at l c ask t front w back r p plain n (Stays a q leave e) =
    subst (λ (x : Turn). Nears l x.lock front w x.answers false) (sym e) (stays_there l l front w back ((c, a) ∷ []) false (no_grants c a q) refl p refl)
nears_plain ls at l c ask t front w back r p plain n (Waits order k a held other free circle e) =
    subst (λ (x : Turn). Nears l x.lock front w x.answers false) (sym e)
    (Keeps refl refl front (back ++ waiter c order ∷ []) (ap (λ (x : List Waiter). x ++ waiter c order ∷ []) p ∙ append_assoc front (w ∷ back) (waiter c order ∷ [])) (omega arith))
nears_plain ls at l c ask t front w back r p plain n (Gets order asking a e) = absurd (nobody_there front w back (sym p ∙ r.held a))
nears_plain ls at l c ask t front w back r p plain n (Ends k seat queue answers held own (Released a b e f) g) =
    subst (λ (x : Turn). Nears l x.lock front w x.answers false) (sym g)
    (subst (λ (x : List Waiter). Nears l (advanced l.ring x).lock front w (answers ++ (advanced l.ring x).answers) false) (sym (e ∙ p))
    (nears_advanced l front w back answers (ended_grants l c k ask seat queue answers (Released a b e f)) r))
nears_plain ls at l c ask t front w back r p plain n (Ends k seat queue answers held own (Left a b e f) g) = absurd (true≢false (sym plain ∙ ap is_plain a))
nears_plain ls at l c ask t front w back r p plain n (Drops answers (Cancelled a e) g) = absurd (true≢false (sym plain ∙ ap is_plain a))
nears_plain ls at l c ask t front w back r p plain n (Drops answers (Gone a e) g) = absurd (true≢false (sym plain ∙ ap is_plain a))
nears_plain ls at l c ask t front w back r p plain n (Faults k v a lt lk e) =
    absurd (both_ways (breaks at (Asked c at ask)) n (ap (λ (x : Ask). breaks at (Asked c at x)) a ∙ eq-eqb at at refl))

not_it : (at c d : ℕ) → ((at == at) && (c == d)) ≡ false → c ≢ d
not_it at c d n e = both_ways ((at == at) && (c == d)) n (and_from (at == at) (c == d) (eq-eqb at at refl) (eq-eqb c d e))

-- whether one of those before the client gives up
way_is : (at c : ℕ) (l : Lock) (front : List Waiter) (w : Waiter) (back : List Waiter) → l.queue ≡ front ++ w ∷ back → AreApart (front ++ w ∷ back) → ((at == at) && stands c (before w.client l.queue)) ≡ stands c front
way_is at c l front w back p a =
    ap (λ (b : Bool). b && stands c (before w.client l.queue)) (eq-eqb at at refl) ∙ ap (λ (x : List Waiter). stands c (before w.client x)) p ∙ ap (λ (x : List Waiter). stands c x) (before_is front w back a)

nears_asked : (ls : List Lock) (at : ℕ) (l : Lock) (c : ℕ) (ask : Ask) (front : List Waiter) (w : Waiter) (back : List Waiter) → AreRight ls → slice_get ls at ≡ Some l → l.queue ≡ front ++ w ∷ back → gives_up at w.client (Asked c at ask) ≡ false →
    breaks at (Asked c at ask) ≡ false → Nears l (turn ls l c ask).lock front w (turn ls l c ask).answers (gives_way at w.client (Some l) (Asked c at ask))
nears_asked ls at l c (Acquire order) front w back r e p n m = nears_plain ls at l c (Acquire order) (turn ls l c (Acquire order)) front w back (r.each at l e) p refl m (move_of ls l c (Acquire order))
nears_asked ls at l c (Try order) front w back r e p n m = nears_plain ls at l c (Try order) (turn ls l c (Try order)) front w back (r.each at l e) p refl m (move_of ls l c (Try order))
nears_asked ls at l c (Release token) front w back r e p n m = nears_plain ls at l c (Release token) (turn ls l c (Release token)) front w back (r.each at l e) p refl m (move_of ls l c (Release token))
nears_asked ls at l c Cancel front w back r e p n m =
    let apart : AreApart (front ++ w ∷ back) = subst (λ (x : List Waiter). AreApart x) p (r.each at l e).apart in
    subst (λ (b : Bool). Nears l (turn ls l c Cancel).lock front w (turn ls l c Cancel).answers b) (sym (way_is at c l front w back p apart))
    (nears_cancel ls l c front w back p (apart_front front (w ∷ back) apart) (not_it at c w.client n) (stands c l.queue) refl)
nears_asked ls at l c Leave front w back r e p n m =
    let apart : AreApart (front ++ w ∷ back) = subst (λ (x : List Waiter). AreApart x) p (r.each at l e).apart in
    subst (λ (b : Bool). Nears l (turn ls l c Leave).lock front w (turn ls l c Leave).answers b) (sym (way_is at c l front w back p apart))
    (nears_leave ls at l c front w back r e p (apart_front front (w ∷ back) apart) (not_it at c w.client n) l.holder refl (is_held_by c l.holder) refl)
nears_asked ls at l c (Corrupt k v) front w back r e p n m = nears_plain ls at l c (Corrupt k v) (turn ls l c (Corrupt k v)) front w back (r.each at l e) p refl m (move_of ls l c (Corrupt k v))
nears_asked ls at l c Stats front w back r e p n m = nears_plain ls at l c Stats (turn ls l c Stats) front w back (r.each at l e) p refl m (move_of ls l c Stats)

-- the same, of a step
pub record NearStep (at : ℕ) (l : Lock) (front : List Waiter) (w : Waiter) (i : Input) (s : Step) : Type 0 where
  pub lock : Lock
  pub there : slice_get s.locks at ≡ Some lock
  pub nears : Nears l lock front w (if names at i then s.answers else []) (gives_way at w.client (Some l) i)

no_way : (at c d j : ℕ) (l : Lock) (ask : Ask) → (j == at) ≡ false → gives_way at c (Some l) (Asked d j ask) ≡ false
no_way at c d j l (Acquire order) e = refl
no_way at c d j l (Try order) e = refl
no_way at c d j l (Release token) e = refl
no_way at c d j l Cancel e = ap (λ (b : Bool). b && stands d (before c l.queue)) e
no_way at c d j l Leave e = ap (λ (b : Bool). b && stands d (before c l.queue)) e
no_way at c d j l (Corrupt k v) e = refl
no_way at c d j l Stats e = refl

module _ (ls : List Lock) (at : ℕ) (l : Lock) (front : List Waiter) (w : Waiter) (back : List Waiter) (r : AreRight ls) (e : slice_get ls at ≡ Some l) (p : l.queue ≡ front ++ w ∷ back) where
  near_here : (c : ℕ) (ask : Ask) → gives_up at w.client (Asked c at ask) ≡ false → breaks at (Asked c at ask) ≡ false → NearStep at l front w (Asked c at ask) (step_at ls c at ask (Some l))
  near_here c ask n m =
      let own : (at == at) ≡ true = eq-eqb at at refl in record {
        lock = (turn ls l c ask).lock;
        there = get_set_same ls at (turn ls l c ask).lock l e;
        nears = subst (λ (b : Bool). Nears l (turn ls l c ask).lock front w (if b then (turn ls l c ask).answers else []) (gives_way at w.client (Some l) (Asked c at ask))) (sym own) (nears_asked ls at l c ask front w back r e p n m);
      }

  far : (c j : ℕ) (ask : Ask) (answers : List (ℕ × Answer)) → (j == at) ≡ false → Nears l l front w (if names at (Asked c j ask) then answers else []) (gives_way at w.client (Some l) (Asked c j ask))
  far c j ask answers other =
      subst (λ (b : Bool). Nears l l front w (if b then answers else []) (gives_way at w.client (Some l) (Asked c j ask))) (sym other)
      (stays_there l l front w back [] (gives_way at w.client (Some l) (Asked c j ask)) refl refl p (no_way at w.client c j l ask other))

  near_elsewhere : (c j : ℕ) (ask : Ask) (o : Option Lock) → j ≢ at → NearStep at l front w (Asked c j ask) (step_at ls c j ask o)
  near_elsewhere c j ask None n = record { lock = l; there = e; nears = far c j ask (step_at ls c j ask None).answers (ne_eqb j at n) }
  near_elsewhere c j ask (Some x) n = record {
    lock = l;
    there = get_set_other ls j at (turn ls x c ask).lock (λ q. n (sym q)) ∙ e;
    nears = far c j ask (step_at ls c j ask (Some x)).answers (ne_eqb j at n);
  }

  near_step : (i : Input) → gives_up at w.client i ≡ false → breaks at i ≡ false → NearStep at l front w i (step ls i)
  near_step (Asked c j ask) n m = elim (cases_eq j at) [
    | inl q ↦
        let up : gives_up at w.client (Asked c at ask) ≡ false = subst (λ (k : ℕ). gives_up at w.client (Asked c k ask) ≡ false) q n in
        let broken : breaks at (Asked c at ask) ≡ false = subst (λ (k : ℕ). breaks at (Asked c k ask) ≡ false) q m in
        let own : NearStep at l front w (Asked c at ask) (step ls (Asked c at ask)) = subst (λ (o : Option Lock). NearStep at l front w (Asked c at ask) (step_at ls c at ask o)) (sym e) (near_here c ask up broken) in
        subst (λ (k : ℕ). NearStep at l front w (Asked c k ask) (step ls (Asked c k ask))) (sym q) own
    | inr q ↦ near_elsewhere c j ask (slice_get ls j) q
  ]
  near_step Restart n m = absurd (true≢false n)

-- ---- over the inputs

none_append : (c : ℕ) (xs ys : List Holder) → NoneOf c (xs ++ ys) → NoneOf c ys
none_append c [] ys n = n
none_append c (x ∷ xs) ys n = none_append c xs ys n.1

none_front : (test : Input → Bool) (is : List Input) (i : Input) → NoneIs test (is ++ i ∷ []) → NoneIs test is × (test i ≡ false)
none_front test [] i n = (tt, n.0)
none_front test (x ∷ is) i n = let m = none_front test is i n.1 in ((n.0, m.0), m.1)

grants_of_append : (at : ℕ) (ls : List Lock) (is : List Input) (i : Input) → grants_of at ls (is ++ i ∷ []) ≡ grants_of at ls is ++ grants_of at (locks_after ls is) (i ∷ [])
grants_of_append at ls [] i = refl
grants_of_append at ls (x ∷ is) i =
    ap (λ (hs : List Holder). (if names at x then grants_in (step ls x).answers else []) ++ hs) (grants_of_append at (step ls x).locks is i)
    ∙ sym (append_assoc (if names at x then grants_in (step ls x).answers else []) (grants_of at (step ls x).locks is) (grants_of at (locks_after (step ls x).locks is) (i ∷ [])))

same_rest : (xs ys zs : List Holder) → xs ++ ys ≡ xs ++ zs → ys ≡ zs
same_rest [] ys zs e = e
same_rest (x ∷ xs) ys zs e = same_rest xs ys zs (rest x (xs ++ ys) (xs ++ zs) e)
  where
    rest : (x : Holder) (us vs : List Holder) → ◌≡◌ {A = List Holder} (x ∷ us) (x ∷ vs) → us ≡ vs
    rest x us vs e = cc

-- where the client is then
pub record Ahead (ls : List Lock) (is : List Input) (at : ℕ) (l : Lock) (front : List Waiter) (w : Waiter) : Type 0 where
  pub lock : Lock
  pub there : slice_get (locks_after ls is) at ≡ Some lock
  pub others : List Waiter
  pub back : List Waiter
  pub queue : lock.queue ≡ others ++ w ∷ back
  pub count : lock.ring.grants + length others + given_up at w.client ls is ≡ l.ring.grants + length front

grants_now : (at : ℕ) (ls : List Lock) (i : Input) (is : List Input) → grants_of at ls (i ∷ is) ≡ grants_in (if names at i then (step ls i).answers else []) ++ grants_of at (step ls i).locks is
grants_now at ls i is = ap (λ (x : List Holder). x ++ grants_of at (step ls i).locks is) (grants_if (names at i) (step ls i).answers)

-- after one more input
ahead_on : (ls : List Lock) (i : Input) (is : List Input) (at : ℕ) (l m : Lock) (front : List Waiter) (w : Waiter) (answers : List (ℕ × Answer)) → slice_get ls at ≡ Some l →
    ((others later : List Waiter) → m.queue ≡ others ++ w ∷ later → NoneOf w.client (grants_of at (step ls i).locks is) → Ahead (step ls i).locks is at m others w) →
    NoneOf w.client (grants_in answers ++ grants_of at (step ls i).locks is) → Nears l m front w answers (gives_way at w.client (Some l) i) → Ahead ls (i ∷ is) at l front w
ahead_on ls i is at l m front w answers e rec none (Keeps nobody grants others later queue shorter) =
    let more = rec others later queue (none_append w.client (grants_in answers) (grants_of at (step ls i).locks is) none) in
    let count : more.lock.ring.grants + length more.others + given_up at w.client (step ls i).locks is ≡ m.ring.grants + length others = more.count in
    let given : given_up at w.client ls (i ∷ is) ≡ bit (gives_way at w.client (Some l) i) + given_up at w.client (step ls i).locks is = ap (λ (o : Option Lock). bit (gives_way at w.client o i) + given_up at w.client (step ls i).locks is) e in
    record { lock = more.lock; there = more.there; others = more.others; back = more.back; queue = more.queue; count = omega (arith, given, count, grants, shorter) }
ahead_on ls i is at l m front w answers e rec none (Serves h f others later one client grants queue first way) =
    let more = rec others later queue (none_append w.client (grants_in answers) (grants_of at (step ls i).locks is) none) in
    let count : more.lock.ring.grants + length more.others + given_up at w.client (step ls i).locks is ≡ m.ring.grants + length others = more.count in
    let given : given_up at w.client ls (i ∷ is) ≡ bit (gives_way at w.client (Some l) i) + given_up at w.client (step ls i).locks is = ap (λ (o : Option Lock). bit (gives_way at w.client o i) + given_up at w.client (step ls i).locks is) e in
    let size : length front ≡ suc (length others) = ap (λ (x : List Waiter). length x) first in
    let zeroth : bit (gives_way at w.client (Some l) i) ≡ 0 = ap bit way in
    record { lock = more.lock; there = more.there; others = more.others; back = more.back; queue = more.queue; count = omega (arith, given, count, grants, size, zeroth) }
ahead_on ls i is at l m front w answers e rec none (Its h one client token empty) =
    let q : NoneOf w.client (h ∷ grants_of at (step ls i).locks is) = subst (λ (x : List Holder). NoneOf w.client (x ++ grants_of at (step ls i).locks is)) one none in
    absurd (q.0 client)

ahead : (ls : List Lock) (is : List Input) (at : ℕ) (l : Lock) (front : List Waiter) (w : Waiter) (back : List Waiter) → AreRight ls → slice_get ls at ≡ Some l → l.queue ≡ front ++ w ∷ back → NoneIs (gives_up at w.client) is → NoneIs (breaks at) is →
    NoneOf w.client (grants_of at ls is) → Ahead ls is at l front w
ahead ls [] at l front w back r e p n m none = record { lock = l; there = e; others = front; back = back; queue = p; count = omega arith }
ahead ls (i ∷ is) at l front w back r e p n m none =
    let s = near_step ls at l front w back r e p i n.0 m.0 in
    ahead_on ls i is at l s.lock front w (if names at i then (step ls i).answers else []) e
    (λ others later queue left. ahead (step ls i).locks is at s.lock others w later (right_step ls i r) s.there queue n.1 m.1 left)
    (subst (λ (x : List Holder). NoneOf w.client x) (grants_now at ls i is) none) s.nears

one_holder : (h k : Holder) → ◌≡◌ {A = List Holder} (h ∷ []) (k ∷ []) → h ≡ k
one_holder h k e = cc

no_holder : (h : Holder) → ◌≡◌ {A = List Holder} [] (h ∷ []) → ⊥
no_holder h e = cc

token_is : (l m : Lock) (front others back : List Waiter) (w : Waiter) (h : Holder) (answers : List (ℕ × Answer)) (gone : Bool) (given : ℕ) (k : Lock) → AreApart (others ++ w ∷ back) → grants_in answers ≡ h ∷ [] → h.client ≡ w.client →
    m.ring.grants + length others + given ≡ l.ring.grants + length front → Nears m k others w answers gone → h.token + given ≡ l.ring.grants + 1 + length front
token_is l m front others back w h answers gone given k a e own count (Keeps nobody grants more later queue fewer) = absurd (no_holder h (sym nobody ∙ e))
token_is l m front others back w h answers gone given k a e own count (Serves g f more later one client grants queue first way) =
    let same : h ≡ g = one_holder h g (sym e ∙ one) in
    let is : f.client ≡ w.client = sym client ∙ ap (λ (x : Holder). x.client) (sym same) ∙ own in
    let apart : AreApart (f ∷ more ++ w ∷ back) = subst (λ (x : List Waiter). AreApart (x ++ w ∷ back)) first a in
    let there = or_parts (stands f.client more) (stands f.client (w ∷ back)) (sym (stands_append f.client more (w ∷ back)) ∙ apart.0) in
    absurd (eqb-false w.client f.client (or_parts (w.client == f.client) (stands f.client back) there.1).0 (sym is))
token_is l m front others back w h answers gone given k a e own count (Its g one client token empty) =
    let same : h ≡ g = one_holder h g (sym e ∙ one) in
    let t : h.token ≡ m.ring.grants + 1 = ap (λ (x : Holder). x.token) same ∙ token in
    let none : length others ≡ 0 = ap (λ (x : List Waiter). length x) empty in
    omega arith

pub tokens_are_foreseen : TokensAreForeseen
tokens_are_foreseen ls is i at l front w back h r e p n m none now own =
    let up = none_front (gives_up at w.client) is i n in
    let broken = none_front (breaks at) is i m in
    let a = ahead ls is at l front w back r e p up.0 broken.0 none in
    let right : AreRight (locks_after ls is) = right_stays ls is r in
    let s = near_step (locks_after ls is) at a.lock a.others w a.back right a.there a.queue i up.1 broken.1 in
    let answers : List (ℕ × Answer) = if names at i then (step (locks_after ls is) i).answers else [] in
    let last : grants_of at (locks_after ls is) (i ∷ []) ≡ h ∷ [] = same_rest (grants_of at ls is) (grants_of at (locks_after ls is) (i ∷ [])) (h ∷ []) (sym (grants_of_append at ls is i) ∙ now) in
    let one : grants_in answers ≡ h ∷ [] = sym (append-nil (grants_in answers)) ∙ sym (grants_now at (locks_after ls is) i []) ∙ last in
    let apart : AreApart (a.others ++ w ∷ a.back) = subst (λ (x : List Waiter). AreApart x) a.queue (right.each at a.lock a.there).apart in
    token_is l a.lock front a.others a.back w h answers (gives_way at w.client (Some a.lock) i) (given_up at w.client ls is) s.lock apart one own a.count s.nears
