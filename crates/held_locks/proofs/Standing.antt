-- The clients in a queue that changes, and what a client waits for.
use Rattle.std.proofs.Common.{◌≡◌, ◌≢◌, ℕ, zero, suc, Bool, true, false, cond, not, List, [], ◌∷◌, ◌++◌, refl, sym, ◌∙◌, ap, subst, inl, inr, Option, Some, None}
use Rattle.std.specs.Prelude.{◌||◌, ◌==◌, if◌then◌else◌, slice_get, slice_set, ◌⊎◌}
use Rattle.std.proofs.lemmas.Bool.{cases_Bool, cases_eq, eqb-true, eqb-false, ne_eqb, or_cases, or_left, or_right, or_from, or_parts, both_ways}
use Rattle.held_locks.specs.declared.answers.Waiter.{Waiter}
use Rattle.held_locks.specs.Queues.{Lock, stands, without, waits_for}
use Rattle.held_locks.specs.Promises.{AreApart}

-- ---- lists of locks

no_element : {X : Type 0} (y : X) → ◌≡◌ {A = Option X} None (Some y) → ⊥
no_element y e = cc

pub get_set_same : {X : Type 0} (xs : List X) (i : ℕ) (x y : X) → slice_get xs i ≡ Some y → slice_get (slice_set xs i x) i ≡ Some x
get_set_same [] i x y e = absurd (no_element y e)
get_set_same (z ∷ xs) zero x y e = refl
get_set_same (z ∷ xs) (suc i) x y e = get_set_same xs i x y e

pub get_set_other : {X : Type 0} (xs : List X) (i j : ℕ) (x : X) → j ≢ i → slice_get (slice_set xs i x) j ≡ slice_get xs j
get_set_other [] i j x n = refl
get_set_other (z ∷ xs) zero zero x n = absurd (n refl)
get_set_other (z ∷ xs) zero (suc j) x n = refl
get_set_other (z ∷ xs) (suc i) zero x n = refl
get_set_other (z ∷ xs) (suc i) (suc j) x n = get_set_other xs i j x (λ e. n (ap suc e))

-- what is at a place after a write: what was written, or what was there
pub get_set : {X : Type 0} (xs : List X) (i j : ℕ) (x y z : X) → slice_get xs i ≡ Some y → slice_get (slice_set xs i x) j ≡ Some z →
    ((j ≡ i) × (z ≡ x)) ⊎ ((j ≢ i) × (slice_get xs j ≡ Some z))
get_set {X = X} xs i j x y z e f = elim (cases_eq j i) [
  | inl q ↦
      let g : slice_get (slice_set xs i x) j ≡ Some x = subst (λ (k : ℕ). slice_get (slice_set xs i x) k ≡ Some x) (sym q) (get_set_same xs i x y e) in
      let h : ◌≡◌ {A = Option X} (Some z) (Some x) = sym f ∙ g in
      inl (q, cc)
  | inr n ↦ inr (n, sym (get_set_other xs i j x n) ∙ f)
]

-- ---- queues

pub stands_append : (c : ℕ) (xs ys : List Waiter) → stands c (xs ++ ys) ≡ (stands c xs || stands c ys)
stands_append c [] ys = refl
stands_append c (w ∷ xs) ys = go (w.client == c) (stands_append c xs ys)
  where
    go : (b : Bool) → stands c (xs ++ ys) ≡ (stands c xs || stands c ys) → (b || stands c (xs ++ ys)) ≡ ((b || stands c xs) || stands c ys)
    go true e = refl
    go false e = e

gone_more : (c : ℕ) (w : Waiter) (queue : List Waiter) → stands c queue ≡ false → (b : Bool) → (w.client == c) ≡ b → stands c (cond (not b) (w ∷ queue) queue) ≡ false
gone_more c w queue e true q = e
gone_more c w queue e false q = or_from (w.client == c) (stands c queue) q e

-- a client that goes is not there any more
pub stands_without : (c : ℕ) (queue : List Waiter) → stands c (without c queue) ≡ false
stands_without c [] = refl
stands_without c (w ∷ queue) = gone_more c w (without c queue) (stands_without c queue) (w.client == c) refl

left_more : (c d : ℕ) (w : Waiter) (rest queue : List Waiter) → (stands d rest ≡ true → stands d queue ≡ true) → (b : Bool) → stands d (cond (not b) (w ∷ rest) rest) ≡ true → (w.client == d) || stands d queue ≡ true
left_more c d w rest queue h true e = or_right (w.client == d) (stands d queue) (h e)
left_more c d w rest queue h false e = elim (or_cases (w.client == d) (stands d rest) e) [
  | inl q ↦ or_left (w.client == d) (stands d queue) q
  | inr q ↦ or_right (w.client == d) (stands d queue) (h q)
]

pub stood_before : (c d : ℕ) (queue : List Waiter) → stands d (without c queue) ≡ true → stands d queue ≡ true
stood_before c d [] e = e
stood_before c d (w ∷ queue) e = left_more c d w (without c queue) queue (stood_before c d queue) (w.client == c) e

-- the others stay
others_more : (c d : ℕ) (w : Waiter) (rest queue : List Waiter) → d ≢ c → stands d rest ≡ stands d queue → (b : Bool) → (w.client == c) ≡ b → stands d (cond (not b) (w ∷ rest) rest) ≡ ((w.client == d) || stands d queue)
others_more c d w rest queue n e true q =
    let p : (w.client == d) ≡ false = ne_eqb w.client d (λ r. n (sym r ∙ eqb-true w.client c q)) in
    rw p e
others_more c d w rest queue n e false q = ap (λ (x : Bool). (w.client == d) || x) e

pub stands_without_other : (c d : ℕ) (queue : List Waiter) → d ≢ c → stands d (without c queue) ≡ stands d queue
stands_without_other c d [] n = refl
stands_without_other c d (w ∷ queue) n = others_more c d w (without c queue) queue n (stands_without_other c d queue n) (w.client == c) refl

false_before : (c d : ℕ) (queue : List Waiter) → stands d queue ≡ false → stands d (without c queue) ≡ false
false_before c d queue e = elim (cases_Bool (stands d (without c queue))) [
  | inl q ↦ absurd (both_ways (stands d queue) e (stood_before c d queue q))
  | inr q ↦ q
]

apart_more : (w : Waiter) (rest : List Waiter) → AreApart rest → stands w.client rest ≡ false → (b : Bool) → AreApart (cond (not b) (w ∷ rest) rest)
apart_more w rest a e true = a
apart_more w rest a e false = (e, a)

pub apart_without : (c : ℕ) (queue : List Waiter) → AreApart queue → AreApart (without c queue)
apart_without c [] a = tt
apart_without c (w ∷ queue) a = apart_more w (without c queue) (apart_without c queue a.1) (false_before c w.client queue a.0) (w.client == c)

pub apart_push : (queue : List Waiter) (w : Waiter) → AreApart queue → stands w.client queue ≡ false → AreApart (queue ++ w ∷ [])
apart_push [] w a e = (refl, tt)
apart_push (x ∷ queue) w a e =
    let p = or_parts (x.client == w.client) (stands w.client queue) e in
    let n : (w.client == x.client) ≡ false = ne_eqb w.client x.client (λ q. eqb-false x.client w.client p.0 (sym q)) in
    let s : stands x.client (queue ++ w ∷ []) ≡ false = stands_append x.client queue (w ∷ []) ∙ or_from (stands x.client queue) (stands x.client (w ∷ [])) a.0 (or_from (w.client == x.client) false n refl) in
    (s, apart_push queue w a.1 p.1)

-- ---- what a client waits for

some_is : (l m : Lock) → ◌≡◌ {A = Option Lock} (Some l) (Some m) → l ≡ m
some_is l m e = cc

none_is : (l : Lock) → ◌≡◌ {A = Option Lock} None (Some l) → ⊥
none_is l e = cc

-- where it is
pub record StandsAt (ls : List Lock) (c : ℕ) (l : Lock) : Type 0 where
  pub at : ℕ
  pub lock : slice_get ls at ≡ Some l
  pub stands : stands c l.queue ≡ true

found : (x : Lock) (ls : List Lock) (c : ℕ) (l : Lock) → (waits_for ls c ≡ Some l → StandsAt ls c l) → (b : Bool) → stands c x.queue ≡ b → (if b then Some x else waits_for ls c) ≡ Some l → StandsAt (x ∷ ls) c l
found x ls c l h true q e =
    let is : x ≡ l = some_is x l e in
    record { at = 0; lock = e; stands = subst (λ (y : Lock). stands c y.queue ≡ true) is q }
found x ls c l h false q e = let s = h e in record { at = suc s.at; lock = s.lock; stands = s.stands }

pub waits_at : (ls : List Lock) (c : ℕ) (l : Lock) → waits_for ls c ≡ Some l → StandsAt ls c l
waits_at [] c l e = absurd (none_is l e)
waits_at (x ∷ ls) c l e = found x ls c l (waits_at ls c l) (stands c x.queue) refl e

missing : (x : Lock) (ls : List Lock) (c i : ℕ) (l : Lock) → ((i : ℕ) → waits_for ls c ≡ None → slice_get ls i ≡ Some l → stands c l.queue ≡ false) → (b : Bool) → stands c x.queue ≡ b →
    (if b then Some x else waits_for ls c) ≡ None → slice_get (x ∷ ls) i ≡ Some l → stands c l.queue ≡ false
missing x ls c i l h true q e f = absurd (none_is x (sym e))
missing x ls c zero l h false q e f = subst (λ (y : Lock). stands c y.queue ≡ false) (some_is x l f) q
missing x ls c (suc i) l h false q e f = h i e f

-- a client that waits for nothing is nowhere
pub waits_nowhere : (ls : List Lock) (c i : ℕ) (l : Lock) → waits_for ls c ≡ None → slice_get ls i ≡ Some l → stands c l.queue ≡ false
waits_nowhere [] c i l e f = absurd (none_is l f)
waits_nowhere (x ∷ ls) c i l e f = missing x ls c i l (λ j. waits_nowhere ls c j l) (stands c x.queue) refl e f

-- and a client that is nowhere waits for nothing
pub nowhere_waits : (ls : List Lock) (c : ℕ) → ((i : ℕ) (l : Lock) → slice_get ls i ≡ Some l → stands c l.queue ≡ false) → waits_for ls c ≡ None
nowhere_waits [] c h = refl
nowhere_waits (x ∷ ls) c h =
    let e : stands c x.queue ≡ false = h 0 x refl in
    rw e (nowhere_waits ls c (λ i l f. h (suc i) l f))

-- a client waits for one lock at most
abbrev pub Once : List Lock → Type 0
Once ls = (c i j : ℕ) (l m : Lock) → slice_get ls i ≡ Some l → slice_get ls j ≡ Some m → stands c l.queue ≡ true → stands c m.queue ≡ true → i ≡ j

waits_cases : (ls : List Lock) (c : ℕ) (w : Option Lock) → waits_for ls c ≡ w → (i : ℕ) (l : Lock) → Once ls → slice_get ls i ≡ Some l → stands c l.queue ≡ true → waits_for ls c ≡ Some l
waits_cases ls c None e i l once f s = absurd (both_ways (stands c l.queue) (waits_nowhere ls c i l e f) s)
waits_cases ls c (Some m) e i l once f s =
    let at = waits_at ls c m e in
    let same : at.at ≡ i = once c at.at i m l at.lock f at.stands s in
    e ∙ sym at.lock ∙ ap (λ (k : ℕ). slice_get ls k) same ∙ f

pub waits_there : (ls : List Lock) (c i : ℕ) (l : Lock) → Once ls → slice_get ls i ≡ Some l → stands c l.queue ≡ true → waits_for ls c ≡ Some l
waits_there ls c i l once f s = waits_cases ls c (waits_for ls c) refl i l once f s
