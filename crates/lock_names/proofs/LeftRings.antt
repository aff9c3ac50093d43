-- A client that leaves all locks, as they are kept: what becomes of names and of the number of grants.
use Rattle.std.proofs.Common.{◌≡◌, ℕ, zero, suc, ◌+◌, ◌-◌, ◌^◌, ◌<◌, ◌≤◌, Bool, true, false, List, [], ◌∷◌, ◌++◌, map, length, take, Option, None, Some, ◌⊎◌, inl, inr, refl, sym, ◌∙◌, ap, subst, arith}
use Rattle.std.specs.Prelude.{slice_get, slice_set, slice_index_or, is_some, option_map, nat_lt, ◌||◌, if◌then◌else◌}
use Rattle.std.proofs.lemmas.Bool.{true≢false}
use Rattle.std.proofs.lemmas.List.{length-map, map-append, take_more, take_more_set, take_all}
use Rattle.std.proofs.lemmas.Option.{slice_get_within, slice_get_read, get_or_from_slice_get}
use Rattle.ring_model.specs.Ring.{IsRing}
use Rattle.endless_ring.specs.Endless.{local_survey}
use Rattle.held_locks.specs.declared.answers.Waiter.{Waiter}
use Rattle.held_locks.specs.declared.answers.Holder.{Holder}
use Rattle.held_locks.specs.declared.answers.HoldEnd.{HoldEnd}
use Rattle.held_locks.specs.declared.answers.Left.{Left}
use Rattle.held_locks.specs.Queues.{Lock, without, is_held_by, client_of}
use Rattle.held_locks.specs.Locks.{Leave, Turn, advanced, ended, dropped, turn}
use Rattle.held_locks.specs.Promises.{locks_after, leaves}
use Rattle.held_locks.specs.Kept.{LockView, lock_of, locks_of, ended_in, left_by, left_at, left_of, IsLeft}
use Rattle.held_locks.proofs.Asking.{after_long, views_long}
use Rattle.held_locks.proofs.Moves.{move_of}
use Rattle.held_locks.proofs.Rings.{grant_grants}
use Rattle.held_locks.proofs.Standing.{get_set_other}
use Rattle.lock_names.specs.Names.{Bound, Named, token_in, told_holder, kept, total, named_after, leave_each}
use Rattle.lock_names.specs.Promises.{IsRightBound, IsRightName, IsNamed}
use Rattle.lock_names.specs.Leaves.{bound_or, settled_name, settled_names, settled, told_left, IsTellableLeft, name_left, names_left, grant_count, grants_in}
use Rattle.lock_names.specs.Kept.{NamedView, named_of, waiting, IsKeptNamed}
use Rattle.name_bindings.proofs.Found.{some_same, none_some, there_is}
use Rattle.lock_names.proofs.Fitting.{total_set, named_stays}
use Rattle.lock_names.proofs.Asking.{view_lock, queue_in, fewer, few_move, next_fits}
use Rattle.lock_names.proofs.Taking.{same_named, set_same, stays_held}
use Rattle.name_bindings.proofs.FixedNames.{taken_entry}
use Rattle.lock_names.proofs.Begins.{take_few}
use Rattle.lock_names.proofs.LeftNames.{left_lock, first_left, rest_stays, next_left, all_left, locks_left, leaves_allowed, leaves_are_settled}

-- ---- what a leave does to one lock

abbrev pub turn_if : Lock → ℕ → Bool → Turn
turn_if l c held = if held then ended l.ring (without c l.queue) 2 [] else dropped l c []

abbrev pub left_if : ℕ → ℕ → LockView → Bool → List Left
left_if c i v held = left_by i (ended_in v.ring (turn_if (lock_of v) c held).marks) (turn_if (lock_of v) c held).lock.holder

-- the holder after it, if the client held it
abbrev next_holder : ℕ → Lock → Option Holder
next_holder c l = (advanced l.ring (without c l.queue)).lock.holder

heads : {X : Type 0} (x y : X) (xs : List X) → ◌≡◌ {A = List X} (x ∷ []) (y ∷ xs) → x ≡ y
heads x y xs e = cc

nil_cons : {X : Type 0} (y : X) (xs : List X) → ◌≡◌ {A = List X} [] (y ∷ xs) → ⊥
nil_cons y xs e = cc

record IsReport (c i : ℕ) (v : LockView) (l : Left) : Type 0 where
  held : is_held_by c v.holder ≡ true
  granted : l.granted ≡ next_holder c (lock_of v)

report_if : (c i : ℕ) (v : LockView) (l : Left) (held : Bool) → is_held_by c v.holder ≡ held → left_if c i v held ≡ l ∷ [] → IsReport c i v l
report_if c i v l true h e =
    let end : HoldEnd = record { seat = 2; survey = local_survey v.ring.ring } in
    let one : Left = record { lock = i; ended = end; granted = next_holder c (lock_of v) } in
    record { held = h; granted = sym (ap (λ (x : Left). x.granted) (heads one l [] e)) }
report_if c i v l false h e = absurd (nil_cons l [] e)

report_of : (c i : ℕ) (v : LockView) (l : Left) → left_at c i (Some v) ≡ l ∷ [] → IsReport c i v l
report_of c i v l e = report_if c i v l (is_held_by c v.holder) refl e

-- ---- the entries of what a leave reports

append_cases : {X : Type 0} (xs ys : List X) (k : ℕ) (x : X) → slice_get (xs ++ ys) k ≡ Some x → (slice_get xs k ≡ Some x) ⊎ ((j : ℕ) × (k ≡ length xs + j) × (slice_get ys j ≡ Some x))
append_cases [] ys k x e = inr (k, omega arith, e)
append_cases (y ∷ xs) ys zero x e = inl e
append_cases (y ∷ xs) ys (suc k) x e = elim (append_cases xs ys k x e) [
  | inl p ↦ inl p
  | inr p ↦ let same : k ≡ length xs + p.0 = p.1 in inr (p.0, omega arith, p.2)
]

record IsOnly (i j : ℕ) (e : Option HoldEnd) (g : Option Holder) (l : Left) : Type 0 where
  first : j ≡ 0
  lock : l.lock ≡ i
  all : left_by i e g ≡ l ∷ []

only_report : (i : ℕ) (e : Option HoldEnd) (g : Option Holder) (j : ℕ) (l : Left) → slice_get (left_by i e g) j ≡ Some l → IsOnly i j e g l
only_report i None g j l f = absurd (none_some l f)
only_report i (Some d) g zero l f =
    let one : Left = record { lock = i; ended = d; granted = g } in
    let same : one ≡ l = some_same one l f in
    record { first = refl; lock = ap (λ (x : Left). x.lock) (sym same); all = ap (λ (x : Left). x ∷ []) same }
only_report i (Some d) g (suc j) l f = absurd (none_some l f)

record IsReportAt (c : ℕ) (vs : List LockView) (n k : ℕ) (l : Left) : Type 0 where
  below : l.lock < n
  view : LockView
  there : slice_get vs l.lock ≡ Some view
  one : left_at c l.lock (Some view) ≡ l ∷ []
  place : k ≡ length (left_of c vs l.lock)

last_report : (c : ℕ) (vs : List LockView) (n k j : ℕ) (l : Left) (o : Option LockView) → slice_get vs n ≡ o → k ≡ length (left_of c vs n) + j → slice_get (left_at c n o) j ≡ Some l → IsReportAt c vs (suc n) k l
last_report c vs n k j l None at e f = absurd (none_some l f)
last_report c vs n k j l (Some v) at e f =
    let t : Turn = turn [] (lock_of v) c Leave in
    let r = only_report n (ended_in v.ring t.marks) t.lock.holder j l f in
    let first : j ≡ 0 = r.first in
    let lock : l.lock ≡ n = r.lock in
    let place : k ≡ length (left_of c vs n) = omega arith in
    record {
      below = omega arith;
      view = v;
      there = ap (λ (m : ℕ). slice_get vs m) lock ∙ at;
      one = ap (λ (m : ℕ). left_at c m (Some v)) lock ∙ r.all;
      place = place ∙ ap (λ (m : ℕ). length (left_of c vs m)) (sym lock);
    }

report_at : (c : ℕ) (vs : List LockView) (n k : ℕ) (l : Left) → slice_get (left_of c vs n) k ≡ Some l → IsReportAt c vs n k l
report_at c vs zero k l e = absurd (none_some l e)
report_at c vs (suc n) k l e = elim (append_cases (left_of c vs n) (left_at c n (slice_get vs n)) k l e) [
  | inl p ↦
      let r = report_at c vs n k l p in
      let lt : l.lock < n = r.below in
      record { below = omega arith; view = r.view; there = r.there; one = r.one; place = r.place }
  | inr p ↦ last_report c vs n k p.0 l (slice_get vs n) refl p.1 p.2
]

pub reports_apart : (c : ℕ) (vs : List LockView) (n i j : ℕ) (l m : Left) → slice_get (left_of c vs n) i ≡ Some l → slice_get (left_of c vs n) j ≡ Some m → l.lock ≡ m.lock → i ≡ j
reports_apart c vs n i j l m e f same = (report_at c vs n i l e).place ∙ ap (λ (k : ℕ). length (left_of c vs k)) same ∙ sym (report_at c vs n j m f).place

-- ---- each has a name, and its token 64 bits

some_queue : (c : ℕ) (l : Lock) → 0 < length (without c l.queue) → 0 < length l.queue
some_queue c l lt = let le : length (without c l.queue) ≤ length l.queue = fewer c l.queue in omega (arith, lt)

next_token : (b : Bound) (l : Lock) (queue : List Waiter) (h : Holder) → (0 < length queue → token_in b (l.ring.grants + 1) < 2 ^ 64) → (advanced l.ring queue).lock.holder ≡ Some h → token_in b h.token < 2 ^ 64
next_token b l [] h fit e = absurd (none_some h e)
next_token b l (w ∷ queue) h fit e = subst (λ (x : Holder). token_in b x.token < 2 ^ 64) (some_same (record { client = w.client; token = l.ring.grants + 1 }) h e) (fit (omega arith))

pub free_held : (c : ℕ) (h : Option Holder) → h ≡ None → is_held_by c h ≡ true → ⊥
free_held c h e f = true≢false (sym f ∙ ap (λ (x : Option Holder). is_held_by c x) e)

tellable : (s : Named) (c i : ℕ) (l : Lock) (r : Left) (o : Option Bound) → IsNamed s → s.top + waiting s.locks < 2 ^ 64 → slice_get s.locks i ≡ Some l → slice_get s.names i ≡ Some o → r.lock ≡ i → is_held_by c l.holder ≡ true → r.granted ≡ next_holder c l →
    IsTellableLeft s.names r
tellable s c i l r None n lt there entry lock held granted = absurd (free_held c l.holder (n.each i l None there entry).1 held)
tellable s c i l r (Some b) n lt there entry lock held granted =
    let right : IsRightBound s.top l b = (n.each i l (Some b) there entry).0 in
    let within : length l.queue ≤ waiting s.locks = queue_in s.locks i l there in (
      b,
      ap (λ (k : ℕ). slice_get s.names k) lock ∙ entry,
      λ h e. next_token b l (without c l.queue) h (λ some. next_fits s.top 0 l b right (let more : 0 < length l.queue = some_queue c l some in omega arith)) (sym granted ∙ e),
    )

pub reports_tellable : (v : NamedView) (c i : ℕ) (l : Left) → IsKeptNamed v → slice_get (left_of c v.locks (length v.locks)) i ≡ Some l → IsTellableLeft v.names l
reports_tellable v c i l n e =
    let r = report_at c v.locks (length v.locks) i l e in
    let q = report_of c l.lock r.view l r.one in
    let at : slice_get (locks_of v.locks) l.lock ≡ Some (lock_of r.view) = view_lock v.locks l.lock r.view r.there in
    let lt : l.lock < length (locks_of v.locks) = slice_get_within (locks_of v.locks) l.lock (lock_of r.view) at in
    let many : length v.names ≡ length (locks_of v.locks) = n.named.many in
    let entry = there_is v.names l.lock (omega arith) in
    tellable (named_of v) c l.lock (lock_of r.view) l entry.0 n.named n.tokens at entry.1 refl q.held q.granted

-- ---- how many are granted

grants_append : (xs ys : List Left) → grants_in (xs ++ ys) ≡ grants_in xs + grants_in ys
grants_append [] ys = let same : grants_in ys ≡ 0 + grants_in ys = omega arith in same
grants_append (x ∷ xs) ys = let rest : grants_in (xs ++ ys) ≡ grants_in xs + grants_in ys = grants_append xs ys in omega arith

advanced_grants : (l : Lock) (queue : List Waiter) → IsRing l.ring.ring → (advanced l.ring queue).lock.ring.grants ≡ l.ring.grants + (grant_count (advanced l.ring queue).lock.holder + 0)
advanced_grants l [] g = let same : l.ring.grants ≡ l.ring.grants + (0 + 0) = omega arith in same
advanced_grants l (w ∷ queue) g = let one : (advanced l.ring (w ∷ queue)).lock.ring.grants ≡ l.ring.grants + 1 = grant_grants l.ring w.label g in omega arith

counted_if : (c i : ℕ) (v : LockView) (held : Bool) → IsRing (lock_of v).ring.ring → (turn_if (lock_of v) c held).lock.ring.grants ≡ (lock_of v).ring.grants + grants_in (left_if c i v held)
counted_if c i v true g = advanced_grants (lock_of v) (without c v.queue) g
counted_if c i v false g = let same : (lock_of v).ring.grants ≡ (lock_of v).ring.grants + 0 = omega arith in same

counted_one : (c i : ℕ) (v : LockView) → IsRing (lock_of v).ring.ring → (left_lock c (lock_of v)).ring.grants ≡ (lock_of v).ring.grants + grants_in (left_at c i (Some v))
counted_one c i v g = counted_if c i v (is_held_by c v.holder) g

abbrev AreRings : List Lock → Type 0
AreRings ls = (i : ℕ) (l : Lock) → slice_get ls i ≡ Some l → IsRing l.ring.ring

counted_first : (c : ℕ) (vs : List LockView) (n : ℕ) → AreRings (locks_of vs) → n ≤ length vs → total (first_left c n (locks_of vs)) ≡ total (locks_of vs) + grants_in (left_of c vs n)
counted_first c vs zero rings le = let same : total (locks_of vs) ≡ total (locks_of vs) + 0 = omega arith in same
counted_first c vs (suc n) rings le =
    let ls : List Lock = locks_of vs in
    let v = there_is vs n (omega (arith, le)) in
    let l : Lock = lock_of v.0 in
    let at : slice_get ls n ≡ Some l = view_lock vs n v.0 v.1 in
    let before : total (first_left c n ls) ≡ total ls + grants_in (left_of c vs n) = counted_first c vs n rings (omega (arith, le)) in
    let set : total (slice_set (first_left c n ls) n (left_lock c l)) + l.ring.grants ≡ total (first_left c n ls) + (left_lock c l).ring.grants = total_set (first_left c n ls) n l (left_lock c l) (rest_stays c n ls ∙ at) in
    let next : total (slice_set (first_left c n ls) n (left_lock c l)) ≡ total (first_left c (suc n) ls) = ap (λ (x : List Lock). total x) (next_left c n ls l at) in
    let one : (left_lock c l).ring.grants ≡ l.ring.grants + grants_in (left_at c n (Some v.0)) = counted_one c n v.0 (rings n l at) in
    let more : grants_in (left_of c vs n ++ left_at c n (slice_get vs n)) ≡ grants_in (left_of c vs n) + grants_in (left_at c n (Some v.0)) =
    grants_append (left_of c vs n) (left_at c n (slice_get vs n)) ∙ ap (λ (o : Option LockView). grants_in (left_of c vs n) + grants_in (left_at c n o)) v.1 in
    omega arith

few_left : (c : ℕ) (ls : List Lock) → AreRings ls → total (map (left_lock c) ls) + waiting (map (left_lock c) ls) ≤ total ls + waiting ls
few_left c [] rings = let le : 0 + 0 ≤ 0 + 0 = omega arith in le
few_left c (l ∷ ls) rings =
    let rest : total (map (left_lock c) ls) + waiting (map (left_lock c) ls) ≤ total ls + waiting ls = few_left c ls (λ i. rings (suc i)) in
    let one : (left_lock c l).ring.grants + length (left_lock c l).queue ≤ l.ring.grants + length l.queue + 0 = few_move [] l c Leave (turn [] l c Leave) (rings zero l refl) (move_of [] l c Leave) in
    omega arith

-- ---- the names

names_append : (fixed : ℕ) (os : List (Option Bound)) (xs ys : List Left) → names_left fixed os (xs ++ ys) ≡ names_left fixed (names_left fixed os xs) ys
names_append fixed os [] ys = refl
names_append fixed os (x ∷ xs) ys = names_append fixed (name_left fixed os x) xs ys

client_is : (o : Option Holder) → is_some (client_of o) ≡ is_some o
client_is None = refl
client_is (Some h) = refl

-- a name that is right where nothing is done stays
right_name : (fixed top i : ℕ) (l : Lock) (o : Option Bound) → IsRightName fixed top i l o → settled_name fixed i l o ≡ o
right_name fixed top i l None r = refl
right_name fixed top i l (Some b) r = ap (λ (q : Bool). kept q b) (stays_held fixed i l r.1 (nat_lt i fixed) refl)

abbrev AreRightNames : ℕ → ℕ → ℕ → List Lock → List (Option Bound) → Type 0
AreRightNames fixed top at ls os = (i k : ℕ) (l : Lock) (o : Option Bound) → at + i ≡ k → slice_get ls i ≡ Some l → slice_get os i ≡ Some o → IsRightName fixed top k l o

right_names : (fixed top at : ℕ) (ls : List Lock) (os : List (Option Bound)) → length os ≡ length ls → AreRightNames fixed top at ls os → settled_names fixed at ls os ≡ os
right_names fixed top at [] [] e r = refl
right_names fixed top at [] (o ∷ os) e r = absurd (omega (arith, e))
right_names fixed top at (l ∷ ls) [] e r = absurd (omega (arith, e))
right_names fixed top at (l ∷ ls) (o ∷ os) e r =
    ap (λ (x : Option Bound). x ∷ settled_names fixed (suc at) ls os) (right_name fixed top at l o (r zero at l o (omega arith) refl refl))
    ∙ ap (λ (xs : List (Option Bound)). o ∷ xs) (right_names fixed top (suc at) ls os (omega (arith, e)) (λ i k m p same f g. r (suc i) k m p (omega (arith, same)) f g))

-- one ring more is left
set_names : (fixed at n k : ℕ) (ls : List Lock) (os : List (Option Bound)) (m : Lock) (o : Option Bound) → at + n ≡ k → slice_get os n ≡ Some o → n < length ls →
    slice_set (settled_names fixed at ls os) n (settled_name fixed k m o) ≡ settled_names fixed at (slice_set ls n m) os
set_names fixed at n k [] os m o e f lt = absurd (omega (arith, lt))
set_names fixed at n k (l ∷ ls) [] m o e f lt = absurd (none_some o f)
set_names fixed at zero k (l ∷ ls) (p ∷ os) m o e f lt =
    let same : at ≡ k = omega (arith, e) in
    ap (λ (i : ℕ). settled_name fixed i m o ∷ settled_names fixed (suc at) ls os) (sym same) ∙ ap (λ (x : Option Bound). settled_name fixed at m x ∷ settled_names fixed (suc at) ls os) (sym (some_same p o f))
set_names fixed at (suc n) k (l ∷ ls) (p ∷ os) m o e f lt = ap (λ (xs : List (Option Bound)). settled_name fixed at l p ∷ xs) (set_names fixed (suc at) n k ls os m o (omega (arith, e)) f (omega (arith, lt)))

get_names : (fixed at n k : ℕ) (ls : List Lock) (os : List (Option Bound)) (l : Lock) (o : Option Bound) → at + n ≡ k → slice_get ls n ≡ Some l → slice_get os n ≡ Some o → slice_get (settled_names fixed at ls os) n ≡ Some (settled_name fixed k l o)
get_names fixed at n k [] os l o e f g = absurd (none_some l f)
get_names fixed at n k (m ∷ ls) [] l o e f g = absurd (none_some o g)
get_names fixed at zero k (m ∷ ls) (p ∷ os) l o e f g =
    let same : at ≡ k = omega (arith, e) in
    ap (λ (x : Lock). Some (settled_name fixed at x p)) (some_same m l f) ∙ ap (λ (x : Option Bound). Some (settled_name fixed at l x)) (some_same p o g) ∙ ap (λ (i : ℕ). Some (settled_name fixed i l o)) same
get_names fixed at (suc n) k (m ∷ ls) (p ∷ os) l o e f g = get_names fixed (suc at) n k ls os l o (omega (arith, e)) f g

-- a ring whose lock the client held
named_held : (fixed n : ℕ) (os : List (Option Bound)) (b : Bound) (g : Option Holder) (q : Bool) → slice_get os n ≡ Some (Some b) → (nat_lt n fixed || is_some g) ≡ q → (if q then os else slice_set os n None) ≡ slice_set os n (kept q b)
named_held fixed n os b g true e f = sym (set_same os n (Some b) e)
named_held fixed n os b g false e f = refl

-- what becomes of the name of one ring
named_if : (fixed top c n : ℕ) (v : LockView) (os : List (Option Bound)) (o : Option Bound) (held : Bool) → is_held_by c v.holder ≡ held → slice_get os n ≡ Some o → IsRightName fixed top n (lock_of v) o →
    names_left fixed os (left_if c n v held) ≡ slice_set os n (settled_name fixed n (turn_if (lock_of v) c held).lock o)
named_if fixed top c n v os None true h e r = absurd (free_held c v.holder r.1 h)
named_if fixed top c n v os (Some b) true h e r =
    let g : Option Holder = next_holder c (lock_of v) in
    named_held fixed n os b g (nat_lt n fixed || is_some g) e refl ∙ ap (λ (q : Bool). slice_set os n (kept (nat_lt n fixed || q) b)) (sym (client_is g))
named_if fixed top c n v os None false h e r = sym (set_same os n None e)
named_if fixed top c n v os (Some b) false h e r = sym (ap (λ (q : Bool). slice_set os n (kept q b)) (stays_held fixed n (lock_of v) r.1 (nat_lt n fixed) refl) ∙ set_same os n (Some b) e)

named_one : (fixed top c n : ℕ) (v : LockView) (os : List (Option Bound)) (o : Option Bound) → slice_get os n ≡ Some o → IsRightName fixed top n (lock_of v) o →
    names_left fixed os (left_at c n (Some v)) ≡ slice_set os n (settled_name fixed n (left_lock c (lock_of v)) o)
named_one fixed top c n v os o e r = named_if fixed top c n v os o (is_held_by c v.holder) refl e r

first_many : (c n : ℕ) (ls : List Lock) → length (first_left c n ls) ≡ length ls
first_many c zero ls = refl
first_many c (suc n) [] = refl
first_many c (suc n) (l ∷ ls) = let rest : length (first_left c n ls) ≡ length ls = first_many c n ls in omega arith

named_first : (v : NamedView) (c n : ℕ) → IsNamed (named_of v) → n ≤ length v.locks → names_left v.fixed v.names (left_of c v.locks n) ≡ settled_names v.fixed 0 (first_left c n (locks_of v.locks)) v.names
named_first v c zero h le = sym (right_names v.fixed v.top 0 (locks_of v.locks) v.names h.many (λ i k l o same f g. let is : i ≡ k = omega (arith, same) in h.each k l o (subst (λ (m : ℕ). slice_get (locks_of v.locks) m ≡ Some l) is f) (subst (λ (m : ℕ). slice_get v.names m ≡ Some o) is g)))
named_first v c (suc n) h le =
    let ls : List Lock = locks_of v.locks in
    let os : List (Option Bound) = v.names in
    let w = there_is v.locks n (omega (arith, le)) in
    let l : Lock = lock_of w.0 in
    let at : slice_get ls n ≡ Some l = view_lock v.locks n w.0 w.1 in
    let lt : n < length ls = slice_get_within ls n l at in
    let many : length os ≡ length ls = h.many in
    let entry = there_is os n (omega arith) in
    let right : IsRightName v.fixed v.top n l entry.0 = h.each n l entry.0 at entry.1 in
    let now : List (Option Bound) = settled_names v.fixed 0 (first_left c n ls) os in
    let there : slice_get (first_left c n ls) n ≡ Some l = rest_stays c n ls ∙ at in
    let still : slice_get now n ≡ Some entry.0 = get_names v.fixed 0 n n (first_left c n ls) os l entry.0 (omega arith) there entry.1 ∙ ap (λ (o : Option Bound). Some o) (right_name v.fixed v.top n l entry.0 right) in
    names_append v.fixed os (left_of c v.locks n) (left_at c n (slice_get v.locks n))
    ∙ ap (λ (o : Option LockView). names_left v.fixed (names_left v.fixed os (left_of c v.locks n)) (left_at c n o)) w.1
    ∙ ap (λ (xs : List (Option Bound)). names_left v.fixed xs (left_at c n (Some w.0))) (named_first v c n h (omega (arith, le)))
    ∙ named_one v.fixed v.top c n w.0 now entry.0 still right
    ∙ set_names v.fixed 0 n n (first_left c n ls) os (left_lock c l) entry.0 (omega arith) entry.1 (let same : length (first_left c n ls) ≡ length ls = first_many c n ls in omega arith)
    ∙ ap (λ (xs : List Lock). settled_names v.fixed 0 xs os) (next_left c n ls l at)

-- ---- all of it

-- what is so after all locks were left
record IsAfter (old new : NamedView) (c : ℕ) (raw : List Left) : Type 0 where
  locks : locks_of new.locks ≡ map (left_lock c) (locks_of old.locks)
  count : total (locks_of new.locks) ≡ total (locks_of old.locks) + grants_in raw
  few : grants_in raw + waiting (locks_of new.locks) ≤ waiting (locks_of old.locks)

named_rings : (s : Named) → IsNamed s → AreRings s.locks
named_rings s n i l e = (n.right.each i l e).ring

after_left : (old new : NamedView) (c : ℕ) (raw : List Left) → IsNamed (named_of old) → IsLeft old.locks new.locks c raw → IsAfter old new c raw
after_left old new c raw n d =
    let ls : List Lock = locks_of old.locks in
    let many : length ls ≡ length old.locks = length-map old.locks lock_of in
    let rings : AreRings ls = named_rings (named_of old) n in
    let locks : locks_of new.locks ≡ map (left_lock c) ls = d.locks ∙ ap (λ (k : ℕ). locks_after ls (leaves c k)) (sym many) ∙ locks_left c ls in
    let first : total (first_left c (length old.locks) ls) ≡ total ls + grants_in (left_of c old.locks (length old.locks)) = counted_first c old.locks (length old.locks) rings (omega arith) in
    let all : total (first_left c (length old.locks) ls) ≡ total (map (left_lock c) ls) = ap (λ (k : ℕ). total (first_left c k ls)) (sym many) ∙ ap (λ (x : List Lock). total x) (all_left c ls) in
    let told : grants_in raw ≡ grants_in (left_of c old.locks (length old.locks)) = ap (λ (x : List Left). grants_in x) d.told in
    let new_total : total (locks_of new.locks) ≡ total (map (left_lock c) ls) = ap (λ (x : List Lock). total x) locks in
    let new_waiting : waiting (locks_of new.locks) ≡ waiting (map (left_lock c) ls) = ap (λ (x : List Lock). waiting x) locks in
    let less : total (map (left_lock c) ls) + waiting (map (left_lock c) ls) ≤ total ls + waiting ls = few_left c ls rings in
    record { locks = locks; count = omega arith; few = omega arith }

pub few_grants : (old new : NamedView) (c : ℕ) (raw : List Left) → IsKeptNamed old → IsLeft old.locks new.locks c raw → old.top + grants_in raw < 2 ^ 64
few_grants old new c raw n d =
    let few : grants_in raw + waiting (locks_of new.locks) ≤ waiting (locks_of old.locks) = (after_left old new c raw n.named d).few in
    let lt : old.top + waiting (locks_of old.locks) < 2 ^ 64 = n.tokens in
    omega arith

pub record IsDoneLeave (old new : NamedView) (c : ℕ) (raw : List Left) : Type 0 where
  pub left : IsLeft old.locks new.locks c raw
  pub names : new.names ≡ names_left old.fixed old.names raw
  pub fixed : new.fixed ≡ old.fixed
  pub top : new.top ≡ old.top + grants_in raw

pub left_named : (old new : NamedView) (c : ℕ) (raw : List Left) → IsNamed (named_of old) → IsDoneLeave old new c raw → named_of new ≡ named_after (named_of old) (leave_each c old.names)
left_named old new c raw n d =
    let ls : List Lock = locks_of old.locks in
    let many : length ls ≡ length old.locks = length-map old.locks lock_of in
    let a = after_left old new c raw n d.left in
    let names : new.names ≡ settled_names old.fixed 0 (map (left_lock c) ls) old.names =
    d.names ∙ ap (λ (x : List Left). names_left old.fixed old.names x) d.left.told ∙ named_first old c (length old.locks) n (omega arith)
    ∙ ap (λ (k : ℕ). settled_names old.fixed 0 (first_left c k ls) old.names) (sym many) ∙ ap (λ (x : List Lock). settled_names old.fixed 0 x old.names) (all_left c ls) in
    let count : total (locks_of new.locks) ≡ total ls + grants_in raw = a.count in
    let same : total (locks_of new.locks) ≡ total (map (left_lock c) ls) = ap (λ (x : List Lock). total x) a.locks in
    let high : new.top ≡ old.top + grants_in raw = d.top in
    let top : new.top ≡ old.top + (total (map (left_lock c) ls) - total ls) = omega arith in
    same_named (locks_of new.locks) (map (left_lock c) ls) new.names (settled_names old.fixed 0 (map (left_lock c) ls) old.names) new.fixed old.fixed new.top (old.top + (total (map (left_lock c) ls) - total ls)) a.locks names d.fixed top
    ∙ ap (λ (x : List Lock). settled (named_of old) x) (sym (locks_left c ls))
    ∙ sym (leaves_are_settled (named_of old) c n)

pub left_kept : (old new : NamedView) (c : ℕ) (raw : List Left) → IsKeptNamed old → IsDoneLeave old new c raw → IsKeptNamed new
left_kept old new c raw n d =
    let few : grants_in raw + waiting (locks_of new.locks) ≤ waiting (locks_of old.locks) = (after_left old new c raw n.named d.left).few in
    let high : new.top ≡ old.top + grants_in raw = d.top in
    let lt : old.top + waiting (locks_of old.locks) < 2 ^ 64 = n.tokens in
    record {
      named = subst (λ (s : Named). IsNamed s) (sym (left_named old new c raw n.named d)) (named_stays (named_of old) (leave_each c old.names) n.named (leaves_allowed (named_of old) c old.names));
      places =
          let after : List Lock = locks_after (locks_of old.locks) (leaves c (length old.locks)) in
          let many : length new.locks ≡ length old.locks = views_long old.locks new.locks after d.left.locks (after_long (locks_of old.locks) (leaves c (length old.locks))) in
          let same : new.fixed ≡ old.fixed = d.fixed in
          let le : old.fixed ≤ length old.locks = n.places in
          omega arith;
      tokens = omega arith;
    }

-- ---- the loop over what is reported

pub names_other : (fixed i : ℕ) (os : List (Option Bound)) (xs : List Left) → ((j : ℕ) (l : Left) → slice_get xs j ≡ Some l → l.lock ≡ i → ⊥) → slice_get (names_left fixed os xs) i ≡ slice_get os i
names_other fixed i os [] apart = refl
names_other fixed i os (x ∷ xs) apart = names_other fixed i (name_left fixed os x) xs (λ j l e. apart (suc j) l e) ∙ one (nat_lt x.lock fixed || is_some x.granted)
  where
    one : (q : Bool) → slice_get (if q then os else slice_set os x.lock None) i ≡ slice_get os i
    one true = refl
    one false = get_set_other os x.lock i None (λ same. apart zero x refl (sym same))

grants_few : (xs : List Left) → grants_in xs ≤ length xs
grants_few [] = let le : 0 ≤ 0 = omega arith in le
grants_few (x ∷ xs) = let rest : grants_in xs ≤ length xs = grants_few xs in one x.granted rest
  where
    one : (h : Option Holder) → grants_in xs ≤ length xs → grant_count h + grants_in xs ≤ suc (length xs)
    one None le = omega arith
    one (Some h) le = omega arith

-- what is so of entry i, when those before it are done
pub record IsNextLeft (fixed : ℕ) (os now : List (Option Bound)) (ls : List Left) (i : ℕ) (l : Left) : Type 0 where
  pub at : slice_get ls i ≡ Some l
  pub entry : slice_get now l.lock ≡ slice_get os l.lock
  pub told : told_left now l ≡ told_left os l
  pub tellable : IsTellableLeft now l
  pub within : l.lock < length now
  pub names : name_left fixed now l ≡ names_left fixed os (take (i + 1) ls)
  pub grants : grants_in (take (i + 1) ls) ≡ grants_in (take i ls) + grant_count l.granted
  pub few : grants_in (take (i + 1) ls) ≤ length ls

more_taken : (ls : List Left) (i : ℕ) (l : Left) → slice_get ls i ≡ Some l → take (i + 1) ls ≡ take i ls ++ l ∷ []
more_taken ls i l at = take_more ls i l (slice_get_within ls i l at) ∙ ap (λ (x : Left). take i ls ++ x ∷ []) (get_or_from_slice_get ls i l l at)

pub next_left_is : (fixed : ℕ) (os now : List (Option Bound)) (ls : List Left) (i : ℕ) (l : Left) → now ≡ names_left fixed os (take i ls) → slice_get ls i ≡ Some l →
    ((j k : ℕ) (m n : Left) → slice_get ls j ≡ Some m → slice_get ls k ≡ Some n → m.lock ≡ n.lock → j ≡ k) → IsTellableLeft os l → IsNextLeft fixed os now ls i l
next_left_is fixed os now ls i l e at apart t =
    let other : slice_get (names_left fixed os (take i ls)) l.lock ≡ slice_get os l.lock = names_other fixed l.lock os (take i ls) (λ j m f same.
    let r = taken_entry ls i j m f in
    let before : j < i = r.0 in
    let is : j ≡ i = apart j i m l r.1 at same in
    omega arith) in
    let entry : slice_get now l.lock ≡ slice_get os l.lock = ap (λ (x : List (Option Bound)). slice_get x l.lock) e ∙ other in
    let taken : take (i + 1) ls ≡ take i ls ++ l ∷ [] = more_taken ls i l at in
    let more : grants_in (take (i + 1) ls) ≡ grants_in (take i ls ++ l ∷ []) = ap (λ (x : List Left). grants_in x) taken in
    let split : grants_in (take i ls ++ l ∷ []) ≡ grants_in (take i ls) + (grant_count l.granted + 0) = grants_append (take i ls) (l ∷ []) in
    let some : grants_in (take (i + 1) ls) ≤ length (take (i + 1) ls) = grants_few (take (i + 1) ls) in
    let most : length (take (i + 1) ls) ≤ length ls = take_few (i + 1) ls in
    record {
      at = at;
      entry = entry;
      told = ap (λ (o : Option (Option Bound)). record { lock = l.lock; ended = l.ended; granted = option_map (told_holder (bound_or o)) l.granted }) entry;
      tellable = (t.0, entry ∙ t.1, t.2);
      within = slice_get_within now l.lock (Some t.0) (entry ∙ t.1);
      names = ap (λ (x : List (Option Bound)). name_left fixed x l) e ∙ sym (names_append fixed os (take i ls) (l ∷ [])) ∙ sym (ap (λ (x : List Left). names_left fixed os x) taken);
      grants = omega arith;
      few = omega arith;
    }

-- the same of an entry that was read
pub next_read : (fixed : ℕ) (os now : List (Option Bound)) (ls xs : List Left) (i : ℕ) (l : Left) → now ≡ names_left fixed os (take i ls) → length xs ≡ length ls → i < length ls → l ≡ slice_index_or xs i l →
    ((j : ℕ) → i ≤ j → slice_get xs j ≡ slice_get ls j) → ((j k : ℕ) (m n : Left) → slice_get ls j ≡ Some m → slice_get ls k ≡ Some n → m.lock ≡ n.lock → j ≡ k) →
    ((j : ℕ) (m : Left) → slice_get ls j ≡ Some m → IsTellableLeft os m) → IsNextLeft fixed os now ls i l
next_read fixed os now ls xs i l e many lt is rest apart tellable =
    let within : i < length xs = omega arith in
    let at : slice_get ls i ≡ Some l = sym (rest i (omega arith)) ∙ slice_get_read xs (length xs) i l refl within is in
    next_left_is fixed os now ls i l e at apart (tellable i l at)

pub told_more : (os : List (Option Bound)) (xs ls : List Left) (i : ℕ) (l told : Left) → length xs ≡ length ls → slice_get ls i ≡ Some l → told ≡ told_left os l → take i xs ≡ map (told_left os) (take i ls) →
    take (i + 1) (slice_set xs i told) ≡ map (told_left os) (take (i + 1) ls)
told_more os xs ls i l told many at is e =
    let lt : i < length ls = slice_get_within ls i l at in
    take_more_set xs i told (omega arith)
    ∙ ap (λ (x : List Left). x ++ told ∷ []) e
    ∙ ap (λ (x : Left). map (told_left os) (take i ls) ++ x ∷ []) is
    ∙ sym (map-append (told_left os) (take i ls) (l ∷ []))
    ∙ sym (ap (λ (x : List Left). map (told_left os) x) (more_taken ls i l at))

pub told_rest : (xs ls : List Left) (i k : ℕ) (told : Left) → k ≡ i + 1 → ((j : ℕ) → i ≤ j → slice_get xs j ≡ slice_get ls j) → (j : ℕ) → k ≤ j → slice_get (slice_set xs i told) j ≡ slice_get ls j
told_rest xs ls i k told e rest j le = get_set_other xs i j told (λ same. omega (arith, e, same, le)) ∙ rest j (omega (arith, e, le))

pub told_all : (os : List (Option Bound)) (xs ls : List Left) (i : ℕ) → length xs ≡ length ls → length ls ≤ i → take i xs ≡ map (told_left os) (take i ls) → xs ≡ map (told_left os) ls
told_all os xs ls i many le e = sym (take_all i xs (omega arith)) ∙ e ∙ ap (λ (x : List Left). map (told_left os) x) (take_all i ls le)
