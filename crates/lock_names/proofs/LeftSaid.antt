-- A client that leaves all names: what is said to the clients that are granted.
use Rattle.std.proofs.Common.{◌≡◌, ℕ, zero, suc, ◌≤◌, Bool, true, false, List, [], ◌∷◌, ◌++◌, map, length, Option, None, Some, refl, sym, ◌∙◌, ap, subst, arith}
use Rattle.std.specs.Prelude.{slice_get, slice_set, nat_lt, ◌||◌, if◌then◌else◌, is_some, option_map}
use Rattle.std.proofs.lemmas.List.{length-map, map-append, append_assoc, append-nil}
use Rattle.held_locks.specs.declared.answers.Waiter.{Waiter}
use Rattle.held_locks.specs.declared.answers.Holder.{Holder}
use Rattle.held_locks.specs.declared.answers.Left.{Left}
use Rattle.held_locks.specs.Queues.{Lock, without, is_held_by}
use Rattle.held_locks.specs.Locks.{advanced}
use Rattle.held_locks.specs.Kept.{LockView, lock_of, locks_of, left_at, left_of}
use Rattle.lock_names.specs.Names.{Bound, Said, told_holder, said_of, said_after, leave_each}
use Rattle.lock_names.specs.Promises.{IsRightName, IsNamed}
use Rattle.lock_names.specs.Kept.{NamedView, named_of, grant_said, IsKeptNamed}
use Rattle.lock_names.specs.Leaves.{bound_or, told_left, name_left, names_left, said_left, IsLeftByName}
use Rattle.name_bindings.proofs.Found.{some_same, none_some, there_is}
use Rattle.lock_names.proofs.Asking.{view_lock}
use Rattle.lock_names.proofs.LeftNames.{one_said, each_said, leaves_say}
use Rattle.lock_names.proofs.LeftRings.{turn_if, left_if, free_held, IsDoneLeave, left_named}

-- ---- what one ring says

granted_said : (b : Bound) (l : Lock) (queue : List Waiter) (x : Option (Option Bound)) → Some (Some b) ≡ x →
    grant_said (bound_or x).name (option_map (told_holder (bound_or x)) (advanced l.ring queue).lock.holder) ++ [] ≡ map (said_of b) (advanced l.ring queue).answers
granted_said b l [] x e = refl
granted_said b l (w ∷ queue) x e =
    subst (λ (y : Option (Option Bound)). grant_said (bound_or y).name (option_map (told_holder (bound_or y)) (advanced l.ring (w ∷ queue)).lock.holder) ++ [] ≡ map (said_of b) (advanced l.ring (w ∷ queue)).answers) e refl

abbrev said_if : ℕ → LockView → Bool → Option Bound → List Said
said_if c v held None = []
said_if c v held (Some b) = map (said_of b) (turn_if (lock_of v) c held).answers

ring_if : (fixed top c n : ℕ) (v : LockView) (os : List (Option Bound)) (o : Option Bound) (held : Bool) → is_held_by c v.holder ≡ held → slice_get os n ≡ Some o → IsRightName fixed top n (lock_of v) o →
    said_left os (map (told_left os) (left_if c n v held)) ≡ said_if c v held o
ring_if fixed top c n v os None true h e r = absurd (free_held c v.holder r.1 h)
ring_if fixed top c n v os (Some b) true h e r = granted_said b (lock_of v) (without c v.queue) (slice_get os n) (sym e)
ring_if fixed top c n v os None false h e r = refl
ring_if fixed top c n v os (Some b) false h e r = refl

said_by : (c : ℕ) (v : LockView) (o : Option Bound) → said_if c v (is_held_by c v.holder) o ≡ one_said c (lock_of v) o
said_by c v None = refl
said_by c v (Some b) = refl

ring_said : (fixed top c n : ℕ) (v : LockView) (os : List (Option Bound)) (o : Option Bound) → slice_get os n ≡ Some o → IsRightName fixed top n (lock_of v) o → said_left os (map (told_left os) (left_at c n (Some v))) ≡ one_said c (lock_of v) o
ring_said fixed top c n v os o e r = ring_if fixed top c n v os o (is_held_by c v.holder) refl e r ∙ said_by c v o

-- ---- the first rings

abbrev first_said : ℕ → ℕ → List Lock → List (Option Bound) → List Said
first_said c zero ls os = []
first_said c (suc n) [] os = []
first_said c (suc n) (l ∷ ls) [] = []
first_said c (suc n) (l ∷ ls) (o ∷ os) = one_said c l o ++ first_said c n ls os

first_more : (c n : ℕ) (ls : List Lock) (os : List (Option Bound)) (l : Lock) (o : Option Bound) → slice_get ls n ≡ Some l → slice_get os n ≡ Some o → first_said c (suc n) ls os ≡ first_said c n ls os ++ one_said c l o
first_more c n [] os l o e f = absurd (none_some l e)
first_more c n (m ∷ ls) [] l o e f = absurd (none_some o f)
first_more c zero (m ∷ ls) (p ∷ os) l o e f =
    append-nil (one_said c m p) ∙ ap (λ (x : Lock). one_said c x p) (some_same m l e) ∙ ap (λ (x : Option Bound). one_said c l x) (some_same p o f)
first_more c (suc n) (m ∷ ls) (p ∷ os) l o e f =
    ap (λ (x : List Said). one_said c m p ++ x) (first_more c n ls os l o e f) ∙ sym (append_assoc (one_said c m p) (first_said c n ls os) (one_said c l o))

first_all : (c : ℕ) (ls : List Lock) (os : List (Option Bound)) → length os ≡ length ls → first_said c (length ls) ls os ≡ each_said c ls os
first_all c [] os e = refl
first_all c (l ∷ ls) [] e = refl
first_all c (l ∷ ls) (o ∷ os) e = ap (λ (x : List Said). one_said c l o ++ x) (first_all c ls os (omega (arith, e)))

said_append : (os : List (Option Bound)) (xs ys : List Left) → said_left os (xs ++ ys) ≡ said_left os xs ++ said_left os ys
said_append os [] ys = refl
said_append os (x ∷ xs) ys =
    ap (λ (z : List Said). grant_said (bound_or (slice_get os x.lock)).name x.granted ++ z) (said_append os xs ys)
    ∙ sym (append_assoc (grant_said (bound_or (slice_get os x.lock)).name x.granted) (said_left os xs) (said_left os ys))

said_first : (v : NamedView) (c n : ℕ) → IsNamed (named_of v) → n ≤ length v.locks → said_left v.names (map (told_left v.names) (left_of c v.locks n)) ≡ first_said c n (locks_of v.locks) v.names
said_first v c zero h le = refl
said_first v c (suc n) h le =
    let ls : List Lock = locks_of v.locks in
    let os : List (Option Bound) = v.names in
    let w = there_is v.locks n (omega (arith, le)) in
    let l : Lock = lock_of w.0 in
    let at : slice_get ls n ≡ Some l = view_lock v.locks n w.0 w.1 in
    let many : length os ≡ length ls = h.many in
    let same : length ls ≡ length v.locks = length-map v.locks lock_of in
    let entry = there_is os n (omega arith) in
    let right : IsRightName v.fixed v.top n l entry.0 = h.each n l entry.0 at entry.1 in
    ap (λ (x : List Left). said_left os x) (map-append (told_left os) (left_of c v.locks n) (left_at c n (slice_get v.locks n)))
    ∙ said_append os (map (told_left os) (left_of c v.locks n)) (map (told_left os) (left_at c n (slice_get v.locks n)))
    ∙ ap (λ (o : Option LockView). said_left os (map (told_left os) (left_of c v.locks n)) ++ said_left os (map (told_left os) (left_at c n o))) w.1
    ∙ ap (λ (x : List Said). x ++ said_left os (map (told_left os) (left_at c n (Some w.0)))) (said_first v c n h (omega (arith, le)))
    ∙ ap (λ (x : List Said). first_said c n ls os ++ x) (ring_said v.fixed v.top c n w.0 os entry.0 entry.1 right)
    ∙ sym (first_more c n ls os l entry.0 at entry.1)

-- ---- all of them

pub left_said : (v : NamedView) (c : ℕ) (raw said : List Left) → IsNamed (named_of v) → raw ≡ left_of c v.locks (length v.locks) → said ≡ map (told_left v.names) raw → said_left v.names said ≡ said_after (named_of v) (leave_each c v.names)
left_said v c raw said n e f =
    let ls : List Lock = locks_of v.locks in
    let many : length ls ≡ length v.locks = length-map v.locks lock_of in
    ap (λ (x : List Left). said_left v.names x) (f ∙ ap (λ (x : List Left). map (told_left v.names) x) e)
    ∙ said_first v c (length v.locks) n (omega arith)
    ∙ ap (λ (k : ℕ). first_said c k ls v.names) (sym many)
    ∙ first_all c ls v.names n.many
    ∙ sym (leaves_say (named_of v) c n)

still_granted : (os : List (Option Bound)) (l : Left) → is_some (told_left os l).granted ≡ is_some l.granted
still_granted os l = by l.granted
  where
    by : (o : Option Holder) → is_some (option_map (told_holder (bound_or (slice_get os l.lock))) o) ≡ is_some o
    by None = refl
    by (Some h) = refl

-- whichever tokens are reported, the same names are forgotten
told_names : (fixed : ℕ) (ps os : List (Option Bound)) (raw : List Left) → names_left fixed os (map (told_left ps) raw) ≡ names_left fixed os raw
told_names fixed ps os [] = refl
told_names fixed ps os (l ∷ raw) =
    told_names fixed ps (name_left fixed os (told_left ps l)) raw
    ∙ ap (λ (q : Bool). names_left fixed (if nat_lt l.lock fixed || q then os else slice_set os l.lock None) raw) (still_granted ps l)

pub left_by_name : (old new : NamedView) (c : ℕ) (raw said : List Left) → IsKeptNamed old → IsDoneLeave old new c raw → said ≡ map (told_left old.names) raw → IsLeftByName old new c said
left_by_name old new c raw said n d e = record {
  named = left_named old new c raw n.named d;
  said = left_said old c raw said n.named d.left.told e;
  raw = raw;
  locks = d.left;
  told = e;
  names = d.names ∙ sym (told_names old.fixed old.names old.names raw) ∙ ap (λ (x : List Left). names_left old.fixed old.names x) (sym e);
}
