-- A client that leaves all names, one after the other: what becomes of each ring and of its name.
use Rattle.std.proofs.Common.{◌≡◌, ℕ, zero, suc, ◌+◌, ◌-◌, ◌≤◌, List, [], ◌∷◌, ◌++◌, map, length, Option, None, Some, refl, sym, ◌∙◌, ap, subst, arith}
use Rattle.std.specs.Prelude.{slice_get, slice_set, if◌then◌else◌}
use Rattle.std.proofs.lemmas.List.{append_assoc}
use Rattle.held_locks.specs.declared.answers.Waiter.{Waiter}
use Rattle.held_locks.specs.declared.answers.Holder.{Holder}
use Rattle.held_locks.specs.Queues.{Lock, without, is_held_by}
use Rattle.held_locks.specs.Locks.{Leave, Asked, ended, dropped, turn, step, step_at}
use Rattle.held_locks.specs.Promises.{locks_after, leaves}
use Rattle.held_locks.proofs.Shown.{locks_append}
use Rattle.lock_names.specs.Names.{Bound, Named, Of, Said, NamedStep, said_of, found, total, at_name, step_named, named_after, said_after, leave_each}
use Rattle.lock_names.specs.Promises.{IsNamed, AreAllowed}
use Rattle.lock_names.specs.Leaves.{settled_name, settled_names, settled, LeavesAreSettled}
use Rattle.name_bindings.proofs.Found.{some_same, none_some, there_is, found_there}
use Rattle.lock_names.proofs.Fitting.{moved, at_ring_is, named_step}
use Rattle.lock_names.proofs.Taking.{same_named}

-- a lock that the client has left
abbrev pub left_lock : ℕ → Lock → Lock
left_lock c l = (turn [] l c Leave).lock

-- ---- the locks

abbrev pub first_left : ℕ → ℕ → List Lock → List Lock
first_left c zero ls = ls
first_left c (suc k) [] = []
first_left c (suc k) (l ∷ ls) = left_lock c l ∷ first_left c k ls

pub rest_stays : (c k : ℕ) (ls : List Lock) → slice_get (first_left c k ls) k ≡ slice_get ls k
rest_stays c zero ls = refl
rest_stays c (suc k) [] = refl
rest_stays c (suc k) (l ∷ ls) = rest_stays c k ls

pub next_left : (c k : ℕ) (ls : List Lock) (l : Lock) → slice_get ls k ≡ Some l → slice_set (first_left c k ls) k (left_lock c l) ≡ first_left c (suc k) ls
next_left c k [] l e = absurd (none_some l e)
next_left c zero (m ∷ ls) l e = ap (λ (x : Lock). left_lock c x ∷ ls) (sym (some_same m l e))
next_left c (suc k) (m ∷ ls) l e = ap (λ (xs : List Lock). left_lock c m ∷ xs) (next_left c k ls l e)

left_first : (c k : ℕ) (ls : List Lock) → k ≤ length ls → locks_after ls (leaves c k) ≡ first_left c k ls
left_first c zero ls le = refl
left_first c (suc k) ls le =
    let w = there_is ls k (omega (arith, le)) in
    let before : locks_after ls (leaves c k) ≡ first_left c k ls = left_first c k ls (omega (arith, le)) in
    let at : slice_get (first_left c k ls) k ≡ Some w.0 = rest_stays c k ls ∙ w.1 in
    locks_append ls (leaves c k) (Asked c k Leave ∷ [])
    ∙ ap (λ (xs : List Lock). (step xs (Asked c k Leave)).locks) before
    ∙ ap (λ (o : Option Lock). (step_at (first_left c k ls) c k Leave o).locks) at
    ∙ next_left c k ls w.0 w.1

pub all_left : (c : ℕ) (ls : List Lock) → first_left c (length ls) ls ≡ map (left_lock c) ls
all_left c [] = refl
all_left c (l ∷ ls) = ap (λ (xs : List Lock). left_lock c l ∷ xs) (all_left c ls)

-- what becomes of each lock does not depend on the others
pub locks_left : (c : ℕ) (ls : List Lock) → locks_after ls (leaves c (length ls)) ≡ map (left_lock c) ls
locks_left c ls = left_first c (length ls) ls (omega arith) ∙ all_left c ls

-- ---- the names

-- a lock that nobody holds
unheld_left : (c : ℕ) (l : Lock) → l.holder ≡ None → l.queue ≡ [] → left_lock c l ≡ l
unheld_left c l e f =
    ap (λ (h : Option Holder). (if is_held_by c h then ended l.ring (without c l.queue) 2 [] else dropped l c []).lock) e
    ∙ ap (λ (queue : List Waiter). record { ring = l.ring; queue = without c queue; holder = l.holder }) f
    ∙ ap (λ (queue : List Waiter). record { ring = l.ring; queue = queue; holder = l.holder }) (sym f)

get_mid : {X : Type 0} (xs ys : List X) (x : X) (n : ℕ) → n ≡ length xs → slice_get (xs ++ x ∷ ys) n ≡ Some x
get_mid [] ys x zero e = refl
get_mid [] ys x (suc n) e = absurd (omega (arith, e))
get_mid (z ∷ xs) ys x zero e = absurd (omega (arith, e))
get_mid (z ∷ xs) ys x (suc n) e = get_mid xs ys x n (omega (arith, e))

set_mid : {X : Type 0} (xs ys : List X) (x y : X) (n : ℕ) → n ≡ length xs → slice_set (xs ++ x ∷ ys) n y ≡ xs ++ y ∷ ys
set_mid [] ys x y zero e = refl
set_mid [] ys x y (suc n) e = absurd (omega (arith, e))
set_mid (z ∷ xs) ys x y zero e = absurd (omega (arith, e))
set_mid {X = X} (z ∷ xs) ys x y (suc n) e = ap (λ (zs : List X). z ∷ zs) (set_mid xs ys x y n (omega (arith, e)))

one_later : {X : Type 0} (xs : List X) (x : X) → length (xs ++ x ∷ []) ≡ suc (length xs)
one_later [] x = refl
one_later (y ∷ xs) x = ap (λ (n : ℕ). suc n) (one_later xs x)

abbrev state : List Lock → List (Option Bound) → ℕ → ℕ → Named
state ls os fixed top = record { locks = ls; names = os; fixed = fixed; top = top }

-- the state after all that are left of it
abbrev AllLeft : ℕ → List Lock → List Lock → List (Option Bound) → List (Option Bound) → ℕ → ℕ → Named
AllLeft c ps ls qs os fixed top =
    state (ps ++ map (left_lock c) ls) (qs ++ settled_names fixed (length ps) (map (left_lock c) ls) os) fixed (top + (total (map (left_lock c) ls) - total ls))

-- what each of them says
abbrev pub one_said : ℕ → Lock → Option Bound → List Said
one_said c l None = []
one_said c l (Some b) = map (said_of b) (turn [] l c Leave).answers

abbrev pub each_said : ℕ → List Lock → List (Option Bound) → List Said
each_said c [] os = []
each_said c (l ∷ ls) [] = []
each_said c (l ∷ ls) (o ∷ os) = one_said c l o ++ each_said c ls os

record IsAllLeft (c : ℕ) (ps ls : List Lock) (qs os : List (Option Bound)) (fixed top : ℕ) : Type 0 where
  said : said_after (state (ps ++ ls) (qs ++ os) fixed top) (leave_each c os) ≡ each_said c ls os
  same : named_after (state (ps ++ ls) (qs ++ os) fixed top) (leave_each c os) ≡ AllLeft c ps ls qs os fixed top
  more : total ls ≤ total (map (left_lock c) ls)

-- one ring less is left
further_left : (c : ℕ) (ps ls : List Lock) (qs os : List (Option Bound)) (fixed top high : ℕ) (l m : Lock) (o : Option Bound) (p : Option Bound) → m ≡ left_lock c l → p ≡ settled_name fixed (length ps) (left_lock c l) o →
    high ≡ top + (m.ring.grants - l.ring.grants) → l.ring.grants ≤ m.ring.grants → IsAllLeft c (ps ++ m ∷ []) ls (qs ++ p ∷ []) os fixed high →
    (named_after (state (ps ++ m ∷ ls) (qs ++ p ∷ os) fixed high) (leave_each c os) ≡ AllLeft c ps (l ∷ ls) qs (o ∷ os) fixed top) × (total (l ∷ ls) ≤ total (map (left_lock c) (l ∷ ls)))
further_left c ps ls qs os fixed top high l m o p em ep count grows h =
    let lists : state (ps ++ m ∷ ls) (qs ++ p ∷ os) fixed high ≡ state ((ps ++ m ∷ []) ++ ls) ((qs ++ p ∷ []) ++ os) fixed high =
    same_named (ps ++ m ∷ ls) ((ps ++ m ∷ []) ++ ls) (qs ++ p ∷ os) ((qs ++ p ∷ []) ++ os) fixed fixed high high (sym (append_assoc ps (m ∷ []) ls)) (sym (append_assoc qs (p ∷ []) os)) refl refl in
    let later : length (ps ++ m ∷ []) ≡ suc (length ps) = one_later ps m in
    let grants : m.ring.grants ≡ (left_lock c l).ring.grants = ap (λ (x : Lock). x.ring.grants) em in
    let more : total ls ≤ total (map (left_lock c) ls) = h.more in
    let top_is : high + (total (map (left_lock c) ls) - total ls) ≡ top + ((left_lock c l).ring.grants + total (map (left_lock c) ls) - (l.ring.grants + total ls)) = omega arith in
    let locks : (ps ++ m ∷ []) ++ map (left_lock c) ls ≡ ps ++ left_lock c l ∷ map (left_lock c) ls =
    append_assoc ps (m ∷ []) (map (left_lock c) ls) ∙ ap (λ (x : Lock). ps ++ x ∷ map (left_lock c) ls) em in
    let names : (qs ++ p ∷ []) ++ settled_names fixed (length (ps ++ m ∷ [])) (map (left_lock c) ls) os ≡ qs ++ settled_name fixed (length ps) (left_lock c l) o ∷ settled_names fixed (suc (length ps)) (map (left_lock c) ls) os =
    append_assoc qs (p ∷ []) (settled_names fixed (length (ps ++ m ∷ [])) (map (left_lock c) ls) os)
    ∙ ap (λ (n : ℕ). qs ++ p ∷ settled_names fixed n (map (left_lock c) ls) os) later
    ∙ ap (λ (x : Option Bound). qs ++ x ∷ settled_names fixed (suc (length ps)) (map (left_lock c) ls) os) ep in
    let sum : l.ring.grants + total ls ≤ (left_lock c l).ring.grants + total (map (left_lock c) ls) = omega arith in (
      ap (λ (s : Named). named_after s (leave_each c os)) lists ∙ h.same
          ∙ same_named ((ps ++ m ∷ []) ++ map (left_lock c) ls) (ps ++ left_lock c l ∷ map (left_lock c) ls) ((qs ++ p ∷ []) ++ settled_names fixed (length (ps ++ m ∷ [])) (map (left_lock c) ls) os)
          (qs ++ settled_name fixed (length ps) (left_lock c l) o ∷ settled_names fixed (suc (length ps)) (map (left_lock c) ls) os) fixed fixed (high + (total (map (left_lock c) ls) - total ls))
          (top + ((left_lock c l).ring.grants + total (map (left_lock c) ls) - (l.ring.grants + total ls))) locks names refl top_is,
      sum,
    )

shifted_said : (c : ℕ) (ps ls : List Lock) (qs os : List (Option Bound)) (fixed top : ℕ) (m : Lock) (p : Option Bound) → IsAllLeft c (ps ++ m ∷ []) ls (qs ++ p ∷ []) os fixed top →
    said_after (state (ps ++ m ∷ ls) (qs ++ p ∷ os) fixed top) (leave_each c os) ≡ each_said c ls os
shifted_said c ps ls qs os fixed top m p h =
    ap (λ (s : Named). said_after s (leave_each c os))
    (same_named (ps ++ m ∷ ls) ((ps ++ m ∷ []) ++ ls) (qs ++ p ∷ os) ((qs ++ p ∷ []) ++ os) fixed fixed top top (sym (append_assoc ps (m ∷ []) ls)) (sym (append_assoc qs (p ∷ []) os)) refl refl)
    ∙ h.said

shifted : (ps ls : List Lock) (qs os : List (Option Bound)) (fixed top : ℕ) (l : Lock) (o : Option Bound) → IsNamed (state (ps ++ l ∷ ls) (qs ++ o ∷ os) fixed top) → IsNamed (state ((ps ++ l ∷ []) ++ ls) ((qs ++ o ∷ []) ++ os) fixed top)
shifted ps ls qs os fixed top l o n =
    subst (λ (s : Named). IsNamed s)
    (same_named (ps ++ l ∷ ls) ((ps ++ l ∷ []) ++ ls) (qs ++ o ∷ os) ((qs ++ o ∷ []) ++ os) fixed fixed top top (sym (append_assoc ps (l ∷ []) ls)) (sym (append_assoc qs (o ∷ []) os)) refl refl) n

as_many : {X Y : Type 0} (xs : List X) (ys : List Y) (x : X) (y : Y) → length xs ≡ length ys → length (xs ++ x ∷ []) ≡ length (ys ++ y ∷ [])
as_many xs ys x y e = one_later xs x ∙ ap (λ (n : ℕ). suc n) e ∙ sym (one_later ys y)

names_left : (c : ℕ) (ps ls : List Lock) (qs os : List (Option Bound)) (fixed top : ℕ) → length qs ≡ length ps → length os ≡ length ls → IsNamed (state (ps ++ ls) (qs ++ os) fixed top) → IsAllLeft c ps ls qs os fixed top
names_left c ps [] qs [] fixed top p q n = record {
  said = refl;
  same = same_named (ps ++ []) (ps ++ []) (qs ++ []) (qs ++ []) fixed fixed top (top + (0 - 0)) refl refl refl (omega arith);
  more = omega arith;
}
names_left c ps [] qs (o ∷ os) fixed top p q n = absurd (omega (arith, q))
names_left c ps (l ∷ ls) qs [] fixed top p q n = absurd (omega (arith, q))
names_left c ps (l ∷ ls) qs (None ∷ os) fixed top p q n =
    let there : slice_get (ps ++ l ∷ ls) (length ps) ≡ Some l = get_mid ps ls l (length ps) refl in
    let entry : slice_get (qs ++ None ∷ os) (length ps) ≡ Some None = get_mid qs os None (length ps) (sym p) in
    let r = n.each (length ps) l None there entry in
    let same : left_lock c l ≡ l = unheld_left c l r.1 ((n.right.each (length ps) l there).held r.1) in
    let rest = names_left c (ps ++ l ∷ []) ls (qs ++ None ∷ []) os fixed top (as_many qs ps None l p) (omega (arith, q)) (shifted ps ls qs os fixed top l None n) in
    let all = further_left c ps ls qs os fixed top top l l None None (sym same) refl (omega arith) (omega arith) rest in
    record { said = shifted_said c ps ls qs os fixed top l None rest; same = all.0; more = all.1 }
names_left c ps (l ∷ ls) qs (Some b ∷ os) fixed top p q n =
    let s : Named = state (ps ++ l ∷ ls) (qs ++ Some b ∷ os) fixed top in
    let m : Lock = left_lock c l in
    let o : Option Bound = settled_name fixed (length ps) m (Some b) in
    let high : ℕ = top + (m.ring.grants - l.ring.grants) in
    let there : slice_get (ps ++ l ∷ ls) (length ps) ≡ Some l = get_mid ps ls l (length ps) refl in
    let entry : slice_get (qs ++ Some b ∷ os) (length ps) ≡ Some (Some b) = get_mid qs os (Some b) (length ps) (sym p) in
    let e : found b.name s.names ≡ Some (length ps, b) = found_there b.name s.names (length ps) b entry refl (λ j d f g. n.once j (length ps) d b f entry g) in
    let now : state (slice_set (ps ++ l ∷ ls) (length ps) m) (slice_set (qs ++ Some b ∷ os) (length ps) o) fixed high ≡ state (ps ++ m ∷ ls) (qs ++ o ∷ os) fixed high =
    same_named (slice_set (ps ++ l ∷ ls) (length ps) m) (ps ++ m ∷ ls) (slice_set (qs ++ Some b ∷ os) (length ps) o) (qs ++ o ∷ os) fixed fixed high high (set_mid ps ls l m (length ps) refl) (set_mid qs os (Some b) o (length ps) (sym p)) refl refl in
    let one : (step_named s (Of c b.name Leave)).named ≡ state (ps ++ m ∷ ls) (qs ++ o ∷ os) fixed high =
    ap (λ (x : Option (ℕ × Bound)). (at_name s c b.name Leave x).named) e ∙ ap (λ (x : NamedStep). x.named) (at_ring_is s c (length ps) b Leave l there) ∙ now in
    let later : IsNamed (state (ps ++ m ∷ ls) (qs ++ o ∷ os) fixed high) = subst (λ (z : Named). IsNamed z) one (named_step s (Of c b.name Leave) n tt) in
    let grows : l.ring.grants ≤ m.ring.grants = (moved s.locks l c Leave (n.right.each (length ps) l there).ring).more in
    let rest = names_left c (ps ++ m ∷ []) ls (qs ++ o ∷ []) os fixed high (as_many qs ps o m p) (omega (arith, q)) (shifted ps ls qs os fixed high m o later) in
    let all = further_left c ps ls qs os fixed top high l m (Some b) o refl refl refl grows rest in
    let said : (step_named s (Of c b.name Leave)).said ≡ one_said c l (Some b) = ap (λ (x : Option (ℕ × Bound)). (at_name s c b.name Leave x).said) e ∙ ap (λ (x : NamedStep). x.said) (at_ring_is s c (length ps) b Leave l there) in
    record {
      said =
          ap (λ (z : Named). (step_named s (Of c b.name Leave)).said ++ said_after z (leave_each c os)) one
          ∙ ap (λ (x : List Said). x ++ said_after (state (ps ++ m ∷ ls) (qs ++ o ∷ os) fixed high) (leave_each c os)) said
          ∙ ap (λ (x : List Said). one_said c l (Some b) ++ x) (shifted_said c ps ls qs os fixed high m o rest);
      same = ap (λ (z : Named). named_after z (leave_each c os)) one ∙ all.0;
      more = all.1;
    }

pub leaves_allowed : (s : Named) (c : ℕ) (os : List (Option Bound)) → AreAllowed s (leave_each c os)
leaves_allowed s c [] = tt
leaves_allowed s c (None ∷ os) = leaves_allowed s c os
leaves_allowed s c (Some b ∷ os) = (tt, leaves_allowed (step_named s (Of c b.name Leave)).named c os)

pub leaves_say : (s : Named) (c : ℕ) → IsNamed s → said_after s (leave_each c s.names) ≡ each_said c s.locks s.names
leaves_say s c n = (names_left c [] s.locks [] s.names s.fixed s.top refl n.many n).said

pub leaves_are_settled : LeavesAreSettled
leaves_are_settled s c n = (names_left c [] s.locks [] s.names s.fixed s.top refl n.many n).same ∙ ap (λ (ls : List Lock). settled s ls) (sym (locks_left c s.locks))
