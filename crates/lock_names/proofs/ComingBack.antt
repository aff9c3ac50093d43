-- What is kept of a state brings it back.
use Rattle.std.proofs.Common.{◌≡◌, ℕ, ◌+◌, ◌-◌, ◌<◌, ◌≤◌, Bool, true, false, List, [], ◌∷◌, ◌++◌, length, map, take, drop, Option, None, Some, inl, inr, refl, sym, ◌∙◌, ap, subst, arith}
use Rattle.std.specs.Prelude.{slice_get, slice_set, nat_lt, is_some, ◌||◌}
use Rattle.std.proofs.lemmas.Bool.{ltb-true, ltb-false}
use Rattle.std.proofs.lemmas.List.{take-append-le, take-append-drop, take-set-le}
use Rattle.std.proofs.Math.Seq.{take-append_seam}
use Rattle.ring_model.specs.History.{State}
use Rattle.held_locks.specs.Queues.{Lock, holder_of}
use Rattle.held_locks.specs.Locks.{Ask, Acquire, Try, Release, Cancel, Leave, Corrupt, Stats, restarted, step, Asked}
use Rattle.lock_names.specs.Names.{Bound, Named, NamedInput, Of, Again, More, of_ring, total, free_lock, found, free, fresh, kept, at_ring, given, at_none, at_name, restarted_named, grown, step_named, named_after}
use Rattle.lock_names.specs.Promises.{IsRightName, IsNamed, IsAllowed, AreAllowed, begun}
use Rattle.name_bindings.specs.Bindings.{fixed_names}
use Rattle.lock_names.specs.Restored.{IsOfFixed, ComesBack, NamesComeBack, FixedBegin, FixedComeBack}
use Rattle.name_bindings.proofs.Found.{none_some}
use Rattle.lock_names.proofs.Fitting.{Fits, fits_found, fits_free, named_step, named_stays, named_restarted}
use Rattle.lock_names.proofs.Taking.{same_named, set_same}
use Rattle.lock_names.proofs.Begins.{fixed_many}

-- ---- grants

total_restarted : (ls : List Lock) → total (map restarted ls) ≡ total ls
total_restarted [] = refl
total_restarted (l ∷ ls) = ap (λ (n : ℕ). l.ring.grants + n) (total_restarted ls)

total_pushed : (ls : List Lock) (m : Lock) → total (ls ++ m ∷ []) ≡ total ls + m.ring.grants
total_pushed [] m = let sum : m.ring.grants + 0 ≡ 0 + m.ring.grants = omega arith in sum
total_pushed (l ∷ ls) m = let rest : total (ls ++ m ∷ []) ≡ total ls + m.ring.grants = total_pushed ls m in omega arith

more_counted : (low was now : ℕ) → was ≤ low → now ≤ low + (now - was)
more_counted low was now le = omega (arith, le)

-- ---- an ask

-- the ring of a fixed lock keeps its name, and another one is none of the first
first_set : (fixed k i : ℕ) (ls : List Lock) (os : List (Option Bound)) (b : Bound) → k ≡ fixed → (i < fixed → slice_get os i ≡ Some (Some b)) → (low : Bool) → nat_lt i fixed ≡ low →
    take k (slice_set os i (kept (low || is_some (holder_of (slice_get ls i))) b)) ≡ take k os
first_set fixed k i ls os b e at true q = ap (λ (x : List (Option Bound)). take k x) (set_same os i (Some b) (at (ltb-true i fixed q)))
first_set fixed k i ls os b e at false q =
    let le : fixed ≤ i = ltb-false i fixed q in
    take-set-le k os i (kept (is_some (holder_of (slice_get ls i))) b) (omega (arith, e, le))

fixed_bound : (fixed top i : ℕ) (l : Lock) (o : Option Bound) → IsRightName fixed top i l o → o ≡ None → i < fixed → ⊥
fixed_bound fixed top i l None r e lt = let le : fixed ≤ i = r.0 in omega (arith, lt)
fixed_bound fixed top i l (Some d) r e lt = none_some d (sym e)

entry_fixed : (s : Named) (i : ℕ) (b : Bound) → IsNamed s → Fits s i b → i < s.fixed → slice_get s.names i ≡ Some (Some b)
entry_fixed s i b n f lt = elim f.which [
  | inl e ↦ f.entry ∙ ap (λ (o : Option Bound). Some o) e
  | inr e ↦ absurd (fixed_bound s.fixed s.top i f.lock f.was (n.each i f.lock f.was f.there f.entry) e.0 lt)
]

of_ring_asked : (ns : List (List ℕ)) (s : Named) (c i : ℕ) (b : Bound) (ask : Ask) → IsNamed s → IsOfFixed ns s → Fits s i b → IsOfFixed ns (at_ring s c i b ask).named
of_ring_asked ns s c i b ask n o f =
    let ls : List Lock = (step s.locks (Asked c i (of_ring b ask))).locks in
    record {
      many = o.many;
      first = first_set s.fixed (length ns) i ls s.names b (sym o.many) (λ lt. entry_fixed s i b n f lt) (nat_lt i s.fixed) refl ∙ o.first;
      counted = more_counted s.top (total s.locks) (total ls) o.counted;
    }

of_given : (ns : List (List ℕ)) (s : Named) (c : ℕ) (x : List ℕ) (ask : Ask) (q : Option ℕ) → IsNamed s → IsOfFixed ns s → found x s.names ≡ None → free s.names ≡ q → IsOfFixed ns (given s c x ask q).named
of_given ns s c x ask None n o e f = o
of_given ns s c x ask (Some i) n o e f = of_ring_asked ns s c i (fresh s x i) ask n o (fits_free s x i n e f)

of_none : (ns : List (List ℕ)) (s : Named) (c : ℕ) (x : List ℕ) (ask : Ask) → IsNamed s → IsOfFixed ns s → found x s.names ≡ None → IsOfFixed ns (at_none s c x ask).named
of_none ns s c x (Acquire label) n o e = of_given ns s c x (Acquire label) (free s.names) n o e refl
of_none ns s c x (Try label) n o e = of_given ns s c x (Try label) (free s.names) n o e refl
of_none ns s c x (Release token) n o e = o
of_none ns s c x Cancel n o e = o
of_none ns s c x Leave n o e = o
of_none ns s c x (Corrupt i v) n o e = o
of_none ns s c x Stats n o e = o

of_name : (ns : List (List ℕ)) (s : Named) (c : ℕ) (x : List ℕ) (ask : Ask) (p : Option (ℕ × Bound)) → IsNamed s → IsOfFixed ns s → found x s.names ≡ p → IsOfFixed ns (at_name s c x ask p).named
of_name ns s c x ask None n o e = of_none ns s c x ask n o e
of_name ns s c x ask (Some p) n o e = of_ring_asked ns s c p.0 p.1 ask n o (fits_found s x p n e)

-- ---- any input

of_restart : (ns : List (List ℕ)) (s : Named) → IsOfFixed ns s → IsOfFixed ns (restarted_named s)
of_restart ns s o = record { many = o.many; first = o.first; counted = subst (λ (n : ℕ). n ≤ s.top) (sym (total_restarted s.locks)) o.counted }

of_grown : (ns : List (List ℕ)) (s : Named) (a : State ℕ) → IsNamed s → IsOfFixed ns s → s.fixed ≤ length s.locks → IsOfFixed ns (grown s a)
of_grown ns s a n o le =
    let many : s.fixed ≡ length ns = o.many in
    let same : length s.names ≡ length s.locks = n.many in
    let sum : total (s.locks ++ free_lock a ∷ []) ≡ total s.locks + a.grants = total_pushed s.locks (free_lock a) in
    let few : total s.locks ≤ s.top = o.counted in
    let all : total (s.locks ++ free_lock a ∷ []) ≤ s.top + a.grants = omega arith in
    record {
      many = o.many;
      first = take-append-le (length ns) s.names (None ∷ []) (omega (arith, le)) ∙ o.first;
      counted = all;
    }

of_step : (ns : List (List ℕ)) (s : Named) (i : NamedInput) → IsNamed s → IsOfFixed ns s → IsAllowed s i → IsOfFixed ns (step_named s i).named
of_step ns s (Of c x ask) n o w = of_name ns s c x ask (found x s.names) n o refl
of_step ns s Again n o w = of_restart ns s o
of_step ns s (More a) n o w = of_grown ns s a n o w.2

of_after : (ns : List (List ℕ)) (s : Named) (is : List NamedInput) → IsNamed s → IsOfFixed ns s → AreAllowed s is → IsOfFixed ns (named_after s is)
of_after ns s [] n o w = o
of_after ns s (i ∷ is) n o w = of_after ns (step_named s i).named is (named_step s i n w.0) (of_step ns s i n o w.0) w.1

-- ---- what comes back

comes_back : (ns : List (List ℕ)) (t : Named) → IsNamed t → IsOfFixed ns t → ComesBack ns t
comes_back ns t n o =
    let ls : List Lock = map restarted t.locks in
    record {
      state = same_named ls ls t.names (fixed_names ns ++ drop t.fixed t.names) t.fixed (length ns) t.top t.top refl
          (sym (take-append-drop (length ns) t.names) ∙ ap (λ (x : List (Option Bound)). x ++ drop (length ns) t.names) o.first
          ∙ ap (λ (k : ℕ). fixed_names ns ++ drop k t.names) (sym o.many))
          o.many refl;
      right = named_restarted t n;
      counted = (of_restart ns t o).counted;
    }

pub names_come_back : NamesComeBack
names_come_back ns s is n o w = comes_back ns (named_after s is) (named_stays s is n w) (of_after ns s is n o w)

-- ---- where it begins

first_begun : (ns : List (List ℕ)) (ls : List Lock) → length ns ≤ length ls → take (length ns) (begun ns ls) ≡ fixed_names ns
first_begun [] [] le = refl
first_begun [] (l ∷ ls) le = refl
first_begun (n ∷ ns) [] le = absurd (omega (arith, le))
first_begun (n ∷ ns) (l ∷ ls) le = ap (λ (os : List (Option Bound)). Some (record { name = n; before = 0; floor = 0 }) ∷ os) (first_begun ns ls (omega (arith, le)))

pub fixed_begin : FixedBegin
fixed_begin ns ls le = record { many = refl; first = first_begun ns ls le; counted = let same : total ls ≤ total ls = omega arith in same }

pub fixed_come_back : FixedComeBack
fixed_come_back ns ls os top le = record {
  many = refl;
  first = ap (λ (k : ℕ). take k (fixed_names ns ++ os)) (sym (fixed_many ns)) ∙ take-append_seam (fixed_names ns) os;
  counted = le;
}
