-- Names are right where they begin or come back, in the next segments, and where the pool grows.
use Rattle.std.proofs.Common.{◌≡◌, ℕ, zero, suc, ◌+◌, ◌≤◌, List, [], ◌∷◌, ◌++◌, length, Option, Some, None, inl, inr, sym, ap, subst, arith}
use Rattle.std.specs.List.{AllByRecursion}
use Rattle.std.proofs.lemmas.List.{length-map}
use Rattle.ring_model.specs.History.{State}
use Rattle.held_locks.specs.Queues.{Lock}
use Rattle.held_locks.specs.Kept.{LockView, state_of, lock_of, locks_of, lock_limit}
use Rattle.lock_protocol.specs.Names.{IsName}
use Rattle.lock_names.specs.Names.{Bound, Named, total, free_lock}
use Rattle.lock_names.specs.Promises.{IsNamed, begun, beginning}
use Rattle.lock_names.specs.Begun.{fixed_names}
use Rattle.lock_names.specs.Kept.{NamedView, named_of}
use Rattle.lock_names.specs.Restored.{restored}
use Rattle.lock_names.proofs.Found.{some_same, none_some, pushed}
use Rattle.lock_names.proofs.Beginning.{names_begin}
use Rattle.name_service.specs.RightNames.{AreSpelled, AreRightNames, BegunNamesAreRight, RestoredNamesAreRight, RightNamesStay, RightNamesContinue, RightNamesGrow}
use Rattle.name_service.proofs.RightNames.{lines_right}

-- ---- names of lists

fixed_spelled : (ns : List (List ℕ)) (os : List (Option Bound)) → AllByRecursion IsName ns → AreSpelled os → AreSpelled (fixed_names ns ++ os)
fixed_spelled [] os all more ring b e = more ring b e
fixed_spelled (n ∷ ns) os all more zero b e = subst (λ (z : Bound). IsName z.name) (some_same (record { name = n; before = 0; floor = 0 }) b (some_same (Some (record { name = n; before = 0; floor = 0 })) (Some b) e)) all.0
fixed_spelled (n ∷ ns) os all more (suc ring) b e = fixed_spelled ns os all.1 more ring b e

begun_spelled : (ns : List (List ℕ)) (ls : List Lock) → AllByRecursion IsName ns → AreSpelled (begun ns ls)
begun_spelled ns [] all ring b e = absurd (none_some (Some b) e)
begun_spelled [] (l ∷ ls) all zero b e = absurd (none_some b (some_same None (Some b) e))
begun_spelled [] (l ∷ ls) all (suc ring) b e = begun_spelled [] ls all ring b e
begun_spelled (n ∷ ns) (l ∷ ls) all zero b e = subst (λ (z : Bound). IsName z.name) (some_same (record { name = n; before = 0; floor = 0 }) b (some_same (Some (record { name = n; before = 0; floor = 0 })) (Some b) e)) all.0
begun_spelled (n ∷ ns) (l ∷ ls) all (suc ring) b e = begun_spelled ns ls all.1 ring b e

-- ---- where they begin

-- the state is right, and these are the locks
right_of : (v : NamedView) (s : Named) → named_of v ≡ s → IsNamed s → AreSpelled s.names → total s.locks ≤ s.top → length v.locks ≤ lock_limit → AreRightNames v
right_of v s e named spelled counted few = record {
  named = subst (λ (z : Named). IsNamed z) (sym e) named;
  spelled = subst (λ (z : Named). AreSpelled z.names) (sym e) spelled;
  counted = subst (λ (z : Named). total z.locks ≤ z.top) (sym e) counted;
  few = few;
}

pub begun_names_are_right : BegunNamesAreRight
begun_names_are_right vs ns v right none apart names few b =
    let ls : List Lock = locks_of vs in
    let all : total ls ≤ total ls = omega arith in
    right_of v (beginning ns ls) b.state (names_begin ns ls right none apart) (begun_spelled ns ls names) all (subst (λ (ws : List LockView). length ws ≤ lock_limit) (sym b.locks) few)

pub restored_names_are_right : RestoredNamesAreRight
restored_names_are_right vs ns os top v names spelled few r =
    right_of v (restored (locks_of vs) ns os top) r.state r.named (fixed_spelled ns os names spelled) r.counted (subst (λ (ws : List LockView). length ws ≤ lock_limit) (sym r.locks) few)

pub right_names_stay : RightNamesStay
right_names_stay terms old new lines said noted right a = let s = lines_right terms old new lines said noted right a in (s.right, s.more)

-- ---- the next segments

pub right_names_continue : RightNamesContinue
right_names_continue old new right n =
    let locks : length (locks_of new.locks) ≡ length (locks_of old.locks) = ap (λ (s : Named). length s.locks) n.named in
    let was : length (locks_of old.locks) ≡ length old.locks = length-map old.locks lock_of in
    let is : length (locks_of new.locks) ≡ length new.locks = length-map new.locks lock_of in
    let few : length old.locks ≤ lock_limit = right.few in
    right_of new (named_of old) n.named right.named right.spelled right.counted (omega arith)

total_last : (ls : List Lock) (m : Lock) → total (ls ++ m ∷ []) ≡ total ls + m.ring.grants
total_last [] m = let sum : m.ring.grants + 0 ≡ 0 + m.ring.grants = omega arith in sum
total_last (l ∷ ls) m = let rest : total (ls ++ m ∷ []) ≡ total ls + m.ring.grants = total_last ls m in omega arith

more_spelled : (os : List (Option Bound)) → AreSpelled os → AreSpelled (os ++ None ∷ [])
more_spelled os all ring b e = elim (pushed os None ring (Some b) e) [
  | inl p ↦ all ring b p
  | inr p ↦ absurd (none_some b (sym p.1))
]

pub right_names_grow : RightNamesGrow
right_names_grow old new e right g kept few =
    let a : State ℕ = state_of g.added.ring in
    let locks : total (locks_of new.locks) ≡ total (locks_of old.locks ++ free_lock a ∷ []) = ap (λ (s : Named). total s.locks) g.named in
    let sum : total (locks_of old.locks ++ free_lock a ∷ []) ≡ total (locks_of old.locks) + a.grants = total_last (locks_of old.locks) (free_lock a) in
    let top : new.top ≡ old.top + a.grants = ap (λ (s : Named). s.top) g.named in
    let counted : total (locks_of old.locks) ≤ old.top = right.counted in
    let names : new.names ≡ old.names ++ None ∷ [] = ap (λ (s : Named). s.names) g.named in
    record {
      named = kept.named;
      spelled = subst (λ (os : List (Option Bound)). AreSpelled os) (sym names) (more_spelled old.names right.spelled);
      counted = omega arith;
      few = few;
    }
