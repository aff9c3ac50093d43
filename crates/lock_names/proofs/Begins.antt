-- Tables and counts of locks that begin to have names.
use Rattle.std.proofs.Common.{◌≡◌, ℕ, zero, suc, ◌+◌, ◌-◌, ◌^◌, ◌<◌, ◌≤◌, true, false, List, [], ◌∷◌, ◌++◌, map, length, take, Option, None, Some, inl, inr, refl, sym, ◌∙◌, ap, subst, arith}
use Rattle.std.specs.Prelude.{slice_get, is_some}
use Rattle.std.proofs.lemmas.Bool.{cases_eq, false≢true}
use Rattle.std.proofs.lemmas.List.{length-map}
use Rattle.std.proofs.lemmas.Option.{slice_get_within}
use Rattle.held_locks.specs.declared.answers.Holder.{Holder}
use Rattle.held_locks.specs.Queues.{Lock}
use Rattle.held_locks.specs.Kept.{LockView, lock_of, locks_of, AreKept}
use Rattle.lock_names.specs.Names.{Named, total}
use Rattle.lock_names.specs.Promises.{IsNamed, NoneHeld, begun, beginning}
use Rattle.lock_names.specs.Kept.{named_of, waiting, top_limit, IsKeptNamed}
use Rattle.lock_names.proofs.Beginning.{names_begin}
use Rattle.lock_names.proofs.Asking.{few_waiting, view_lock, lock_view}
use Rattle.name_bindings.proofs.FixedNames.{fixed_name}
use Rattle.name_bindings.proofs.Found.{some_same, none_some, not_some}
use Rattle.name_bindings.specs.Bindings.{AreDistinct, fixed_names, frees, Bound}

-- ---- the table

begun_by : (ns : List (List ℕ)) (ls : List Lock) (n : ℕ) → n + length ns ≡ length ls → fixed_names ns ++ frees n ≡ begun ns ls
begun_by [] [] zero e = refl
begun_by [] [] (suc n) e = absurd (omega (arith, e))
begun_by [] (l ∷ ls) zero e = absurd (omega (arith, e))
begun_by [] (l ∷ ls) (suc n) e = ap (λ (os : List (Option Bound)). None ∷ os) (begun_by [] ls n (omega (arith, e)))
begun_by (x ∷ ns) [] n e = absurd (omega (arith, e))
begun_by (x ∷ ns) (l ∷ ls) n e = ap (λ (os : List (Option Bound)). Some (fixed_name x) ∷ os) (begun_by ns ls n (omega (arith, e)))

pub begun_is : (ns : List (List ℕ)) (vs : List LockView) → length ns ≤ length vs → fixed_names ns ++ frees (length vs - length ns) ≡ begun ns (locks_of vs)
begun_is ns vs le =
    let many : length (locks_of vs) ≡ length vs = length-map vs lock_of in
    begun_by ns (locks_of vs) (length vs - length ns) (omega arith)

-- ---- grants

abbrev pub total_before : ℕ → List Lock → ℕ
total_before zero ls = 0
total_before (suc n) [] = 0
total_before (suc n) (l ∷ ls) = l.ring.grants + total_before n ls

before_more : (ls : List Lock) (k : ℕ) (l : Lock) → slice_get ls k ≡ Some l → total_before (suc k) ls ≡ total_before k ls + l.ring.grants
before_more [] k l e = absurd (none_some l e)
before_more (m ∷ ls) zero l e =
    let same : m.ring.grants ≡ l.ring.grants = ap (λ (x : Lock). x.ring.grants) (some_same m l e) in
    let sum : m.ring.grants + 0 ≡ 0 + l.ring.grants = omega arith in
    sum
before_more (m ∷ ls) (suc k) l e = let rest : total_before (suc k) ls ≡ total_before k ls + l.ring.grants = before_more ls k l e in omega arith

before_few : (ls : List Lock) (k : ℕ) → total_before k ls ≤ total ls
before_few ls zero = let le : 0 ≤ total ls = omega arith in le
before_few [] (suc k) = let le : 0 ≤ 0 = omega arith in le
before_few (l ∷ ls) (suc k) = let le : total_before k ls ≤ total ls = before_few ls k in omega arith

before_all : (ls : List Lock) → total_before (length ls) ls ≡ total ls
before_all [] = refl
before_all (l ∷ ls) = ap (λ (n : ℕ). l.ring.grants + n) (before_all ls)

pub counted : (ls : List Lock) (k n : ℕ) (l : Lock) → n ≡ k + 1 → slice_get ls k ≡ Some l → total_before n ls ≡ total_before k ls + l.ring.grants
counted ls k n l e at = let same : n ≡ suc k = omega arith in ap (λ (m : ℕ). total_before m ls) same ∙ before_more ls k l at

pub counted_most : (ls : List Lock) (k : ℕ) (l : Lock) → slice_get ls k ≡ Some l → total_before k ls + l.ring.grants ≤ total ls
counted_most ls k l at =
    let more : total_before (suc k) ls ≡ total_before k ls + l.ring.grants = before_more ls k l at in
    let few : total_before (suc k) ls ≤ total ls = before_few ls (suc k) in
    omega arith

pub counted_all : (vs : List LockView) (n : ℕ) → n ≡ length vs → total_before n (locks_of vs) ≡ total (locks_of vs)
counted_all vs n e = ap (λ (m : ℕ). total_before m (locks_of vs)) (e ∙ sym (length-map vs lock_of)) ∙ before_all (locks_of vs)

pub none_held : (vs : List LockView) → ((i : ℕ) (v : LockView) → i < length vs → slice_get vs i ≡ Some v → v.holder ≡ None) → NoneHeld (locks_of vs)
none_held vs h i l e =
    let w = lock_view vs i l e in
    ap (λ (x : Lock). x.holder) (sym w.2) ∙ h i w.0 (slice_get_within vs i w.0 w.1) w.1

-- ---- the beginning

pub begins : (vs : List LockView) (ns : List (List ℕ)) (os : List (Option Bound)) (fixed top : ℕ) → fixed ≡ length ns →
    os ≡ fixed_names ns ++ frees (length vs - length ns) → length ns ≤ length vs → top ≡ total (locks_of vs) → named_of (record { locks = vs; names = os; fixed = fixed; top = top }) ≡ beginning ns (locks_of vs)
begins vs ns os fixed top few e le sum =
    ap (λ (x : List (Option Bound)). record { locks = locks_of vs; names = x; fixed = fixed; top = top }) (e ∙ begun_is ns vs le)
    ∙ ap (λ (n : ℕ). record { locks = locks_of vs; names = begun ns (locks_of vs); fixed = n; top = top }) few
    ∙ ap (λ (n : ℕ). record { locks = locks_of vs; names = begun ns (locks_of vs); fixed = length ns; top = n }) sum

pub begins_kept : (vs : List LockView) (entries : List (ℕ × ℕ)) (ns : List (List ℕ)) (os : List (Option Bound)) (fixed top : ℕ) → AreKept vs entries → NoneHeld (locks_of vs) → AreDistinct ns →
    named_of (record { locks = vs; names = os; fixed = fixed; top = top }) ≡ beginning ns (locks_of vs) → top < top_limit → fixed ≤ length vs → IsKeptNamed (record { locks = vs; names = os; fixed = fixed; top = top })
begins_kept vs entries ns os fixed top k none apart e lt places =
    let few : waiting (locks_of vs) ≤ 4000000000000 = few_waiting vs entries k in
    let below : top < 2 ^ 63 = lt in
    let all : top + waiting (locks_of vs) < 2 ^ 64 = omega arith in
    record {
      named = subst (λ (s : Named). IsNamed s) (sym e) (names_begin ns (locks_of vs) k.right none apart);
      places = places;
      tokens = all;
    }

-- ---- what is found while names are added

pub held_one : (vs : List LockView) (i : ℕ) (v : LockView) → slice_get vs i ≡ Some v → is_some v.holder ≡ true → NoneHeld (locks_of vs) → ⊥
held_one vs i v at h none = false≢true (sym (ap (λ (o : Option Holder). is_some o) (none i (lock_of v) (view_lock vs i v at))) ∙ h)

pub one_more_free : (vs : List LockView) (k : ℕ) (w : LockView) → slice_get vs k ≡ Some w → is_some w.holder ≡ false → ((i : ℕ) (v : LockView) → i < k → slice_get vs i ≡ Some v → v.holder ≡ None) →
    (i : ℕ) (v : LockView) → i < k + 1 → slice_get vs i ≡ Some v → v.holder ≡ None
one_more_free vs k w at h free i v lt e = elim (cases_eq i k) [
  | inl q ↦
      let same : w ≡ v = some_same w v (sym at ∙ ap (λ (n : ℕ). slice_get vs n) (sym q) ∙ e) in
      ap (λ (x : LockView). x.holder) (sym same) ∙ not_some w.holder h
  | inr q ↦ free i v (omega (arith, q)) e
]

pub take_few : {X : Type 0} (k : ℕ) (xs : List X) → length (take k xs) ≤ length xs
take_few zero [] = let le : 0 ≤ 0 = omega arith in le
take_few zero (x ∷ xs) = let le : 0 ≤ suc (length xs) = omega arith in le
take_few (suc k) [] = let le : 0 ≤ 0 = omega arith in le
take_few (suc k) (x ∷ xs) = let le : length (take k xs) ≤ length xs = take_few k xs in let all : suc (length (take k xs)) ≤ suc (length xs) = omega arith in all

pub few_names : (ns : List (List ℕ)) (k : ℕ) (os : List (Option Bound)) → os ≡ fixed_names (take k ns) → length ns ≤ 1000000 → length os < 2 ^ 32
few_names ns k os e le =
    let many : length os ≡ length (fixed_names (take k ns)) = ap (λ (x : List (Option Bound)). length x) e in
    let mapped : length (fixed_names (take k ns)) ≡ length (take k ns) = length-map (take k ns) (λ (n : List ℕ). Some (fixed_name n)) in
    let least : length (take k ns) ≤ length ns = take_few k ns in
    omega arith

pub fixed_many : (ns : List (List ℕ)) → length (fixed_names ns) ≡ length ns
fixed_many ns = length-map ns (λ (n : List ℕ). Some (fixed_name n))

pub names_within : {X : Type 0} (f : X → List ℕ) (xs : List X) (most : ℕ) → length xs ≤ most → length (map f xs) ≤ most
names_within f xs most le = let many : length (map f xs) ≡ length xs = length-map xs f in omega arith

pub table_within : (ns : List (List ℕ)) (os : List (Option Bound)) (most : ℕ) → os ≡ fixed_names ns → length ns ≤ most → length os ≤ most
table_within ns os most e le =
    let many : length os ≡ length (fixed_names ns) = ap (λ (x : List (Option Bound)). length x) e in
    let mapped : length (fixed_names ns) ≡ length ns = length-map ns (λ (n : List ℕ). Some (fixed_name n)) in
    omega arith
