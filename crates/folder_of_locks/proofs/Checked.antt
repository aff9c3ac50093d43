-- Locks that are checked one after the other.
use Rattle.std.proofs.Common.{◌≡◌, ◌∙◌, ◌+◌, ◌<◌, ◌≤◌, ◌↔◌, ℕ, zero, suc, List, [], ◌∷◌, ◌++◌, length, take, drop, map, get_or, Err, Some, sym, ap, subst, refl, arith}
use Rattle.std.specs.Prelude.{All, slice_get, IsErrOf}
use Rattle.std.proofs.lemmas.List.{take_more, take_all, take-append-drop}
use Rattle.std.proofs.lemmas.List.Elements.{All-append}
use Rattle.std.proofs.lemmas.Option.{slice_get-map, slice_get-get_or}
use Rattle.ring_model.specs.Limits.{machine_limit, value_limit}
use Rattle.ring_state.specs.Sizes.{Size, IsSize}
use Rattle.ring_state.specs.declared.sizes.ParamsError.{ParamsError}
use Rattle.ring_state.specs.declared.sizes.ParamsError.TheVariants as params
use Rattle.folder_of_locks.specs.declared.locks.ListedLock.{ListedLock}
use Rattle.folder_of_locks.specs.Lists.{Listed, listed, size_of, IsSizeFault}

pub map-append : {A B : Type 0} (f : A → B) (xs ys : List A) → map f (xs ++ ys) ≡ map f xs ++ map f ys
map-append f [] ys = refl
map-append f (x ∷ xs) ys = ap (λ t. f x ∷ t) (map-append f xs ys)

-- a lock more
pub grown : (locks : List ListedLock) (i : ℕ) (d : ListedLock) → i < length locks → map listed (take (i + 1) locks) ≡ map listed (take i locks) ++ listed (get_or locks i d) ∷ []
grown locks i d lt = ap (map listed) (take_more locks i d lt) ∙ map-append listed (take i locks) (get_or locks i d ∷ [])

-- the lock at a place
pub got : (locks : List ListedLock) (i : ℕ) (d : ListedLock) → i < length locks → slice_get (map listed locks) i ≡ Some (listed (get_or locks i d))
got locks i d lt = slice_get-map listed locks i ∙ rw (slice_get-get_or locks i d lt) refl

-- a list continues another, of which all were compared
pub continues : (old new : List ListedLock) (i : ℕ) → length old ≤ i → map listed (take i new) ≡ map listed (take i old) → (more : List Listed) × (map listed new ≡ map listed old ++ more)
continues old new i le same = (
  map listed (drop i new),
  ap (map listed) (sym (take-append-drop i new)) ∙ map-append listed (take i new) (drop i new) ∙ ap (λ (u : List Listed). u ++ map listed (drop i new)) (same ∙ ap (map listed) (take_all i old le)),
)

pub size_fault : (l : Listed) (e : ParamsError) → (IsErrOf {T = Size} (Err e) params.TooFew ↔ l.n < 2) → (IsErrOf {T = Size} (Err e) params.TooMany ↔ machine_limit < l.n) →
    (IsErrOf {T = Size} (Err e) params.FewValues ↔ (2 ≤ l.n) × (l.n ≤ machine_limit) × (l.k < l.n)) → (IsErrOf {T = Size} (Err e) params.ManyValues ↔ (2 ≤ l.n) × (l.n ≤ machine_limit) × (value_limit < l.k)) → IsSizeFault l e
size_fault l params.TooFew a b f m = a.0 refl
size_fault l params.TooMany a b f m = b.0 refl
size_fault l params.FewValues a b f m = f.0 refl
size_fault l params.ManyValues a b f m = m.0 refl

-- the size of the lock at a place is refused
pub fault_at : (locks : List ListedLock) (i : ℕ) (d : ListedLock) → i < length locks → (e : ParamsError) → let l : Listed = listed (get_or locks i d) in (IsErrOf {T = Size} (Err e) params.TooFew ↔ l.n < 2) →
    (IsErrOf {T = Size} (Err e) params.TooMany ↔ machine_limit < l.n) → (IsErrOf {T = Size} (Err e) params.FewValues ↔ (2 ≤ l.n) × (l.n ≤ machine_limit) × (l.k < l.n)) →
    (IsErrOf {T = Size} (Err e) params.ManyValues ↔ (2 ≤ l.n) × (l.n ≤ machine_limit) × (value_limit < l.k)) → (x : Listed) × (slice_get (map listed locks) i ≡ Some x) × IsSizeFault x e
fault_at locks i d lt e a b f m = (listed (get_or locks i d), got locks i d lt, size_fault (listed (get_or locks i d)) e a b f m)

only : {X : Type 0} (P : X → Type 0) (x : X) → P x → All P (x ∷ [])
only P x h zero d lt = h
only P x h (suc i) d lt = absurd (omega arith)

-- a lock more of an allowed size
pub one_more : (locks : List ListedLock) (i : ℕ) (d : ListedLock) → i < length locks → All IsSize (map size_of (map listed (take i locks))) → IsSize (size_of (listed (get_or locks i d))) → All IsSize (map size_of (map listed (take (i + 1) locks)))
one_more locks i d lt before size =
    let l = listed (get_or locks i d) in
    let more : map size_of (map listed (take (i + 1) locks)) ≡ map size_of (map listed (take i locks)) ++ size_of l ∷ [] = ap (map size_of) (grown locks i d lt) ∙ map-append size_of (map listed (take i locks)) (l ∷ []) in
    subst (All IsSize) (sym more) (All-append IsSize (map size_of (map listed (take i locks))) (size_of l ∷ []) before (only IsSize (size_of l) size))

-- all locks have one
pub all_sized : (locks : List ListedLock) (i : ℕ) → length locks ≤ i → All IsSize (map size_of (map listed (take i locks))) → All IsSize (map size_of (map listed locks))
all_sized locks i le h = subst (λ (x : List ListedLock). All IsSize (map size_of (map listed x))) (take_all i locks le) h
