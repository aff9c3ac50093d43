-- Rings that are looked at one after the other.
use Rattle.std.proofs.Common.{◌≡◌, ◌∙◌, ◌+◌, ◌-◌, ◌≤◌, ℕ, zero, suc, List, [], ◌∷◌, ◌++◌, length, take, drop, Option, Some, None, refl, sym, ap, append_assoc, append-nil, arith}
use Rattle.std.specs.Prelude.{slice_get, option_map}
use Rattle.std.proofs.lemmas.List.{take_all, length-drop, map-append}
use Rattle.saved_history.specs.declared.saved.SavedRing.{SavedRing}
use Rattle.one_thread_ring.specs.Journals.{event_lines}
use Rattle.held_locks.specs.Kept.{LockView}
use Rattle.lock_names.specs.Names.{Bound}
use Rattle.lock_names.specs.declared.table.Binding.{Binding as Kept}
use Rattle.lock_names.specs.Table.{bound_of, bounds_of}
use Rattle.name_remarks.specs.Remarks.{Binding}
use Rattle.name_remarks.specs.Bindings.{bound_at}
use Rattle.folder_of_locks.specs.NameRings.{name_held, names_held, free_line, free_lines, repair_lines}

-- ---- places of lists

none_some : {X : Type 0} (x : X) → ◌≡◌ {A = Option X} None (Some x) → ⊥
none_some x e = cc

some_is : {X : Type 0} (x y : X) → Some x ≡ Some y → x ≡ y
some_is x y e = cc

pub take_next : {X : Type 0} (xs : List X) (i : ℕ) (x : X) → slice_get xs i ≡ Some x → take (suc i) xs ≡ take i xs ++ x ∷ []
take_next [] i x e = absurd (none_some x e)
take_next (y ∷ xs) zero x e = ap (λ z. z ∷ []) (some_is y x e)
take_next (y ∷ xs) (suc i) x e = ap (λ u. y ∷ u) (take_next xs i x e)

pub get_after : {X : Type 0} (xs : List X) (n i : ℕ) → slice_get (drop n xs) i ≡ slice_get xs (n + i)
get_after xs zero i = ap (λ (m : ℕ). slice_get xs m) (let e : i ≡ 0 + i = omega arith in e)
get_after [] (suc n) i = refl
get_after (x ∷ xs) (suc n) i = get_after xs n i ∙ ap (λ (m : ℕ). slice_get (x ∷ xs) m) (let e : suc (n + i) ≡ suc n + i = omega arith in e)

length_take_next : {X : Type 0} (xs : List X) (i : ℕ) (x : X) → slice_get xs i ≡ Some x → length (take i xs) ≡ i
length_take_next [] i x e = absurd (none_some x e)
length_take_next (y ∷ xs) zero x e = refl
length_take_next (y ∷ xs) (suc i) x e = ap suc (length_take_next xs i x e)

-- the ring at a place, among those after the fixed ones
pub there_after : (vs : List LockView) (fixed ring : ℕ) (v : LockView) → fixed ≤ ring → slice_get vs ring ≡ Some v → slice_get (drop fixed vs) (ring - fixed) ≡ Some v
there_after vs fixed ring v le e = get_after vs fixed (ring - fixed) ∙ (ap (λ (i : ℕ). slice_get vs i) (let same : fixed + (ring - fixed) ≡ ring = omega (arith, le) in same) ∙ e)

-- ---- names

names_more : (i : ℕ) (os : List (Option Binding)) (vs : List LockView) (v : LockView) → names_held i os (vs ++ v ∷ []) ≡ names_held i os vs ++ name_held v.holder (bound_at os (i + length vs)) ∷ []
names_more i os [] v = ap (λ (m : ℕ). name_held v.holder (bound_at os m) ∷ []) (let e : i ≡ i + 0 = omega arith in e)
names_more i os (w ∷ vs) v =
    ap (λ (u : List (Option Bound)). name_held w.holder (bound_at os i) ∷ u)
    (names_more (suc i) os vs v ∙ ap (λ (m : ℕ). names_held (suc i) os vs ++ name_held v.holder (bound_at os m) ∷ []) (let e : suc i + length vs ≡ i + suc (length vs) = omega arith in e))

-- the name of one ring more
pub name_more : (fixed ring : ℕ) (os : List (Option Binding)) (vs : List LockView) (v : LockView) → fixed ≤ ring → slice_get vs ring ≡ Some v →
    names_held fixed os (take ((ring + 1) - fixed) (drop fixed vs)) ≡ names_held fixed os (take (ring - fixed) (drop fixed vs)) ++ name_held v.holder (bound_at os ring) ∷ []
name_more fixed ring os vs v le e =
    let at : slice_get (drop fixed vs) (ring - fixed) ≡ Some v = there_after vs fixed ring v le e in
    let next : (ring + 1) - fixed ≡ suc (ring - fixed) = omega (arith, le) in
    let front : List LockView = take (ring - fixed) (drop fixed vs) in
    let here : fixed + length front ≡ ring = let l : length front ≡ ring - fixed = length_take_next (drop fixed vs) (ring - fixed) v at in omega (arith, l, le) in
    ap (λ (n : ℕ). names_held fixed os (take n (drop fixed vs))) next
    ∙ (ap (names_held fixed os) (take_next (drop fixed vs) (ring - fixed) v at)
    ∙ (names_more fixed os front v ∙ ap (λ (m : ℕ). names_held fixed os front ++ name_held v.holder (bound_at os m) ∷ []) here))

-- the same, as they are kept
pub bounds_more : (fixed ring : ℕ) (os : List (Option Binding)) (vs : List LockView) (v : LockView) (old new : List (Option Kept)) (name : Option Kept) → fixed ≤ ring → slice_get vs ring ≡ Some v → bounds_of old ≡ names_held fixed os (take (ring - fixed) (drop fixed vs)) →
    new ≡ old ++ name ∷ [] → option_map bound_of name ≡ name_held v.holder (bound_at os ring) → bounds_of new ≡ names_held fixed os (take ((ring + 1) - fixed) (drop fixed vs))
bounds_more fixed ring os vs v old new name le e so_far pushed is =
    ap bounds_of pushed ∙ (map-append (λ (o : Option Kept). option_map bound_of o) old (name ∷ []) ∙ ((λ k. so_far k ++ is k ∷ []) ∙ sym (name_more fixed ring os vs v le e)))

pub all_after : (fixed count : ℕ) (vs : List LockView) → length vs ≤ count → take (count - fixed) (drop fixed vs) ≡ drop fixed vs
all_after fixed count vs le = take_all (count - fixed) (drop fixed vs) (let l : length (drop fixed vs) ≡ length vs - fixed = length-drop fixed vs in omega (arith, l, le))

-- ---- lines of names that rings have lost

frees_more : (i : ℕ) (os : List (Option Binding)) (vs : List LockView) (v : LockView) → free_lines i os (vs ++ v ∷ []) ≡ free_lines i os vs ++ free_line (i + length vs) v.holder (bound_at os (i + length vs))
frees_more i os [] v =
    append-nil (free_line i v.holder (bound_at os i)) ∙ ap (λ (m : ℕ). free_line m v.holder (bound_at os m)) (let e : i ≡ i + 0 = omega arith in e)
frees_more i os (w ∷ vs) v =
    let one : List ℕ = free_line i w.holder (bound_at os i) in
    let rest : List ℕ = free_lines (suc i) os vs in
    ap (λ (u : List ℕ). one ++ u) (frees_more (suc i) os vs v)
    ∙ (ap (λ (m : ℕ). one ++ (rest ++ free_line m v.holder (bound_at os m))) (let e : suc i + length vs ≡ i + suc (length vs) = omega arith in e)
    ∙ sym (append_assoc one rest (free_line (i + suc (length vs)) v.holder (bound_at os (i + suc (length vs))))))

pub free_more : (fixed ring : ℕ) (os : List (Option Binding)) (vs : List LockView) (v : LockView) → fixed ≤ ring → slice_get vs ring ≡ Some v →
    free_lines fixed os (take ((ring + 1) - fixed) (drop fixed vs)) ≡ free_lines fixed os (take (ring - fixed) (drop fixed vs)) ++ free_line ring v.holder (bound_at os ring)
free_more fixed ring os vs v le e =
    let at : slice_get (drop fixed vs) (ring - fixed) ≡ Some v = there_after vs fixed ring v le e in
    let next : (ring + 1) - fixed ≡ suc (ring - fixed) = omega (arith, le) in
    let front : List LockView = take (ring - fixed) (drop fixed vs) in
    let here : fixed + length front ≡ ring = let l : length front ≡ ring - fixed = length_take_next (drop fixed vs) (ring - fixed) v at in omega (arith, l, le) in
    ap (λ (n : ℕ). free_lines fixed os (take n (drop fixed vs))) next
    ∙ (ap (free_lines fixed os) (take_next (drop fixed vs) (ring - fixed) v at)
    ∙ (frees_more fixed os front v ∙ ap (λ (m : ℕ). free_lines fixed os front ++ free_line m v.holder (bound_at os m)) here))

-- ---- lines of repairs

abbrev pub repaired : ℕ → SavedRing → LockView → List ℕ
repaired i s v = event_lines i (drop (length s.events.items) v.ring.ring.book.history)

repairs_more : (k i : ℕ) (ss : List SavedRing) (vs : List LockView) (s : SavedRing) (v : LockView) → slice_get ss i ≡ Some s → slice_get vs i ≡ Some v → repair_lines k (take (suc i) ss) vs ≡ repair_lines k (take i ss) vs ++ repaired (k + i) s v
repairs_more k i [] vs s v e f = absurd (none_some s e)
repairs_more k i (t ∷ ss) [] s v e f = absurd (none_some v f)
repairs_more k zero (t ∷ ss) (w ∷ vs) s v e f =
    append-nil (repaired k t w) ∙ (ap (λ (x : SavedRing). repaired k x w) (some_is t s e) ∙ (ap (repaired k s) (some_is w v f) ∙ ap (λ (m : ℕ). repaired m s v) (let z : k ≡ k + 0 = omega arith in z)))
repairs_more k (suc i) (t ∷ ss) (w ∷ vs) s v e f =
    let one : List ℕ = repaired k t w in
    let rest : List ℕ = repair_lines (suc k) (take i ss) vs in
    ap (λ (u : List ℕ). one ++ u) (repairs_more (suc k) i ss vs s v e f)
    ∙ (ap (λ (m : ℕ). one ++ (rest ++ repaired m s v)) (let z : suc k + i ≡ k + suc i = omega arith in z) ∙ sym (append_assoc one rest (repaired (k + suc i) s v)))

pub repair_more : (ring : ℕ) (ss : List SavedRing) (vs : List LockView) (s : SavedRing) (v : LockView) → slice_get ss ring ≡ Some s → slice_get vs ring ≡ Some v →
    repair_lines 0 (take (ring + 1) ss) vs ≡ repair_lines 0 (take ring ss) vs ++ event_lines ring (drop (length s.events.items) v.ring.ring.book.history)
repair_more ring ss vs s v e f = ap (λ (n : ℕ). repair_lines 0 (take n ss) vs) (let z : ring + 1 ≡ suc ring = omega arith in z)
    ∙ (repairs_more 0 ring ss vs s v e f ∙ ap (λ (m : ℕ). repair_lines 0 (take ring ss) vs ++ repaired m s v) (let z : 0 + ring ≡ ring = omega arith in z))

-- ---- texts to which they are added

pub frees_added : (fixed ring : ℕ) (os : List (Option Binding)) (vs : List LockView) (v : LockView) (old now new : List ℕ) → fixed ≤ ring → slice_get vs ring ≡ Some v → now ≡ old ++ free_lines fixed os (take (ring - fixed) (drop fixed vs)) →
    new ≡ now ++ free_line ring v.holder (bound_at os ring) → new ≡ old ++ free_lines fixed os (take ((ring + 1) - fixed) (drop fixed vs))
frees_added fixed ring os vs v old now new le e so_far added =
    let line : List ℕ = free_line ring v.holder (bound_at os ring) in
    let lines : List ℕ = free_lines fixed os (take (ring - fixed) (drop fixed vs)) in
    added ∙ (ap (λ (u : List ℕ). u ++ line) so_far ∙ (append_assoc old lines line ∙ ap (λ (u : List ℕ). old ++ u) (sym (free_more fixed ring os vs v le e))))

pub repairs_added : (ring : ℕ) (ss : List SavedRing) (vs : List LockView) (s : SavedRing) (v : LockView) (old now new : List ℕ) → slice_get ss ring ≡ Some s → slice_get vs ring ≡ Some v → now ≡ old ++ repair_lines 0 (take ring ss) vs →
    new ≡ now ++ event_lines ring (drop (length s.events.items) v.ring.ring.book.history) → new ≡ old ++ repair_lines 0 (take (ring + 1) ss) vs
repairs_added ring ss vs s v old now new e f so_far added =
    let line : List ℕ = event_lines ring (drop (length s.events.items) v.ring.ring.book.history) in
    let lines : List ℕ = repair_lines 0 (take ring ss) vs in
    added ∙ (ap (λ (u : List ℕ). u ++ line) so_far ∙ (append_assoc old lines line ∙ ap (λ (u : List ℕ). old ++ u) (sym (repair_more ring ss vs s v e f))))
