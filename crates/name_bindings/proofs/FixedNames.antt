-- Names of fixed locks, and free rings after them.
use Rattle.std.proofs.Common.{◌≡◌, ℕ, zero, suc, ◌<◌, true, false, List, [], ◌∷◌, ◌++◌, length, Option, None, Some, refl, sym, ◌∙◌, ap, subst, arith, ◌+◌, ◌≤◌, ◌-◌, map, take, get_or}
use Rattle.std.specs.Prelude.{option_map, slice_get, is_some}
use Rattle.std.proofs.lemmas.Bool.{false≢true}
use Rattle.std.proofs.lemmas.List.{length-map, length-append, map-append, take_more, take_all, append_assoc, append-nil}
use Rattle.std.proofs.lemmas.Option.{slice_get_within, slice_get_read, slice_get-map, get_or_from_slice_get}
use Rattle.name_bindings.proofs.Found.{some_same, none_some, found_at}
use Rattle.name_bindings.specs.Bindings.{Bound, found, AreDistinct, fixed_names, frees, ring_of}

abbrev pub fixed_name : List ℕ → Bound
fixed_name n = record { name = n; before = 0; floor = 0 }

-- a free ring more, and one less to come
pub pool_more : (now later : List (Option Bound)) (count : ℕ) → later ≡ now ++ None ∷ [] → length now < count → (later ++ frees (count - length later) ≡ now ++ frees (count - length now)) × (length later ≤ count)
pool_more now later count e lt =
    let many : length later ≡ length now + 1 = ap (λ (x : List (Option Bound)). length x) e ∙ length-append now (None ∷ []) in
    let left : suc (count - length later) ≡ count - length now = omega arith in (
      ap (λ (x : List (Option Bound)). x ++ frees (count - length later)) e ∙ append_assoc now (None ∷ []) (frees (count - length later)) ∙ ap (λ (n : ℕ). now ++ frees n) left,
      omega arith,
    )

pub pool_done : (now os : List (Option Bound)) (count : ℕ) → now ++ frees (count - length now) ≡ os → count ≤ length now → now ≡ os
pool_done now os count e le =
    let none : 0 ≡ count - length now = omega arith in
    sym (append-nil now) ∙ ap (λ (n : ℕ). now ++ frees n) none ∙ e

pub begun_both : (ns : List (List ℕ)) (k count : ℕ) (now later : List (Option Bound)) → now ≡ fixed_names ns → later ≡ now ++ frees (count - length now) → k ≡ length ns → later ≡ fixed_names ns ++ frees (count - k)
begun_both ns k count now later e f same =
    let many : length (fixed_names ns) ≡ length ns = length-map ns (λ (n : List ℕ). Some (fixed_name n)) in
    let size : length (fixed_names ns) ≡ k = omega arith in
    f ∙ ap (λ (x : List (Option Bound)). x ++ frees (count - length x)) e ∙ ap (λ (n : ℕ). fixed_names ns ++ frees (count - n)) size

pub name_added : (ns : List (List ℕ)) (k : ℕ) (x : List ℕ) (now later : List (Option Bound)) → k < length ns → get_or ns k [] ≡ x → now ≡ fixed_names (take k ns) → later ≡ now ++ Some (fixed_name x) ∷ [] →
    later ≡ fixed_names (take (k + 1) ns)
name_added ns k x now later lt at e f =
    f ∙ ap (λ (os : List (Option Bound)). os ++ Some (fixed_name x) ∷ []) e
    ∙ ap (λ (y : List ℕ). fixed_names (take k ns) ++ Some (fixed_name y) ∷ []) (sym at)
    ∙ sym (map-append (λ (n : List ℕ). Some (fixed_name n)) (take k ns) (get_or ns k [] ∷ []))
    ∙ sym (ap fixed_names (take_more ns k [] lt))

-- ---- names that are twice in the list

fixed_entry : (ns : List (List ℕ)) (i : ℕ) (b : Bound) → slice_get (fixed_names ns) i ≡ Some (Some b) → slice_get ns i ≡ Some b.name
fixed_entry [] i b e = absurd (none_some (Some b) e)
fixed_entry (n ∷ ns) zero b e = ap (λ (x : Bound). Some x.name) (some_same (fixed_name n) b (some_same (Some (fixed_name n)) (Some b) e))
fixed_entry (n ∷ ns) (suc i) b e = fixed_entry ns i b e

entry_fixed : (ns : List (List ℕ)) (i : ℕ) (x : List ℕ) → slice_get ns i ≡ Some x → slice_get (fixed_names ns) i ≡ Some (Some (fixed_name x))
entry_fixed [] i x e = absurd (none_some x e)
entry_fixed (n ∷ ns) zero x e = ap (λ (y : List ℕ). Some (Some (fixed_name y))) (some_same n x e)
entry_fixed (n ∷ ns) (suc i) x e = entry_fixed ns i x e

get_before : {X : Type 0} (xs ys : List X) (i : ℕ) (x : X) → slice_get xs i ≡ Some x → slice_get (xs ++ ys) i ≡ Some x
get_before [] ys i x e = absurd (none_some x e)
get_before (y ∷ xs) ys zero x e = e
get_before (y ∷ xs) ys (suc i) x e = get_before xs ys i x e

pub taken_entry : {X : Type 0} (xs : List X) (k i : ℕ) (x : X) → slice_get (take k xs) i ≡ Some x → (i < k) × (slice_get xs i ≡ Some x)
taken_entry [] zero i x e = absurd (none_some x e)
taken_entry [] (suc k) i x e = absurd (none_some x e)
taken_entry (y ∷ xs) zero i x e = absurd (none_some x e)
taken_entry (y ∷ xs) (suc k) zero x e = (omega arith, e)
taken_entry (y ∷ xs) (suc k) (suc i) x e = let r = taken_entry xs k i x e in (omega arith, r.1)

pub twice : (ns : List (List ℕ)) (k : ℕ) (x : List ℕ) (p : ℕ × Bound) → slice_get ns k ≡ Some x → found x (fixed_names (take k ns)) ≡ Some p → AreDistinct ns → ⊥
twice ns k x p at e apart =
    let h = found_at x (fixed_names (take k ns)) p e in
    let r = taken_entry ns k p.0 p.1.name (fixed_entry (take k ns) p.0 p.1 h.entry) in
    let same : p.0 ≡ k = apart p.0 k x (r.1 ∙ ap (λ (y : List ℕ). Some y) (sym h.name)) at in
    let lt : p.0 < k = r.0 in
    omega arith

pub distinct : (ns : List (List ℕ)) (os : List (Option Bound)) →
    ((i j : ℕ) (b d : Bound) → slice_get (fixed_names ns ++ os) i ≡ Some (Some b) → slice_get (fixed_names ns ++ os) j ≡ Some (Some d) → b.name ≡ d.name → i ≡ j) → AreDistinct ns
distinct ns os once i j x e f =
    once i j (fixed_name x) (fixed_name x) (get_before (fixed_names ns) os i (Some (fixed_name x)) (entry_fixed ns i x e)) (get_before (fixed_names ns) os j (Some (fixed_name x)) (entry_fixed ns j x f)) refl

found_some : (x : List ℕ) (os : List (Option Bound)) (o : Option (ℕ × Bound)) → found x os ≡ o → is_some (ring_of x os) ≡ true → (p : ℕ × Bound) × (found x os ≡ Some p)
found_some x os None e h = absurd (false≢true (sym (ap (λ (z : Option (ℕ × Bound)). is_some (option_map (λ (p : ℕ × Bound). p.0) z)) e) ∙ h))
found_some x os (Some p) e h = (p, e)

pub found_twice : (ns : List (List ℕ)) (k : ℕ) (x : List ℕ) (os : List (Option Bound)) → slice_get ns k ≡ Some x → os ≡ fixed_names (take k ns) → is_some (ring_of x os) ≡ true → AreDistinct ns → ⊥
found_twice ns k x os at e h apart =
    let r = found_some x (fixed_names (take k ns)) (found x (fixed_names (take k ns))) refl (subst (λ (z : List (Option Bound)). is_some (ring_of x z) ≡ true) e h) in
    twice ns k x r.0 at r.1 apart

none_found : (o : Option (ℕ × Bound)) → is_some (option_map (λ (p : ℕ × Bound). p.0) o) ≡ false → o ≡ None
none_found None e = refl
none_found (Some p) e = absurd (false≢true (sym e))

pub not_yet : (x : List ℕ) (os : List (Option Bound)) → is_some (ring_of x os) ≡ false → found x os ≡ None
not_yet x os e = none_found (found x os) e

pub item_entry : (ns : List (List ℕ)) (k : ℕ) (x : List ℕ) → slice_get ns k ≡ Some x → (k < length ns) × (get_or ns k [] ≡ x)
item_entry ns k x at = (slice_get_within ns k x at, get_or_from_slice_get ns k x [] at)

pub mapped_entry : {X : Type 0} (f : X → List ℕ) (xs : List X) (k : ℕ) (x : X) → k < length xs → x ≡ get_or xs k x → slice_get (map f xs) k ≡ Some (f x)
mapped_entry {X = X} f xs k x lt e = slice_get-map f xs k ∙ ap (λ (o : Option X). option_map f o) (slice_get_read xs (length xs) k x refl lt e)

pub all_names : {X : Type 0} (f : X → List ℕ) (xs : List X) (k : ℕ) (os : List (Option Bound)) → length xs ≤ k → os ≡ fixed_names (take k (map f xs)) → os ≡ fixed_names (map f xs)
all_names f xs k os le e =
    let many : length (map f xs) ≡ length xs = length-map xs f in
    let all : length (map f xs) ≤ k = omega arith in
    e ∙ ap fixed_names (take_all k (map f xs) all)
