-- Where the judge begins.
use Rattle.std.proofs.Common.{◌≡◌, ℕ, suc, ◌+◌, ◌-◌, ◌<◌, ◌≤◌, List, [], ◌∷◌, ◌++◌, length, Option, None, Some, refl, sym, ◌∙◌, ap, arith}
use Rattle.std.specs.Prelude.{Result, Ok, Err, OnOk, slice_get, slice_set}
use Rattle.std.proofs.lemmas.List.{length-append, append_assoc, append-nil}
use Rattle.name_bindings.specs.Bindings.{Bound, found, fixed_names, frees}
use Rattle.name_bindings.proofs.Changed.{found_added}
use Rattle.name_check.specs.declared.lines.Ring.{Ring}
use Rattle.name_check.specs.declared.lines.Due.TheVariants as due
use Rattle.name_check.specs.Entries.{fresh_ring, fresh_rings, grants_in, begun}

-- a ring more, and one less to come
pub rings_more : (now later : List Ring) (count : ℕ) → later ≡ now ++ fresh_ring ∷ [] → length now < count → later ++ fresh_rings (count - length later) ≡ now ++ fresh_rings (count - length now)
rings_more now later count e lt =
    let many : length later ≡ length now + 1 = ap (λ (x : List Ring). length x) e ∙ length-append now (fresh_ring ∷ []) in
    let left : suc (count - length later) ≡ count - length now = omega arith in
    ap (λ (x : List Ring). x ++ fresh_rings (count - length later)) e ∙ append_assoc now (fresh_ring ∷ []) (fresh_rings (count - length later)) ∙ ap (λ (n : ℕ). now ++ fresh_rings n) left

pub rings_done : (now gs : List Ring) (count : ℕ) → now ++ fresh_rings (count - length now) ≡ gs → count ≤ length now → now ≡ gs
rings_done now gs count e le =
    let none : 0 ≡ count - length now = omega arith in
    sym (append-nil now) ∙ ap (λ (n : ℕ). now ++ fresh_rings n) none ∙ e

-- ---- a ring more, which gets a name

end_there : {X : Type 0} (xs : List X) (x : X) → slice_get (xs ++ x ∷ []) (length xs) ≡ Some x
end_there [] x = refl
end_there (y ∷ xs) x = end_there xs x

set_end : {X : Type 0} (xs : List X) (x y : X) → slice_set (xs ++ x ∷ []) (length xs) y ≡ xs ++ y ∷ []
set_end [] x y = refl
set_end {X} (z ∷ xs) x y = ap (λ (zs : List X). z ∷ zs) (set_end xs x y)

pub free_end : (os more : List (Option Bound)) (ring : ℕ) → ring ≡ length os → more ≡ os ++ None ∷ [] → slice_get more ring ≡ Some None
free_end os more ring at e = ap (λ (x : List (Option Bound)). slice_get x ring) e ∙ ap (λ (n : ℕ). slice_get (os ++ None ∷ []) n) at ∙ end_there os None

pub unused_end : (x : List ℕ) (os more : List (Option Bound)) → more ≡ os ++ None ∷ [] → found x os ≡ None → found x more ≡ None
unused_end x os more e none = ap (λ (y : List (Option Bound)). found x y) e ∙ found_added x os ∙ none

pub named_end : (os more last : List (Option Bound)) (ring : ℕ) (b : Bound) → ring ≡ length os → more ≡ os ++ None ∷ [] → last ≡ slice_set more ring (Some b) → last ≡ os ++ Some b ∷ []
named_end os more last ring b at e f = f ∙ ap (λ (x : List (Option Bound)). slice_set x ring (Some b)) e ∙ ap (λ (n : ℕ). slice_set (os ++ None ∷ []) n (Some b)) at ∙ set_end os None (Some b)

pub on_named_end : {T E : Type 0} (r : Result T E) (os more last : List (Option Bound)) (ring : ℕ) (b : Bound) → ring ≡ length os → more ≡ os ++ None ∷ [] → OnOk r (last ≡ slice_set more ring (Some b)) → OnOk r (last ≡ os ++ Some b ∷ [])
on_named_end (Ok x) os more last ring b at e h = named_end os more last ring b at e h
on_named_end (Err x) os more last ring b at e h = tt

-- ---- the beginning

pub begun_is : (rings : List Ring) (ns : List (List ℕ)) (os : List (Option Bound)) (fixed top : ℕ) → fixed ≡ length ns → os ≡ fixed_names ns ++ frees (length rings - length ns) → top ≡ grants_in rings →
    record { rings = rings; names = os; fixed = fixed; top = top; due = due.Top } ≡ begun ns rings
begun_is rings ns os fixed top few e sum =
    ap (λ (x : List (Option Bound)). record { rings = rings; names = x; fixed = fixed; top = top; due = due.Top }) e
    ∙ ap (λ (n : ℕ). record { rings = rings; names = fixed_names ns ++ frees (length rings - length ns); fixed = n; top = top; due = due.Top }) few
    ∙ ap (λ (n : ℕ). record { rings = rings; names = fixed_names ns ++ frees (length rings - length ns); fixed = length ns; top = n; due = due.Top }) sum
