-- The remarks with which a segment begins, ring by ring.
use Rattle.std.proofs.Common.{◌≡◌, ℕ, zero, suc, ◌+◌, ◌≤◌, List, [], ◌∷◌, ◌++◌, length, drop, Option, None, Some, slice_get, refl, sym, ap, ◌∙◌, append_assoc, arith}
use Rattle.std.proofs.lemmas.List.{append-nil}
use Rattle.name_remarks.specs.Remarks.{Remark, bind, top, remark_text}
use Rattle.name_remarks.specs.Bindings.{binds, text_of}
use Rattle.lock_names.specs.Names.{Bound}
use Rattle.lock_names.specs.Kept.{NamedView}
use Rattle.lock_journal.proofs.StateLines.{drop_there}
use Rattle.name_service.specs.NamesText.{bindings_of, pool_bindings, names_text}

-- the text of one ring, and that of the others
abbrev pub part : ℕ → List (Option Bound) → List ℕ
part ring os = text_of (binds ring (bindings_of os))

part_more : (ring next : ℕ) (o : Option Bound) (os : List (Option Bound)) → next ≡ suc ring → part ring (o ∷ os) ≡ part ring (o ∷ []) ++ part next os
part_more ring next None os e = ap (λ (n : ℕ). part n os) (sym e)
part_more ring next (Some b) os e =
    let line : List ℕ = remark_text (bind ring (record { before = b.before; floor = b.floor; name = b.name })) in
    ap (λ (n : ℕ). line ++ part n os) (sym e) ∙ ap (λ (t : List ℕ). t ++ part next os) (sym (append-nil line))

-- the remark of one ring is added, and those of the rings after it are still to be
pub ring_more : (was now goal : List ℕ) (os : List (Option Bound)) (ring : ℕ) (o : Option Bound) → slice_get os ring ≡ Some o → was ++ part ring (drop ring os) ≡ goal → now ≡ was ++ part ring (o ∷ []) → now ++ part (ring + 1) (drop (ring + 1) os) ≡ goal
ring_more was now goal os ring o at inv is =
    let rest : List (Option Bound) = drop (ring + 1) os in
    let next : ring + 1 ≡ suc ring = omega arith in
    ap (λ (t : List ℕ). t ++ part (ring + 1) rest) is
    ∙ (append_assoc was (part ring (o ∷ [])) (part (ring + 1) rest)
    ∙ (ap (λ (t : List ℕ). was ++ t) (sym (part_more ring (ring + 1) o rest next))
    ∙ (ap (λ (xs : List (Option Bound)). was ++ part ring xs) (sym (drop_there os ring o at)) ∙ inv)))

drop_past : (os : List (Option Bound)) (n : ℕ) → length os ≤ n → drop n os ≡ []
drop_past [] zero l = refl
drop_past [] (suc n) l = refl
drop_past (o ∷ os) zero l = absurd (omega (arith, l))
drop_past (o ∷ os) (suc n) l = drop_past os n (omega (arith, l))

-- no ring is left
pub none_more : (text goal : List ℕ) (os : List (Option Bound)) (ring : ℕ) → length os ≤ ring → text ++ part ring (drop ring os) ≡ goal → text ≡ goal
none_more text goal os ring l inv = sym (append-nil text) ∙ (ap (λ (xs : List (Option Bound)). text ++ part ring xs) (sym (drop_past os ring l)) ∙ inv)

-- the rings of the pool come after those of the fixed locks
pool_binds : (ring fixed from : ℕ) (os : List (Option Bound)) → from ≡ ring + fixed → binds ring (pool_bindings fixed os) ≡ binds from (bindings_of (drop fixed os))
pool_binds ring zero from os e =
    let at : ring ≡ from = omega (arith, e) in
    ap (λ (n : ℕ). binds n (bindings_of os)) at
pool_binds ring (suc fixed) from [] e = refl
pool_binds ring (suc fixed) from (o ∷ os) e = pool_binds (suc ring) fixed from os (omega (arith, e))

pub names_parts : (v : NamedView) → names_text v ≡ remark_text (top v.top) ++ part v.fixed (drop v.fixed v.names)
names_parts v = ap (λ (rs : List Remark). remark_text (top v.top) ++ text_of rs) (pool_binds 0 v.fixed v.fixed v.names (omega arith))

-- the number of all grants, and then the rings
pub all_names : (old mid new : List ℕ) (v : NamedView) → mid ≡ old ++ remark_text (top v.top) → new ≡ mid ++ part v.fixed (drop v.fixed v.names) → new ≡ old ++ names_text v
all_names old mid new v p q =
    q
    ∙ (ap (λ (t : List ℕ). t ++ part v.fixed (drop v.fixed v.names)) p
    ∙ (append_assoc old (remark_text (top v.top)) (part v.fixed (drop v.fixed v.names)) ∙ ap (λ (t : List ℕ). old ++ t) (sym (names_parts v))))
