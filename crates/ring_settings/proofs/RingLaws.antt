-- Facts on the rings that a walk reads.
use Rattle.std.proofs.Common.{◌≡◌, ℕ, ◌+◌, ◌<◌, ◌≤◌, ◌∷◌, List, [], length, refl, ap, Ok, Option, Some, None, true, ◌&&◌, map, nat_lt, nat_eq, arith, codes}
use Rattle.std.specs.Prelude.{option_and_then, option_map, All, nat_le}
use Rattle.std.proofs.lemmas.Bool.Decides.{nat_tests}
use Rattle.std.proofs.lemmas.List.Elements.{All-nil, All-cons}
use Rattle.serde_json.specs.Data.{Data, Items}
use Rattle.serde_json.specs.Find.{as_array, get}
use Rattle.ring_settings.specs.Limits.{ring_limit}
use Rattle.ring_state.specs.Sizes.{Size, IsSize}
use Rattle.ring_settings.specs.Contents.{RingData, IsRingSetting, sizes_of}
use Rattle.ring_settings.specs.Rings.{start_member, size_fault, first_over, values_fault, unless_fault, size_from, ring_of_object, ring_from, rings_items, rings_member}
use Rattle.ring_settings.specs.Views.{ring_data}
use Rattle.ring_settings.specs.Walk.{each_from, items_count, then_with, is_object, u32_member}
use Rattle.ring_settings.specs.declared.contents.RingSetting.{RingSetting}
use Rattle.ring_settings.specs.declared.faults.Field.TheVariants.{Rings, N, K}
use Rattle.ring_settings.specs.declared.faults.RingCause.{RingCause}
use Rattle.ring_settings.specs.declared.faults.RingCause.TheVariants as cause
use Rattle.ring_settings.specs.declared.faults.SettingsError.TheVariants.{Shape, Limit}
use Rattle.ring_settings.proofs.Walks.{both, chosen, then_with-ok, each_from-all, each_from-length}

-- the sizes of rings as data
pub sizes_of_rings : (rings : List RingSetting) → sizes_of (map ring_data rings) ≡ map (λ ring. ring.params) rings
sizes_of_rings [] = refl
sizes_of_rings (r ∷ rs) = ap (λ sizes. r.params ∷ sizes) (sizes_of_rings rs)

-- no fault is left where a ring is read
unless_fault-ok : {A : Type 0} (place : ℕ) (fault : Option RingCause) (a b : A) → unless_fault place fault a ≡ Ok b → (fault ≡ None) × (b ≡ a)
unless_fault-ok place None a b h = (refl, cc)
unless_fault-ok place (Some f) a b h = let no : ⊥ = cc in absurd no

size_fault-none : (n k : ℕ) → size_fault n k ≡ None → IsSize (record { n = n; k = k })
size_fault-none n k h = record { machines = grind (arith, nat_tests, h); most_machines = grind (arith, nat_tests, h); values = grind (arith, nat_tests, h); most = grind (arith, nat_tests, h) }

first_over-none : (k place : ℕ) (vs : List ℕ) → first_over k place vs ≡ None → All (λ v. v < k) vs
first_over-none k place [] h = All-nil (λ v. v < k)
first_over-none k place (v ∷ vs) h =
    let here : nat_lt v k ≡ true = grind (arith, nat_tests, h) in
    let later : first_over k (place + 1) vs ≡ None = rw here at h in
    let below : v < k = grind (arith, nat_tests, here) in
    All-cons (λ x. x < k) v vs below (first_over-none k (place + 1) vs later)

not_mapped : (o : Option ℕ) → option_map cause.Value o ≡ None → o ≡ None
not_mapped None h = refl
not_mapped (Some i) h = let no : ⊥ = cc in absurd no

values_fault-long : (size : Size) (vs : List ℕ) → length vs ≡ size.n → values_fault size vs ≡ option_map cause.Value (first_over size.k 0 vs)
values_fault-long size vs h =
    let same : nat_eq (length vs) size.n ≡ true = grind (arith, nat_tests, h) in
    rw same refl

values_fault-none : (size : Size) (vs : List ℕ) → values_fault size vs ≡ None → (length vs ≡ size.n) × All (λ v. v < size.k) vs
values_fault-none size vs h =
    let one_each : length vs ≡ size.n = grind (arith, nat_tests, h) in
    let over : option_map cause.Value (first_over size.k 0 vs) ≡ None = rw (← values_fault-long size vs one_each) h in
    (one_each, first_over-none size.k 0 vs (not_mapped (first_over size.k 0 vs) over))

size_from-ok : (place n k : ℕ) (size : Size) → size_from place n k ≡ Ok size → IsSize size
size_from-ok place n k size h =
    let parts = unless_fault-ok place (size_fault n k) (record { n = n; k = k }) size h in
    rw parts.1 (size_fault-none n k parts.0)

ring_of_object-ok : (place : ℕ) (d : Data) (ring : RingData) → ring_of_object place d ≡ Ok ring → IsRingSetting ring
ring_of_object-ok place d ring h =
    let n = then_with-ok (u32_member N (codes "n") d) (λ n. then_with (u32_member K (codes "k") d) (λ k. then_with (start_member d) (λ start. then_with (size_from place n k) (λ size. unless_fault place (values_fault size start) (record { size = size; start = start }))))) ring h in
    let k = then_with-ok (u32_member K (codes "k") d) (λ k. then_with (start_member d) (λ start. then_with (size_from place n.0 k) (λ size. unless_fault place (values_fault size start) (record { size = size; start = start })))) ring n.2 in
    let start = then_with-ok (start_member d) (λ start. then_with (size_from place n.0 k.0) (λ size. unless_fault place (values_fault size start) (record { size = size; start = start }))) ring k.2 in
    let size = then_with-ok (size_from place n.0 k.0) (λ size. unless_fault place (values_fault size start.0) (record { size = size; start = start.0 })) ring start.2 in
    let parts = unless_fault-ok place (values_fault size.0 start.0) (record { size = size.0; start = start.0 }) ring size.2 in
    let values = values_fault-none size.0 start.0 parts.0 in
    rw parts.1 (record { size = size_from-ok place n.0 k.0 size.0 size.1; one_each = values.0; below = values.1 })

pub ring_from-ok : (place : ℕ) (d : Data) (ring : RingData) → ring_from place d ≡ Ok ring → IsRingSetting ring
ring_from-ok place d ring h = ring_of_object-ok place d ring (chosen (is_object d) (ring_of_object place d) (Shape Rings) ring h).1

-- the rings of a document are 1 to 16, and each is one
pub record AreRings (rings : List RingData) : Type 0 where
  pub some : 1 ≤ length rings
  pub most : length rings ≤ ring_limit
  pub each : All IsRingSetting rings

rings_items-ok : (ds : Option Items) (rings : List RingData) → rings_items ds ≡ Ok rings → AreRings rings
rings_items-ok None rings h = let no : ⊥ = cc in absurd no
rings_items-ok (Some ds) rings h =
    let parts = chosen (nat_le 1 (items_count ds) && nat_le (items_count ds) ring_limit) (each_from ring_from 0 ds) (Limit Rings) rings h in
    let limits = both (nat_le 1 (items_count ds)) (nat_le (items_count ds) ring_limit) parts.0 in
    let count = each_from-length ring_from 0 ds rings parts.1 in
    record {
      some = grind (arith, nat_tests, limits.0, count);
      most = grind (arith, nat_tests, limits.1, count);
      each = each_from-all IsRingSetting ring_from ring_from-ok 0 ds rings parts.1;
    }

pub rings_member-ok : (d : Data) (rings : List RingData) → rings_member d ≡ Ok rings → AreRings rings
rings_member-ok d rings h = rings_items-ok (option_and_then as_array (get (codes "rings") d)) rings h
