-- The document of settings is not deep, and has no float.
use Rattle.std.proofs.Common.{◌≡◌, ◌∙◌, ℕ, zero, suc, ◌≤◌, Bool, false, List, [], ◌∷◌, map, replicate, Option, None, Some, refl, ap, arith}
use Rattle.std.specs.Prelude.{◌||◌}
use Rattle.std.proofs.Math.Nat.{max-le}
use Rattle.ring_settings.specs.Contents.{RingData}
use Rattle.serde_json.specs.Data.{depth, items_depth}
use Rattle.serde_json.specs.View.{items_of}
use Rattle.serde_json.specs.Written.{has_float, items_have_float}
use Rattle.setup_commands.specs.Settings.{number_json, ring_json, seat_json, injector_json, document_of, settings_given, workers_json}
use Rattle.tool_requests.specs.declared.wanted.SettingsWords.{SettingsWords}

-- ---- floats

either_false : (a b : Bool) → a ≡ false → b ≡ false → (a || b) ≡ false
either_false a b p q = ap (λ (x : Bool). x || b) p ∙ q

plain_numbers : (ns : List ℕ) → items_have_float (items_of (map number_json ns)) ≡ false
plain_numbers [] = refl
plain_numbers (n ∷ ns) = plain_numbers ns

plain_rings : (rs : List RingData) → items_have_float (items_of (map ring_json rs)) ≡ false
plain_rings [] = refl
plain_rings (r ∷ rs) =
    either_false (has_float (ring_json r)) (items_have_float (items_of (map ring_json rs)))
    (either_false (items_have_float (items_of (map number_json r.start))) false (plain_numbers r.start) refl) (plain_rings rs)

plain_workers : (n seed actions : ℕ) → items_have_float (items_of (replicate n (seat_json seed actions))) ≡ false
plain_workers zero seed actions = refl
plain_workers (suc n) seed actions = plain_workers n seed actions

plain_injector : (seed : ℕ) (actions : Option ℕ) → has_float (injector_json seed actions) ≡ false
plain_injector seed None = refl
plain_injector seed (Some n) = refl

pub plain : (words : SettingsWords) → has_float (document_of words) ≡ false
plain words =
    either_false (has_float (injector_json words.seed words.injector)) _ (plain_injector words.seed words.injector)
    (either_false (items_have_float (items_of (map ring_json (settings_given words).rings))) _ (plain_rings (settings_given words).rings)
    (either_false (items_have_float (items_of (workers_json words))) false (plain_workers words.workers words.seed words.actions) refl))

-- ---- depth

flat_numbers : (ns : List ℕ) → items_depth (items_of (map number_json ns)) ≤ 0
flat_numbers [] = omega arith
flat_numbers (n ∷ ns) = max-le (omega arith) (flat_numbers ns)

one_more : (n m : ℕ) → n ≤ m → suc n ≤ suc m
one_more n m h = omega (arith, h)

flat_ring : (r : RingData) → depth (ring_json r) ≤ 2
flat_ring r = one_more _ 1 (max-le (omega arith) (max-le (omega arith) (max-le (one_more _ 0 (flat_numbers r.start)) (omega arith))))

flat_rings : (rs : List RingData) → items_depth (items_of (map ring_json rs)) ≤ 2
flat_rings [] = omega arith
flat_rings (r ∷ rs) = max-le (flat_ring r) (flat_rings rs)

flat_workers : (n seed actions : ℕ) → items_depth (items_of (replicate n (seat_json seed actions))) ≤ 2
flat_workers zero seed actions = omega arith
flat_workers (suc n) seed actions = max-le (omega arith) (flat_workers n seed actions)

flat_injector : (seed : ℕ) (actions : Option ℕ) → depth (injector_json seed actions) ≤ 3
flat_injector seed None = omega arith
flat_injector seed (Some n) = omega arith

pub flat : (words : SettingsWords) → depth (document_of words) ≤ 127
flat words =
    let parts : depth (document_of words) ≤ 4 = one_more _ 3 (max-le (flat_injector words.seed words.injector)
    (max-le (one_more _ 2 (flat_rings (settings_given words).rings)) (max-le (one_more _ 2 (flat_workers words.workers words.seed words.actions)) (omega arith)))) in
    omega (arith, parts)
