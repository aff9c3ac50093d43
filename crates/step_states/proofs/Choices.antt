-- One choice more.
use Rattle.std.proofs.Common.{◌≡◌, ◌∙◌, ℕ, suc, ◌+◌, ◌<◌, ◌≤◌, Bool, true, false, cond, List, [], ◌∷◌, length, take, Option, Some, refl, ap, arith, length-append}
use Rattle.std.specs.Prelude.{slice_index}
use Rattle.std.proofs.lemmas.List.{take_more}
use Rattle.ring_model.specs.Numbers.{bit}
use Rattle.ring_model.specs.Ring.{Ring, is_privileged}
use Rattle.ring_model.specs.Runs.{passed, after_passes, granted_passes}
use Rattle.ring_model.proofs.Rounds.{after_passes-append, granted_passes-append}
use Rattle.step_states.specs.declared.asked.Asked.{Asked}
use Rattle.step_states.specs.Rows.{ring_after, grants_after, asked_in, last_asked, row_text, row}

-- the ring
pub ring_more : (r : Ring) (choices : List ℕ) (i : ℕ) → i < length choices → ring_after r choices (i + 1) ≡ passed (ring_after r choices i) (slice_index choices i)
ring_more r choices i lt =
    ap (after_passes r) (take_more choices i 0 lt) ∙ after_passes-append r (take i choices) (slice_index choices i ∷ [])

one : (b : Bool) (i : ℕ) → length (cond b (i ∷ []) []) ≡ bit b
one true i = refl
one false i = refl

-- the grants
pub grants_more : (r : Ring) (choices : List ℕ) (i : ℕ) → i < length choices → grants_after r choices (i + 1) ≡ grants_after r choices i + bit (is_privileged (ring_after r choices i).values (slice_index choices i))
grants_more r choices i lt =
    let before = take i choices in
    let machine = slice_index choices i in
    let now = ring_after r choices i in
    ap (λ (cs : List ℕ). length (granted_passes r cs)) (take_more choices i 0 lt)
    ∙ ap length (granted_passes-append r before (machine ∷ []))
    ∙ length-append (granted_passes r before) (granted_passes now (machine ∷ []))
    ∙ ap (λ (g : ℕ). length (granted_passes r before) + g) (one (is_privileged now.values machine) machine)

-- the last choice
pub last_more : (r : Ring) (choices : List ℕ) (i : ℕ) (now : Ring) (machine : ℕ) (asked : Asked) → now ≡ ring_after r choices i → machine ≡ slice_index choices i → asked ≡ asked_in now machine → Some asked ≡ last_asked r choices (i + 1)
last_more r choices i now machine asked here at is =
    ap Some (is ∙ ap (λ (x : Ring). asked_in x machine) here ∙ ap (asked_in (ring_after r choices i)) at)
    ∙ (let next : suc i ≡ i + 1 = omega arith in ap (last_asked r choices) next)

-- a row by what it has
pub row_is : (r : Ring) (choices : List ℕ) (i place : ℕ) (last : Option Asked) (now : Ring) (grants : ℕ) → place ≡ i → last ≡ last_asked r choices i → now ≡ ring_after r choices i → grants ≡ grants_after r choices i →
    row_text place last now grants ≡ row r choices i
row_is r choices i place last now grants at said here counted =
    ap (λ (x : ℕ). row_text x last now grants) at
    ∙ ap (λ (x : Option Asked). row_text i x now grants) said
    ∙ ap (λ (x : Ring). row_text i (last_asked r choices i) x grants) here
    ∙ ap (row_text i (last_asked r choices i) (ring_after r choices i)) counted

pub bit_few : (b : Bool) → bit b ≤ 1
bit_few true = omega arith
bit_few false = omega arith
