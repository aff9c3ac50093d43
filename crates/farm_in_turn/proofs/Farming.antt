-- The outcome of all rings, each after all its turns, is that of a farm.
use Rattle.std.proofs.Common.{◌≡◌, ℕ, zero, suc, ◌<◌, ◌≤◌, ◌⊎◌, inl, inr, ⊎_elim, List, [], ◌∷◌, ◌++◌, Some, None, Option, map, length, get_or, slice_get, refl, sym, ap, ◌∙◌, arith, subst}
use Rattle.std.specs.Prelude.{Result, Ok, IfOk, unwrap_or}
use Rattle.std.proofs.lemmas.List.{length-map, get_or-map}
use Rattle.std.proofs.lemmas.Option.{slice_get_cases}
use Rattle.ring_logs.specs.declared.outcomes.RingOutcome.{RingOutcome}
use Rattle.ring_settings.specs.Contents.{SettingsData, RingData, IsSettings, ring_at}
use Rattle.ring_settings.specs.declared.actions.Plan.{Plan}
use Rattle.ring_farm.specs.Headline.{IsFarmOf, IsFarmRing, EachDone}
use Rattle.ring_farm.specs.Runs.{IsRun, ring_of_data}
use Rattle.ring_farm.specs.declared.faults.FarmError.{FarmError}
use Rattle.ring_farm.specs.declared.outcomes.Outcome.{Outcome}
use Rattle.ring_farm.proofs.Headlines.{ArePlansOf, each_done, farm_of}
use Rattle.farm_in_turn.specs.InTurn.{IsInTurn, AreInTurn}
use Rattle.farm_in_turn.specs.Rings.{IsRunInTurn, AreRunsInTurn}

abbrev done : RingOutcome → Result RingOutcome FarmError
done r = Ok r

pub headline : (settings : SettingsData) (plans : List Plan) (seed : ℕ) (o : Outcome) → IsSettings settings → ArePlansOf settings plans → length plans ≡ length settings.seats →
    length o.rings.items ≡ length settings.rings → AreRunsInTurn settings plans seed o.rings.items → IsFarmOf settings o
headline settings plans seed o allowed are seats long runs =
    let results : List (Result RingOutcome FarmError) = map done o.rings.items in
    let each : EachDone (IsFarmRing settings) settings results = each_done plans settings results are seats (λ i d lt.
    ⊎_elim
    (λ (t : (r : RingOutcome) × (i < length o.rings.items) × (slice_get o.rings.items i ≡ Some r) × (get_or o.rings.items i r ≡ r)).
    let at : get_or results i d ≡ Ok t.0 = get_or-map done o.rings.items i t.0 d t.1 ∙ ap done t.3 in
    subst (λ (x : Result RingOutcome FarmError). IfOk x (λ (r : RingOutcome). IsRun plans i (ring_of_data (ring_at settings i)) r.book r.logs.items)) (sym at) (runs i t.0 t.2).run)
    (λ (t : (length o.rings.items ≤ i) × (slice_get o.rings.items i ≡ None)). let past = t.0 in absurd (omega arith))
    (slice_get_cases o.rings.items i).1) in
    farm_of settings results o allowed (length-map o.rings.items done ∙ long) each refl

pub in_turn : (settings : SettingsData) (plans : List Plan) (seed : ℕ) (o : Outcome) → AreRunsInTurn settings plans seed o.rings.items → AreInTurn settings seed o
in_turn settings plans seed o runs i d r at_d at_r =
    let same : ring_at settings i ≡ d = ap (λ (x : Option RingData). unwrap_or x (record { size = record { n = 0; k = 0 }; start = [] })) at_d in
    subst (λ (x : RingData). IsInTurn settings seed i x r) same (runs i r at_r).in_turn

-- the entry at a place of a list with one more
at_push : {A : Type 0} (xs : List A) (y x : A) (i : ℕ) → slice_get (xs ++ y ∷ []) i ≡ Some x → (slice_get xs i ≡ Some x) ⊎ ((i ≡ length xs) × (y ≡ x))
at_push [] y x zero e = inr (refl, cc)
at_push [] y x (suc i) e = cc
at_push (z ∷ xs) y x zero e = inl e
at_push (z ∷ xs) y x (suc i) e = ⊎_elim (λ (h : slice_get xs i ≡ Some x). inl h) (λ (h : (i ≡ length xs) × (y ≡ x)). inr (ap suc h.0, h.1)) (at_push xs y x i e)

-- one ring more has run
pub runs_more : (settings : SettingsData) (plans : List Plan) (seed ring : ℕ) (rings : List RingOutcome) (o : RingOutcome) → ring ≡ length rings → AreRunsInTurn settings plans seed rings →
    IsRunInTurn settings plans seed ring o → AreRunsInTurn settings plans seed (rings ++ o ∷ [])
runs_more settings plans seed ring rings o here runs more i x at =
    ⊎_elim (λ (h : slice_get rings i ≡ Some x). runs i x h)
    (λ (h : (i ≡ length rings) × (o ≡ x)). subst (λ (y : RingOutcome). IsRunInTurn settings plans seed i y) h.1 (subst (λ (k : ℕ). IsRunInTurn settings plans seed k o) (here ∙ sym h.0) more))
    (at_push rings o x i at)
