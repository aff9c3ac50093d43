-- A history and its next segment.
use Rattle.std.proofs.Common.{◌≡◌, ℕ, ◌+◌, ◌-◌, ◌^◌, ◌≤◌, Bool, true, false, cond, List, [], ◌∷◌, ◌++◌, length, min, take, refl, sym, ◌∙◌, ap, subst, arith}
use Rattle.std.proofs.lemmas.List.{append-nil}
use Rattle.ring_model.specs.Ring.{Ring}
use Rattle.ring_model.specs.History.{State, opening, after}
use Rattle.ring_model.specs.Resources.{till, add_order}
use Rattle.ring_model.specs.Surveys.{granted_count, calm}
use Rattle.ring_model.specs.Groups.{IsHistory}
use Rattle.ring_model.specs.Logs.{IsSurvey}
use Rattle.ring_model.specs.declared.events.Event.{Event}
use Rattle.ring_model.specs.declared.events.Survey.{Survey}
use Rattle.ring_model.proofs.Wholes.{whole_none}
use Rattle.ring_model.specs.declared.bases.Base.{Base}
use Rattle.ring_model.specs.Bases.{no_base, IsAmount, shifted, is_quiet, shifted_calm, shifted_survey, base_after}
use Rattle.ring_model.specs.Chains.{Segment, IsChainFrom, chain_history}
use Rattle.ring_model.specs.ChainLaws.{Continues}
use Rattle.ring_model.proofs.Shifts.{add_order-amount, grants_legal}
use Rattle.ring_model.proofs.ChainHistories.{chains_are_histories, segments_continue}
use Rattle.ring_model.proofs.Seen.{surveys_are_right, surveys_from_start}
use Rattle.chain_readers.proofs.ShiftedEvents.{none_moves}

abbrev basing : ℕ → ℕ → ℕ → ℕ → Base
basing events grants amount calm = record { events = events; grants = grants; amount = amount; calm = calm }

abbrev pub surveyed : Survey → ℕ → ℕ → Survey
surveyed v position c = record { position = position; privileged = v.privileged; first = v.first; calm = c; rest = v.rest }

within : (x m : ℕ) → x ≤ m → min (0 + x) m ≡ x
within x m le = omega arith

calm_of_none : (q : Bool) (c : ℕ) → cond q (0 + c) c ≡ c
calm_of_none true c = omega arith
calm_of_none false c = refl

survey_of_none : (q : Bool) (v : Survey) → shifted_survey no_base q v ≡ v
survey_of_none q v =
    let place : 0 + v.position ≡ v.position = omega arith in
    ap (λ (x : ℕ). surveyed v x (shifted_calm no_base q v.calm)) place ∙ ap (λ (x : ℕ). surveyed v v.position x) (calm_of_none q v.calm)

module _ (r : Ring) (front : List Event) (whole_front : IsHistory till (opening r 0) front) where
  -- where the history ends
  abbrev pub end_base : Base
  end_base = base_after no_base r front

  abbrev pub end_ring : Ring
  end_ring = (after till (opening r 0) front).ring

  module _ (next : List Event) (whole_next : IsHistory till (opening end_ring 0) next) where
    -- with the next segment
    abbrev pub on : List Event
    on = front ++ shifted end_base next

    abbrev s0 : Segment
    s0 = record { base = no_base; start = r; history = front }

    abbrev s1 : Segment
    s1 = record { base = end_base; start = end_ring; history = next }

    abbrev next_base : Base
    next_base = base_after end_base end_ring next

    abbrev next_ring : Ring
    next_ring = (after till (opening end_ring 0) next).ring

    abbrev s2 : Segment
    s2 = record { base = next_base; start = next_ring; history = [] }

    none : IsAmount no_base.amount
    none = omega arith

    two : IsChainFrom no_base r (s0 ∷ s1 ∷ [])
    two = (refl, refl, whole_front, (refl, refl, whole_next, tt))

    three : IsChainFrom no_base r (s0 ∷ s1 ∷ s2 ∷ [])
    three = (refl, refl, whole_front, (refl, refl, whole_next, (refl, refl, (tt, whole_none (length next_ring.values)), tt)))

    same : chain_history (s0 ∷ s1 ∷ []) ≡ on
    same =
        ap (λ (x : List Event). x ++ (shifted end_base next ++ [])) (none_moves (opening r 0) front whole_front.0)
        ∙ ap (λ (x : List Event). front ++ x) (append-nil (shifted end_base next))

    pub whole_on : IsHistory till (opening r 0) on
    whole_on = subst (λ (x : List Event). IsHistory till (opening r 0) x) same (chains_are_histories no_base r (s0 ∷ s1 ∷ []) none two)

    goes_on : Continues no_base r (s0 ∷ s1 ∷ []) s2
    goes_on = segments_continue no_base r (s0 ∷ s1 ∷ []) s2 [] none three

    state_on : after till (opening r 0) on ≡ record { ring = next_ring; content = next_base.amount; grants = next_base.grants }
    state_on = ap (λ (x : List Event). after till (opening r 0) x) (sym same) ∙ goes_on.state

    pub ring_on : next_ring ≡ (after till (opening r 0) on).ring
    ring_on = sym (ap (λ (x : State ℕ). x.ring) state_on)

    pub base_on : next_base ≡ base_after no_base r on
    base_on =
        let e : next_base.events ≡ 0 + length on = goes_on.events ∙ ap (λ (x : List Event). 0 + length x) same in
        let g : next_base.grants ≡ 0 + granted_count on = sym (ap (λ (x : State ℕ). x.grants) state_on) ∙ grants_legal till (opening r 0) on whole_on.0 ∙ zero_twice (granted_count on) in
        let a : next_base.amount ≡ add_order 0 (after till (opening r 0) on).content =
        sym (within next_base.amount (2 ^ 64 - 1) (add_order-amount end_base.amount (after till (opening end_ring 0) next).content))
        ∙ ap (λ (x : ℕ). add_order 0 x) (sym (ap (λ (x : State ℕ). x.content) state_on)) in
        let c : next_base.calm ≡ shifted_calm no_base (is_quiet on) (calm on) = goes_on.calm ∙ ap (λ (x : List Event). shifted_calm no_base (is_quiet x) (calm x)) same in
        ap (λ (x : ℕ). basing x next_base.grants next_base.amount next_base.calm) e
        ∙ ap (λ (x : ℕ). basing (0 + length on) x next_base.amount next_base.calm) g
        ∙ ap (λ (x : ℕ). basing (0 + length on) (0 + granted_count on) x next_base.calm) a
        ∙ ap (λ (x : ℕ). basing (0 + length on) (0 + granted_count on) (add_order 0 (after till (opening r 0) on).content) x) c
      where
        zero_twice : (n : ℕ) → 0 + n ≡ 0 + n
        zero_twice n = refl

    -- surveys of the segment, shifted, and those of the history before it
    pub survey_on : (v : Survey) → IsSurvey till (opening end_ring 0) next v → IsSurvey till (opening r 0) on (shifted_survey end_base (is_quiet (take v.position next)) v)
    survey_on v i =
        subst (λ (x : List Event). IsSurvey till (opening r 0) x (shifted_survey end_base (is_quiet (take v.position next)) v)) same
        (surveys_from_start r (chain_history (s0 ∷ s1 ∷ [])) (shifted_survey end_base (is_quiet (take v.position next)) v)
        (surveys_are_right no_base r (s0 ∷ []) s1 [] v none two i))

    pub survey_kept : (v : Survey) → IsSurvey till (opening r 0) front v → IsSurvey till (opening r 0) on v
    survey_kept v i =
        let q : Bool = is_quiet (take v.position front) in
        subst (λ (x : Survey). IsSurvey till (opening r 0) on x) (survey_of_none q v)
        (subst (λ (x : List Event). IsSurvey till (opening r 0) x (shifted_survey no_base q v)) same
        (surveys_from_start r (chain_history (s0 ∷ s1 ∷ [])) (shifted_survey no_base q v) (surveys_are_right no_base r [] s0 (s1 ∷ []) v none two i)))
