-- The worked chain is as its statements say, and the laws of other chains fail at small ones.
use Rattle.std.proofs.Common.{◌≡◌, ℕ, ◌-◌, ◌^◌, List, [], ◌∷◌, refl, ap, arith}
use Rattle.ring_model.specs.Ring.{Ring}
use Rattle.ring_model.specs.History.{opening}
use Rattle.ring_model.specs.Resources.{till}
use Rattle.ring_model.specs.Groups.{IsWhole, IsHistory}
use Rattle.ring_model.specs.Logs.{IsSurvey}
use Rattle.ring_model.specs.Worked.{zeroth_event, first_event, second_event, third_event, fifth_event, called, looked}
use Rattle.ring_model.specs.declared.events.Op.TheVariants.{Pass}
use Rattle.ring_model.specs.declared.events.Reply.TheVariants.{Granted}
use Rattle.ring_model.specs.declared.events.Event.{Event}
use Rattle.ring_model.specs.declared.events.Survey.{Survey}
use Rattle.ring_model.proofs.Wholes.{whole_none, whole_push}
use Rattle.ring_model.specs.declared.bases.Base.{Base}
use Rattle.ring_model.specs.Bases.{no_base, state_from}
use Rattle.ring_model.specs.Chains.{Segment, IsChainFrom, chain_history}
use Rattle.ring_model.specs.WrongChains.{AreHistoriesBy, without_grants, with_wrapped_amounts, IsLateChainFrom, LateChainsAreHistories, GapsAreHistories, OwnCalmIsRight, history_by, survey_with_own_calm}
use Rattle.ring_model.specs.WorkedChains.{based, segment, worked_ring, settled_ring, last_ring, first_segment, second_segment, third_segment, worked_chain, settling_event, next_event, last_event, later_event, survey_in_second, WorkedChain, WorkedSurveys}

first_whole : IsWhole 3 first_segment.history
first_whole = whole_push 3 (zeroth_event ∷ first_event ∷ []) second_event (whole_push 3 (zeroth_event ∷ []) first_event (whole_push 3 [] zeroth_event (whole_none 3) tt) tt) tt

second_whole : IsWhole 3 second_segment.history
second_whole =
    whole_push 3 (third_event ∷ settling_event ∷ next_event ∷ []) last_event
    (whole_push 3 (third_event ∷ settling_event ∷ []) next_event (whole_push 3 (third_event ∷ []) settling_event (whole_push 3 [] third_event (whole_none 3) tt) tt) tt) tt

first_history : IsHistory till (opening worked_ring 0) first_segment.history
first_history = (((omega arith, refl, refl, refl, refl), ((omega arith, refl, refl), ((omega arith, refl, refl, refl, refl), tt))), first_whole)

second_history : IsHistory till (opening settled_ring 0) second_segment.history
second_history = (
  (
    (omega arith, omega arith, refl, refl),
    ((omega arith, refl, refl, refl, refl), ((omega arith, refl, refl, refl, refl), ((omega arith, refl, refl, refl, refl), tt))),
  ),
  second_whole,
)

chained : IsChainFrom no_base worked_ring worked_chain
chained = (refl, refl, first_history, (refl, refl, second_history, tt))

no_first : IsChainFrom no_base worked_ring (second_segment ∷ []) → ⊥
no_first c = let h : ◌≡◌ {A = ℕ} 3 0 = ap (λ (b : Base). b.events) c.0 in omega arith

no_twice : IsChainFrom no_base worked_ring (first_segment ∷ first_segment ∷ []) → ⊥
no_twice c = let h : ◌≡◌ {A = ℕ} 0 3 = ap (λ (b : Base). b.events) c.3.0 in omega arith

no_more_grants : IsChainFrom no_base worked_ring (first_segment ∷ segment (based 3 3 17 2) settled_ring [] ∷ []) → ⊥
no_more_grants c = let h : ◌≡◌ {A = ℕ} 3 2 = ap (λ (b : Base). b.grants) c.3.0 in omega arith

no_another_amount : IsChainFrom no_base worked_ring (first_segment ∷ segment (based 3 2 18 2) settled_ring [] ∷ []) → ⊥
no_another_amount c = let h : ◌≡◌ {A = ℕ} 18 17 = ap (λ (b : Base). b.amount) c.3.0 in omega arith

-- the value of machine 0
abbrev head_of : List ℕ → ℕ
head_of [] = 9
head_of (v ∷ vs) = v

no_another_ring : IsChainFrom no_base worked_ring (first_segment ∷ segment (based 3 2 17 2) worked_ring [] ∷ []) → ⊥
no_another_ring c = let h : ◌≡◌ {A = ℕ} 0 1 = ap (λ (r : Ring). head_of r.values) c.3.1 in omega arith

pub worked_chain_is : WorkedChain
worked_chain_is = record {
  chained = chained;
  history = refl;
  numbers = refl;
  cut = refl;
  end = refl;
  remainder = (refl, refl, second_history, tt);
  not_first = no_first;
  not_twice = no_twice;
  not_more_grants = no_more_grants;
  not_another_amount = no_another_amount;
  not_another_ring = no_another_ring;
}

pub worked_surveys_are : WorkedSurveys
worked_surveys_are = record {
  local = refl;
  at_cut = refl;
  corrupted = refl;
  at_end = refl;
  logs = (
    record { calls = refl; entries = (omega arith, refl, (omega arith, refl, tt)) },
    (record { calls = refl; entries = (omega arith, (omega arith, refl, refl), (omega arith, refl, tt)) }, refl),
  );
  fits = record {
    calls = refl;
    entries = (omega arith, refl, (omega arith, refl, (omega arith, (omega arith, refl, refl), (omega arith, refl, tt))));
  };
  remainder = (
    looked (survey_in_second 0) ∷ called 2 fifth_event ∷ [],
    record { calls = refl; entries = (omega arith, (omega arith, refl, refl), (omega arith, refl, tt)) },
    refl,
  );
}

-- one pass of machine 0, after something

abbrev one_segment : Base → Segment
one_segment b = segment b worked_ring (record { seat = 0; op = Pass 0 1; reply = Granted 1 1 } ∷ [])

one_history : IsHistory till (opening worked_ring 0) (record { seat = 0; op = Pass 0 1; reply = Granted 1 1 } ∷ [])
one_history = (((omega arith, refl, refl, refl, refl), tt), whole_push 3 [] (record { seat = 0; op = Pass 0 1; reply = Granted 1 1 }) (whole_none 3) tt)

one_chain : (b : Base) → IsChainFrom b worked_ring (one_segment b ∷ [])
one_chain b = (refl, refl, one_history, tt)

pub without_grants_fails : AreHistoriesBy without_grants → ⊥
without_grants_fails law =
    let b : Base = based 1 1 0 1 in
    let i : IsHistory till (state_from b worked_ring) (history_by without_grants (one_segment b ∷ [])) = law b worked_ring (one_segment b ∷ []) (omega arith) (one_chain b) in
    let h : ◌≡◌ {A = ℕ} 1 2 = i.0.0.2 in
    omega arith

pub wrapped_amounts_fail : AreHistoriesBy with_wrapped_amounts → ⊥
wrapped_amounts_fail law =
    let b : Base = based 1 1 (2 ^ 64 - 1) 1 in
    let i : IsHistory till (state_from b worked_ring) (history_by with_wrapped_amounts (one_segment b ∷ [])) = law b worked_ring (one_segment b ∷ []) (omega arith) (one_chain b) in
    let h : ◌≡◌ {A = ℕ} 0 (2 ^ 64 - 1) = i.0.0.3 in
    omega arith

-- the first two events, and then the second segment, whose base and ring have one call more

abbrev short_segment : Segment
short_segment = segment no_base worked_ring (zeroth_event ∷ first_event ∷ [])

short_history : IsHistory till (opening worked_ring 0) short_segment.history
short_history = (((omega arith, refl, refl, refl, refl), ((omega arith, refl, refl), tt)), whole_push 3 (zeroth_event ∷ []) first_event (whole_push 3 [] zeroth_event (whole_none 3) tt) tt)

abbrev fourth_local : Event
fourth_local = record { seat = 0; op = Pass 1 3; reply = Granted 4 8 }

late_chain : IsLateChainFrom no_base worked_ring (short_segment ∷ second_segment ∷ [])
late_chain = (refl, refl, short_history, (second_event, first_history, (refl, refl, second_history, (fourth_local, longer_history, tt))))
  where
    longer_history : IsHistory till (opening settled_ring 0) (third_event ∷ settling_event ∷ next_event ∷ last_event ∷ fourth_local ∷ [])
    longer_history = (
      (
        (omega arith, omega arith, refl, refl),
        ((omega arith, refl, refl, refl, refl), ((omega arith, refl, refl, refl, refl), ((omega arith, refl, refl, refl, refl), ((omega arith, refl, refl, refl, refl), tt)))),
      ),
      whole_push 3 second_segment.history fourth_local second_whole tt,
    )

pub late_chains_fail : LateChainsAreHistories → ⊥
late_chains_fail law =
    let i : IsHistory till (state_from no_base worked_ring) (chain_history (short_segment ∷ second_segment ∷ [])) = law no_base worked_ring (short_segment ∷ second_segment ∷ []) (omega arith) late_chain in
    let h : ◌≡◌ {A = ℕ} 3 2 = i.0.1.1.1.0.2 in
    omega arith

-- three segments, and the same without the one in the middle

third_history : IsHistory till (opening last_ring 0) third_segment.history
third_history = (((omega arith, refl, refl, refl, refl), tt), whole_push 3 [] later_event (whole_none 3) tt)

pub gaps_fail : GapsAreHistories → ⊥
gaps_fail law =
    let c : IsChainFrom no_base worked_ring (first_segment ∷ second_segment ∷ third_segment ∷ []) = (refl, refl, first_history, (refl, refl, second_history, (refl, refl, third_history, tt))) in
    let i : IsHistory till (state_from no_base worked_ring) (chain_history (first_segment ∷ third_segment ∷ [])) = law no_base worked_ring (first_segment ∷ []) second_segment (third_segment ∷ []) (omega arith) c in
    let h : ◌≡◌ {A = ℕ} 6 3 = i.0.1.1.1.0.2 in
    omega arith

pub own_calm_fails : OwnCalmIsRight → ⊥
own_calm_fails law =
    let i : IsSurvey till (opening worked_ring 0) (chain_history worked_chain) (survey_with_own_calm second_segment.base (survey_in_second 0)) =
    law worked_ring (first_segment ∷ []) second_segment [] (survey_in_second 0) chained (omega arith, refl, refl) in
    let h : ◌≡◌ {A = ℕ} 0 2 = ap (λ (s : Survey). s.calm) i.1 in
    omega arith
