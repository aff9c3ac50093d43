-- A turn of one ring among all rings.
use Rattle.std.proofs.Common.{◌≡◌, ℕ, ◌<◌, ◌≤◌, subst, length-set, List, [], ◌∷◌, length, get_or, map, Option, Some, None, slice_get, slice_set, drop, refl, sym, ap, ◌∙◌, inl, inr, arith, ◌-◌, ◌++◌, length-append}
use Rattle.std.proofs.lemmas.List.{map-set, set-get_or, get_or-set_same, get_or-set_other}
use Rattle.std.proofs.lemmas.List.{get_or_append_left}
use Rattle.std.proofs.lemmas.List.{get_or-append_right}
use Rattle.std.proofs.lemmas.Bool.{cases_lt, cases_eq}
use Rattle.std.proofs.lemmas.Option.{slice_get-map, slice_get-get_or, slice_get_past}
use Rattle.std.specs.Prelude.{option_map}
use Rattle.endless_ring.specs.Endless.{EndlessView, IsEndless}
use Rattle.ring_service.specs.Commands.{Command, ring_of}
use Rattle.ring_service.specs.Standings.{Standing, standing_of, AreRight}
use Rattle.ring_service.specs.Turns.{Turn, events, placed, turn_among, recorded_seen, recorded_among, turn_seen, turn_seen_among, history_of, IsTurnAt, IsTurn}
use Rattle.ring_service.specs.declared.answers.Answer.TheVariants as answer
use Rattle.ring_service.specs.declared.answers.Refusal.TheVariants as refusal
use Rattle.ring_service.specs.declared.turns.CallAnswer.{CallAnswer}
use Rattle.ring_service.specs.declared.turns.Trace.{Trace}
use Rattle.ring_service.specs.declared.turns.Trace.TheVariants as trace

-- the state of a ring among those of all
pub at_place : (rings : List EndlessView) (i : ℕ) (d : EndlessView) → i < length rings → slice_get (map standing_of rings) i ≡ Some (standing_of (get_or rings i d))
at_place rings i d l = slice_get-map standing_of rings i ∙ ap (λ (x : Option EndlessView). option_map standing_of x) (slice_get-get_or rings i d l)

recorded_is : (ring : ℕ) (rings : List Standing) (r : Standing) (m : Trace) → slice_get rings ring ≡ Some r → recorded_among ring rings m ≡ recorded_seen ring r m
recorded_is ring rings r trace.Nothing e = refl
recorded_is ring rings r (trace.Events from) e = ap (λ (x : Option Standing). events ring (drop from (history_of x)) ∷ []) e
recorded_is ring rings r (trace.Survey seat s) e = refl

module _ (rings : List EndlessView) (d d' : EndlessView) (command : Command) (m : CallAnswer) (l : ring_of command < length rings) (is : get_or rings (ring_of command) d ≡ d) where
  abbrev i : ℕ
  i = ring_of command

  abbrev all : List Standing
  all = map standing_of rings

  found : slice_get all i ≡ Some (standing_of d)
  found = at_place rings i d l ∙ ap (λ (x : EndlessView). Some (standing_of x)) is

  after : slice_get (map standing_of (slice_set rings i d')) i ≡ Some (standing_of d')
  after = at_place (slice_set rings i d') i d (omega (arith, length-set rings i d')) ∙ ap (λ (x : EndlessView). Some (standing_of x)) (get_or-set_same rings i d' d l)

  seen_is : turn_seen_among i (map standing_of (slice_set rings i d')) m ≡ placed all i (turn_seen i (standing_of d') m)
  seen_is = λ j. record { answer = m.answer; recorded = recorded_is i (map standing_of (slice_set rings i d')) (standing_of d') m.trace after j; leaves = map-set standing_of rings i d' j }

  kept : slice_set all i (standing_of d) ≡ all
  kept = sym (map-set standing_of rings i d) ∙ ap (λ (xs : List EndlessView). map standing_of xs) (ap (λ (x : EndlessView). slice_set rings i x) (sym is) ∙ set-get_or rings i d)

  pub placed_turn : IsTurnAt (standing_of d) command (turn_seen i (standing_of d') m) → IsTurn all command (turn_seen_among i (map standing_of (slice_set rings i d')) m)
  placed_turn (inl e) = inl (seen_is ∙ (ap (λ (t : Turn Standing). placed all i t) e ∙ ap (λ (x : Option Standing). turn_among all command x) (sym found)))
  placed_turn (inr e) = inr (seen_is ∙ (ap (λ (t : Turn Standing). placed all i t) e ∙ (λ j. record { answer = answer.Refused refusal.OutOfMemory; recorded = []; leaves = kept j })))

-- a command of a ring that is not there
pub no_ring : (rings : List EndlessView) (command : Command) (m : CallAnswer) → length rings ≤ ring_of command → m ≡ record { answer = answer.Refused refusal.NoRing; trace = trace.Nothing } →
    IsTurn (map standing_of rings) command (turn_seen_among (ring_of command) (map standing_of rings) m)
no_ring rings command m l e =
    let out : slice_get (map standing_of rings) (ring_of command) ≡ None = slice_get-map standing_of rings (ring_of command) ∙ ap (λ (x : Option EndlessView). option_map standing_of x) (slice_get_past rings (ring_of command) l) in
    inl (ap (λ (x : CallAnswer). turn_seen_among (ring_of command) (map standing_of rings) x) e ∙ ap (λ (x : Option Standing). turn_among (map standing_of rings) command x) (sym out))

-- each ring is right after a change of one
pub still_right : (rings : List EndlessView) (i : ℕ) (d' : EndlessView) → AreRight rings → IsEndless d' → AreRight (slice_set rings i d')
still_right rings i d' all one j d l = elim (cases_eq j i) [
  | inl e ↦
      let within : i < length rings = omega (arith, length-set rings i d', e) in
      subst (λ (x : EndlessView). IsEndless x) (sym (ap (λ (k : ℕ). get_or (slice_set rings i d') k d) e ∙ get_or-set_same rings i d' d within)) one
  | inr ne ↦ subst (λ (x : EndlessView). IsEndless x) (sym (get_or-set_other rings i j d' d ne)) (all j d (omega (arith, length-set rings i d')))
]

-- ---- the history of a ring among all

pub history_at : (rings : List EndlessView) (i : ℕ) (d : EndlessView) → i < length rings → get_or rings i d ≡ d → history_of (slice_get (map standing_of rings) i) ≡ d.ring.book.history
history_at rings i d l is = ap (λ (x : Option Standing). history_of x) (at_place rings i d l) ∙ ap (λ (x : EndlessView). x.ring.book.history) is

pub history_none : (rings : List EndlessView) (i : ℕ) → length rings ≤ i → history_of (slice_get (map standing_of rings) i) ≡ []
history_none rings i l = ap (λ (x : Option Standing). history_of x) (slice_get-map standing_of rings i ∙ ap (λ (x : Option EndlessView). option_map standing_of x) (slice_get_past rings i l))

-- a ring more that is right
pub right_more : (rings : List EndlessView) (r : EndlessView) → AreRight rings → IsEndless r → AreRight (rings ++ r ∷ [])
right_more rings r all one j d l = elim (cases_lt j (length rings)) [
  | inl lt ↦ subst (λ (x : EndlessView). IsEndless x) (sym (get_or_append_left rings (r ∷ []) d j lt)) (all j d lt)
  | inr ge ↦
      let same : j ≡ length rings = omega (arith, length-append rings (r ∷ [])) in
      let nothing : length rings - length rings ≡ 0 = omega arith in
      let there : get_or (rings ++ r ∷ []) (length rings) d ≡ r = get_or-append_right rings (r ∷ []) (length rings) (length rings) d refl (omega arith) ∙ ap (λ (k : ℕ). get_or (r ∷ []) k d) nothing in
      subst (λ (x : EndlessView). IsEndless x) (sym (ap (λ (k : ℕ). get_or (rings ++ r ∷ []) k d) same ∙ there)) one
]

pub standings_more : (rings : List EndlessView) (r : EndlessView) → map standing_of (rings ++ r ∷ []) ≡ map standing_of rings ++ standing_of r ∷ []
standings_more [] r = refl
standings_more (x ∷ rings) r = ap (λ (xs : List Standing). standing_of x ∷ xs) (standings_more rings r)
