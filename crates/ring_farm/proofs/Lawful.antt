-- The consequences of the headline of a farm.
use Rattle.std.proofs.Common.{◌≡◌, ℕ, ◌<◌, Bool, true, false, cond, List, [], ◌∷◌, length, map, Some, slice_get, ap, sym, ◌∙◌, refl, subst, inl, eqb, eq-eqb, arith}
use Rattle.std.specs.Prelude.{◌==◌, All, filter, Result}
use Rattle.std.proofs.lemmas.Bool.Decides.{nat_tests}
use Rattle.std.proofs.lemmas.List.Elements.{All-nil, All-cons, All-head, All-tail}
use Rattle.std.proofs.lemmas.Option.{slice_get_within, get_or_from_slice_get}
use Rattle.ring_model.specs.Ring.{IsRing}
use Rattle.ring_model.specs.History.{State, opening}
use Rattle.ring_model.specs.Groups.{IsAlone, IsWhole}
use Rattle.ring_model.specs.HistoryLaws.{Settlement}
use Rattle.ring_model.specs.Logs.{calls_of}
use Rattle.ring_model.specs.Resources.{till}
use Rattle.ring_model.specs.declared.events.Op.{Op}
use Rattle.ring_model.specs.declared.events.Op.TheVariants as op
use Rattle.ring_model.specs.declared.events.Event.{Event}
use Rattle.ring_model.proofs.HistoryLaws.{settlement}
use Rattle.ring_model.proofs.Progress.{history_progress}
use Rattle.ring_model.proofs.Wholes.{whole_none, whole_before}
use Rattle.ring_settings.specs.declared.actions.Action.{Action}
use Rattle.ring_settings.specs.Contents.{SettingsData, RingData, plan_of, IsRingSetting, IsSettings}
use Rattle.ring_logs.specs.Seats.{AreOfSeats}
use Rattle.ring_logs.specs.declared.outcomes.RingOutcome.{RingOutcome}
use Rattle.ring_farm.specs.declared.faults.FarmError.{FarmError}
use Rattle.ring_farm.specs.Plans.{part, calls_read, action_of_op, is_call}
use Rattle.ring_farm.specs.Runs.{ring_of_data}
use Rattle.ring_farm.specs.Headline.{EachDone, IsFarmRing, HoldsCalls}
use Rattle.ring_farm.specs.Consequences.{HasNoMembers, IsWholeOne, IsRepaired, TakesTurns, HasReceipts, IsLawfulAt, RingsAreLawful, FarmsAreLawful}
use Rattle.ring_farm.proofs.OneOutcome.{right_at}

-- events that read as actions are not members'
abbrev AreRead : ℕ → List Event → Type 0
AreRead ring h = (xs : List Action) × (calls_read ring h ≡ map (λ (a : Action). Some a) xs)

read_head : (ring : ℕ) (e : Event) (h : List Event) → AreRead ring (e ∷ h) → IsAlone e.op × AreRead ring h
read_head ring e h ([], is) = absurd (cc is)
read_head ring e h (a ∷ xs, is) = (go e.op (cc is), (xs, cc is))
  where
    go : (o : Op) → action_of_op ring o ≡ Some a → IsAlone o
    go (op.Pass machine order) q = tt
    go (op.Member machine order left) q = absurd (cc q)
    go (op.Corrupt machine value) q = tt

all_alone : (n ring : ℕ) (h : List Event) → AreOfSeats n h → ((seat : ℕ) → seat < n → AreRead ring (calls_of seat h)) → All (λ (e : Event). IsAlone e.op) h
all_alone n ring [] seats read = All-nil (λ (e : Event). IsAlone e.op)
all_alone n ring (e ∷ h) seats read =
    let here : e.seat < n = All-head (λ (d : Event). d.seat < n) e h seats in
    let mine : AreRead ring (e ∷ calls_of e.seat h) =
    subst (λ (b : Bool). AreRead ring (cond b (e ∷ calls_of e.seat h) (calls_of e.seat h))) (eq-eqb e.seat e.seat refl) (read e.seat here) in
    All-cons (λ (d : Event). IsAlone d.op) e h (read_head ring e (calls_of e.seat h) mine).0
    (all_alone n ring h (All-tail (λ (d : Event). d.seat < n) e h seats) (λ seat within. later seat (e.seat == seat) refl (read seat within)))
  where
    later : (seat : ℕ) (b : Bool) → (e.seat == seat) ≡ b → AreRead ring (calls_of seat (e ∷ h)) → AreRead ring (calls_of seat h)
    later seat true q r = (read_head ring e (calls_of seat h) (subst (λ (c : Bool). AreRead ring (cond c (e ∷ calls_of seat h) (calls_of seat h))) q r)).1
    later seat false q r = subst (λ (c : Bool). AreRead ring (cond c (e ∷ calls_of seat h) (calls_of seat h))) q r

has_no_members : (settings : SettingsData) (ring : ℕ) (d : RingData) (r : RingOutcome) → HoldsCalls settings ring d r → HasNoMembers r
has_no_members settings ring d r holds =
    all_alone (length settings.seats) ring r.book.history holds.0 (λ seat within. (filter is_call (part ring (plan_of settings seat)), holds.1 seat within))

-- a history with no member is whole
alone_whole : (n : ℕ) (h : List Event) → All (λ (e : Event). IsAlone e.op) h → IsWhole n h
alone_whole n [] alone = whole_none n
alone_whole n (e ∷ h) alone =
    whole_before n (e ∷ []) h (inl (e, refl, All-head (λ (d : Event). IsAlone d.op) e h alone)) (alone_whole n h (All-tail (λ (d : Event). IsAlone d.op) e h alone))

-- so is that of a farm's ring
pub is_whole : (settings : SettingsData) (ring : ℕ) (d : RingData) (r : RingOutcome) → IsFarmRing settings ring d r → IsWholeOne d r
is_whole settings ring d r farm = alone_whole (length d.start) r.book.history (has_no_members settings ring d r farm.calls)

one_is : (n : ℕ) → eqb n 1 ≡ true → n ≡ 1
one_is n e = grind (arith, nat_tests)

abbrev Settling : RingData → RingOutcome → Type 0
Settling d r = Settlement till (opening (ring_of_data d) 0) r.book.history

is_repaired : (d : RingData) (r : RingOutcome) → Settling d r → IsRepaired d r
is_repaired d r laws q within calm = one_is _ (laws.calm_settles q within calm)

takes_turns : (d : RingData) (r : RingOutcome) → Settling d r → TakesTurns d r
takes_turns d r laws p q order within quiet calm = (laws.stays_round p q order within quiet (laws.calm_settles p (omega arith) calm)).1

has_receipts : (settings : SettingsData) (ring : ℕ) (d : RingData) (r : RingOutcome) → IsFarmRing settings ring d r → HasReceipts r
has_receipts settings ring d r farm seat l at =
    sym (ap length ((right_at d r seat l farm.right at).calls ∙ ap (λ (k : ℕ). calls_of k r.book.history) (farm.logs.each seat l at).0))

-- a ring of allowed settings is one
ring_allowed : (d : RingData) → IsRingSetting d → IsRing (ring_of_data d)
ring_allowed d h =
    let long = h.one_each in
    let two = h.size.machines in
    let enough = h.size.values in
    record { two = omega arith; enough = omega arith; below = λ i l. h.below i 0 l }

-- all that follows
pub rings_are_lawful : RingsAreLawful
rings_are_lawful settings ring d r is farm =
    let start : State ℕ = opening (ring_of_data d) 0 in
    let laws : Settling d r = settlement till start r.book.history (ring_allowed d is) farm.one_history.1 in
    record {
      size = is.one_each;
      alone = has_no_members settings ring d r farm.calls;
      whole = is_whole settings ring d r farm;
      repaired = is_repaired d r laws;
      turns = takes_turns d r laws;
      settlement = laws;
      progress = history_progress till start r.book.history (ring_allowed d is) farm.one_history.1;
      receipts = has_receipts settings ring d r farm;
    }

-- a ring of settings that a farm can run is allowed
setting_at : (settings : SettingsData) (i : ℕ) (d : RingData) → IsSettings settings → slice_get settings.rings i ≡ Some d → IsRingSetting d
setting_at settings i d allowed at =
    subst IsRingSetting (get_or_from_slice_get settings.rings i d d at) (allowed.rings i d (slice_get_within settings.rings i d at))

-- it follows of each ring that was not refused
pub each_lawful : (settings : SettingsData) (results : List (Result RingOutcome FarmError)) → IsSettings settings → EachDone (IsFarmRing settings) settings results →
    EachDone IsLawfulAt settings results
each_lawful settings results allowed done i d res at there r is = rings_are_lawful settings i d r (setting_at settings i d allowed at) (done i d res at there r is)

-- and of each ring of a farm
pub farms_are_lawful : FarmsAreLawful
farms_are_lawful settings o farm i d r at there = rings_are_lawful settings i d r (setting_at settings i d farm.allowed at) (farm.rings i d r at there)
