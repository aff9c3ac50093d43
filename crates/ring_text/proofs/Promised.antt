-- From the promise of `run_farm` on an outcome to right runs.
use Rattle.std.proofs.Common.{◌≡◌, ℕ, ◌<◌, ◌≤◌, [], length, get_or, sym, subst, arith}
use Rattle.std.specs.Prelude.{All, Some, slice_get}
use Rattle.std.proofs.lemmas.Option.{slice_get-get_or}
use Rattle.ring_model.specs.Limits.{seat_limit}
use Rattle.ring_model.specs.Ring.{Ring}
use Rattle.ring_model.specs.History.{opening}
use Rattle.ring_model.specs.Groups.{IsHistory}
use Rattle.ring_model.specs.Logs.{Fits}
use Rattle.ring_model.specs.Resources.{till}
use Rattle.ring_state.specs.Sizes.{IsRingState}
use Rattle.ring_settings.specs.Contents.{SettingsData, RingData, IsRingSetting}
use Rattle.ring_logs.specs.Seats.{AreOfSeats}
use Rattle.ring_farm.specs.Log.{Log}
use Rattle.ring_farm.specs.declared.outcomes.Outcome.{Outcome}
use Rattle.ring_logs.specs.declared.outcomes.RingOutcome.{RingOutcome}
use Rattle.ring_farm.specs.Runs.{ring_of_data}
use Rattle.ring_farm.specs.Headline.{IsFarmRing, IsFarmOf}
use Rattle.ring_farm.proofs.Lawful.{is_whole}
use Rattle.ring_text.specs.Written.{OutcomeIsLegal, OutcomeIsRight}
use Rattle.one_thread_ring.specs.Runs.{IsRightRun}
use Rattle.ring_text.proofs.WrittenTexts.{written_is_legal, written_is_right}

-- a ring of settings is one of an allowed size
ring_allowed : (d : RingData) → IsRingSetting d → IsRingState (ring_of_data d)
ring_allowed d h =
    let long = h.one_each in
    let two = h.size.machines in
    let enough = h.size.values in
    record { ring = record { two = omega arith; enough = omega arith; below = λ i l. h.below i 0 l }; most_machines = omega (arith, h.size.most_machines); most = h.size.most }

-- the outcome of a farm with at most ten seats for a ring of its settings
promised_run : (settings : SettingsData) (ring : ℕ) (d : RingData) (r : RingOutcome) → IsRingSetting d → length settings.seats ≤ seat_limit →
    IsFarmRing settings ring d r → IsRightRun r
promised_run settings ring d r is most farm =
    let start : ring_of_data d ≡ r.book.start = sym farm.one_history.0 in
    let allowed : IsRingState r.book.start = subst IsRingState start (ring_allowed d is) in
    let count = farm.logs.count in
    record {
      ring = allowed.ring;
      most_machines = allowed.most_machines;
      most = allowed.most;
      legal_and_whole = subst (λ (s : Ring). IsHistory till (opening s 0) r.book.history) start (farm.one_history.1, is_whole settings ring d r farm);
      few = omega arith;
      by_number = λ seat l at. (farm.logs.each seat l at).0;
      seats = subst (λ (k : ℕ). AreOfSeats k r.book.history) (sym count) farm.calls.0;
      fits = subst (λ (s : Ring). All (λ (l : Log). Fits till (opening s 0) r.book.history l.seat l.entries.items) r.logs.items) start farm.right;
    }

-- each ring's outcome is a right run
promised_runs : (settings : SettingsData) (o : Outcome) → IsFarmOf settings o → All IsRightRun o.rings.items
promised_runs settings o farm i x within =
    let count = farm.count in
    let none : RingData = record { size = record { n = 0; k = 0 }; start = [] } in
    let inside : i < length settings.rings = omega arith in
    let d : RingData = get_or settings.rings i none in
    let r : RingOutcome = get_or o.rings.items i x in
    let at_d : slice_get settings.rings i ≡ Some d = slice_get-get_or settings.rings i none inside in
    let at_r : slice_get o.rings.items i ≡ Some r = slice_get-get_or o.rings.items i x within in
    promised_run settings i d r (farm.allowed.rings i none inside) farm.allowed.most_seats (farm.rings i d r at_d at_r)

pub outcome_is_legal : OutcomeIsLegal
outcome_is_legal settings o farm = written_is_legal o (promised_runs settings o farm)

pub outcome_is_right : OutcomeIsRight
outcome_is_right settings o farm = written_is_right o (promised_runs settings o farm)
