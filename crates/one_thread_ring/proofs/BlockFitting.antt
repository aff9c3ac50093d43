-- Why the block of a ring fits.
use Rattle.std.proofs.Common.{ℕ, ◌^◌, ◌<◌, ◌≤◌, List, length, map, refl, arith}
use Rattle.std.specs.List.{AllByRecursion}
use Rattle.ring_model.specs.Limits.{value_limit}
use Rattle.ring_model.specs.Ring.{Ring}
use Rattle.ring_model.specs.declared.events.Event.{Event}
use Rattle.ring_state.specs.Sizes.{IsRingState}
use Rattle.saved_history.specs.declared.saved.SavedSurvey.{SavedSurvey}
use Rattle.saved_history.specs.Versions.{latest_version}
use Rattle.saved_history.specs.Spelling.{EventFits, SurveyFits, BlockFits}
use Rattle.one_thread_ring.specs.SavedOf.{saved_event, block_by}
use Rattle.one_thread_ring.proofs.SavedParts.{small_below}

-- its start and the number of its events are small
pub block_fits : (place : ℕ) (start : Ring) (h : List Event) (surveys : List SavedSurvey) → place < 2 ^ 32 → IsRingState start → length h < 2 ^ 64 → AllByRecursion (EventFits latest_version) (map saved_event h) → AllByRecursion SurveyFits surveys → BlockFits latest_version (block_by place start h surveys)
block_fits place start h surveys small state few events fit =
    let two : 2 ≤ length start.values = state.ring.two in
    let enough : length start.values ≤ start.k = state.ring.enough in
    let most : start.k ≤ value_limit = state.most in
    record {
      head = record { index = small; some = omega (arith, two); n = omega (arith, enough, most); k = omega (arith, most) };
      start = refl;
      values = small_below start.k start.values state.ring.below (omega (arith, most));
      events = events;
      events_said = few;
      surveys = fit;
    }
