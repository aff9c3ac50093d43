-- The running counts of a book.
use Rattle.std.specs.Prelude.{◌≡◌, ◌+◌, ◌<◌, ℕ, List, [], length, slice_index, Bool, false}
use Rattle.ring_model.specs.Ring.{is_settled}
use Rattle.ring_model.specs.History.{Works, State, after}
use Rattle.ring_model.specs.Surveys.{calm}
use Rattle.ring_model.specs.Grants.{settled_run}
use Rattle.ring_model.specs.Logs.{calls_of}
use Rattle.ring_model.specs.declared.events.Event.{Event}
use Rattle.ring_model.specs.Limits.{seat_limit}
use Rattle.ring_book.specs.GrantsView.{GrantsView, IsGrantsOf, raised, one_grant, run_ended}

-- the calm, the calls of each seat, whether exactly one machine is privileged now, and the grants
pub record TallyView : Type 0 where
  pub calm : ℕ
  pub calls : List ℕ
  pub settled : Bool
  pub grants : GrantsView

-- the counts are those of a history from the state a
pub record IsTallyOf {C : Type 0} (w : Works C) (a : State C) (h : List Event) (t : TallyView) :
    Type 0 where
  pub calm : t.calm ≡ calm h
  pub seats : length t.calls ≡ seat_limit
  pub calls : (seat : ℕ) → seat < seat_limit → slice_index t.calls seat ≡ length (calls_of seat h)
  pub settled : t.settled ≡ is_settled (after w a h).ring.values
  pub no_run : t.settled ≡ false → settled_run w a h ≡ []
  pub grants : IsGrantsOf w a h (length a.ring.values) t.grants

-- the counts after one call more of a seat
abbrev pub after_call : TallyView → ℕ → TallyView
after_call t seat = record {
  calm = t.calm;
  calls = raised t.calls seat;
  settled = t.settled;
  grants = t.grants;
}

-- the counts after a granted pass of machine i, by which the ring is settled or not
abbrev pub after_grant : TallyView → ℕ → Bool → TallyView
after_grant t i settled = record {
  calm = t.calm + 1;
  calls = t.calls;
  settled = settled;
  grants = one_grant t.grants i t.settled;
}

-- the counts after a corruption, by which the ring is settled or not
abbrev pub after_corruption : TallyView → Bool → TallyView
after_corruption t settled = record {
  calm = 0;
  calls = t.calls;
  settled = settled;
  grants = run_ended t.grants;
}
