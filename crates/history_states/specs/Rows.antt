-- The rows of a block: its states, one after each event (this project's own).
use Rattle.std.specs.Prelude.{ℕ, zero, suc, ◌+◌, List, [], ◌∷◌, ◌++◌, codes, length, slice_get, Option, None, Some}
use Rattle.std.specs.Fmt.{decimal}
use Rattle.std.specs.List.{filter, flat_map, range_with_len}
use Rattle.ring_model.specs.Ring.{Ring, is_privileged, privileged_count, rest}
use Rattle.saved_history.specs.declared.saved.SavedEvent.{SavedEvent}
use Rattle.saved_history.specs.declared.saved.SavedEvent.TheVariants.{Granted, Refused, Member, Corrupted}
use Rattle.saved_history.specs.Content.{Block}
use Rattle.history_steps.specs.Steps.{ring_at, calm_at}
use Rattle.history_states.specs.declared.form.Form.{Form}
use Rattle.history_states.specs.declared.calls.Call.{Call}
use Rattle.history_states.specs.Cells.{Cell, Number, Word, Numbers, cell_text, first_text, last_text, header}

-- the kind of an event; of the row before the first one, `start`
abbrev pub kind_of : Option SavedEvent → List ℕ
kind_of None = codes "start"
kind_of (Some (Granted seat machine order number answer)) = codes "granted"
kind_of (Some (Refused seat machine order)) = codes "refused"
kind_of (Some (Member seat machine order more number answer)) = codes "member"
kind_of (Some (Corrupted seat machine value old)) = codes "corrupted"

-- a call without numbers
abbrev pub no_call : Call
no_call = record {
  seat = None;
  machine = None;
  order = None;
  left = None;
  number = None;
  result = None;
  value = None;
  old = None;
}

-- the numbers of an event's call and of its reply
abbrev pub call_of : Option SavedEvent → Call
call_of None = no_call
call_of (Some (Granted seat machine order number answer)) = record no_call {
  seat = Some seat;
  machine = Some machine;
  order = Some order;
  number = Some number;
  result = Some answer;
}
call_of (Some (Refused seat machine order)) = record no_call {
  seat = Some seat;
  machine = Some machine;
  order = Some order;
}
call_of (Some (Member seat machine order more number answer)) = record no_call {
  seat = Some seat;
  machine = Some machine;
  order = Some order;
  left = Some more;
  number = Some number;
  result = Some answer;
}
call_of (Some (Corrupted seat machine value old)) = record no_call {
  seat = Some seat;
  machine = Some machine;
  value = Some value;
  old = Some old;
}

-- the privileged machines, in their order
abbrev pub privileged_of : List ℕ → List ℕ
privileged_of values = filter (is_privileged values) (range_with_len 0 (length values))

-- the cells of a row after the ring's index: how many events there were, the last of these, the
-- state after it, and its measures
abbrev pub row_cells : ℕ → List ℕ → Call → Ring → ℕ → List Cell
row_cells place kind call r calm =
    Number (codes "event") (Some place)
    ∷ Word (codes "kind") kind
    ∷ Number (codes "seat") call.seat
    ∷ Number (codes "machine") call.machine
    ∷ Number (codes "order") call.order
    ∷ Number (codes "left") call.left
    ∷ Number (codes "number") call.number
    ∷ Number (codes "result") call.result
    ∷ Number (codes "value") call.value
    ∷ Number (codes "old") call.old
    ∷ Numbers (codes "states") r.values
    ∷ Number (codes "privileged") (Some (privileged_count r.values))
    ∷ Numbers (codes "at") (privileged_of r.values)
    ∷ Number (codes "rest") (Some (rest r))
    ∷ Number (codes "calm") (Some calm)
    ∷ []

-- a row
abbrev pub row_text : Form → ℕ → ℕ → List ℕ → Call → Ring → ℕ → List ℕ
row_text f index place kind call r calm =
    (first_text f ++ decimal index)
    ++ (flat_map (cell_text f) (row_cells place kind call r calm) ++ last_text f)

-- the last of the first n events of a block, if n is not 0
abbrev pub last_event : Block → ℕ → Option SavedEvent
last_event b zero = None
last_event b (suc i) = slice_get b.events i

-- the row of a block after its first n events
abbrev pub row : Form → Block → ℕ → List ℕ
row f b place =
    row_text f b.index place (kind_of (last_event b place)) (call_of (last_event b place))
    (ring_at b place) (calm_at b place)

-- the rows of a block: before its first event, and after each
abbrev pub rows : Form → Block → List ℕ
rows f b = flat_map (row f b) (range_with_len 0 (length b.events + 1))

-- the table of some blocks
abbrev pub table : Form → List Block → List ℕ
table f bs = header f ++ flat_map (rows f) bs
