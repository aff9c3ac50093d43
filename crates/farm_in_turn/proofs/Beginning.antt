-- A ring that is opened has the run before any turn.
use Rattle.std.proofs.Common.{◌≡◌, ℕ, List, [], map, sym, ap, ◌∙◌, arith}
use Rattle.std.specs.List.{range_with_len}
use Rattle.std.proofs.lemmas.List.{same_lists}
use Rattle.std.proofs.lemmas.List.FromFn.{get_or-map-range_with_len, length-map-range_with_len}
use Rattle.ring_model.specs.declared.events.Event.{Event}
use Rattle.ring_book.specs.BookView.{IsFresh}
use Rattle.ring_logs.specs.LogView.{LogView}
use Rattle.one_thread_ring.specs.Rings.{RingView, AreFresh}
use Rattle.ring_settings.specs.Contents.{SettingsData, ring_at}
use Rattle.farm_in_turn.specs.Rings.{IsBegun}

abbrev new_log : ℕ → LogView
new_log seat = record { number = seat; log = [] }

no_logs : (seats : ℕ) (cs : List LogView) → AreFresh seats cs → cs ≡ map new_log (range_with_len 0 seats)
no_logs seats cs fresh =
    let count = fresh.0 in
    same_lists cs (map new_log (range_with_len 0 seats)) (count ∙ sym (length-map-range_with_len new_log 0 seats))
    (λ k d lt. fresh.1 k d (omega (arith, lt, count)) ∙ sym (get_or-map-range_with_len new_log 0 seats k k d (omega (arith, lt, count)) (omega arith)))

-- a ring of the settings that is opened
pub opened : (settings : SettingsData) (ring seats k : ℕ) (start : List ℕ) (r : RingView ℕ) → IsFresh (record { k = k; values = start }) 0 r.book → AreFresh seats r.clients →
    k ≡ (ring_at settings ring).size.k → start ≡ (ring_at settings ring).start → IsBegun settings ring seats r
opened settings ring seats k start r book clients values states = record {
  start = book.0 ∙ (ap (λ (x : ℕ). record { k = x; values = start }) values ∙ ap (λ (x : List ℕ). record { k = (ring_at settings ring).size.k; values = x }) states);
  nothing = ap (λ (h : List Event). record { history = h; logs = r.clients }) book.2 ∙ ap (λ (cs : List LogView). record { history = []; logs = cs }) (no_logs seats r.clients clients);
}
