-- Which place is shown for a place.
use Rattle.std.proofs.Common.{◌≡◌, ℕ, zero, suc, ◌+◌, ◌<◌, ◌≤◌, true, List, length, take, refl, sym, ap, ◌∙◌, arith}
use Rattle.std.specs.Prelude.{nat_lt}
use Rattle.std.proofs.lemmas.Bool.Decides.{nat_tests}
use Rattle.std.proofs.lemmas.List.{take_all, length-map}
use Rattle.ring_model.specs.declared.events.Event.{Event}
use Rattle.ring_model.specs.Groups.{left_after}
use Rattle.saved_history.specs.Content.{Block}
use Rattle.ring_check.specs.Legal.{history}
use Rattle.ring_check.specs.Table.{event_of}
use Rattle.history_picture.specs.Picture.{shown}

-- a place inside no block shows itself
pub shown_here : (b : Block) (place : ℕ) → left_after (take place (history b)) ≡ 0 → shown b place ≡ place
shown_here b zero e = refl
shown_here b (suc place) e = rw e refl

-- one inside a block shows the same as the place before it
pub shown_before : (b : Block) (place next : ℕ) → next ≡ place + 1 → 0 < left_after (take next (history b)) → shown b next ≡ shown b place
shown_before b place zero e inside = absurd (omega arith)
shown_before b place (suc same) e inside =
    let t : nat_lt 0 (left_after (take (suc same) (history b))) ≡ true = grind (arith, nat_tests) in
    let back : same ≡ place = omega arith in
    rw t (ap (shown b) back)

-- past the last event as many are left as after it
pub left_past : (b : Block) (place : ℕ) → length b.events ≤ place → left_after (take (length b.events) (history b)) ≡ left_after (take place (history b))
left_past b place l =
    let n : length (history b) ≡ length b.events = length-map b.events event_of in
    ap (λ (h : List Event). left_after h) (take_all (length b.events) (history b) (omega arith) ∙ sym (take_all place (history b) (omega arith)))
