use Rattle.std.proofs.Common.{◌≡◌, ℕ, ◌<◌, true, false, ◌++◌, List, [], ◌∷◌, ◌+◌, length, drop, get_or, append_assoc, sym, ◌∙◌, ap, arith}
use Rattle.std.proofs.lemmas.List.{drop_more, at_drop_all, append-nil, get_or_read}
use Rattle.ring_settings.specs.declared.actions.Action.{Action}
use Rattle.farm_in_turn.specs.Turns.{waiting_from}
use Rattle.farm_in_turn.proofs.Waiting.{waiting_none, waiting_past, waiting_here}
use Rattle.farm_in_turn.proofs.turns.find_waiting.Goals as goal
use Rattle.farm_in_turn.proofs.turns.find_waiting.Goals.{then-not-is_done, else-not-is_done}

-- the seats from this one on, if it has nothing left, and if it has
past : (parts : List (List Action)) (seat : ℕ) (x : List Action) → seat < length parts → x ≡ get_or parts seat x → x ≡ [] → waiting_from seat (drop seat parts) ≡ waiting_from (seat + 1) (drop (seat + 1) parts)
past parts seat x lt at none =
    let same : x ≡ get_or parts seat [] = get_or_read parts seat x lt at [] in
    ap (waiting_from seat) (drop_more parts seat [] lt) ∙ waiting_past seat (get_or parts seat []) (drop (seat + 1) parts) (sym same ∙ none)

here : (parts : List (List Action)) (seat : ℕ) (x : List Action) → seat < length parts → x ≡ get_or parts seat x → (x ≡ [] → ⊥) → waiting_from seat (drop seat parts) ≡ seat ∷ waiting_from (seat + 1) (drop (seat + 1) parts)
here parts seat x lt at some =
    let same : x ≡ get_or parts seat [] = get_or_read parts seat x lt at [] in
    ap (waiting_from seat) (drop_more parts seat [] lt) ∙ waiting_here seat (get_or parts seat []) (drop (seat + 1) parts) (λ e. some (same ∙ e))

pub loop-seat-preserved : goal.loop-seat-preserved
loop-seat-preserved c =
    let parts : List (List Action) = c.args.parts.now in
    let seat : ℕ = c.loop-seat.seat in
    let lt : seat < length parts = omega (arith, c.loop-seat-test.true) in
    let found = c.loop-seat.invariant.found in
    let few = c.loop-seat.invariant.few in
    elim c.if-not-is_done.branch [
      | then-not-is_done w ↦ rw w.seats-is (record {
        found = rw w.push_reserved.ensures.items (append_assoc c.loop-seat.seats.items (seat ∷ []) (waiting_from (seat + 1) (drop (seat + 1) parts))
            ∙ (ap (λ (xs : List ℕ). c.loop-seat.seats.items ++ xs)
            (sym (here parts seat c.index-parts-seat.result lt c.index-parts-seat.is (λ e. let no : false ≡ true = sym w.if-not-is_done.true ∙ c.is_done.ensures.1 e in cc))) ∙ found));
        few = omega (arith, w.push_reserved.ensures.len);
        room = w.push_reserved.ensures.capacity ∙ c.loop-seat.invariant.room;
      })
      | else-not-is_done w ↦ rw w.seats-is (record {
        found = ap (λ (xs : List ℕ). c.loop-seat.seats.items ++ xs) (sym (past parts seat c.index-parts-seat.result lt c.index-parts-seat.is (c.is_done.ensures.0 w.if-not-is_done.false))) ∙ found;
        few = omega arith;
        room = c.loop-seat.invariant.room;
      })
    ]

pub returns-clause-seats : goal.returns-clause-seats
returns-clause-seats c =
    sym (append-nil _) ∙ (ap (λ xs. c.loop-seat.seats.items ++ xs) (sym (waiting_none _) ∙ sym (at_drop_all (waiting_from c.loop-seat.seat) c.args.parts.now c.loop-seat.seat (omega arith))) ∙ c.loop-seat.invariant.found)
