-- The first fault in the words of `step`, from the tests that find it.
use Rattle.std.proofs.Common.{◌≡◌, ◌≢◌, ℕ, zero, suc, ◌+◌, ◌<◌, ◌≤◌, Bool, true, false, cond, List, [], ◌∷◌, length, get_or, Option, None, Some, refl, sym, ap, ◌∙◌, arith}
use Rattle.std.specs.Prelude.{nat_le, ◌==◌}
use Rattle.std.specs.List.{position, position_from}
use Rattle.std.proofs.lemmas.Iterator.Adapters.{position_from-zero}
use Rattle.std.proofs.lemmas.Bool.Decides.{nat_tests}
use Rattle.std.specs.Option.{option_map, option_or}
use Rattle.ring_model.specs.Ring.{Ring}
use Rattle.ring_state.specs.Sizes.{IsRingState}
use Rattle.ring_state.specs.StateFault.{IsFaultOf}
use Rattle.ring_state.specs.declared.states.StateError.{StateError}
use Rattle.ring_state.specs.declared.states.StateError.TheVariants as state
use Rattle.tool_parts.specs.declared.faults.ToolError.{ToolError}
use Rattle.tool_parts.specs.declared.faults.ToolError.TheVariants as tool
use Rattle.tool_parts.specs.Faults.{size_fault, choice_fault, start_fault, fault_of, fault_of_state, IsRefusalOver}

-- the first place that passes is the answer of a search from the front
first_from : (p : ℕ → Bool) (xs : List ℕ) (k i : ℕ) → i < length xs → p (get_or xs i 0) ≡ true → ((j : ℕ) → j < i → p (get_or xs j 0) ≡ false) → position_from p k xs ≡ Some (k + i)
first_from p [] k i h t b = absurd (omega arith)
first_from p (x ∷ xs) k zero h t b = rw t (ap Some (omega arith))
first_from p (x ∷ xs) k (suc i) h t b =
    rw (b 0 (omega arith)) (first_from p xs (k + 1) i (omega arith) t (λ j l. b (suc j) (omega arith)) ∙ ap Some (omega arith))

none_from : (p : ℕ → Bool) (xs : List ℕ) (k : ℕ) → ((j : ℕ) → j < length xs → p (get_or xs j 0) ≡ false) → position_from p k xs ≡ None
none_from p [] k b = refl
none_from p (x ∷ xs) k b = rw (b 0 (omega arith)) (none_from p xs (k + 1) (λ j l. b (suc j) (omega arith)))

pub position-first : (p : ℕ → Bool) (xs : List ℕ) (i : ℕ) → i < length xs → p (get_or xs i 0) ≡ true → ((j : ℕ) → j < i → p (get_or xs j 0) ≡ false) → position p xs ≡ Some i
position-first p xs i h t b = position_from-zero p xs ∙ first_from p xs 0 i h t b ∙ ap Some (omega arith)

pub position-none : (p : ℕ → Bool) (xs : List ℕ) → ((j : ℕ) → j < length xs → p (get_or xs j 0) ≡ false) → position p xs ≡ None
position-none p xs b = position_from-zero p xs ∙ none_from p xs 0 b

no_answer : (b : Bool) (k : ℕ) (o : Option ℕ) → cond b (Some k) o ≡ None → (b ≡ false) × (o ≡ None)
no_answer true k o e = let bad : ⊥ = cc in absurd bad
no_answer false k o e = (refl, e)

-- where a search finds nothing, no place passes
nothing_from : (p : ℕ → Bool) (xs : List ℕ) (k j : ℕ) → position_from p k xs ≡ None → j < length xs → p (get_or xs j 0) ≡ false
nothing_from p [] k j e h = absurd (omega arith)
nothing_from p (x ∷ xs) k zero e h = (no_answer (p x) k (position_from p (k + 1) xs) e).0
nothing_from p (x ∷ xs) k (suc j) e h = nothing_from p xs (k + 1) j (no_answer (p x) k (position_from p (k + 1) xs) e).1 (omega arith)

pub position-nothing : (p : ℕ → Bool) (xs : List ℕ) (j : ℕ) → position p xs ≡ None → j < length xs → p (get_or xs j 0) ≡ false
position-nothing p xs j e h = nothing_from p xs 0 j (sym (position_from-zero p xs) ∙ e) h

over : (n v : ℕ) → n ≤ v → nat_le n v ≡ true
over n v h = grind (arith, nat_tests)

under : (n v : ℕ) → v < n → nat_le n v ≡ false
under n v h = grind (arith, nat_tests)

not_over : (n v : ℕ) → nat_le n v ≡ false → v < n
not_over n v h = grind (arith, nat_tests)

same_length : (a b : ℕ) → a ≡ b → (a == b) ≡ true
same_length a b h = grind (arith, nat_tests)

other_length : (a b : ℕ) → a ≢ b → (a == b) ≡ false
other_length a b h = grind (arith, nat_tests)

-- a state that is not made says the first fault of its values, or that there is none
pub start_refused : (n k : ℕ) (states : List ℕ) (e : StateError) → size_fault n k ≡ None → IsFaultOf (record { n = n; k = k }) states e →
    IsRefusalOver (start_fault n k states) (fault_of_state e)
start_refused n k states state.Length size h = rw (size, other_length (length states) n h) refl
start_refused n k states (state.Value i) size h =
    rw (size, same_length (length states) n h.0)
    (ap (option_map (λ j. tool.Value j)) (position-first (λ v. nat_le k v) states i h.1.in_list (over k (get_or states i 0) h.1.over) (λ j l. under k (get_or states j 0) (h.1.least j l))))
start_refused n k states state.OutOfMemory size h =
    rw (size, same_length (length states) n h.0)
    (ap (option_map (λ j. tool.Value j)) (position-none (λ v. nat_le k v) states (λ j l. under k (get_or states j 0) (h.1 j l))))

-- where no choice is found, each is a machine
choices_below : (n : ℕ) (choices : List ℕ) (j : ℕ) → choice_fault n choices ≡ None → j < length choices → get_or choices j 0 < n
choices_below n choices j e h =
    not_over n (get_or choices j 0) (position-nothing (λ c. nat_le n c) choices j (unmapped (position (λ c. nat_le n c) choices) e) h)
  where
    unmapped : (o : Option ℕ) → option_map (λ i. tool.Choice i) o ≡ None → o ≡ None
    unmapped None q = refl
    unmapped (Some i) q = cc

-- a state that is made has no fault
pub start_allowed : (n k : ℕ) (states : List ℕ) (r : Ring) → size_fault n k ≡ None → length states ≡ n → r ≡ record { k = k; values = states } → IsRingState r →
    start_fault n k states ≡ None
start_allowed n k states r size long is ring =
    let here : IsRingState (record { k = k; values = states }) = rw is at ring in
    start_refused n k states state.OutOfMemory size (long, here.ring.below)

neither : (a b : Option ToolError) → option_or a b ≡ None → b ≡ None
neither None b e = e
neither (Some x) b e = cc

-- where the words of `step` have no fault, each choice is a machine
pub choices_allowed : (n k : ℕ) (states choices : List ℕ) (j : ℕ) → fault_of n k states choices ≡ None → j < length choices → get_or choices j 0 < n
choices_allowed n k states choices j none h = choices_below n choices j (neither (start_fault n k states) (choice_fault n choices) none) h
