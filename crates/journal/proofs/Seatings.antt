-- The surveys seat by seat.
use Rattle.std.proofs.Common.{◌≡◌, ℕ, zero, suc, ◌+◌, ◌-◌, ◌<◌, ◌≤◌, List, ◌++◌, length, refl, sym, ap, ◌∙◌, append_assoc, length-append, arith}
use Rattle.std.specs.Prelude.{not}
use Rattle.std.specs.List.{filter}
use Rattle.std.proofs.lemmas.List.Filters.{length-filter_both}
use Rattle.saved_history.specs.declared.saved.SavedSurvey.{SavedSurvey}
use Rattle.journal.specs.ContentAfter.{is_of, by_seats}

-- nothing is lost
pub length-by_seats : (left seat : ℕ) (ss : List SavedSurvey) → length (by_seats seat left ss) ≡ length ss
unfolding by_seats
length-by_seats zero seat ss = refl
length-by_seats (suc left) seat ss =
    let behind = length-by_seats left (seat + 1) (filter (λ s. not (is_of seat s)) ss) in
    let both = length-filter_both (is_of seat) (λ s. not (is_of seat s)) (λ x. refl) ss in
    let joined = length-append (filter (is_of seat) ss) (by_seats (seat + 1) left (filter (λ s. not (is_of seat s)) ss)) in
    omega arith

-- a seat more, of those that are found so far
pub seat_more : (seat limit : ℕ) (front rest all : List SavedSurvey) → seat < limit → front ++ by_seats seat (limit - seat) rest ≡ all
    → (front ++ filter (is_of seat) rest) ++ by_seats (seat + 1) (limit - (seat + 1)) (filter (λ s. not (is_of seat s)) rest) ≡ all
unfolding by_seats
seat_more seat limit front rest all lt so_far =
    let next : limit - seat ≡ suc (limit - (seat + 1)) = omega arith in
    append_assoc front (filter (is_of seat) rest) (by_seats (seat + 1) (limit - (seat + 1)) (filter (λ s. not (is_of seat s)) rest))
    ∙ sym (ap (λ (n : ℕ). front ++ by_seats seat n rest) next) ∙ so_far

-- after the last seat the others are left
pub seats_all : (seat limit : ℕ) (front rest all : List SavedSurvey) → limit ≤ seat → front ++ by_seats seat (limit - seat) rest ≡ all → front ++ rest ≡ all
unfolding by_seats
seats_all seat limit front rest all le so_far =
    let none : limit - seat ≡ zero = omega arith in
    sym (ap (λ (n : ℕ). front ++ by_seats seat n rest) none) ∙ so_far
