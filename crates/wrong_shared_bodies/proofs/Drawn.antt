-- Spoiled drawn plans.
use Rattle.std.proofs.Common.{◌≡◌, ℕ, zero, suc, ◌-◌, ◌%◌, ◌==◌, ◌≤◌, List, [], ◌∷◌, length, slice_index, Bool, true, false, refl, ap, sym, ◌∙◌, arith, length-append}
use Rattle.std.specs.Prelude.{if◌then◌else◌}
use Rattle.rand_core.specs.Stream.{Stream}
use Rattle.ring_state.specs.Sizes.{Size}
use Rattle.ring_settings.specs.Actions.{size_at}
use Rattle.ring_settings.specs.Draws.{action_of_words, next_four, left_after, drawn}
use Rattle.ring_settings.specs.declared.actions.Action.{Action}
use Rattle.ring_settings.specs.declared.actions.Action.TheVariants as action
use Rattle.ring_settings.specs.declared.actions.Role.{Role}
use Rattle.ring_settings.specs.declared.actions.Role.TheVariants.{Worker, Injector}
use Rattle.wrong_shared_bodies.proofs.Ends.{same_last}

-- as many actions are drawn as were asked for
drawn_long : (role : Role) (sizes : List Size) (m : ℕ) (s : Stream) → length (drawn role sizes m s) ≡ m
drawn_long role sizes zero s = refl
drawn_long role sizes (suc m) s =
    length-append (drawn role sizes m s) (action_of_words role sizes (next_four (left_after m s)) ∷ []) ∙ omega (arith, drawn_long role sizes m s)

pub fewer_drawn : (role : Role) (sizes : List Size) (m : ℕ) (s : Stream) → 1 ≤ m → drawn role sizes (m - 1) s ≡ drawn role sizes m s → ⊥
fewer_drawn role sizes m s some e = omega (arith, ap (λ (x : List Action). length x) e, drawn_long role sizes (m - 1) s, drawn_long role sizes m s)

abbrev corrupts : Action → Bool
corrupts (action.Pass ring machine order) = false
corrupts (action.Survey ring) = false
corrupts (action.Corrupt ring machine value) = true

no_corruption : (b : Bool) (ring machine order : ℕ) → corrupts (if b then action.Survey ring else action.Pass ring machine order) ≡ false
no_corruption true ring machine order = refl
no_corruption false ring machine order = refl

words_apart : (sizes : List Size) (ws : List ℕ) → action_of_words Worker sizes ws ≡ action_of_words Injector sizes ws → ⊥
words_apart sizes ws e =
    let none : corrupts (action_of_words Worker sizes ws) ≡ false =
    no_corruption (slice_index ws 1 % 8 == 0) (slice_index ws 0 % length sizes) (slice_index ws 2 % (size_at sizes (slice_index ws 0 % length sizes)).n) (slice_index ws 3) in
    let one : corrupts (action_of_words Worker sizes ws) ≡ true = ap corrupts e in
    cc (none, one)

-- a worker's actions are not an injector's
pub roles_apart : (sizes : List Size) (m : ℕ) (s : Stream) → 1 ≤ m → drawn Injector sizes m s ≡ drawn Worker sizes m s → ⊥
roles_apart sizes zero s some e = omega arith
roles_apart sizes (suc m) s some e =
    words_apart sizes (next_four (left_after m s))
    (sym (same_last (drawn Injector sizes m s) (drawn Worker sizes m s) (action_of_words Injector sizes (next_four (left_after m s))) (action_of_words Worker sizes (next_four (left_after m s))) e))
