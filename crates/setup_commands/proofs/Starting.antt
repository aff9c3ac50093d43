-- The values that machines start with.
use Rattle.std.proofs.Common.{◌≡◌, ◌∙◌, ℕ, zero, suc, ◌+◌, ◌<◌, List, [], ◌∷◌, ◌++◌, length, Option, None, Some, refl, ap, sym, subst, arith}
use Rattle.std.proofs.lemmas.List.{length-replicate}
use Rattle.std.proofs.lemmas.List.Elements.{All-nil, All-push, All-replicate}
use Rattle.std.specs.List.{All}
use Rattle.rand_pcg.specs.Lcg.{Lcg}
use Rattle.ring_repairs.specs.Draws.{draw, generator}
use Rattle.ring_repairs.specs.Starts.{after_values, drawn_values, start_values}
use Rattle.ring_repairs.specs.declared.starts.Start.TheVariants as start
use Rattle.ring_repairs.proofs.Choices.{draw_less}
use Rattle.ring_repairs.proofs.Starting.{drawn_long}
use Rattle.ring_settings.specs.Contents.{IsRingSetting}
use Rattle.ring_state.specs.Sizes.{Size, IsSize}
use Rattle.setup_commands.specs.Rings.{start_of, ring_of}

-- ---- the loop that draws them

pub drawn_first : (k : ℕ) (g : Lcg) (xs : List ℕ) → xs ≡ [] → xs ≡ drawn_values k g 0
unfolding drawn_values
drawn_first k g xs e = e

pub drawn_next : (k : ℕ) (g h h' : Lcg) (i v : ℕ) (xs ys : List ℕ) → h ≡ after_values k g i → (v, h') ≡ draw k h → xs ≡ drawn_values k g i → ys ≡ xs ++ v ∷ [] →
    ys ≡ drawn_values k g (i + 1)
unfolding drawn_values
drawn_next k g h h' i v xs ys eh ev ex new =
    let value : v ≡ (draw k (after_values k g i)).0 = ap (λ (p : ℕ × Lcg). p.0) ev ∙ ap (λ (x : Lcg). (draw k x).0) eh in
    let next : suc i ≡ i + 1 = omega arith in
    new ∙ ap (λ (x : List ℕ). x ++ v ∷ []) ex ∙ ap (λ (x : ℕ). drawn_values k g i ++ x ∷ []) value ∙ ap (drawn_values k g) next

pub drawn_all : (s : Size) (g : Lcg) (i : ℕ) (xs : List ℕ) → xs ≡ drawn_values s.k g i → i ≡ s.n → xs ≡ start_values start.Any s 0 g
unfolding start_values
drawn_all s g i xs e all = e ∙ ap (drawn_values s.k g) all

-- ---- what a ring starts with

any_is : (s : Size) (g : Lcg) → start_values start.Any s 0 g ≡ drawn_values s.k g s.n
unfolding start_values
any_is s g = refl

drawn_below : (k : ℕ) (g : Lcg) (n : ℕ) → 0 < k → All (λ v. v < k) (drawn_values k g n)
unfolding drawn_values
drawn_below k g zero some = All-nil (λ v. v < k)
drawn_below k g (suc n) some =
    All-push (λ v. v < k) (drawn_values k g n) (draw k (after_values k g n)).0 (drawn_below k g n some) (draw_less k (after_values k g n) some)

pub start_long : (seed : Option ℕ) (place : ℕ) (s : Size) → length (start_of seed place s) ≡ s.n
start_long None place s = length-replicate s.n 0
start_long (Some seed) place s = ap (λ (x : List ℕ). length x) (any_is s (generator seed place)) ∙ drawn_long s.k (generator seed place) s.n

some_values : (s : Size) → IsSize s → 0 < s.k
some_values s is = let two = is.machines in let more = is.values in omega arith

start_below : (seed : Option ℕ) (place : ℕ) (s : Size) → IsSize s → All (λ v. v < s.k) (start_of seed place s)
start_below None place s is = All-replicate (λ v. v < s.k) s.n 0 (some_values s is)
start_below (Some seed) place s is =
    subst (All (λ v. v < s.k)) (sym (any_is s (generator seed place))) (drawn_below s.k (generator seed place) s.n (some_values s is))

-- such a ring is one that settings may have
pub is_setting : (seed : Option ℕ) (place : ℕ) (s : Size) → IsSize s → IsRingSetting (ring_of seed place s)
is_setting seed place s is = record { size = is; one_each = start_long seed place s; below = start_below seed place s is }
