-- The loop that draws a number.
use Rattle.std.proofs.Common.{◌≡◌, ℕ, zero, suc, ◌+◌, ◌-◌, ◌%◌, ◌^◌, ◌<◌, ◌≤◌, true, false, cond, refl, sym, ◌∙◌, ap, subst, arith}
use Rattle.std.proofs.lemmas.Bool.{cond-true, cond-false, le-leb, lt-leb}
use Rattle.rand_pcg.specs.Lcg.{Lcg}
use Rattle.ring_repairs.specs.Draws.{word, is_fair, draw_within, draw, redraw_limit}

pub draw_is : (m : ℕ) (g : Lcg) → draw_within redraw_limit m g ≡ draw m g
unfolding draw
draw_is m g = refl

draw_zero : (m : ℕ) (g : Lcg) → draw_within zero m g ≡ ((word g).0 % m, (word g).1)
unfolding draw_within
draw_zero m g = refl

draw_suc : (more m : ℕ) (g : Lcg) →
    draw_within (suc more) m g ≡ cond (is_fair m (word g).0) ((word g).0 % m, (word g).1) (draw_within more m (word g).1)
unfolding draw_within
draw_suc more m g = refl

-- a fair word is taken
pub draw_fair : (more m w : ℕ) (g h : Lcg) → (w, h) ≡ word g → w - w % m + m ≤ 2 ^ 32 → (w % m, h) ≡ draw_within (suc more) m g
draw_fair more m w g h e fair =
    let yes : is_fair m w ≡ true = le-leb (w - w % m + m) (2 ^ 32) fair in
    sym (draw_suc more m g
    ∙ subst (λ (p : ℕ × Lcg). cond (is_fair m p.0) (p.0 % m, p.1) (draw_within more m p.1) ≡ (w % m, h)) e
    (cond-true (is_fair m w) (w % m, h) (draw_within more m h) yes))

-- another is passed over
pub draw_over : (more m w : ℕ) (g h : Lcg) → (w, h) ≡ word g → 2 ^ 32 < w - w % m + m → draw_within (suc more) m g ≡ draw_within more m h
draw_over more m w g h e over =
    let no : is_fair m w ≡ false = lt-leb (w - w % m + m) (2 ^ 32) over in
    draw_suc more m g
    ∙ subst (λ (p : ℕ × Lcg). cond (is_fair m p.0) (p.0 % m, p.1) (draw_within more m p.1) ≡ draw_within more m h) e
    (cond-false (is_fair m w) (w % m, h) (draw_within more m h) no)

-- the last is taken as it is
pub draw_last : (m w : ℕ) (g h : Lcg) → (w, h) ≡ word g → (w % m, h) ≡ draw_within 0 m g
draw_last m w g h e = let f : ℕ × Lcg → ℕ × Lcg = λ p. (p.0 % m, p.1) in ap f e ∙ sym (draw_zero m g)
