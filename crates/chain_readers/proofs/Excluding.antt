-- No two holds are open at a time.
use Rattle.std.proofs.Common.{◌≡◌, ℕ, ◌+◌, ◌<◌, ◌≤◌, Bool, List, [], ◌∷◌, ◌++◌, sym, subst, arith, Option, Some, inl, inr}
use Rattle.std.specs.Prelude.{◌⊎◌}
use Rattle.saved_history.specs.declared.saved.SavedEvent.{SavedEvent}
use Rattle.saved_history.specs.declared.saved.SavedSurvey.{SavedSurvey}
use Rattle.saved_history.specs.Content.{Block}
use Rattle.ring_model.specs.declared.bases.Base.{Base}
use Rattle.chain_readers.specs.declared.holds.Grant.{Grant}
use Rattle.chain_readers.specs.declared.holds.End.{End}
use Rattle.chain_readers.specs.declared.holds.Hold.{Hold}
use Rattle.chain_readers.specs.declared.signs.Sign.{Sign}
use Rattle.chain_readers.specs.declared.signs.Sign.TheVariants.{Granted, Carried, Ended}
use Rattle.chain_readers.specs.Signs.{sign_of, ends_at, place, ended, signs_from, signs_of}
use Rattle.chain_readers.specs.Holds.{IsOpen, IsEnded, AreHolds, IsCarried, AreLaterHolds}
use Rattle.chain_readers.specs.HoldLaws.{Rise, IsBefore, AreApart}

rise_after : (low : ℕ) (xs : List (ℕ × Sign)) (at : ℕ) (s : Sign) (ys : List (ℕ × Sign)) → Rise low (xs ++ (at, s) ∷ ys) → (low ≤ at) × Rise at ys
rise_after low [] at s ys r = r
rise_after low (x ∷ xs) at s ys r =
    let more = rise_after x.0 xs at s ys r.1 in
    let first = r.0 in (omega (arith, first, more.0), more.1)

-- the first of these holds begins here or later, with a token greater than this one
abbrev Begin : ℕ → ℕ → List Hold → Type 0
Begin low token [] = Unit {0}
Begin low token (h ∷ hs) = (g : Grant) × (h.grant ≡ Some g) × (low ≤ g.from) × (token < h.token)

next_apart : (h : Hold) (others : List Hold) (e : End) → h.end ≡ Some e → Begin e.to h.token others → AreApart others → AreApart (h ∷ others)
next_apart h [] e is b a = tt
next_apart h (g ∷ hs) e is b a = (
  subst (λ (x : Option End). IsBefore x g.grant) (sym is) (subst (λ (x : Option Grant). IsBefore (Some e) x) (sym b.1) b.2),
  b.3,
  a,
)

after_apart : (h : Hold) (others : List Hold) (low : ℕ) (signs : List (ℕ × Sign)) →
    ((low : ℕ) (signs : List (ℕ × Sign)) → Rise low signs → AreHolds h.token others signs → AreApart others × Begin low h.token others) → Rise low signs →
    (IsOpen h others signs ⊎ IsEnded h (AreHolds h.token others) signs) → AreApart (h ∷ others)
after_apart h others low signs next r (inl o) = subst (λ (x : List Hold). AreApart (h ∷ x)) (sym o.1) tt
after_apart h others low signs next r (inr o) =
    let rest = rise_after low o.1 o.0.to (Ended o.0.left) o.2 (subst (λ (x : List (ℕ × Sign)). Rise low x) o.4 r) in
    let more = next o.0.to o.2 rest.1 o.6 in next_apart h others o.0 o.3 more.1 more.0

apart : (hs : List Hold) (token low : ℕ) (signs : List (ℕ × Sign)) → Rise low signs → AreHolds token hs signs → AreApart hs × Begin low token hs
apart [] token low signs r a = (tt, tt)
apart (h ∷ hs) token low signs r a =
    let rest = rise_after low a.1 a.0.from (Granted h.token a.0.label) a.2 (subst (λ (x : List (ℕ × Sign)). Rise low x) a.5 r) in
    (after_apart h hs a.0.from a.2 (apart hs h.token) rest.1 a.7, (a.0, a.3, rest.0, a.4))

carried_apart : (hs : List Hold) (low : ℕ) (signs : List (ℕ × Sign)) → Rise low signs → IsCarried hs signs → AreApart hs
carried_apart [] low signs r c = absurd c
carried_apart (h ∷ hs) low signs r c =
    let rest = rise_after low [] c.0 (Carried h.token) c.1 (subst (λ (x : List (ℕ × Sign)). Rise low x) c.4 r) in after_apart h hs c.0 c.1 (apart hs h.token) rest.1 c.5

pub holds_apart : (signs : List (ℕ × Sign)) (holds : List Hold) → Rise 0 signs → AreLaterHolds holds signs → AreApart holds
holds_apart signs holds r (inl a) = let both = apart holds 0 0 signs r a in both.0
holds_apart signs holds r (inr c) = carried_apart holds 0 signs r c

-- ---- places

pub rise_from : (low high : ℕ) (xs : List (ℕ × Sign)) → low ≤ high → Rise high xs → Rise low xs
rise_from low high [] l r = tt
rise_from low high (x ∷ xs) l r = let first = r.0 in (omega (arith, l, first), r.1)

rise_ended : (at : ℕ) (lefts : List Bool) (rest : List (ℕ × Sign)) → Rise at rest → Rise at (ended at lefts ++ rest)
rise_ended at [] rest r = r
rise_ended at (left ∷ lefts) rest r = (omega arith, rise_ended at lefts rest r)

rise_ends : (at : ℕ) (lefts : List Bool) → Rise at (ended at lefts)
rise_ends at [] = tt
rise_ends at (left ∷ lefts) = (omega arith, rise_ends at lefts)

next_place : (b : Base) (i : ℕ) → place b i ≤ place b (i + 1)
next_place b i = omega arith

pub rise_signs : (b : Base) (ss : List SavedSurvey) (es : List SavedEvent) (i : ℕ) → Rise (place b i) (signs_from b ss i es)
rise_signs b ss [] i = rise_ends (place b i) (ends_at i ss)
rise_signs b ss (e ∷ es) i =
    rise_ended (place b i) (ends_at i ss) ((place b i, sign_of b e) ∷ signs_from b ss (i + 1) es)
    (omega arith, rise_from (place b i) (place b (i + 1)) (signs_from b ss (i + 1) es) (next_place b i) (rise_signs b ss es (i + 1)))

pub signs_rise : (b : Base) (k : Block) → Rise 0 (signs_of b k)
signs_rise b k = rise_from 0 (place b 0) (signs_of b k) (omega arith) (rise_signs b k.surveys k.events 0)
