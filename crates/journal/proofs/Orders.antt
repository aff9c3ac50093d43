-- The history of saved texts with no call more: surveys that are in order stay as they are.
use Rattle.std.proofs.Common.{◌≡◌, ℕ, zero, suc, ◌+◌, ◌<◌, ◌≤◌, Bool, true, false, eqb, List, [], ◌∷◌, ◌++◌, length, map, Err, Some, None, Option, refl, sym, ap, ◌∙◌, subst, ◌⊎◌, inl, inr, arith}
use Rattle.std.specs.Prelude.{not}
use Rattle.std.specs.List.{filter}
use Rattle.std.proofs.lemmas.Bool.{eqb-true, eqb-false}
use Rattle.ring_model.specs.Limits.{seat_limit}
use Rattle.saved_history.specs.declared.saved.SavedSurvey.{SavedSurvey}
use Rattle.saved_history.specs.Content.{Block, Content}
use Rattle.ring_check.specs.declared.answers.Kind.{Kind}
use Rattle.ring_check.specs.declared.answers.CheckError.TheVariants as check
use Rattle.ring_check.specs.Legal.{IsLegalText, IsRightCheck}
use Rattle.ring_check.specs.Meaning.{AreOnward, AreInOrder, AreRightBlocks, IsRightText}
use Rattle.journal.specs.declared.calls.JournalLine.{JournalLine}
use Rattle.journal.specs.ContentAfter.{is_of, by_seats, in_order, content_after}

-- the seats do not fall, from this one on
abbrev Rise : ℕ → List SavedSurvey → Type 0
Rise seat [] = Unit {0}
Rise seat (s ∷ ss) = (seat ≤ s.seat) × Rise s.seat ss

rise : (seat position : ℕ) (ss : List SavedSurvey) → AreOnward seat position ss → Rise seat ss
rise seat position [] o = tt
rise seat position (s ∷ ss) o = (⊎-le o.0, rise s.seat s.position ss o.1)
  where
    ⊎-le : (seat < s.seat) ⊎ ((seat ≡ s.seat) × (position ≤ s.position)) → seat ≤ s.seat
    ⊎-le (inl lt) = omega arith
    ⊎-le (inr e) = let same = e.0 in omega (arith, same)

rises : (ss : List SavedSurvey) → AreInOrder ss → Rise 0 ss
rises [] o = tt
rises (s ∷ ss) o = (omega arith, rise s.seat s.position ss o)

abbrev Kept : ℕ → List SavedSurvey → Type 0
Kept seat ss = (filter (is_of seat) ss ++ filter (λ s. not (is_of seat s)) ss ≡ ss) × Rise (seat + 1) (filter (λ s. not (is_of seat s)) ss)

-- none of a seat after later ones
abbrev None_of : ℕ → List SavedSurvey → Type 0
None_of seat ss = (filter (is_of seat) ss ≡ []) × (filter (λ s. not (is_of seat s)) ss ≡ ss)

none_step : (seat : ℕ) (s : SavedSurvey) (ss : List SavedSurvey) → is_of seat s ≡ false → None_of seat ss → None_of seat (s ∷ ss)
none_step seat s ss e k = rw e (k.0, ap (λ (xs : List SavedSurvey). s ∷ xs) k.1)

pub other : (a b : ℕ) → b < a → eqb a b ≡ false
other a b lt = go (eqb a b) refl
  where
    go : (r : Bool) → eqb a b ≡ r → eqb a b ≡ false
    go true e = absurd (let same = eqb-true a b e in omega (arith, same, lt))
    go false e = e

none_of : (seat low : ℕ) (ss : List SavedSurvey) → seat < low → Rise low ss → None_of seat ss
none_of seat low [] lt r = (refl, refl)
none_of seat low (s ∷ ss) lt r =
    let le = r.0 in
    none_step seat s ss (other s.seat seat (omega (arith, lt, le))) (none_of seat s.seat ss (omega (arith, lt, le)) r.1)

later : (a b : ℕ) → eqb a b ≡ false → b ≤ a → b < a
later a b e le = let apart = eqb-false a b e in grind (arith, apart, le)

kept_step : (seat : ℕ) (s : SavedSurvey) (ss : List SavedSurvey) → is_of seat s ≡ true → Kept seat ss → Kept seat (s ∷ ss)
kept_step seat s ss e k = rw e (ap (λ (xs : List SavedSurvey). s ∷ xs) k.0, k.1)

later_step : (seat : ℕ) (s : SavedSurvey) (ss : List SavedSurvey) → is_of seat s ≡ false → seat + 1 ≤ s.seat → Rise s.seat ss → None_of seat ss → Kept seat (s ∷ ss)
later_step seat s ss e le r k = rw e (ap (λ (xs : List SavedSurvey). xs ++ s ∷ filter (λ s. not (is_of seat s)) ss) k.0 ∙ ap (λ (xs : List SavedSurvey). s ∷ xs) k.1, (le, subst (λ (xs : List SavedSurvey). Rise s.seat xs) (sym k.1) r))

kept_cons : (seat : ℕ) (s : SavedSurvey) (ss : List SavedSurvey) (b : Bool) → is_of seat s ≡ b → seat ≤ s.seat → Rise s.seat ss → (Rise seat ss → Kept seat ss) → Kept seat (s ∷ ss)
kept_cons seat s ss true e le r more = kept_step seat s ss e (more (subst (λ (n : ℕ). Rise n ss) (eqb-true s.seat seat e) r))
kept_cons seat s ss false e le r more =
    let far = later s.seat seat e le in
    later_step seat s ss e (omega (arith, far)) r (none_of seat s.seat ss far r)

kept : (seat : ℕ) (ss : List SavedSurvey) → Rise seat ss → Kept seat ss
kept seat [] r = (refl, tt)
kept seat (s ∷ ss) r = kept_cons seat s ss (is_of seat s) refl r.0 r.1 (kept seat ss)

seated : (left seat : ℕ) (ss : List SavedSurvey) → Rise seat ss → by_seats seat left ss ≡ ss
unfolding by_seats
seated zero seat ss r = refl
seated (suc left) seat ss r =
    let k = kept seat ss r in
    ap (λ (xs : List SavedSurvey). filter (is_of seat) ss ++ xs) (seated left (seat + 1) (filter (λ s. not (is_of seat s)) ss) k.1) ∙ k.0

blocks_stay : (version place : ℕ) (bs : List Block) → AreRightBlocks version place bs → map in_order bs ≡ bs
blocks_stay version place [] r = refl
blocks_stay version place (b ∷ bs) r =
    ap (λ (ss : List SavedSurvey). record b { surveys = ss } ∷ map in_order bs) (seated seat_limit 0 b.surveys (rises b.surveys r.0.order))
    ∙ ap (λ (xs : List Block). b ∷ xs) (blocks_stay version (place + 1) bs r.1)

-- with no call a journal records its start
pub nothing_after : (began : Content) → IsRightText began → content_after began [] ≡ began
nothing_after began r = ap (λ (bs : List Block). record began { rings = bs }) (blocks_stay began.version 0 began.rings r.blocks)

-- ---- a legal text has no bad line

abbrev IsSome : Option Kind → Type 0
IsSome (Some kind) = Unit {0}
IsSome None = ⊥

pub not_both : (c : Content) (line : ℕ) (kind : Kind) → IsLegalText c → IsRightCheck c (Err (check.Bad line kind)) → ⊥
not_both c line kind good bad = subst IsSome (sym bad.6 ∙ good bad.0 bad.1 bad.2 bad.3) tt

-- so where the recorded history has one, there are calls
pub calls_there : (began : Content) (calls : List JournalLine) (line : ℕ) (kind : Kind) → IsRightText began → IsLegalText began → IsRightCheck (content_after began calls) (Err (check.Bad line kind)) → 0 < length calls
calls_there began [] line kind right legal bad = absurd (not_both began line kind legal (subst (λ (c : Content). IsRightCheck c (Err (check.Bad line kind))) (nothing_after began right) bad))
calls_there began (r ∷ rs) line kind right legal bad = omega arith
