-- The places of the signs of a chain's segments rise.
use Rattle.std.proofs.Common.{◌≡◌, ℕ, zero, suc, ◌+◌, ◌≤◌, Bool, true, false, List, [], ◌∷◌, ◌++◌, length, map, refl, sym, ◌∙◌, ap, subst, arith, Option, Some, None, inl, inr}
use Rattle.std.specs.Prelude.{◌⊎◌, ◌==◌, slice_get}
use Rattle.std.proofs.lemmas.List.{length-map}
use Rattle.saved_history.specs.declared.saved.SavedEvent.{SavedEvent}
use Rattle.saved_history.specs.declared.saved.SavedSurvey.{SavedSurvey}
use Rattle.saved_history.specs.Content.{Block}
use Rattle.ring_check.specs.Table.{event_of}
use Rattle.ring_model.specs.declared.bases.Base.{Base}
use Rattle.segment_files.specs.Sums.{capped}
use Rattle.segment_files.specs.Files.{File, Place, Link, place_after, segment_of, segments_of, link_after, opening_link, AreBases, AreChainedAfter, AreChained}
use Rattle.chain_readers.specs.declared.holds.Hold.{Hold}
use Rattle.chain_readers.specs.declared.signs.Sign.{Sign}
use Rattle.chain_readers.specs.Signs.{sign_of, ends_at, place, ended, signs_from, signs_of}
use Rattle.chain_readers.specs.Chains.{Part, parts_of, parts_in, at_number, of_lock, signs_in, AreHoldsAfter, AreHoldsIn}
use Rattle.chain_readers.specs.HoldLaws.{Rise, AreApart}
use Rattle.chain_readers.proofs.Excluding.{holds_apart, rise_from, rise_signs}

-- ---- no sign comes after a place

abbrev UpTo : ℕ → List (ℕ × Sign) → Type 0
UpTo high [] = Unit {0}
UpTo high (x ∷ xs) = (x.0 ≤ high) × UpTo high xs

up_to_ended : (high at : ℕ) (lefts : List Bool) (rest : List (ℕ × Sign)) → at ≤ high → UpTo high rest → UpTo high (ended at lefts ++ rest)
up_to_ended high at [] rest l u = u
up_to_ended high at (left ∷ lefts) rest l u = (l, up_to_ended high at lefts rest l u)

up_to_ends : (high at : ℕ) (lefts : List Bool) → at ≤ high → UpTo high (ended at lefts)
up_to_ends high at [] l = tt
up_to_ends high at (left ∷ lefts) l = (l, up_to_ends high at lefts l)

places_rise : (b : Base) (i n : ℕ) → place b i ≤ place b (i + n)
places_rise b i n = omega arith

up_to_signs : (b : Base) (ss : List SavedSurvey) (es : List SavedEvent) (i high : ℕ) → place b (i + length es) ≤ high → UpTo high (signs_from b ss i es)
up_to_signs b ss [] i high l =
    let at = places_rise b i (length {A = SavedEvent} []) in up_to_ends high (place b i) (ends_at i ss) (omega (arith, at, l))
up_to_signs b ss (e ∷ es) i high l =
    let here : place b i ≤ high = let at = places_rise b i (length (e ∷ es)) in omega (arith, at, l) in
    let n : (i + 1) + length es ≡ i + length (e ∷ es) = omega arith in
    up_to_ended high (place b i) (ends_at i ss) ((place b i, sign_of b e) ∷ signs_from b ss (i + 1) es) here
    (here, up_to_signs b ss es (i + 1) high (subst (λ (k : ℕ). place b k ≤ high) (sym n) l))

rise_append : (low high : ℕ) (xs ys : List (ℕ × Sign)) → low ≤ high → Rise low xs → UpTo high xs → Rise high ys → Rise low (xs ++ ys)
rise_append low high [] ys l r u s = rise_from low high ys l s
rise_append low high (x ∷ xs) ys l r u s = (r.0, rise_append x.0 high xs ys u.0 r.1 u.1 s)

-- ---- one segment and those after it

segment_rise : (low : ℕ) (p : Part) (ys : List (ℕ × Sign)) → low ≤ place p.base 0 → Rise (place p.base (length p.block.events)) ys → Rise low (signs_of p.base p.block ++ ys)
segment_rise low p ys l r =
    let high : ℕ = place p.base (length p.block.events) in
    let n : 0 + length p.block.events ≡ length p.block.events = omega arith in
    let below : place p.base 0 ≤ high = let at = places_rise p.base 0 (length p.block.events) in subst (λ (k : ℕ). place p.base 0 ≤ place p.base k) n at in
    rise_append low high (signs_of p.base p.block) ys (omega (arith, l, below)) (rise_from low (place p.base 0) (signs_of p.base p.block) l (rise_signs p.base p.block.surveys p.block.events 0))
    (up_to_signs p.base p.block.surveys p.block.events 0 high (subst (λ (k : ℕ). place p.base k ≤ high) (sym n) (omega arith))) r

-- ---- the segments of a file

-- where the next segment of a lock begins, as a link says it
abbrev IsFrom : ℕ → List Place → ℕ → Type 0
IsFrom low ps i = ((slice_get ps i ≡ None) × (low ≡ 0)) ⊎ ((p : Place) × (slice_get ps i ≡ Some p) × (low ≡ capped p.base.events))

-- a file has no segment of a lock, or one with this base
abbrev IsAt : ℕ → List Base → List Block → ℕ → Type 0
IsAt low bs ks i =
    ((at_number i (parts_of bs ks) ≡ []) × (low ≡ 0) × (slice_get (map place_after (segments_of bs ks)) i ≡ None))
    ⊎ ((p : Part) × (at_number i (parts_of bs ks) ≡ p ∷ []) × (low ≤ place p.base 0) × (slice_get (map place_after (segments_of bs ks)) i ≡ Some (place_after (segment_of p.base p.block))))

none_no : (a : Place) → ◌≡◌ {A = Option Place} None (Some a) → ⊥
none_no a e = cc

some_is : (a b : Place) → ◌≡◌ {A = Option Place} (Some a) (Some b) → a ≡ b
some_is a b e = cc

new_at : (bs : List Base) (ks : List Block) (i low : ℕ) → low ≡ 0 → IsAt low bs ks i
new_at [] ks i low e = inl (refl, e, refl)
new_at (b ∷ bs) [] i low e = inl (refl, e, refl)
new_at (b ∷ bs) (k ∷ ks) zero low e = inr (record { base = b; block = k }, refl, omega (arith, e), refl)
new_at (b ∷ bs) (k ∷ ks) (suc i) low e = new_at bs ks i low e

from_at : (ps : List Place) (bs : List Base) (ks : List Block) (i low : ℕ) → AreBases ps bs → length bs ≡ length ks → IsFrom low ps i → IsAt low bs ks i
from_at [] bs ks i low a n (inl o) = new_at bs ks i low o.1
from_at [] bs ks i low a n (inr o) = absurd (none_no o.0 o.1)
from_at (p ∷ ps) [] ks i low a n f = absurd a
from_at (p ∷ ps) (b ∷ bs) [] i low a n f = absurd (omega (arith, n))
from_at (p ∷ ps) (b ∷ bs) (k ∷ ks) zero low a n (inl o) = absurd (none_no p (sym o.0))
from_at (p ∷ ps) (b ∷ bs) (k ∷ ks) zero low a n (inr o) =
    let same : p ≡ o.0 = some_is p o.0 o.1 in
    let base : b.events ≡ o.0.base.events = ap (λ (x : Base). x.events) a.0 ∙ ap (λ (x : Place). x.base.events) same in
    inr (record { base = b; block = k }, refl, omega (arith, o.2, base), refl)
from_at (p ∷ ps) (b ∷ bs) (k ∷ ks) (suc i) low a n f = from_at ps bs ks i low a.2 (omega (arith, n)) f

-- ---- files

no_rise : (low : ℕ) → Rise low []
no_rise low = tt

-- the segment of a lock in one file, and those in the files after it
file_rise : (low : ℕ) (f : File) (i : ℕ) (ys : List Part) → IsAt low f.head.bases f.content.rings i → ((high : ℕ) → IsFrom high (link_after f).places i → Rise high (signs_in ys)) →
    Rise low (signs_in (at_number i (parts_in f) ++ ys))
file_rise low f i ys (inl o) next =
    subst (λ (u : List Part). Rise low (signs_in (u ++ ys))) (sym o.0) (next low (inl (o.2, o.1)))
file_rise low f i ys (inr o) next =
    let many : length (map event_of o.0.block.events) ≡ length o.0.block.events = length-map o.0.block.events event_of in
    let high : ℕ = place o.0.base (length o.0.block.events) in
    let is : high ≡ capped (place_after (segment_of o.0.base o.0.block)).base.events = ap (λ (n : ℕ). capped (o.0.base.events + n)) (sym many) in
    subst (λ (u : List Part). Rise low (signs_in (u ++ ys))) (sym o.1) (segment_rise low o.0 (signs_in ys) o.2 (next high (inr (place_after (segment_of o.0.base o.0.block), o.3, is))))

files_rise : (fs : List File) (l : Link) (i low : ℕ) → AreChainedAfter l fs → IsFrom low l.places i → Rise low (signs_in (of_lock i fs))
files_rise [] l i low c f = no_rise low
files_rise (f ∷ []) l i low c from =
    file_rise low f i [] (from_at l.places f.head.bases f.content.rings i low c.bases.bases c.bases.rings from) (λ high x. no_rise high)
files_rise (f ∷ g ∷ fs) l i low c from =
    file_rise low f i (of_lock i (g ∷ fs)) (from_at l.places f.head.bases f.content.rings i low c.0.bases.bases c.0.bases.rings from) (λ high x. files_rise (g ∷ fs) (link_after f) i high c.2 x)

-- where the first begins
link_from : (ps : List Place) (i : ℕ) → (low : ℕ) × IsFrom low ps i
link_from [] i = (0, inl (refl, refl))
link_from (p ∷ ps) zero = (capped p.base.events, inr (p, refl, refl))
link_from (p ∷ ps) (suc i) = link_from ps i

chain_rise : (fs : List File) (i : ℕ) → AreChained fs → Rise 0 (signs_in (of_lock i fs))
chain_rise [] i c = tt
chain_rise (f ∷ fs) i c =
    let from = link_from (opening_link f).places i in
    rise_from 0 from.0 (signs_in (of_lock i (f ∷ fs))) (omega arith) (files_rise (f ∷ fs) (opening_link f) i from.0 c from.1)

after_apart : (b : Bool) (holds : List Hold) (signs : List (ℕ × Sign)) → Rise 0 signs → AreHoldsAfter b holds signs → AreApart holds
after_apart true holds signs r a = holds_apart signs holds r (inl a)
after_apart false holds signs r a = holds_apart signs holds r a

parts_apart : (ps : List Part) (holds : List Hold) → Rise 0 (signs_in ps) → AreHoldsIn ps holds → AreApart holds
parts_apart [] holds r a = subst (λ (u : List Hold). AreApart u) (sym a) tt
parts_apart (p ∷ ps) holds r a = after_apart (p.base.events == 0) holds (signs_in (p ∷ ps)) r a

pub chain_holds_apart : (fs : List File) (i : ℕ) (holds : List Hold) → AreChained fs → AreHoldsIn (of_lock i fs) holds → AreApart holds
chain_holds_apart fs i holds c a = parts_apart (of_lock i fs) holds (chain_rise fs i c) a
