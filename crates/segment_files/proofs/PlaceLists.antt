-- The bases and the starts of a file's rings, one after the other.
use Rattle.std.proofs.Common.{◌≡◌, ℕ, ◌+◌, ◌<◌, ◌≤◌, List, [], ◌∷◌, ◌++◌, length, drop, get_or, map, refl, sym, ap, subst, ◌∙◌, arith, append_assoc}
use Rattle.std.specs.List.{All, AllByRecursion}
use Rattle.std.proofs.lemmas.List.{drop_more, drop_all, append-nil, map-append, length-map}
use Rattle.std.proofs.Math.ListN.{get_or-map}
use Rattle.ring_model.specs.Ring.{ring_with}
use Rattle.saved_history.specs.declared.saved.SavedRing.{SavedRing}
use Rattle.saved_history.specs.Content.{Block, block_of}
use Rattle.ring_model.specs.declared.bases.Base.{Base}
use Rattle.ring_model.specs.Bases.{no_base, IsBase}
use Rattle.ring_model.specs.Chains.{Segment}
use Rattle.segment_files.specs.declared.places.SegmentPlace.{SegmentPlace}
use Rattle.segment_files.specs.Files.{Place, segment_of, segments_of, AreBases, AreStarts, IsShort}
use Rattle.segment_files.specs.Chain.{place_in}
use Rattle.segment_files.proofs.Pairings.{Splits, Pairs}

pub nones : Splits (AreBases []) (λ b. b ≡ no_base)
nones = record { none = tt; first = λ b bs h. h.0; others = λ b bs h. h.1; more = λ b bs i h. (i, h) }

abbrev pub AreLeft : List SegmentPlace → List Base → Type 0
AreLeft ps bs = AreBases (map place_in ps) bs

abbrev pub IsLeft : SegmentPlace → Base → Type 0
IsLeft p b = (b ≡ p.base) × IsBase b

pub lefts : Pairs AreLeft IsLeft
lefts = record { first = λ p ps b bs h. (h.0, h.1); others = λ p ps b bs h. h.2; more = λ p ps b bs i h. (i.0, i.1, h); few = λ p ps h. h }

abbrev pub AreBegun : List SegmentPlace → List SavedRing → Type 0
AreBegun ps rs = AreStarts (map place_in ps) (map block_of rs)

abbrev pub IsBegun : SegmentPlace → SavedRing → Type 0
IsBegun p r = ring_with r.k r.start.items ≡ (place_in p).ring

pub begun : Pairs AreBegun IsBegun
begun = record { first = λ p ps b bs h. h.0; others = λ p ps b bs h. h.1; more = λ p ps b bs i h. (i, h); few = λ p ps h. h }

abbrev pub AreShortRings : List SavedRing → Type 0
AreShortRings rs = AllByRecursion IsShort (map block_of rs)

abbrev pub IsShortRing : SavedRing → Type 0
IsShortRing r = IsShort (block_of r)

pub shorts : Splits AreShortRings IsShortRing
shorts = record { none = tt; first = λ b bs h. h.0; others = λ b bs h. h.1; more = λ b bs i h. (i, h) }

-- ---- places, one for each segment

abbrev pub segments_from : ℕ → List Base → List SavedRing → List Segment
segments_from i bs rs = segments_of (drop i bs) (map block_of (drop i rs))

no_blocks : (bs : List Base) → segments_of bs [] ≡ []
no_blocks [] = refl
no_blocks (b ∷ bs) = refl

module _ (of : Segment → Place) (bs : List Base) (rs : List SavedRing) (i : ℕ) where
  segments_more : (b : Base) (r : SavedRing) → i < length bs → i < length rs → segments_from i bs rs ≡ segment_of (get_or bs i b) (block_of (get_or rs i r)) ∷ segments_from (i + 1) bs rs
  segments_more b r lt gt = rw (drop_more bs i b lt, drop_more rs i r gt) refl

  pub places_more : (found more : List SegmentPlace) (p : SegmentPlace) (b : Base) (r : SavedRing) → i < length bs → i < length rs →
      place_in p ≡ of (segment_of (get_or bs i b) (block_of (get_or rs i r))) → more ≡ found ++ p ∷ [] →
      map place_in found ++ map of (segments_from i bs rs) ≡ map of (segments_of bs (map block_of rs)) →
      map place_in more ++ map of (segments_from (i + 1) bs rs) ≡ map of (segments_of bs (map block_of rs))
  places_more found more p b r lt gt is e so =
      let next = segment_of (get_or bs i b) (block_of (get_or rs i r)) in
      let others = map of (segments_from (i + 1) bs rs) in
      ap (λ (u : List SegmentPlace). map place_in u ++ others) e
      ∙ ap (λ (u : List Place). u ++ others) (map-append place_in found (p ∷ []))
      ∙ append_assoc (map place_in found) (place_in p ∷ []) others
      ∙ ap (λ (u : Place). map place_in found ++ (u ∷ others)) is
      ∙ sym (ap (λ (u : List Segment). map place_in found ++ map of u) (segments_more b r lt gt))
      ∙ so

  pub places_all : (found : List SegmentPlace) → length bs ≤ i → map place_in found ++ map of (segments_from i bs rs) ≡ map of (segments_of bs (map block_of rs)) →
      map place_in found ≡ map of (segments_of bs (map block_of rs))
  places_all found le so =
      let none : drop i bs ≡ [] = drop_all i bs le in
      sym (append-nil (map place_in found))
      ∙ sym (ap (λ (u : List Base). map place_in found ++ map of (segments_of u (map block_of (drop i rs)))) none)
      ∙ so

  -- the same if the rings are at an end
  pub places_end : (found : List SegmentPlace) → length rs ≤ i → map place_in found ++ map of (segments_from i bs rs) ≡ map of (segments_of bs (map block_of rs)) →
      map place_in found ≡ map of (segments_of bs (map block_of rs))
  places_end found le so =
      let none : drop i rs ≡ [] = drop_all i rs le in
      sym (append-nil (map place_in found))
      ∙ sym (ap (λ (u : List Segment). map place_in found ++ map of u) (ap (λ (u : List SavedRing). segments_of (drop i bs) (map block_of u)) none ∙ no_blocks (drop i bs)))
      ∙ so

-- a fact on each block, at a place
pub all_at : (P : Block → Type 0) (rs : List SavedRing) (i : ℕ) (r : SavedRing) → i < length rs → r ≡ get_or rs i r → All P (map block_of rs) → P (block_of r)
all_at P rs i r lt is all =
    let long = length-map rs block_of in
    let there : P (get_or (map block_of rs) i (block_of r)) = all i (block_of r) (omega (arith, long, lt)) in
    subst P (get_or-map block_of rs i r ∙ ap block_of (sym is)) there
