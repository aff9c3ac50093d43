-- The files of a chain record chains, ring by ring.
use Rattle.std.proofs.Common.{◌≡◌, ℕ, zero, suc, ◌+◌, Bool, true, false, cond, eqb, List, [], ◌∷◌, ◌++◌, length, map, refl, subst, arith}
use Rattle.std.specs.List.{AllByRecursion}
use Rattle.ring_model.specs.Ring.{Ring, ring_with}
use Rattle.ring_model.specs.History.{opening, after}
use Rattle.ring_model.specs.Resources.{till}
use Rattle.ring_model.specs.Groups.{IsHistory}
use Rattle.saved_history.specs.Content.{Block}
use Rattle.ring_check.specs.Meaning.{AreRightBlocks}
use Rattle.ring_check.proofs.Meanings.{legal_means}
use Rattle.ring_model.specs.declared.bases.Base.{Base}
use Rattle.ring_model.specs.Bases.{no_base, IsAmount, state_from, base_after}
use Rattle.ring_model.specs.Chains.{Segment, IsChainFrom, chain_history}
use Rattle.ring_model.proofs.ChainHistories.{chains_are_histories}
use Rattle.segment_files.specs.Spelling.{BaseFits}
use Rattle.segment_files.specs.Files.{File, segments_of, segments, Place, place_of, place_after, Link, first_link, link_after, link_of, opening_link, AreBases, AreStarts, Follows, AreChainedAfter, at_number, of_ring, FilesTellHistories, LaterFilesTellHistories}
use Rattle.segment_files.proofs.Starts.{file_starts}

-- each segment is a history of the one-thread ring by itself
abbrev AreHistories : List Segment → Type 0
AreHistories [] = Unit {0}
AreHistories (s ∷ ss) = IsHistory till (opening s.start 0) s.history × AreHistories ss

blocks_tell : (version place : ℕ) (bs : List Base) (ks : List Block) → AreRightBlocks version place ks → AreHistories (segments_of bs ks)
blocks_tell version place [] ks a = tt
blocks_tell version place (b ∷ bs) [] a = tt
blocks_tell version place (b ∷ bs) (k ∷ ks) a = (a.0.legal_and_whole, blocks_tell version (place + 1) bs ks a.1)

file_tells : (l : Link) (f : File) → Follows l f → AreHistories (segments f)
file_tells l f h =
    blocks_tell f.content.version 0 f.head.bases f.content.rings ((legal_means f.content (file_starts f h.file)).0 h.file.recovered.legal).blocks

-- the segments begin at these places, and those of more rings with nothing before them
abbrev BeginAt : List Place → List Segment → Type 0
BeginAt [] [] = Unit {0}
BeginAt [] (s ∷ ss) = (s.base ≡ no_base) × BeginAt [] ss
BeginAt (p ∷ ps) [] = ⊥
BeginAt (p ∷ ps) (s ∷ ss) = (s.base ≡ p.base) × (s.start ≡ p.ring) × BeginAt ps ss

begin_at : (ps : List Place) (bs : List Base) (ks : List Block) → length bs ≡ length ks → AreBases ps bs → AreStarts ps ks → BeginAt ps (segments_of bs ks)
begin_at [] [] ks e b s = tt
begin_at [] (b ∷ bs) [] e h s = absurd (omega (arith, e))
begin_at [] (b ∷ bs) (k ∷ ks) e h s = (h.0, begin_at [] bs ks (omega (arith, e)) h.1 tt)
begin_at (p ∷ ps) [] ks e b s = absurd b
begin_at (p ∷ ps) (b ∷ bs) [] e h s = absurd s
begin_at (p ∷ ps) (b ∷ bs) (k ∷ ks) e h s = (h.0, s.0, begin_at ps bs ks (omega (arith, e)) h.2 s.1)

-- what is left of the ring of this number
abbrev place_at : ℕ → List Place → List Place
place_at i [] = []
place_at zero (p ∷ ps) = p ∷ []
place_at (suc i) (p ∷ ps) = place_at i ps

-- a chain from where it was left, or from some start with nothing before it
abbrev GoesFrom : List Place → List Segment → Type 0
GoesFrom [] ss = (r : Ring) × IsChainFrom no_base r ss
GoesFrom (p ∷ ps) ss = IsChainFrom p.base p.ring ss

some_ring : Ring
some_ring = ring_with 0 []

-- one segment in front
in_front : (b : Base) (r : Ring) (s : Segment) (ss : List Segment) → s.base ≡ b → s.start ≡ r → IsHistory till (opening s.start 0) s.history →
    IsChainFrom (place_after s).base (place_after s).ring ss → IsChainFrom b r (s ∷ ss)
in_front b r s ss p q h c = (
  p,
  q,
  subst (λ (x : Ring). IsHistory till (opening x 0) s.history) q h,
  subst (λ (x : Base). IsChainFrom (base_after x r s.history) (after till (opening r 0) s.history).ring ss) p
      (subst (λ (x : Ring). IsChainFrom (base_after s.base x s.history) (after till (opening x 0) s.history).ring ss) q c),
)

put_in_front : (i : ℕ) (ps : List Place) (ss : List Segment) (more : List Segment) → AreHistories ss → BeginAt ps ss → GoesFrom (place_at i (map place_after ss)) more →
    GoesFrom (place_at i ps) (at_number i ss ++ more)
put_in_front i [] [] more h b g = g
put_in_front zero [] (s ∷ ss) more h b g = (s.start, in_front no_base s.start s more b.0 refl h.0 g)
put_in_front (suc i) [] (s ∷ ss) more h b g = put_in_front i [] ss more h.1 b.1 g
put_in_front i (p ∷ ps) [] more h b g = absurd b
put_in_front zero (p ∷ ps) (s ∷ ss) more h b g = in_front p.base p.ring s more b.0 b.1 h.0 g
put_in_front (suc i) (p ∷ ps) (s ∷ ss) more h b g = put_in_front i ps ss more h.1 b.2 g

nothing_goes : (ps : List Place) → GoesFrom ps []
nothing_goes [] = (some_ring, tt)
nothing_goes (p ∷ ps) = tt

one_goes : (l : Link) (f : File) (fs : List File) (i : ℕ) → Follows l f → GoesFrom (place_at i (link_after f).places) (of_ring i fs) → GoesFrom (place_at i l.places) (of_ring i (f ∷ fs))
one_goes l f fs i h g = put_in_front i l.places (segments f) (of_ring i fs) (file_tells l f h) (begin_at l.places f.head.bases f.content.rings h.bases.rings h.bases.bases h.starts) g

goes_from : (l : Link) (fs : List File) (i : ℕ) → AreChainedAfter l fs → GoesFrom (place_at i l.places) (of_ring i fs)
goes_from l [] i a = nothing_goes (place_at i l.places)
goes_from l (f ∷ []) i a = one_goes l f [] i a (nothing_goes (place_at i (link_after f).places))
goes_from l (f ∷ g ∷ fs) i a = one_goes l f (g ∷ fs) i a.0 (goes_from (link_after f) (g ∷ fs) i a.2)

pub files_tell : FilesTellHistories
files_tell fs a i =
    let g : (r : Ring) × IsChainFrom no_base r (of_ring i fs) = goes_from first_link fs i a in
    (g.0, g.1, chains_are_histories no_base g.0 (of_ring i fs) (omega arith) g.1)

-- ---- from a later file on

-- what is left is of one ring at most, whose amount the till can hold
abbrev HasAmount : List Place → Type 0
HasAmount [] = Unit {0}
HasAmount (p ∷ ps) = IsAmount p.base.amount

amounts : (bs : List Base) (ks : List Block) (i : ℕ) → AllByRecursion BaseFits bs → HasAmount (place_at i (map place_of (segments_of bs ks)))
amounts [] ks i f = tt
amounts (b ∷ bs) [] i f = tt
amounts (b ∷ bs) (k ∷ ks) zero f = let small = f.0.amount in omega (arith, small)
amounts (b ∷ bs) (k ∷ ks) (suc i) f = amounts bs ks i f.1

opened : (first : Bool) (f : File) (i : ℕ) → AllByRecursion BaseFits f.head.bases → HasAmount (place_at i (cond {A = Link} first first_link (link_of f)).places)
opened true f i h = tt
opened false f i h = amounts f.head.bases f.content.rings i h

abbrev Tells : List Segment → Type 0
Tells ss = (b : Base) × (r : Ring) × IsChainFrom b r ss × IsHistory till (state_from b r) (chain_history ss)

tells : (ps : List Place) (ss : List Segment) → HasAmount ps → GoesFrom ps ss → Tells ss
tells [] ss h g = (no_base, g.0, g.1, chains_are_histories no_base g.0 ss (omega arith) g.1)
tells (p ∷ ps) ss h g = (p.base, p.ring, g, chains_are_histories p.base p.ring ss h g)

first_fits : (l : Link) (f : File) (fs : List File) → AreChainedAfter l (f ∷ fs) → AllByRecursion BaseFits f.head.bases
first_fits l f [] a = a.file.fits.bases
first_fits l f (g ∷ fs) a = a.0.file.fits.bases

pub later_files_tell : LaterFilesTellHistories
later_files_tell [] a i = (no_base, some_ring, tt, chains_are_histories no_base some_ring [] (omega arith) tt)
later_files_tell (f ∷ fs) a i =
    tells (place_at i (opening_link f).places) (of_ring i (f ∷ fs)) (opened (eqb f.head.number 1) f i (first_fits (opening_link f) f fs a)) (goes_from (opening_link f) (f ∷ fs) i a)
