-- A chain of segments, as its files record it (this project's own).
use Rattle.std.specs.Prelude.{◌≡◌, ℕ, zero, suc, ◌+◌, ◌≤◌, ◌==◌, cond, List, [], ◌∷◌, ◌++◌, length, map}
use Rattle.std.specs.List.{flat_map, AllByRecursion}
use Rattle.ring_model.specs.Limits.{event_limit}
use Rattle.ring_model.specs.Ring.{Ring, ring_with}
use Rattle.ring_model.specs.History.{opening, after}
use Rattle.ring_model.specs.Resources.{till}
use Rattle.ring_model.specs.Groups.{IsHistory}
use Rattle.saved_history.specs.Content.{Block, Content}
use Rattle.ring_check.specs.Legal.{history}
use Rattle.journal.specs.Spelling.{Journal, JournalFits, journal_text}
use Rattle.journal.specs.ContentAfter.{whole as whole_calls, content_after}
use Rattle.journal.specs.Recovery.{IsRecovered}
use Rattle.ring_model.specs.declared.bases.Base.{Base}
use Rattle.ring_model.specs.Bases.{no_base, IsBase, state_from, base_after}
use Rattle.ring_model.specs.Chains.{Segment, IsChainFrom, chain_history}
use Rattle.segment_files.specs.Spelling.{Head, HeadFits, head_text, digest_of, no_digest}
use Rattle.segment_files.specs.Remarks.{IsEnded, without_remarks}

-- ---- one file

-- a file of a chain: its bytes, its head, and the history that is recovered of the journal after
-- the head, without the remarks
pub record File : Type 0 where
  pub bytes : List ℕ
  pub head : Head
  pub content : Content

-- The bytes begin with the text of the head, and the content is recovered of those after it,
-- without their remarks.
pub record IsFile (f : File) : Type 0 where
  pub rest : List ℕ
  pub fits : HeadFits f.head
  pub spelled : f.bytes ≡ head_text f.head ++ rest
  pub recovered : IsRecovered (without_remarks rest) f.content

-- Nothing of the bytes of a journal is left out of the content: they are whole lines, and the last
-- of their groups is whole.
pub record IsAllOf (bytes : List ℕ) (c : Content) : Type 0 where
  pub journal : Journal
  pub fits : JournalFits journal
  pub spelled : bytes ≡ journal_text journal
  pub closed : whole_calls journal.calls ≡ journal.calls
  pub is : c ≡ content_after journal.began journal.calls

-- nor of those after the head but remarks, and each of these is whole
pub record IsWhole (f : File) : Type 0 where
  pub rest : List ℕ
  pub spelled : f.bytes ≡ head_text f.head ++ rest
  pub ended : IsEnded rest
  pub all : IsAllOf (without_remarks rest) f.content

-- the segments of its rings, in their order
abbrev pub segment_of : Base → Block → Segment
segment_of b k = record { base = b; start = ring_with k.k k.start; history = history k }

abbrev pub segments_of : List Base → List Block → List Segment
segments_of (b ∷ bs) (k ∷ ks) = segment_of b k ∷ segments_of bs ks
segments_of _ _ = []

abbrev pub segments : File → List Segment
segments f = segments_of f.head.bases f.content.rings

-- ---- where the next file begins

-- what came before a segment, and the ring where it begins
pub record Place : Type 0 where
  pub base : Base
  pub ring : Ring

-- where a segment begins, and where the next one after it does
abbrev pub place_of : Segment → Place
place_of s = record { base = s.base; ring = s.start }

abbrev pub place_after : Segment → Place
place_after s = record {
  base = base_after s.base s.start s.history;
  ring = (after till (opening s.start 0) s.history).ring;
}

-- what the next file of a chain must say: its number, the digest of the file before, and where
-- the segments of its rings begin
pub record Link : Type 0 where
  pub number : ℕ
  pub behind : List ℕ
  pub places : List Place

-- the first file of all has number 1 and no digest, and nothing came before
abbrev pub first_link : Link
first_link = record { number = 1; behind = no_digest; places = [] }

-- what the file after this one must say
abbrev pub link_after : File → Link
link_after f = record {
  number = f.head.number + 1;
  behind = digest_of f.bytes;
  places = map place_after (segments f);
}

-- what the first file of a chain must say: if it is not the first of all, those before it are gone,
-- and what it says is taken on trust
abbrev pub link_of : File → Link
link_of f = record {
  number = f.head.number;
  behind = f.head.behind;
  places = map place_of (segments f);
}

abbrev pub opening_link : File → Link
opening_link f = cond (f.head.number == 1) first_link (link_of f)

-- ---- chains

-- each ring that was there has the base of its place, and a ring more has none
abbrev pub AreBases : List Place → List Base → Type 0
AreBases [] [] = Unit {0}
AreBases [] (b ∷ bs) = (b ≡ no_base) × AreBases [] bs
AreBases (p ∷ ps) [] = ⊥
AreBases (p ∷ ps) (b ∷ bs) = (b ≡ p.base) × IsBase b × AreBases ps bs

-- each ring that was there begins as it was left
abbrev pub AreStarts : List Place → List Block → Type 0
AreStarts [] ks = Unit {0}
AreStarts (p ∷ ps) [] = ⊥
AreStarts (p ∷ ps) (k ∷ ks) = (ring_with k.k k.start ≡ p.ring) × AreStarts ps ks

-- there is a base for each ring, and each is right
pub record HasBases (l : Link) (f : File) : Type 0 where
  pub rings : length f.head.bases ≡ length f.content.rings
  pub bases : AreBases l.places f.head.bases

-- a ring has no more events in the file than a segment may have
abbrev pub IsShort : Block → Type 0
IsShort k = length k.events ≤ event_limit

-- The file says what a link asks for: it is one, legal by the checker, with a base for each ring,
-- whose rings begin where those before ended.
pub record Follows (l : Link) (f : File) : Type 0 where
  pub file : IsFile f
  pub number : f.head.number ≡ l.number
  pub behind : f.head.behind ≡ l.behind
  pub bases : HasBases l f
  pub starts : AreStarts l.places f.content.rings
  pub short : AllByRecursion IsShort f.content.rings

-- Each file follows the one before it, and nothing is left out of any but the last.
abbrev pub AreChainedAfter : Link → List File → Type 0
AreChainedAfter l [] = Unit {0}
AreChainedAfter l (f ∷ []) = Follows l f
AreChainedAfter l (f ∷ g ∷ fs) = Follows l f × IsWhole f × AreChainedAfter (link_after f) (g ∷ fs)

-- the files that there are, the first of them on trust if it is not the first of all
abbrev pub AreChained : List File → Type 0
AreChained [] = Unit {0}
AreChained (f ∷ fs) = AreChainedAfter (opening_link f) (f ∷ fs)

-- ---- the law

-- the segments of the ring of this number, from the first file on that has it
abbrev pub at_number : ℕ → List Segment → List Segment
at_number i [] = []
at_number zero (s ∷ ss) = s ∷ []
at_number (suc i) (s ∷ ss) = at_number i ss

abbrev pub of_ring : ℕ → List File → List Segment
of_ring i fs = flat_map (λ (f : File). at_number i (segments f)) fs

-- From the first file of all on, the files record of each ring one history of the one-thread ring
-- over the till, from its start on.
abbrev pub FilesTellHistories : Type 0
FilesTellHistories =
    (fs : List File) → AreChainedAfter first_link fs → (i : ℕ)
    → (r : Ring)
    × IsChainFrom no_base r (of_ring i fs)
    × IsHistory till (opening r 0) (chain_history (of_ring i fs))

-- From a later one on, they record of each ring one such history after some base.
abbrev pub LaterFilesTellHistories : Type 0
LaterFilesTellHistories =
    (fs : List File) → AreChained fs → (i : ℕ)
    → (b : Base)
    × (r : Ring)
    × IsChainFrom b r (of_ring i fs)
    × IsHistory till (state_from b r) (chain_history (of_ring i fs))
