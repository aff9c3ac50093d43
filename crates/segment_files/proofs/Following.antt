-- A segment that was tested follows, or is refused.
use Rattle.std.proofs.Common.{◌≡◌, ℕ, ◌+◌, Bool, List, [], ◌∷◌, Option, Err, sym, ap, subst, ◌∙◌, arith}
use Rattle.std.specs.List.{All, AllByRecursion}
use Rattle.std.proofs.lemmas.List.Elements.{All-from_recursion}
use Rattle.saved_history.specs.Content.{Block}
use Rattle.ring_check.specs.Meaning.{AreRightBlocks}
use Rattle.ring_check.proofs.Meanings.{legal_means}
use Rattle.ring_model.specs.declared.bases.Base.{Base}
use Rattle.ring_model.specs.Bases.{no_base, IsBase}
use Rattle.segment_files.specs.declared.errors.SegmentError.{SegmentError}
use Rattle.segment_files.specs.declared.errors.SegmentError.TheVariants as refused
use Rattle.segment_files.specs.Files.{File, IsFile, Place, Link, link_after, AreBases, IsShort, Follows}
use Rattle.segment_files.specs.declared.sums.ChainSums.{ChainSums}
use Rattle.segment_files.specs.Replays.{IsReplayed}
use Rattle.segment_files.specs.Sums.{sums_after}
use Rattle.segment_files.specs.Chain.{State, asked, sums_at, state_after, IsStarted, IsTested, IsRightRefusal, OfSegment}
use Rattle.segment_files.proofs.Starts.{file_starts}

-- ---- what a file that follows gives

no_base_is : IsBase no_base
no_base_is = record { room = omega arith; grants = omega arith; calm = omega arith }

nones_are : (bs : List Base) → AreBases [] bs → AllByRecursion IsBase bs
nones_are [] h = tt
nones_are (b ∷ bs) h = (subst IsBase (sym h.0) no_base_is, nones_are bs h.1)

bases_are : (ps : List Place) (bs : List Base) → AreBases ps bs → AllByRecursion IsBase bs
bases_are [] bs h = nones_are bs h
bases_are (p ∷ ps) [] h = absurd h
bases_are (p ∷ ps) (b ∷ bs) h = (h.1, bases_are ps bs h.2)

pub all_bases : (ps : List Place) (bs : List Base) → AreBases ps bs → All IsBase bs
all_bases ps bs h = All-from_recursion IsBase bs (bases_are ps bs h)

pub all_short : (ks : List Block) → AllByRecursion IsShort ks → All IsShort ks
all_short ks h = All-from_recursion IsShort ks h

blocks_replayed : (version place : ℕ) (ks : List Block) → AreRightBlocks version place ks → AllByRecursion IsReplayed ks
blocks_replayed version place [] h = tt
blocks_replayed version place (k ∷ ks) h =
    let b = h.0 in
    let two = b.two in
    let enough = b.enough in
    (record { positive = omega (arith, two, enough); legal = b.legal_and_whole.0 }, blocks_replayed version (place + 1) ks h.1)

pub all_replayed : (f : File) → IsFile f → All IsReplayed f.content.rings
all_replayed f is =
    let c = f.content in
    All-from_recursion IsReplayed c.rings (blocks_replayed c.version 0 c.rings ((legal_means c (file_starts f is)).0 is.recovered.legal).blocks)

-- ---- the answers

module _ (bytes : List ℕ) (f : File) (same : f.bytes ≡ bytes) (file : IsFile f) (l : Option State) (m : Link) (is : asked l f ≡ m) where
  pub follows : IsStarted m f → AllByRecursion IsShort f.content.rings → Follows (asked l f) f
  follows s short =
      let t : IsStarted (asked l f) f = subst (λ (x : Link). IsStarted x f) (sym is) s in
      record { file = file; number = t.0.0.0; behind = t.0.0.1; bases = t.0.1; starts = t.1; short = short }

  of : (Holds : File → Type 0) → Holds f → OfSegment bytes Holds
  of Holds h = record { file = f; same = same; segment = file; holds = h }

  pub test_refused : (last : Bool) (e : SegmentError) → IsTested m f (Err e) → IsRightRefusal l bytes last e
  test_refused last refused.Number t = of _ (subst (λ (x : Link). IsTested x f (Err refused.Number)) (sym is) t)
  test_refused last refused.Behind t = of _ (subst (λ (x : Link). IsTested x f (Err refused.Behind)) (sym is) t)
  test_refused last refused.Base t = of _ (subst (λ (x : Link). IsTested x f (Err refused.Base)) (sym is) t)
  test_refused last refused.Start t = of _ (subst (λ (x : Link). IsTested x f (Err refused.Start)) (sym is) t)
  test_refused last refused.Full t = of _ (subst (λ (x : Link). IsTested x f (Err refused.Full)) (sym is) t)
  test_refused last refused.Truncated t = absurd t
  test_refused last (refused.Syntax line) t = absurd t
  test_refused last (refused.Bad line kind) t = absurd t
  test_refused last refused.Unfinished t = absurd t
  test_refused last refused.OutOfMemory t = absurd t

abbrev state_of : Link → ChainSums → State
state_of m s = record { link = m; sums = s }

pub state_is : (l : Option State) (f : File) (m : Link) (s t : ChainSums) → m ≡ link_after f → s ≡ sums_after t f → sums_at l ≡ t → state_of m s ≡ state_after l f
state_is l f m s t e g h = ap (λ (x : Link). state_of x s) e ∙ ap (λ (x : ChainSums). state_of (link_after f) x) (g ∙ ap (λ (x : ChainSums). sums_after x f) (sym h))
