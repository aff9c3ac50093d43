-- How many rings there are.
use Rattle.std.proofs.Common.{◌≡◌, ℕ, ◌+◌, ◌-◌, ◌^◌, ◌<◌, ◌≤◌, ◌⊎◌, List, [], ◌∷◌, ◌++◌, length, length-append, length-drop, map, drop, refl, sym, ap, subst, ◌∙◌, arith, inl, inr}
use Rattle.std.proofs.lemmas.List.{length-map}
use Rattle.saved_history.specs.Content.{Block}
use Rattle.ring_model.specs.declared.bases.Base.{Base}
use Rattle.segment_files.specs.Files.{File, Link, link_after, opening_link, Follows, AreChainedAfter, AreChained}
use Rattle.chain_readers.specs.Joining.{without_events, opened, extended, with_file, with_files}
use Rattle.chain_readers.specs.Joins.{IsCount}
use Rattle.chain_readers.specs.JoinLaws.{JoinedHaveRings}

pub length_extended : (ks : List Block) (bs : List Base) (fs : List Block) → length (extended ks bs fs) ≡ length ks
length_extended [] bs fs = refl
length_extended (k ∷ ks) [] fs = refl
length_extended (k ∷ ks) (b ∷ bs) [] = refl
length_extended (k ∷ ks) (b ∷ bs) (f ∷ fs) = let more = length_extended ks bs fs in omega (arith, more)

length_opened : (ks fs : List Block) → length (opened ks fs) ≡ length ks + (length fs - length ks)
length_opened ks fs =
    let both = length-append ks (map without_events (drop (length ks) fs)) in
    let same = length-map (drop (length ks) fs) without_events in
    let left = length-drop (length ks) fs in
    omega (arith, both, same, left)

-- after a file there are as many rings as it has at least, and as few as may be
after_file : (l : Link) (ks : List Block) (f : File) → Follows l f → length ks < 2 ^ 32 → IsCount (length (with_file ks f))
after_file l ks f h few =
    let rings = h.bases.rings in
    let some = h.file.fits.some in
    let most = h.file.fits.rings in
    let all = length_extended (opened ks f.content.rings) f.head.bases f.content.rings in
    let wide = length_opened ks f.content.rings in
    record { some = omega (arith, rings, some, all, wide); few = omega (arith, rings, most, all, wide, few) }

pub rings_counted : (l : Link) (ks : List Block) (f : File) (fs : List File) → AreChainedAfter l (f ∷ fs) → length ks < 2 ^ 32 → IsCount (length (with_files ks (f ∷ fs)))
rings_counted l ks f [] a few = after_file l ks f a few
rings_counted l ks f (g ∷ fs) a few = rings_counted (link_after f) (with_file ks f) g fs a.2 (after_file l ks f a.0 few).few

pub joined_have_rings : JoinedHaveRings
joined_have_rings [] a some = absurd (omega (arith, some))
joined_have_rings (f ∷ fs) a some = rings_counted (opening_link f) [] f fs a (omega arith)

pub files_more : (ks : List Block) (fs : List File) (f : File) → with_files ks (fs ++ f ∷ []) ≡ with_file (with_files ks fs) f
files_more ks [] f = refl
files_more ks (g ∷ fs) f = files_more (with_file ks g) fs f
