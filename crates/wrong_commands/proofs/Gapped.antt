-- A folder with a gap or a foreign name is none of segments, and a chain begins with its first file.
use Rattle.std.proofs.Common.{◌≡◌, ℕ, ◌+◌, ◌<◌, ◌≤◌, Bool, true, false, List, Option, None, Some, Ok, Err, ◌⊎◌, inl, inr, sym, ap, subst, ◌∙◌, arith, string_bytes}
use Rattle.std.specs.List.{All, Any}
use Rattle.std.proofs.lemmas.Bool.{false≢true}
use Rattle.disks.specs.Folders.{names_of}
use Rattle.disks.specs.Held.{Held}
use Rattle.disks.specs.declared.disk.FolderEntry.{FolderEntry}
use Rattle.line_service.specs.declared.folder_errors.EntryName.{EntryName}
use Rattle.line_service.specs.declared.folder_errors.FolderError.TheVariants.{Foreign, Missing}
use Rattle.line_service.specs.declared.segment_numbers.SegmentNumbers.{SegmentNumbers}
use Rattle.line_service.specs.SegmentNames.{IsSegmentName, IsOtherName}
use Rattle.line_service.specs.SegmentNumbers.{has_segment, AreFrom, IsGap, IsForeign, IsRightEntry, IsRightNumbers}
use Rattle.segment_files.specs.declared.sums.ChainSums.{ChainSums}
use Rattle.segment_files.specs.Files.{File}
use Rattle.tool_parts.specs.Chained.{IsChainIn, sums_of}

-- numbers with a gap are not all from one to another
no_range : (has : ℕ → Bool) (n first last : ℕ) → IsGap has n → AreFrom has first last → ⊥
no_range has n first last gap all =
    let before = gap.before in
    let after = gap.after in
    let low : first ≤ gap.first = (all.only gap.first (omega (arith, before.0), omega (arith, before.1, after.0, after.1.1)) (gap.there gap.first (omega arith) before.1)).0 in
    let high : gap.last ≤ last = (all.only gap.last after.1 gap.last_there).1 in
    false≢true (sym gap.missing ∙ all.there n (omega (arith, before.1)) (omega (arith, after.0)))

pub gap_refused : (es : List FolderEntry) (n : ℕ) (r : SegmentNumbers) → IsRightNumbers es (Err (Missing n)) → IsRightNumbers es (Ok (Some r)) → ⊥
gap_refused es n r gap all = no_range (has_segment (names_of es)) n r.first r.last gap.1 all.1

no_place : (e : FolderEntry) → IsForeign (string_bytes e.name) → IsRightEntry e → ⊥
no_place e foreign (inl h) = foreign.segment h.0 h.1
no_place e foreign (inr h) = foreign.other h

no_foreign : (es : List FolderEntry) (name : EntryName) → IsRightNumbers es (Err (Foreign name)) → All IsRightEntry es → ⊥
no_foreign es name a all = no_place a.1 a.4.0 (subst IsRightEntry a.3 (all a.0 a.1 a.2))

pub foreign_refused : (es : List FolderEntry) (name : EntryName) (r : Option SegmentNumbers) → IsRightNumbers es (Err (Foreign name)) → IsRightNumbers es (Ok r) → ⊥
foreign_refused es name None a all = no_foreign es name a all.0
foreign_refused es name (Some r) a all = no_foreign es name a all.0

-- the sums of a chain say where it begins
pub other_first : (files : Option Held) (folder : List ℕ) (r later : SegmentNumbers) (s : ChainSums) (fs gs : List File) → r.first < later.first
    → IsChainIn files folder later fs → s ≡ sums_of fs → IsChainIn files folder r gs → s ≡ sums_of gs → ⊥
other_first files folder r later s fs gs more chain is also same =
    let one : s.first ≡ later.first = ap (λ (x : ChainSums). x.first) is ∙ chain.number in
    let other : s.first ≡ r.first = ap (λ (x : ChainSums). x.first) same ∙ also.number in
    omega arith
