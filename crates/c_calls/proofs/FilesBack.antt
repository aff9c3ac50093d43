-- What resumes the file of a ring's segment is that ring.
use Rattle.std.proofs.Common.{◌≡◌, List, [], ◌∷◌, map, refl, sym, ap, ◌∙◌}
use Rattle.std.specs.Prelude.{slice_get}
use Rattle.std.proofs.lemmas.Option.{same_Some}
use Rattle.saved_history.specs.Content.{Block, block_of}
use Rattle.ring_model.specs.declared.bases.Base.{Base}
use Rattle.segment_files.specs.Files.{File}
use Rattle.segment_files.specs.Last.{last_file}
use Rattle.segment_files.proofs.OneFiles.{one_file}
use Rattle.one_thread_ring.specs.Texts.{saved_block}
use Rattle.endless_ring.specs.Files.{FilesView, file_with}
use Rattle.endless_ring.proofs.Chained.{file}
use Rattle.c_calls.specs.Trips.{FilesComeBack}
use Rattle.c_calls.proofs.ComingBack.{ring_back}

-- lists of one that are equal have the same one
same_base : (a b : Base) → a ∷ [] ≡ b ∷ [] → a ≡ b
same_base a b e = same_Some a b (ap (λ (xs : List Base). slice_get xs 0) e)

same_block : (a b : Block) → a ∷ [] ≡ b ∷ [] → a ≡ b
same_block a b e = same_Some a b (ap (λ (xs : List Block). slice_get xs 0) e)

pub files_back : FilesComeBack
files_back d e bytes seats filed t g =
    let one : file_with d bytes ≡ last_file bytes g.last = one_file (file_with d bytes) (last_file bytes g.last) refl (file d bytes filed t) g.right.file in
    let number : d.place.number ≡ g.last.head.number = ap (λ (f : File). f.head.number) one in
    let behind : d.place.behind ≡ g.last.head.behind = ap (λ (f : File). f.head.behind) one in
    let bases : d.ring.base ∷ [] ≡ g.base ∷ [] = ap (λ (f : File). f.head.bases) one ∙ g.one.based in
    let blocks : saved_block 0 d.ring.ring ∷ [] ≡ block_of g.saved ∷ [] = ap (λ (f : File). f.content.rings) one ∙ ap (map block_of) g.one.alone in
    let place : e.place ≡ d.place = ap (λ (x : FilesView). x.place) g.filed ∙ (λ i. record { number = sym number i; behind = sym behind i }) in
    let base : e.ring.base ≡ d.ring.base = ap (λ (x : FilesView). x.ring.base) g.filed ∙ sym (same_base d.ring.base g.base bases) in
    (place, base, ring_back d.ring.ring e.ring.ring g.saved seats filed.ring.ring (sym (same_block (saved_block 0 d.ring.ring) (block_of g.saved) blocks)) g.resumed)
