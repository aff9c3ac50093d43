-- The file that is read again is the one that was added.
use Rattle.std.proofs.Common.{◌≡◌, ℕ, Bool, List, map, refl, sym, ap, ◌∙◌}
use Rattle.saved_history.specs.Content.{Block, block_of}
use Rattle.segment_files.specs.declared.segments.Segment.{Segment}
use Rattle.segment_files.specs.Files.{File, IsFile}
use Rattle.segment_files.specs.Chain.{State, file_in, IsAdded}
use Rattle.segment_files.proofs.OneFiles.{one_file}
use Rattle.chain_readers.specs.Joining.{with_file}
use Rattle.chain_readers.specs.Joins.{Joined}

pub same_file : (old : Joined) (bytes : List ℕ) (last : Bool) (s : State) (a : IsAdded old.state bytes last s) (segment : Segment) → IsFile (file_in bytes segment)
    → with_file old.blocks (file_in bytes segment) ≡ with_file old.blocks a.file
same_file old bytes last s a segment is = ap (λ (f : File). with_file old.blocks f) (sym (one_file a.file (file_in bytes segment) a.same a.follows.file is))
