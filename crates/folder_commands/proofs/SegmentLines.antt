-- The lines that are handed out with a segment.
use Rattle.std.proofs.Common.{◌≡◌, ℕ, List, subst}
use Rattle.tool_parts.specs.declared.faults.ToolError.{ToolError}
use Rattle.segment_files.specs.Files.{File}
use Rattle.folder_commands.specs.SegmentRecovered.{IsSegmentHanded, IsSegmentUnhanded}
use Rattle.tool_parts.specs.Worlds.{World}

-- of a segment
pub handed_same : (word : List ℕ) (f : File) (line left place last : List ℕ) (was is : World) → line ≡ left → place ≡ last → IsSegmentHanded word f line place was is → IsSegmentHanded word f left last was is
handed_same word f line left place last was is e g h =
    subst (λ (l : List ℕ). IsSegmentHanded word f l last was is) e (subst (λ (p : List ℕ). IsSegmentHanded word f line p was is) g h)

pub unhanded_same : (word : List ℕ) (f : File) (line left place last : List ℕ) (was is : World) (fault : ToolError) → line ≡ left → place ≡ last → IsSegmentUnhanded word f line place was is fault → IsSegmentUnhanded word f left last was is fault
unhanded_same word f line left place last was is fault e g h =
    subst (λ (l : List ℕ). IsSegmentUnhanded word f l last was is fault) e (subst (λ (p : List ℕ). IsSegmentUnhanded word f line p was is fault) g h)
