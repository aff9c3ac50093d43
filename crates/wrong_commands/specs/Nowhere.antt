-- What no lines can do, and what a command reads (this project's own).
use Rattle.std.specs.Prelude.{◌≡◌, ℕ, List, [], Option, Some, None}
use Rattle.disks.specs.Held.{Held}
use Rattle.line_service.specs.Segments.{moment_at, segment_holds}
use Rattle.line_service.specs.Service.{ServesSegments}
use Rattle.line_service.specs.declared.segments.OpenSegment.{OpenSegment}
use Rattle.ring_service.specs.Standings.{Standing}
use Rattle.ring_service.specs.Services.{ServiceView, service_of, IsServed, segmenting}
use Rattle.ring_service.specs.declared.chain_segments.ChainRules.{ChainRules}
use Rattle.tool_parts.specs.Named.{IsNamed}
use Rattle.tool_parts.specs.declared.requests.UpgradeWords.{UpgradeWords}

-- these lines, with these answers, lead from rings in a segment to no service of those in another
abbrev pub LeadNowhere : {V D : Type 0} → (V → Option (List ℕ)) → (D → Option Held) → ChainRules
    → List Standing → D → OpenSegment V → List Standing → D → OpenSegment V → Option (List ℕ)
    → Option (List ℕ) → Option (List ℕ) → Type 0
LeadNowhere contents holds rules was disk first is later end input rest said =
    (new : ServiceView)
    → new.rings ≡ is
    → ServesSegments IsServed segmenting rules.files.folder.now
    (moment_at contents (service_of rules was first.number None) (holds disk) first)
    (moment_at contents new (holds later) end) input rest (Some []) said
    → ⊥

-- nor does the end of a segment, without a line, if it is known what the segment and the disk hold
abbrev pub EndsNowhere : {V D : Type 0} → (V → Option (List ℕ)) → (D → Option Held) → ChainRules
    → List Standing → D → OpenSegment V → List Standing → D → OpenSegment V → Type 0
EndsNowhere contents holds rules was disk first is later end =
    (bytes : List ℕ) (files : Held) (new : ServiceView)
    → new.rings ≡ is
    → segment_holds contents first ≡ Some bytes
    → holds disk ≡ Some files
    → ServesSegments IsServed segmenting rules.files.folder.now
    (moment_at contents (service_of rules was first.number None) (holds disk) first)
    (moment_at contents new (holds later) end) (Some []) (Some []) (Some []) (Some [])
    → ⊥

-- the file of the words, or the input, has these bytes
abbrev pub IsGiven : {D I : Type 0} → UpgradeWords → (D → Option Held) → D
    → (I → Option (List ℕ)) → I → I → List ℕ → Type 0
IsGiven words holds disk remains input rest bytes =
    IsNamed words.file.now (holds disk) (remains input) (remains rest) bytes
