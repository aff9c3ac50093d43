-- Files whose content is known stay known while the locks of a folder start.
use Rattle.std.proofs.Common.{ℕ, List, Option, None, Some, sym, subst}
use Rattle.std.specs.Prelude.{IsSome}
use Rattle.disks.specs.Held.{Held}
use Rattle.folder_of_locks.specs.Holders.{Hold}
use Rattle.folder_of_locks.specs.Lists.{Listed, file_text}
use Rattle.folder_of_locks.specs.Folders.{Place, AreStarted, IsListSaved, locks_file}
use Rattle.line_service.proofs.SegmentLasting.{replaced_known}

saved_known : (folder : List ℕ) (word : Option (List ℕ)) (locks : List Listed) (before after : Option Held) → IsListSaved folder word locks before after → IsSome before → IsSome after
saved_known folder None locks before after same some = subst (λ (x : Option Held). IsSome x) (sym same) some
saved_known folder (Some word) locks before after put some = replaced_known before after (locks_file folder) (Some (file_text locks)) put some

pub started_known : (folder : List ℕ) (word : Option (List ℕ)) (holders : List Hold) (before after : Option Held) (p : Place) → AreStarted folder word holders before after p → IsSome before → IsSome after
started_known folder word holders before after p s some = saved_known folder word s.started.locks before after s.started.saved some
