-- A request that serves lines is never refused for a list.
use Rattle.std.proofs.Common.{◌⊎◌, ℕ, List, Option, None, Some, inl, inr}
use Rattle.disks.specs.Held.{Held}
use Rattle.disks.specs.declared.disk.FolderEntry.{FolderEntry}
use Rattle.line_service.specs.declared.folder_errors.FolderError.{FolderError}
use Rattle.line_service.specs.declared.folder_errors.FolderError.TheVariants as names
use Rattle.saved_history.specs.declared.saved.Saved.{Saved}
use Rattle.saved_history.specs.declared.saved.SavedRing.{SavedRing}
use Rattle.tool_parts.specs.declared.requests.ServeWords.{ServeWords}
use Rattle.tool_parts.specs.Chained.{IsFolderFault}
use Rattle.tool_parts.specs.Named.{IsFileRefusal}
use Rattle.serve_commands.specs.Served.{journal_of, permits_of, history_of, IsHistoryRefusal, IsGivenRefusal, IsStartRefusal, IsFirstRefusal, IsJournalRefusal, IsUnbegun, IsMadeJournalRefusal, IsBrokenOff, IsRefusedFrom}
use Rattle.serve_commands.specs.ServedFolder.{Place, IsLastRefusal, IsUnknownAmong, IsUnknown, IsUnlocked, IsRunRefused, IsRefusedIn}
use Rattle.serve_commands.specs.ServeAnswer.{IsServedTo, IsRefusedTo, IsUntold, IsServeRefusal}
use Rattle.ring_service.specs.declared.chain_segments.ChainRules.{ChainRules}
use Rattle.ring_service.specs.declared.permits.Permits.{Permits}
use Rattle.ring_service.specs.Standings.{Standing}
use Rattle.tool_parts.specs.Worlds.{World}
use Rattle.tool_parts.specs.declared.faults.ToolError.TheVariants as tool

of_file : (files : Option Held) (name : List ℕ) → IsFileRefusal files name tool.BadList → ⊥
of_file files name (inl h) = h
of_file files name (inr h) = h.3

of_history : (files : Option Held) (name : List ℕ) → IsHistoryRefusal files name tool.BadList → ⊥
of_history files name (inl h) = of_file files name h
of_history files name (inr h) = h.2

of_given : (files : Option Held) (name : Option (List ℕ)) → IsGivenRefusal files name tool.BadList → ⊥
of_given files None h = h
of_given files (Some name) h = of_history files name h

of_rings : (rings : List SavedRing) → IsStartRefusal rings tool.BadList → ⊥
of_rings rings h = h

of_first : (saved : Option Saved) → IsFirstRefusal saved tool.BadList → ⊥
of_first saved (inl h) = h
of_first saved (inr h) = of_rings h.0.rings.items h.2

of_journal : (files : Option Held) (name : List ℕ) (saved : Option Saved) → IsJournalRefusal files name saved tool.BadList → ⊥
of_journal files name saved (inl (inl h)) = h
of_journal files name saved (inl (inr h)) = h
of_journal files name saved (inr (inl h)) = of_file files name h
of_journal files name saved (inr (inr (inl h))) = h.1
of_journal files name saved (inr (inr (inr h))) = h.2

of_begin : (files : Option Held) (name : List ℕ) (saved : Option Saved) → IsUnbegun files name saved tool.BadList → ⊥
of_begin files name saved (inl h) = of_journal files name saved h
of_begin files name saved (inr h) = of_rings h.0.rings.items h.2

of_made : (files : Option Held) (name : List ℕ) (saved : Option Saved) → IsMadeJournalRefusal files name saved tool.BadList → ⊥
of_made files name saved (inl (inl h)) = h
of_made files name saved (inl (inr h)) = h
of_made files name saved (inr h) = of_begin h.0 name saved h.3

of_broken : (permits : Permits) (name : List ℕ) (start : List Standing) (before after : Option Held) (was is old new : Option (List ℕ)) → IsBrokenOff permits name start before after was is old new tool.BadList → ⊥
of_broken permits name start before after was is old new (inl h) = h.1
of_broken permits name start before after was is old new (inr h) = h.0

of_value : (permits : Permits) (before after : Option Held) (journal : Option (List ℕ)) (saved : Option Saved) (was is old new : Option (List ℕ)) → IsRefusedFrom permits before after journal saved was is old new tool.BadList → ⊥
of_value permits before after None saved was is old new (inl h) = of_first saved h.2
of_value permits before after None saved was is old new (inr h) = h.4.0
of_value permits before after (Some name) saved was is old new (inl h) = of_made before name saved h.2
of_value permits before after (Some name) saved was is old new (inr h) = of_broken permits name h.2 before after was is old new h.4

-- ---- a folder

of_names : (folder : List ℕ) (error : FolderError) → IsFolderFault folder error tool.BadList → ⊥
of_names folder names.Unlisted h = h
of_names folder (names.Foreign entry) h = h
of_names folder (names.Irregular n) h = h
of_names folder (names.Missing n) h = h
of_names folder names.OutOfMemory h = h

of_last : (files : Option Held) (folder : List ℕ) (last : ℕ) → IsLastRefusal files folder last tool.BadList → ⊥
of_last files folder last (inl h) = h
of_last files folder last (inr (bytes, held, inl h)) = h
of_last files folder last (inr (bytes, held, inr h)) = h.1

of_among : (files : Option Held) (folder : List ℕ) (entries : List FolderEntry) (saved : Option Saved) → IsUnknownAmong files folder entries saved tool.BadList → ⊥
of_among files folder entries saved (inl h) = of_names folder h.0 h.2
of_among files folder entries saved (inr (inl h)) = of_first saved h.1
of_among files folder entries saved (inr (inr h)) = of_last files folder h.0.last h.2

of_unknown : (files : Option Held) (folder : List ℕ) (saved : Option Saved) → IsUnknown files folder saved tool.BadList → ⊥
of_unknown files folder saved (inl h) = h
of_unknown files folder saved (inr (entries, listed, inl h)) = h.1
of_unknown files folder saved (inr (entries, listed, inr h)) = of_among files folder entries saved h

of_lock : (words : ServeWords) (folder : List ℕ) (before after : Option Held) → IsUnlocked words folder before after tool.BadList → ⊥
of_lock words folder before after (inl h) = h.1
of_lock words folder before after (inr h) = h.1

of_run : (s : ChainRules) (start : Place) (before after : Option Held) (was is old new : Option (List ℕ)) → IsRunRefused s start before after was is old new tool.BadList → ⊥
of_run s start before after was is old new (inl h) = h.2
of_run s start before after was is old new (inr h) = h.0

of_folder : (words : ServeWords) (folder : List ℕ) (saved : Option Saved) (before after : Option Held) (was is old new : Option (List ℕ)) → IsRefusedIn words folder saved before after was is old new tool.BadList → ⊥
of_folder words folder saved before after was is old new (inl h) = of_lock words folder before after h.1
of_folder words folder saved before after was is old new (inr (there, l, inl h)) = of_unknown there folder saved h.2
of_folder words folder saved before after was is old new (inr (there, l, inr h)) = of_run h.0 h.1 there after was is old new h.4

-- ---- all of it

of_serving : (words : ServeWords) (before after : Option Held) (saved : Option Saved) (was is old new : Option (List ℕ)) → IsRefusedTo words before after saved was is old new tool.BadList → ⊥
of_serving words before after saved was is old new (inl h) = of_value (permits_of words) before after (journal_of words) saved was is old new h
of_serving words before after saved was is old new (inr h) = of_folder words h.0 saved before after was is old new h.3

of_end : (words : ServeWords) (saved : Option Saved) (before after : Option Held) (was is old new early late : Option (List ℕ)) →
    IsRefusedTo words before after saved was is old new tool.BadList
    ⊎ ((end : List Standing) × IsServedTo words saved end before after was is old new × IsUntold end early late tool.BadList) → ⊥
of_end words saved before after was is old new early late (inl h) = of_serving words before after saved was is old new h
of_end words saved before after was is old new early late (inr h) = h.2

pub no_list : (words : ServeWords) (was is : World) → IsServeRefusal words was is tool.BadList → ⊥
no_list words was is (inl h) = of_given was.files (history_of words) h.2
no_list words was is (inr h) = of_end words h.0 was.files is.files was.input is.input was.out is.out was.err is.err h.2
