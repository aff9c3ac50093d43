-- What a run of names reported is what one machine with names answered.
use Rattle.std.proofs.Common.{◌≡◌, ℕ, ◌≤◌, List, [], ◌++◌, Option, None, Some, sym, ap, subst, ◌∙◌}
use Rattle.std.specs.Io.KnownBytes.{Consumes}
use Rattle.std.proofs.lemmas.List.{length-map}
use Rattle.disks.specs.Held.{Held}
use Rattle.ring_model.specs.History.{State}
use Rattle.held_locks.specs.Kept.{lock_of}
use Rattle.line_service.specs.Notes.{ToldLinesAreNoted}
use Rattle.line_service.specs.Segments.{Moment}
use Rattle.folder_of_locks.specs.NameFolders.{NamePlace}
use Rattle.lock_names.specs.Names.{Named}
use Rattle.lock_names.specs.Kept.{NamedView, named_of, IsKeptNamed}
use Rattle.name_service.specs.Life.{machine_in, FixedAreFirst, HasGrown}
use Rattle.name_service.proofs.NamedLife.{firsts, none_in, empty_parts_grow, parts_are_named_life}
use Rattle.tool_parts.specs.declared.requests.LocksWords.{LocksWords}
use Rattle.lock_commands.specs.Locks.{folder_of}
use Rattle.lock_commands.specs.NamesStarted.{NamesService, names_answering, names_by_segments, HasBegunFrom, NamesHaveStarted}
use Rattle.lock_commands.specs.NamesLife.{AreNamesLived}

-- an input without a byte has no line
no_line_read : (rest : Option (List ℕ)) (bytes all begun : List ℕ) → Consumes (Some []) rest bytes → bytes ≡ all ++ begun → all ≡ []
no_line_read None bytes all begun c e = absurd c
no_line_read (Some more) bytes all begun c e = (none_in all begun (sym e ∙ (none_in bytes more (sym c)).0)).0

module _ (words : LocksWords) (start : NamePlace) (files : Option Held) (first : Moment NamesService) (h : NamesHaveStarted words start files first) (kept : IsKeptNamed start.names) where
  at_start : machine_in h.service ≡ named_of start.names
  at_start = ap (λ (v : NamedView). named_of v) h.begins.inside.segment.named_is

  fixed_first : FixedAreFirst (named_of start.names)
  fixed_first = subst (λ (n : ℕ). start.names.fixed ≤ n) (sym (length-map start.names.locks lock_of)) kept.places

  grown_from : (lines : Option (List ℕ)) → HasBegunFrom (folder_of words) start.number start.behind lines h.service files first → (rings : List (State ℕ)) × HasGrown (named_of start.names) rings (machine_in first.service)
  grown_from None b = ([], record { allowed = tt; is = ap (λ (s : NamesService). machine_in s) b.service_is ∙ at_start })
  grown_from (Some lines) b =
      let mid : machine_in b.mid.service ≡ named_of start.names = ap (λ (s : NamesService). machine_in s) b.service_is ∙ at_start in
      let e = b.ended.2 in
      let g = empty_parts_grow (folder_of words) b.mid first e.parts (subst (λ (m : Named). FixedAreFirst m) (sym mid) fixed_first) (no_line_read b.ended.0 e.bytes _ e.begun e.read e.split) e.served in
      (g.0, subst (λ (m : Named). HasGrown m g.0 (machine_in first.service)) mid g.1)

  pub names_lived : (end : NamesService) (was is old new journal : Option (List ℕ)) → ToldLinesAreNoted names_answering names_by_segments (folder_of words) first end was is old new journal → AreNamesLived words start files was is old new
  names_lived end was is old new journal n =
      let g = grown_from h.lines h.begun in record {
        first = first;
        started = h;
        right = kept.named;
        rings = g.0;
        grown = g.1;
        end = end;
        journal = journal;
        noted = n;
        life = λ whole. parts_are_named_life (folder_of words) first n.mid n.parts (subst (λ (m : Named). FixedAreFirst m) (sym g.1.is) (firsts (named_of start.names) g.0 fixed_first)) whole n.told;
      }
