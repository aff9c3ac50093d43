-- A folder stays locked as long as lines are served that change no file.
use Rattle.std.proofs.Common.{◌≡◌, ◌∙◌, ◌+◌, ◌++◌, ℕ, List, [], ◌∷◌, Option, None, Some, sym, ap, subst, ◌⊎◌, inl, inr}
use Rattle.std.specs.Prelude.{IfSome, IsSome}
use Rattle.std.specs.List.{AllByRecursion}
use Rattle.disks.specs.Held.{Held, Replaces}
use Rattle.line_service.specs.SegmentNames.{segment_file}
use Rattle.line_service.specs.Answering.{Answers}
use Rattle.line_service.specs.Segmenting.{Segmenting}
use Rattle.line_service.specs.Stands.{AnsweringWith, Stand, stand, by_stand}
use Rattle.line_service.specs.declared.segmented.EndFault.{EndFault}
use Rattle.line_service.specs.Segments.{Moment, IsUnprepared, IsFileCause, IsReady, IsLeft, stand_of}
use Rattle.line_service.specs.Service.{Part, IsPart, AreParts, IsStopped}
use Rattle.line_service.proofs.SegmentLasting.{Knows, ready_knows, appended_known}
use Rattle.tool_parts.specs.Locking.{StandsLocked}
use Rattle.tool_parts.proofs.LockedFolders.{Stands, same_locked, put_locked, settled_locked, gone_locked, ended_stand, kept_stand, added_stand}

-- the files after a line are those before it
abbrev pub ChangesNoFile : {S : Type 0} → AnsweringWith S → Type 0
ChangesNoFile A = (old new : _) (was is : Option Held) (line said noted : List ℕ) → A old was line said noted new is → is ≡ was

module _ {S : Type 0} (A : AnsweringWith S) (G : Segmenting S) (line_same : ChangesNoFile A) (folder : List ℕ) where
  lines_same : (old new : Stand S) (lines : List (List ℕ)) (said noted : List ℕ) → Answers (by_stand A) old lines said noted new → new.files ≡ old.files
  lines_same old new [] said noted a = ap (λ (s : Stand S). s.files) a.2
  lines_same old new (line ∷ lines) said noted a =
      lines_same a.0 new lines a.2 a.4 a.8 ∙ line_same old.service a.0.service old.files a.0.files line a.1 a.3 a.5

  -- ---- before a part a segment ends, or continues

  without_causes : (U F P Q R S : Type 0) → (U × P × Q) ⊎ (F × R × S) → (P × Q) ⊎ (R × S)
  without_causes U F P Q R S (inl k) = inl (k.1, k.2)
  without_causes U F P Q R S (inr k) = inr (k.1, k.2)

  ready_stands : (kept : Option EndFault) (a b : Moment S) → IsReady G folder kept a b → Stands a.files a.journal folder → Stands b.files b.journal folder
  ready_stands None a b (inl h) s = subst (λ (x : Moment S). Stands x.files x.journal folder) (sym h.1) s
  ready_stands None a b (inr h) s =
      let f = h.1.file in
      ended_stand a.files f.between b.files a.journal b.journal folder _ _ _ _ f.settled f.put h.1.journal s
  ready_stands (Some why) a b h s = kept_stand a.files b.files a.journal b.journal folder (segment_file folder a.number) (without_causes (IsUnprepared G a.service a.number why) (IsFileCause why) (b.files ≡ a.files) (b.journal ≡ a.journal)
      (Replaces a.files b.files (segment_file folder a.number) a.journal) (IfSome a.files (λ _. IfSome a.journal (λ bytes. b.journal ≡ Some bytes))) h.1.file) s

  -- after a part
  part_stands : (a : Moment S) (p : Part S) → IsReady G folder p.kept a p.from → IsPart A p → Stands a.files a.journal folder → Stands p.from.files p.from.journal folder × Stands p.to.files p.to.journal folder
  part_stands a p ready part s =
      let from = ready_stands p.kept a p.from ready s in
      let to = same_locked p.from.files p.to.files folder (lines_same (stand_of p.from) (stand_of p.to) p.lines p.said p.noted part.answers) from.0 in
      (from, added_stand p.to.files p.from.journal p.to.journal folder p.noted part.wrote to from.1 from.2)

  -- a part after the other
  pub parts_locked : (a b : Moment S) (ps : List (Part S)) → AreParts A G folder a ps b → Stands a.files a.journal folder → AllByRecursion (λ (p : Part S). StandsLocked p.from.files folder × StandsLocked p.to.files folder) ps
  parts_locked a b [] h s = tt
  parts_locked a b (p ∷ ps) h s =
      let at = part_stands a p h.0 h.1 s in
      ((at.0.0, at.1.0), parts_locked p.to b ps h.2 at.1)

  -- after all parts
  pub parts_stand : (a b : Moment S) (ps : List (Part S)) → AreParts A G folder a ps b → Stands a.files a.journal folder → Stands b.files b.journal folder
  parts_stand a b [] h s = subst (λ (x : Moment S). Stands x.files x.journal folder) (sym h) s
  parts_stand a b (p ∷ ps) h s = parts_stand p.to b ps h.2 (part_stands a p h.0 h.1 s).1

  -- ---- where serving ends with a fault

  left_locked : (a : Moment S) (is : Option Held) → IsLeft G folder a is → Stands a.files a.journal folder → StandsLocked is folder
  left_locked a is (inl same) s = same_locked a.files is folder same s.0
  left_locked a is (inr (inl settled)) s = settled_locked a.files is folder (segment_file folder a.number) s.1 a.journal s.2 settled s.0
  left_locked a is (inr (inr (next, put))) s =
      put_locked put.between is folder (segment_file folder (a.number + 1)) (G.text next (a.number + 1) put.behind) put.put
      (settled_locked a.files put.between folder (segment_file folder a.number) s.1 a.journal s.2 put.settled s.0)

  pub stopped_locked : (mid : Moment S) (new : S) (is : Option Held) (before after : Option (List ℕ)) (behind : List ℕ) → IsStopped A G folder mid new is before after behind → Stands mid.files mid.journal folder → StandsLocked is folder
  stopped_locked mid new is before after behind (inl h) s = left_locked mid is h.2 s
  stopped_locked mid new is before after behind (inr (kept, from, journal, between, ready, stops, gone)) s =
      let at = ready_stands kept mid from ready s in
      let there = same_locked from.files between folder
      (lines_same stops.mid (stand new between) stops.untold.lines stops.unsaid (stops.front ++ stops.back) stops.untold.answers
      ∙ lines_same (stand_of from) stops.mid stops.told.lines stops.said stops.noted stops.told.answers)
      at.0 in
      let has = added_stand between from.journal journal folder (stops.noted ++ stops.front) stops.wrote_notes there at.1 at.2 in
      gone_locked between is folder (segment_file folder from.number) has.1 journal has.2 gone there

  -- ---- where the content of files is known

  pub parts_know : (a b : Moment S) (ps : List (Part S)) → AreParts A G folder a ps b → IsSome a.files → (m : List ℕ) → a.journal ≡ Some m → Knows b
  parts_know a b [] h some m is = subst (λ (x : Moment S). Knows x) (sym h) (some, m, is)
  parts_know a b (p ∷ ps) h some m is =
      let from = ready_knows G folder p.kept a p.from h.0 some m is in
      let same = lines_same (stand_of p.from) (stand_of p.to) p.lines p.said p.noted h.1.answers in
      let to = appended_known p.from.journal p.to.journal from.1 p.noted from.2 h.1.wrote in
      parts_know p.to b ps h.2 (subst (λ (x : Option Held). IsSome x) (sym same) from.0) to.0 to.1
