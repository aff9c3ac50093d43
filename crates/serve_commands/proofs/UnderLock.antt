-- The folder is locked as long as lines are served.
use Rattle.std.proofs.Common.{◌≡◌, ℕ, List, [], ◌∷◌, Option, None, Some, sym, subst, inl, inr}
use Rattle.std.specs.Prelude.{IsSome}
use Rattle.disks.specs.Held.{Held}
use Rattle.line_service.specs.SegmentNames.{segment_file}
use Rattle.ring_service.specs.Permits.{Terms}
use Rattle.ring_service.specs.Standings.{Standing}
use Rattle.ring_service.specs.Starts.{HaveChanged, answered_changed}
use Rattle.line_service.specs.Answering.{Answers}
use Rattle.line_service.specs.Stands.{Stand, by_stand}
use Rattle.line_service.specs.declared.segmented.EndFault.{EndFault}
use Rattle.line_service.specs.Segments.{Moment, IsReady, stand_of}
use Rattle.line_service.specs.Service.{Part, AreParts}
use Rattle.line_service.proofs.Changing.{kept_file}
use Rattle.ring_service.specs.declared.chain_segments.ChainRules.{ChainRules}
use Rattle.ring_service.specs.Texts.{segment_text}
use Rattle.ring_service.specs.Services.{ServiceView, terms_of, IsServed, segmenting}
use Rattle.tool_parts.specs.Locking.{IsLocked, StandsLocked}
use Rattle.tool_parts.proofs.LockedFolders.{Stands, stands_locked, same_locked, put_locked, if_held, ended_stand, kept_stand, added_stand}
use Rattle.serve_commands.specs.ServedFolder.{Place, IsRun, AreUnderLock}

module _ (folder : List ℕ) where
  -- ---- a line changes no lock

  changed_locked : (journal : Option (List ℕ)) (was is : Option Held) → HaveChanged journal was is → StandsLocked was folder → StandsLocked is folder
  changed_locked journal was is (inl e) l = same_locked was is folder e l
  changed_locked journal was is (inr r) l = put_locked was is folder r.0 r.1 r.2 l

  answers_locked : (old new : Stand ServiceView) (lines : List (List ℕ)) (said noted : List ℕ) → Answers (by_stand IsServed) old lines said noted new → StandsLocked old.files folder → StandsLocked new.files folder
  answers_locked old new [] said noted h l = subst (λ (x : Stand ServiceView). StandsLocked x.files folder) (sym h.2) l
  answers_locked old new (line ∷ lines) said noted h l =
      let mid : Stand ServiceView = h.0 in
      let one : IsServed old.service old.files line h.1 h.3 mid.service mid.files = h.5 in
      let terms : Terms = terms_of old.service in
      let one_changed = answered_changed terms old.service.rings mid.service.rings old.files mid.files line h.1 h.3 one.answered in
      answers_locked mid new lines h.2 h.4 h.8 (changed_locked terms.journal old.files mid.files one_changed l)

  -- ---- before a part a segment ends, or continues

  ready_stands : (place : List ℕ) (kept : Option EndFault) (a b : Moment ServiceView) → IsReady segmenting place kept a b → Stands a.files a.journal folder → Stands b.files b.journal folder
  ready_stands place None a b (inl h) k = subst (λ (x : Moment ServiceView). Stands x.files x.journal folder) (sym h.1) k
  ready_stands place None a b (inr h) k =
      let f = h.1.file in
      ended_stand a.files f.between b.files a.journal b.journal folder _ _ _ _ f.settled f.put h.1.journal k
  ready_stands place (Some why) a b h k = kept_stand a.files b.files a.journal b.journal folder (segment_file place a.number) (kept_file segmenting place why a b h.1) k

  -- a part after the other
  parts_locked : (place : List ℕ) (a b : Moment ServiceView) (ps : List (Part ServiceView)) → AreParts IsServed segmenting place a ps b → Stands a.files a.journal folder → AreUnderLock folder ps
  parts_locked place a b [] h k = tt
  parts_locked place a b (p ∷ ps) h k =
      let from = ready_stands place p.kept a p.from h.0 k in
      let to = answers_locked (stand_of p.from) (stand_of p.to) p.lines p.said p.noted h.1.answers from.0 in
      ((from.0, to), parts_locked place p.to b ps h.2 (added_stand p.to.files p.from.journal p.to.journal folder p.noted h.1.wrote to from.1 from.2))

-- ---- from the start on

pub under_lock : (s : ChainRules) (folder : List ℕ) (start : Place) (first last : Moment ServiceView) (end : List Standing) (before there after : Option Held) (was is old new : Option (List ℕ)) → IsLocked before there folder
    → (run : IsRun s start first last end there after was is old new) → IsSome before → AreUnderLock folder run.served.parts
under_lock s folder start first last end before there after was is old new locked run some =
    let held = stands_locked before there folder locked some in
    let text = segment_text start.number start.behind start.rings in
    let begun = run.begun.file in
    parts_locked folder s.files.folder.now first last run.served.parts run.served.served
    (put_locked there first.files folder (segment_file s.files.folder.now start.number) text begun.put held, text, if_held there folder (first.journal ≡ Some text) held begun.journal)
