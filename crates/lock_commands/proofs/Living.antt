-- What a run reported is part of a life of locks.
use Rattle.std.proofs.Common.{◌≡◌, ℕ, false, List, ◌++◌, Option, sym, ap, subst, ◌∙◌}
use Rattle.disks.specs.Held.{Held}
use Rattle.saved_history.specs.Spelling.{Fits}
use Rattle.held_locks.specs.Kept.{LockView, AreKept}
use Rattle.line_service.specs.Notes.{ToldLinesAreNoted}
use Rattle.line_service.specs.Segments.{Moment, HasBegun}
use Rattle.folder_of_locks.specs.Folders.{Place}
use Rattle.lock_journal.specs.declared.terms.Terms.{Terms}
use Rattle.lock_journal.specs.Segments.{content_of}
use Rattle.lock_service.specs.Serving.{IsServed}
use Rattle.lock_journal.specs.Begun.{HaveBegun}
use Rattle.lock_journal.specs.KeysBack.{IsSound}
use Rattle.lock_life.specs.Runs.{Service, answering, by_segments, inside, IsPlain}
use Rattle.lock_journal.proofs.SoundKeys.{fresh_is_sound}
use Rattle.lock_life.proofs.Stages.{parts_are_stages}
use Rattle.lock_life.proofs.PutSegments.{put_segments_are_stages}
use Rattle.tool_parts.specs.declared.requests.LocksWords.{LocksWords}
use Rattle.lock_commands.specs.Locks.{folder_of, terms_of, BeginsWith, HasStarted}
use Rattle.lock_commands.specs.Life.{IsLived}

-- the locks begin a segment, if they are kept and have a text
abbrev pub BeginIfTheyFit : List LockView → Type 0
BeginIfTheyFit locks = (entries : List (ℕ × ℕ)) → AreKept locks entries → Fits (content_of locks) → HaveBegun locks

pub has_started : (words : LocksWords) (start : Place) (files : Option Held) (first : Moment Service) (service : Service) → BeginsWith words start.names start.locks service → HasBegun by_segments (folder_of words) service start.number start.behind files first → ((entries : List (ℕ × ℕ)) × AreKept start.locks entries) → BeginIfTheyFit start.locks →
    HasStarted words start files first
has_started words start files first service begins begun kept begin = record {
  service = service;
  begins = begins;
  begun = begun;
  locks = begin kept.0 kept.1 (subst (λ (vs : List LockView). Fits (content_of vs)) begins.inside.segment.locks_are begun.fits.rings);
}

module _ (words : LocksWords) (start : Place) (files : Option Held) (first : Moment Service) (h : HasStarted words start files first) where
  locks_are : (inside first.service).segment.locks ≡ start.locks
  locks_are = ap (λ (s : Service). (inside s).segment.locks) h.begun.service_is ∙ h.begins.inside.segment.locks_are

  names_are : (inside first.service).segment.names ≡ start.names
  names_are = ap (λ (s : Service). (inside s).segment.names) h.begun.service_is ∙ h.begins.inside.segment.names_are

  terms_are : (inside first.service).terms ≡ terms_of words
  terms_are = ap (λ (s : Service). (inside s).terms) h.begun.service_is ∙ h.begins.inside.terms

  plain : words.faults ≡ false → IsPlain first.service
  plain off = record { noting = ap (λ (t : Terms). t.noting) terms_are; plain = ap (λ (t : Terms). t.faults) terms_are ∙ off }

  sound : IsSound first.service.inner
  sound = subst (λ (s : Service). IsSound s.inner) (sym h.begun.service_is) (fresh_is_sound IsServed h.service.inner (record { keys = h.begins.keys; running = h.begins.running }))

  begun : HaveBegun (inside first.service).segment.locks
  begun = subst (λ (vs : List LockView). HaveBegun vs) (sym locks_are) h.locks

  fits : by_segments.HasText first.service first.number start.behind
  fits =
      subst (λ (n : ℕ). by_segments.HasText first.service n start.behind) (sym h.begun.number_is)
      (subst (λ (s : Service). by_segments.HasText s start.number start.behind) (sym h.begun.service_is) h.begun.fits)

  pub lived : (end : Service) (was is old new journal : Option (List ℕ)) → words.faults ≡ false → ToldLinesAreNoted answering by_segments (folder_of words) first end was is old new journal → IsLived words start files was is old new
  lived end was is old new journal off n = record {
    first = first;
    started = h;
    locks = locks_are;
    names = names_are;
    fits = fits;
    end = end;
    journal = journal;
    noted = n;
    stages = λ whole. parts_are_stages (folder_of words) first n.mid start.behind n.parts n.untold.lines n.unsaid (n.more ++ n.back) end n.is begun (plain off) sound whole n.told n.untold.each n.untold.answers;
    put = λ whole next is p. put_segments_are_stages (folder_of words) first n.mid start.behind n.parts next is begun (plain off) sound whole n.told p;
  }
