use Rattle.std.proofs.Common.{◌≡◌, ℕ, List, Option, Some, refl, sym, subst, inl, inr}
use Rattle.disks.specs.Held.{Held, Replaces}
use Rattle.journal.specs.Spelling.{journal_head}
use Rattle.ring_service.specs.declared.permits.Permits.{Permits}
use Rattle.ring_service.specs.Permits.{terms_of}
use Rattle.ring_service.specs.Standings.{Standing}
use Rattle.ring_service.specs.Saved.{content_of}
use Rattle.tool_parts.specs.declared.faults.ToolError.{ToolError}
use Rattle.serve_commands.specs.Served.{permits_of, IsNoted, IsServedBegun, IsServedNoted, IsBegunPart, IsBrokenOff}
use Rattle.line_service.proofs.SegmentLasting.{replaced_bytes}
use Rattle.saved_history.specs.declared.saved.Saved.{Saved}
use Rattle.ring_service.specs.Starting.{AreResumed}
use Rattle.serve_commands.specs.Lasting.{BegunLasts, FileLasts}
use Rattle.serve_commands.proofs.Making.{as_before}
use Rattle.serve_commands.proofs.StillThere.{part_still}
use Rattle.serve_commands.proofs.serve.run_with_journal.Goals as goal

noted : (permits : Permits) (name : List ℕ) (start end : List Standing) (before begun after : Option Held) (was is old new : Option (List ℕ)) → Replaces before begun name (Some (journal_head (content_of start))) →
    IsServedBegun permits name start end begun after was is old new → IsServedNoted permits name start end before after was is old new
noted permits name start end before begun after was is old new put h = record {
  begun = begun;
  ended = h.2.ended;
  first = h.0;
  last = h.2.last;
  put = put;
  opened = h.1;
  served = h.2.served;
  settled = h.2.settled;
}

broken : (permits : Permits) (name : List ℕ) (start : List Standing) (before begun after : Option Held) (was is old new : Option (List ℕ)) (e : ToolError) → Replaces before begun name (Some (journal_head (content_of start))) →
    IsBegunPart permits name start begun after was is old new e → IsBrokenOff permits name start before after was is old new e
broken permits name start before begun after was is old new e put (inl h) = inl (h.0, h.1, subst (λ (x : Option Held). Replaces before x name (Some (journal_head (content_of start)))) (sym h.2) put)
broken permits name start before begun after was is old new e put (inr h) = inr (
  h.0,
  record {
    begun = begun;
    first = h.1;
    put = put;
    opened = h.2;
    part = h.3;
    kept = part_still (terms_of (Some name) permits) name start before begun after h.1 was is old new _ put refl h.3;
  },
)

-- there is no memory for the name
pub returns-in_default-clause-err : goal.returns-in_default-clause-err
returns-in_default-clause-err g c = inl ((refl, refl), inl (as_before (g.D.Disk.holds c.args.disk.now)), inl (inr tt))

pub returns-in-Err-clause-err : goal.returns-in-Err-clause-err
returns-in-Err-clause-err g c = inl ((refl, refl), c.in-Err.ensures.kept, c.in-Err.ensures.err)

pub returns-in-Ok-ended-clause-ok : goal.returns-in-Ok-ended-clause-ok
returns-in-Ok-ended-clause-ok g c =
    let b = c.in-Ok-begin_journal.ensures.ok in
    (b.0, b.1, _, b.2, noted (permits_of c.args.words.now) c.args.name.now _ _ (g.D.Disk.holds c.args.disk.now) _ _ _ _ _ _ b.3 c.in-Ok-ended.ensures.ok)

pub returns-clause-err : goal.returns-clause-err
returns-clause-err g c =
    let b = c.in-Ok-begin_journal.ensures.ok in
    inr (b.0, b.1, _, b.2, broken (permits_of c.args.words.now) c.args.name.now _ (g.D.Disk.holds c.args.disk.now) _ _ _ _ _ _ c.in-Err-ended.fault b.3 c.in-Err-ended.ensures.err)

-- ---- what a loss of power leaves

file_lasts : (permits : Permits) (name : List ℕ) (saved : Option Saved) (before : Option Held) (was is old new : Option (List ℕ)) (left : Option Held) (from : Saved) (start : List Standing) (begun : Option Held) → IsNoted before name saved from → AreResumed start from.rings.items →
    Replaces before begun name (Some (journal_head (content_of start))) → BegunLasts permits name start begun (journal_head (content_of start)) was is old new left → FileLasts permits name saved before was is old new left
file_lasts permits name saved before was is old new left from start begun noted resumed put (inl h) = inl h
file_lasts permits name saved before was is old new left from start begun noted resumed put (inr h) = inr (from, start, begun, noted, resumed, put, h)

pub returns-in-Ok-ended-clause-lasts : goal.returns-in-Ok-ended-clause-lasts
returns-in-Ok-ended-clause-lasts g c = λ synced some.
    let b = c.in-Ok-begin_journal.ensures.ok in
    let first = replaced_bytes (g.D.Disk.holds c.args.disk.now) (g.D.Disk.holds c.begin_journal.new.disk) c.args.name.now _ b.3 some in
    file_lasts (permits_of c.args.words.now) c.args.name.now c.args.saved (g.D.Disk.holds c.args.disk.now) _ _ _ _ _ b.0 _ _ b.1 b.2 b.3 (c.serve_begun-ended.ensures.lasts synced _ first)

pub returns-clause-lasts : goal.returns-clause-lasts
returns-clause-lasts g c = λ synced some.
    let b = c.in-Ok-begin_journal.ensures.ok in
    let first = replaced_bytes (g.D.Disk.holds c.args.disk.now) (g.D.Disk.holds c.begin_journal.new.disk) c.args.name.now _ b.3 some in
    file_lasts (permits_of c.args.words.now) c.args.name.now c.args.saved (g.D.Disk.holds c.args.disk.now) _ _ _ _ _ b.0 _ _ b.1 b.2 b.3 (c.serve_begun-ended.ensures.lasts synced _ first)
