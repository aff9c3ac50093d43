use Rattle.std.proofs.Common.{◌≡◌, ◌∙◌, ℕ, List, Option, Some, inl, inr, refl, subst, sym}
use Rattle.disks.specs.Held.{Held}
use Rattle.saved_history.specs.declared.saved.Saved.{Saved}
use Rattle.tool_parts.specs.declared.requests.ServeWords.{ServeWords}
use Rattle.ring_service.specs.Standings.{Standing}
use Rattle.ring_service.specs.Starting.{AreResumed}
use Rattle.serve_commands.specs.Served.{journal_of, permits_of, IsNoted, BeginsAt, IsServedNoted, IsServed, IsServedFrom}
use Rattle.tool_parts.proofs.Folders.{listed_ok}
use Rattle.serve_commands.proofs.serve.run_kept.Goals as goal

noted : (words : ServeWords) (saved : Option Saved) (name : List ℕ) (end : List Standing) (before after : Option Held) (was is old new : Option (List ℕ)) → journal_of words ≡ Some name →
    (from : Saved) × IsNoted before name saved from × (start : List Standing) × AreResumed start from.rings.items × IsServedNoted (permits_of words) name start end before after was is old new →
    IsServedFrom words saved end before after was is old new
noted words saved name end before after was is old new some h = record {
  from = h.0;
  begins = subst (λ (j : Option (List ℕ)). BeginsAt before j saved h.0) (sym some) h.1;
  start = h.2;
  resumed = h.3;
  served = subst (λ (j : Option (List ℕ)). IsServed (permits_of words) j h.2 end before after was is old new) (sym some) h.4;
}

pub returns-in-Ok-clause-ok : goal.returns-in-Ok-clause-ok
returns-in-Ok-clause-ok g c =
    inr (c.args.name.now, c.requires.named, listed_ok c.list.result (λ entries. entries.items) (g.D.Disk.holds c.args.disk.now) c.args.name.now (sym c.is_ok.ensures.value ∙ c.if-is_ok.true) c.list.ensures, c.in-Ok.ensures.ok)

pub returns-in-Err-clause-err : goal.returns-in-Err-clause-err
returns-in-Err-clause-err g c =
    inr (c.args.name.now, c.requires.named, listed_ok c.list.result (λ entries. entries.items) (g.D.Disk.holds c.args.disk.now) c.args.name.now (sym c.is_ok.ensures.value ∙ c.if-is_ok.true) c.list.ensures, c.in-Err.ensures.err)

pub returns-in-Ok-run_with_journal-clause-ok : goal.returns-in-Ok-run_with_journal-clause-ok
returns-in-Ok-run_with_journal-clause-ok g c =
    inl (noted c.args.words.now c.args.saved c.args.name.now c.in-Ok-run_with_journal.end (g.D.Disk.holds c.args.disk.now) (g.D.Disk.holds c.run_with_journal.new.disk) (g.I.Read.remaining c.args.input.now) (g.I.Read.remaining c.run_with_journal.new.input) (g.W.Write.contents c.args.out.now) (g.W.Write.contents c.run_with_journal.new.out)
    c.requires.named c.in-Ok-run_with_journal.ensures.ok)

-- ---- what a loss of power leaves

pub returns-then-names_stream-clause-lasts : goal.returns-then-names_stream-clause-lasts
returns-then-names_stream-clause-lasts g c = λ synced some. inr (inl (refl, refl))

pub returns-in-Ok-clause-lasts : goal.returns-in-Ok-clause-lasts
returns-in-Ok-clause-lasts g c = λ synced some.
    inl (listed_ok c.list.result (λ entries. entries.items) (g.D.Disk.holds c.args.disk.now) c.args.name.now (sym c.is_ok.ensures.value ∙ c.if-is_ok.true) c.list.ensures, c.run_in_folder.ensures.lasts synced some)

pub returns-in-Err-clause-lasts : goal.returns-in-Err-clause-lasts
returns-in-Err-clause-lasts g c = λ synced some.
    inl (listed_ok c.list.result (λ entries. entries.items) (g.D.Disk.holds c.args.disk.now) c.args.name.now (sym c.is_ok.ensures.value ∙ c.if-is_ok.true) c.list.ensures, c.run_in_folder.ensures.lasts synced some)

pub returns-in-Ok-run_with_journal-clause-lasts : goal.returns-in-Ok-run_with_journal-clause-lasts
returns-in-Ok-run_with_journal-clause-lasts g c = λ synced some. inr (c.run_with_journal.ensures.lasts synced some)

pub returns-in-Err-run_with_journal-clause-lasts : goal.returns-in-Err-run_with_journal-clause-lasts
returns-in-Err-run_with_journal-clause-lasts g c = λ synced some. inr (c.run_with_journal.ensures.lasts synced some)
