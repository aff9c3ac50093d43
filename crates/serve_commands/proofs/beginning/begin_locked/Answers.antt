use Rattle.std.proofs.Common.{Option, Some, subst, inl, inr}
use Rattle.disks.specs.Held.{Held, Replaces}
use Rattle.journal.specs.Spelling.{journal_head}
use Rattle.ring_service.specs.Saved.{content_of}
use Rattle.serve_commands.specs.Served.{IsNoted, IsJournalRefusal}
use Rattle.serve_commands.proofs.JournalStarts.{resumed_begins}
use Rattle.serve_commands.proofs.beginning.begin_locked.Goals as goal

pub returns-in-Err-value_to_resume-clause-err : goal.returns-in-Err-value_to_resume-clause-err
returns-in-Err-value_to_resume-clause-err g c = inl (subst (λ (x : Option Held). IsJournalRefusal x c.args.name.now c.args.saved c.in-Err-value_to_resume.fault) c.hold_journal.ensures.kept c.in-Err-value_to_resume.ensures.err)

pub returns-in-Err-resume_rings-clause-err : goal.returns-in-Err-resume_rings-clause-err
returns-in-Err-resume_rings-clause-err g c =
    inr (
      c.in-Ok-value_to_resume.saved,
      subst (λ (x : Option Held). IsNoted x c.args.name.now c.args.saved c.in-Ok-value_to_resume.saved) c.hold_journal.ensures.kept c.in-Ok-value_to_resume.ensures.ok,
      c.in-Err-resume_rings.ensures.err,
    )

pub save_beginning-requires : goal.save_beginning-requires
save_beginning-requires g c = record { rings = resumed_begins c.in-Ok-resume_rings.served c.in-Ok-value_to_resume.saved.rings.items c.in-Ok-resume_rings.ensures.ok c.in-Ok-value_to_resume.ensures.rings }

pub returns-in-Ok-save_beginning-clause-ok : goal.returns-in-Ok-save_beginning-clause-ok
returns-in-Ok-save_beginning-clause-ok g c = (
  c.in-Ok-value_to_resume.saved,
  subst (λ (x : Option Held). IsNoted x c.args.name.now c.args.saved c.in-Ok-value_to_resume.saved) c.hold_journal.ensures.kept c.in-Ok-value_to_resume.ensures.ok,
  c.in-Ok-resume_rings.ensures.ok,
  subst (λ (x : Option Held). Replaces x (g.D.Disk.holds c.save_beginning.new.disk) c.args.name.now (Some (journal_head (content_of c.in-Ok-resume_rings.served)))) c.hold_journal.ensures.kept c.in-Ok-save_beginning.ensures.ok,
)
