use Rattle.std.proofs.Common.{◌≡◌, ℕ, List, Option, Some, refl, sym, subst}
use Rattle.std.specs.Prelude.{IfSome}
use Rattle.disks.specs.Held.{Held, LetsGo}
use Rattle.disks.specs.Lasting.{HasFront, Leaves, LeavesFront}
use Rattle.line_service.proofs.SegmentLasting.{front_has}
use Rattle.ring_service.specs.declared.serving.Journal.{Journal}
use Rattle.ring_service.specs.Permits.{Terms}
use Rattle.ring_service.specs.Recovered.{AnsweredCallsAreRecovered}
use Rattle.ring_service.specs.Serving.{held_by, ServesAll}
use Rattle.ring_service.specs.Standings.{Standing}
use Rattle.serve_commands.specs.Served.{IsServedPart, LetsJournalGo}
use Rattle.serve_commands.proofs.LastingJournals.{told_of, closed_has}
use Rattle.serve_commands.proofs.serve.serve_with_journal.Goals as goal

-- what is recovered of a journal's writer, that began with these bytes, by these files
part : {J : Type 0} (view : J → Option (List ℕ)) {terms : Terms} {start end : List Standing} {before after : Option Held} {was is old new had : Option (List ℕ)} {journal : Option (Journal J)} (kept : Journal J) (first : Option (List ℕ)) (later : Option Held) → journal ≡ Some kept → had ≡ first → LetsJournalGo terms.journal after later (view kept.writer) →
    AnsweredCallsAreRecovered terms start end before after was is (record { journal = had; out = old }) (record { journal = held_by view journal; out = new }) →
    IsServedPart terms start before later first was is old new
part {J} view {terms} {start} {end} {before} {after} {was} {is} {old} {new} {had} {journal} kept first later e f gone h = record {
  end = end;
  last = view kept.writer;
  between = after;
  served = subst (λ (j : Option (Journal J)). AnsweredCallsAreRecovered terms start end before after was is (record { journal = first; out = old }) (record { journal = held_by view j; out = new })) e
      (subst (λ (x : Option (List ℕ)). AnsweredCallsAreRecovered terms start end before after was is (record { journal = x; out = old }) (record { journal = held_by view journal; out = new })) f h);
  gone = gone;
}

-- the whole input was served
all_of : {J : Type 0} (view : J → Option (List ℕ)) {terms : Terms} {start end : List Standing} {before after : Option Held} {was is old new first : Option (List ℕ)} {journal : Option (Journal J)} (kept : Journal J) → journal ≡ Some kept →
    ServesAll terms start end before after was is (record { journal = first; out = old }) (record { journal = held_by view journal; out = new }) →
    ServesAll terms start end before after was is (record { journal = first; out = old }) (record { journal = view kept.writer; out = new })
all_of {J} view {terms} {start} {end} {before} {after} {was} {is} {old} {new} {first} {journal} kept e h =
    subst (λ (j : Option (Journal J)). ServesAll terms start end before after was is (record { journal = first; out = old }) (record { journal = held_by view j; out = new })) e h

pub returns-in-Err-clause-err : goal.returns-in-Err-clause-err
returns-in-Err-clause-err g c = (
  c.serving_refusal.ensures,
  part g.D.Grown.Grow.contents c.in-Some.field-0 (g.D.Grown.Grow.contents c.args.journal) (g.D.Disk.holds c.abandon.new.self) c.in-Some.is refl
      (subst (λ (n : List ℕ). LetsGo (g.D.Disk.holds c.serve-ended.new.disk) (g.D.Disk.holds c.abandon.new.self) n (g.D.Grown.Grow.contents c.in-Some.field-0.writer)) c.requires.named c.abandon.ensures.held)
      c.serve-ended.ensures.recovered,
)

pub returns-in-Ok-settle_journal-clause-ok : goal.returns-in-Ok-settle_journal-clause-ok
returns-in-Ok-settle_journal-clause-ok g c = record {
  ended = g.D.Disk.holds c.serve-ended.new.disk;
  last = g.D.Grown.Grow.contents c.in-Some.field-0.writer;
  served = all_of g.D.Grown.Grow.contents c.in-Some.field-0 c.in-Some.is c.in-Ok.ensures.ok;
  settled = c.in-Ok-settle_journal.ensures.ok;
}

pub returns-in-Err-settle_journal-clause-err : goal.returns-in-Err-settle_journal-clause-err
returns-in-Err-settle_journal-clause-err g c = (
  c.in-Err-settle_journal.ensures.err,
  part g.D.Grown.Grow.contents c.in-Some.field-0 (g.D.Grown.Grow.contents c.args.journal) (g.D.Disk.holds c.settle_journal.new.disk) c.in-Some.is refl c.in-Err-settle_journal.ensures.held c.serve-ended.ensures.recovered,
)

-- ---- what a loss of power leaves

pub returns-in-Err-clause-lasts : goal.returns-in-Err-clause-lasts
returns-in-Err-clause-lasts g c = λ first had lasted.
    let kept = c.in-Some.field-0 in
    let told = told_of g.D.Grown.Grow.lasting kept first c.in-Some.is lasted c.serve-ended.ensures.lasts in
    let was = g.D.Disk.leaves c.serve-ended.new.disk in
    let is = g.D.Disk.leaves c.abandon.new.self in
    let front = subst (λ (n : List ℕ). LeavesFront was is n (g.D.Grown.Grow.lasting kept.writer)) c.requires.named c.abandon.ensures.left in
    record {
      end = c.serve-ended.new.served;
      ended = g.D.Disk.holds c.serve-ended.new.disk;
      last = told.last;
      served = told.served;
      left_is = front_has was is c.args.name.now (Some told.last) (subst (λ (x : Option (List ℕ)). LeavesFront was is c.args.name.now x) told.has front);
    }

pub returns-in-Ok-settle_journal-clause-lasts : goal.returns-in-Ok-settle_journal-clause-lasts
returns-in-Ok-settle_journal-clause-lasts g c = λ first had lasted.
    let told = told_of g.D.Grown.Grow.contents c.in-Some.field-0 first c.in-Some.is had c.serve-ended.ensures.recovered in
    let was = g.D.Disk.leaves c.serve-ended.new.disk in
    let is = g.D.Disk.leaves c.settle_journal.new.disk in
    record {
      end = c.serve-ended.new.served;
      ended = g.D.Disk.holds c.serve-ended.new.disk;
      last = told.last;
      served = told.served;
      left_is = closed_has was is c.args.name.now told.last (subst (λ (x : Option (List ℕ)). Leaves was is c.args.name.now x) told.has c.in-Ok-settle_journal.ensures.lasts);
    }

pub returns-in-Err-settle_journal-clause-lasts : goal.returns-in-Err-settle_journal-clause-lasts
returns-in-Err-settle_journal-clause-lasts g c = λ first had lasted.
    let told = told_of g.D.Grown.Grow.lasting c.in-Some.field-0 first c.in-Some.is lasted c.serve-ended.ensures.lasts in
    let left = g.D.Disk.leaves c.settle_journal.new.disk in
    record {
      end = c.serve-ended.new.served;
      ended = g.D.Disk.holds c.serve-ended.new.disk;
      last = told.last;
      served = told.served;
      left_is = subst (λ (x : Option (List ℕ)). IfSome left (λ (held : Held). HasFront held c.args.name.now x)) told.has c.in-Err-settle_journal.ensures.left;
    }
