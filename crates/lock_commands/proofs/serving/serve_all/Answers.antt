use Rattle.std.proofs.Common.{ℕ, List, refl, subst, inl, inr}
use Rattle.std.specs.Prelude.{string_bytes}
use Rattle.disks.specs.Held.{LetsGo, Replaces}
use Rattle.line_service.specs.Digested.{hashed}
use Rattle.line_service.proofs.SegmentLasting.{whole_leaves}
use Rattle.lock_commands.proofs.serving.serve_all.Goals as goal

pub returns-in-Ok-close_segment-clause-ok : goal.returns-in-Ok-close_segment-clause-ok
returns-in-Ok-close_segment-clause-ok g c =
    let w = c.in-Ok.last.writer in record {
      last = _;
      served = c.in-Ok.ensures.ok;
      end_is = refl;
      settled = subst (λ (n : List ℕ). Replaces (g.D.Disk.holds c.serve_segments.new.disk) (g.D.Disk.holds c.close_segment.new.disk) n (hashed (g.D.Grown.Grow.contents w.inner) w.hasher)) c.in-Ok.ensures.named c.in-Ok-close_segment.ensures.ok;
    }

pub returns-in-Err-clause-err : goal.returns-in-Err-clause-err
returns-in-Err-clause-err g c =
    inl (record {
      why = c.in-Err.fault;
      end = _;
      journal = c.in-Err.ensures.noted.0;
      served = c.in-Err.ensures.err;
      noted = c.in-Err.ensures.noted.1;
      long = c.in-Err.ensures.long;
      named = c.serving_refusal.ensures;
    })

pub returns-in-Err-close_segment-clause-err : goal.returns-in-Err-close_segment-clause-err
returns-in-Err-close_segment-clause-err g c =
    let w = c.in-Ok.last.writer in
    inr (
      _,
      c.in-Ok.ensures.ok,
      subst (λ (n : List ℕ). LetsGo (g.D.Disk.holds c.serve_segments.new.disk) (g.D.Disk.holds c.close_segment.new.disk) n (hashed (g.D.Grown.Grow.contents w.inner) w.hasher)) c.in-Ok.ensures.named c.in-Err-close_segment.ensures.held,
      refl,
    )

-- ---- what was delivered is noted

pub returns-in-Err-clause-noted : goal.returns-in-Err-clause-noted
returns-in-Err-clause-noted g c = c.in-Err.ensures.noted

pub returns-in-Ok-close_segment-clause-noted : goal.returns-in-Ok-close_segment-clause-noted
returns-in-Ok-close_segment-clause-noted g c = (_, c.in-Ok.ensures.noted)

pub returns-in-Err-close_segment-clause-noted : goal.returns-in-Err-close_segment-clause-noted
returns-in-Err-close_segment-clause-noted g c = (_, c.in-Ok.ensures.noted)

-- ---- what a loss of power leaves

pub returns-in-Err-clause-lasts : goal.returns-in-Err-clause-lasts
returns-in-Err-clause-lasts g c = λ same synced some whole. c.in-Err.ensures.earlier same synced some whole

pub returns-in-Ok-close_segment-clause-lasts : goal.returns-in-Ok-close_segment-clause-lasts
returns-in-Ok-close_segment-clause-lasts g c = λ same synced some whole.
    let last = c.in-Ok.last in
    let left = g.D.Disk.leaves c.close_segment.new.disk in
    let there = whole_leaves (g.D.Disk.leaves c.serve_segments.new.disk) left (string_bytes last.name) (g.D.Grown.Grow.contents last.writer.inner) (g.D.Grown.Grow.lasting last.writer.inner) last.writer.hasher
    c.in-Ok-close_segment.ensures.lasts (c.in-Ok.ensures.whole synced some whole) in
    c.in-Ok.ensures.earlier same synced some whole left there

pub returns-in-Err-close_segment-clause-lasts : goal.returns-in-Err-close_segment-clause-lasts
returns-in-Err-close_segment-clause-lasts g c = λ same synced some whole. c.in-Ok.ensures.earlier same synced some whole (g.D.Disk.leaves c.close_segment.new.disk) c.in-Err-close_segment.ensures.left
