use Rattle.std.proofs.Common.{List, ℕ, refl, subst, inl, inr}
use Rattle.std.specs.Prelude.{string_bytes}
use Rattle.disks.specs.Held.{LetsGo, Replaces}
use Rattle.line_service.specs.Digested.{hashed}
use Rattle.line_service.proofs.SegmentLasting.{front_has, whole_leaves}
use Rattle.ring_service.proofs.Known.{first_lasts}
use Rattle.ring_service.proofs.ChainRecovering.{recovered, lasts, each_lasts}
use Rattle.serve_commands.specs.ServedFolder.{place_of}
use Rattle.serve_commands.proofs.Beginnings.{begun_at, left_at, saves_none}
use Rattle.serve_commands.proofs.serve_folder.serve_from.Goals as goal

pub returns-in-Err-clause-err : goal.returns-in-Err-clause-err
returns-in-Err-clause-err g c =
    inl ((refl, refl), left_at c.args.rules (place_of c.args.place) c.in_segment-service.result c.in_segment-service.ensures.is c.in-Err.ensures.left, c.begin_refusal.ensures)

pub returns-in-Err-serve_segments-clause-err : goal.returns-in-Err-serve_segments-clause-err
returns-in-Err-serve_segments-clause-err g c =
    let noted = c.in-Err-serve_segments.ensures.noted in
    inr (
      c.serving_refusal.ensures,
      record {
        first = _;
        begun = begun_at c.args.rules (place_of c.args.place) c.in_segment-service.result c.in_segment-service.ensures.is c.in-Ok.ensures.ok;
        end = _;
        journal = noted.0;
        recovered = recovered noted.1 c.in_segment-service.ensures.journal c.in_segment-service.ensures.right;
        served = inl c.in-Err-serve_segments.ensures.err;
      },
    )

pub returns-clause-err : goal.returns-clause-err
returns-clause-err g c =
    let w = c.in-Ok-serve_segments.last.writer in
    inr (
      refl,
      record {
        first = _;
        begun = begun_at c.args.rules (place_of c.args.place) c.in_segment-service.result c.in_segment-service.ensures.is c.in-Ok.ensures.ok;
        end = _;
        journal = _;
        recovered = recovered c.in-Ok-serve_segments.ensures.noted c.in_segment-service.ensures.journal c.in_segment-service.ensures.right;
        served = inr (
          _,
          c.in-Ok-serve_segments.ensures.ok,
          subst (λ (n : List ℕ). LetsGo (g.D.Disk.holds c.serve_segments.new.disk) (g.D.Disk.holds c.close_segment.new.disk) n (hashed (g.D.Grown.Grow.contents w.inner) w.hasher)) c.in-Ok-serve_segments.ensures.named c.in-Err-close_segment.ensures.held,
        );
      },
    )

pub returns-in-Ok-close_segment-clause-ok : goal.returns-in-Ok-close_segment-clause-ok
returns-in-Ok-close_segment-clause-ok g c =
    let w = c.in-Ok-serve_segments.last.writer in (
      _,
      _,
      record {
        begun = begun_at c.args.rules (place_of c.args.place) c.in_segment-service.result c.in_segment-service.ensures.is c.in-Ok.ensures.ok;
        served = c.in-Ok-serve_segments.ensures.ok;
        rings = c.into_rings.ensures;
        settled = subst (λ (n : List ℕ). Replaces (g.D.Disk.holds c.serve_segments.new.disk) (g.D.Disk.holds c.close_segment.new.disk) n (hashed (g.D.Grown.Grow.contents w.inner) w.hasher)) c.in-Ok-serve_segments.ensures.named c.in-Ok-close_segment.ensures.ok;
      },
    )

-- ---- what a loss of power leaves

pub returns-in-Err-serve_segments-clause-lasts : goal.returns-in-Err-serve_segments-clause-lasts
returns-in-Err-serve_segments-clause-lasts g c = λ synced some.
    let s = c.args.rules in
    let start = place_of c.args.place in
    let v = c.in_segment-service.result in
    let e = c.in_segment-service.ensures.is in
    let w = c.in-Ok.first.writer in
    let begun = c.in-Ok.ensures.ok in
    let first = first_lasts s v start.number start.behind (g.D.Disk.holds c.args.disk.now) (g.D.Disk.holds c.begin_segment.new.disk) c.in-Ok.first.number (g.D.Grown.Grow.contents w.inner) (g.D.Grown.Grow.lasting w.inner) w.hasher begun some (c.in-Ok.ensures.lasts synced) in
    inr (
      _,
      _,
      begun_at s start v e begun,
      lasts (c.in-Err-serve_segments.ensures.lasts synced first.0 first.1) c.in_segment-service.ensures.journal c.in_segment-service.ensures.right,
      λ none. each_lasts (c.in-Err-serve_segments.ensures.earlier (saves_none s start v e none) synced first.0 first.1) c.in_segment-service.ensures.journal c.in_segment-service.ensures.right,
    )

pub returns-in-Ok-close_segment-clause-lasts : goal.returns-in-Ok-close_segment-clause-lasts
returns-in-Ok-close_segment-clause-lasts g c = λ synced some.
    let s = c.args.rules in
    let start = place_of c.args.place in
    let v = c.in_segment-service.result in
    let e = c.in_segment-service.ensures.is in
    let w = c.in-Ok.first.writer in
    let begun = c.in-Ok.ensures.ok in
    let first = first_lasts s v start.number start.behind (g.D.Disk.holds c.args.disk.now) (g.D.Disk.holds c.begin_segment.new.disk) c.in-Ok.first.number (g.D.Grown.Grow.contents w.inner) (g.D.Grown.Grow.lasting w.inner) w.hasher begun some (c.in-Ok.ensures.lasts synced) in
    let last = c.in-Ok-serve_segments.last in
    let left = g.D.Disk.leaves c.close_segment.new.disk in
    let kept = whole_leaves (g.D.Disk.leaves c.serve_segments.new.disk) left (string_bytes last.name) (g.D.Grown.Grow.contents last.writer.inner) (g.D.Grown.Grow.lasting last.writer.inner) last.writer.hasher
    c.in-Ok-close_segment.ensures.lasts (c.in-Ok-serve_segments.ensures.whole synced first.0 first.1) in
    let there = front_has (g.D.Disk.leaves c.serve_segments.new.disk) left (string_bytes last.name) (g.D.Grown.Grow.lasting last.writer.inner) kept in
    inr (
      _,
      _,
      begun_at s start v e begun,
      lasts (c.in-Ok-serve_segments.ensures.lasts synced first.0 first.1 left there) c.in_segment-service.ensures.journal c.in_segment-service.ensures.right,
      λ none. each_lasts (c.in-Ok-serve_segments.ensures.earlier (saves_none s start v e none) synced first.0 first.1 left kept) c.in_segment-service.ensures.journal c.in_segment-service.ensures.right,
    )

pub returns-clause-lasts : goal.returns-clause-lasts
returns-clause-lasts g c = λ synced some.
    let s = c.args.rules in
    let start = place_of c.args.place in
    let v = c.in_segment-service.result in
    let e = c.in_segment-service.ensures.is in
    let w = c.in-Ok.first.writer in
    let begun = c.in-Ok.ensures.ok in
    let first = first_lasts s v start.number start.behind (g.D.Disk.holds c.args.disk.now) (g.D.Disk.holds c.begin_segment.new.disk) c.in-Ok.first.number (g.D.Grown.Grow.contents w.inner) (g.D.Grown.Grow.lasting w.inner) w.hasher begun some (c.in-Ok.ensures.lasts synced) in
    let last = c.in-Ok-serve_segments.last in
    let left = g.D.Disk.leaves c.close_segment.new.disk in
    let kept = c.in-Err-close_segment.ensures.left in
    let there = front_has (g.D.Disk.leaves c.serve_segments.new.disk) left (string_bytes last.name) (g.D.Grown.Grow.lasting last.writer.inner) kept in
    inr (
      _,
      _,
      begun_at s start v e begun,
      lasts (c.in-Ok-serve_segments.ensures.lasts synced first.0 first.1 left there) c.in_segment-service.ensures.journal c.in_segment-service.ensures.right,
      λ none. each_lasts (c.in-Ok-serve_segments.ensures.earlier (saves_none s start v e none) synced first.0 first.1 left kept) c.in_segment-service.ensures.journal c.in_segment-service.ensures.right,
    )
