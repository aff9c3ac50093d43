use Rattle.std.proofs.Common.{refl, subst}
use Rattle.endless_ring.specs.Files.{FilesView}
use Rattle.endless_ring.specs.Calls.{IsPassed}
use Rattle.endless_ring.proofs.Settled.{settled}
use Rattle.endless_ring.proofs.Surveyed.{view, left}
use Rattle.endless_ring.proofs.files.FileRing.pass.Goals as goal

pub returns : goal.returns
returns c =
    let i = c.self.inside in
    let p = c.pass in
    subst (λ (x : FilesView). IsPassed x (view p.new.self i.place i.kept i.events i.looked.items) c.args.seat c.args.machine c.args.order p.result) c.self.view_is
    (record {
      ok = p.ensures.ok;
      settlement = settled p.new.self p.ensures.endless;
      refused = p.ensures.refused;
      after = record {
        filed = record { ring = p.ensures.endless; place = c.self.invariant.place };
        place = refl;
        notes = refl;
        same = left i.ring p.new.self i.place i.kept i.events i.looked.items p.result p.ensures.err;
      };
    })
