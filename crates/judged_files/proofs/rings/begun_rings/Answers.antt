use Rattle.std.proofs.Common.{List, map, refl, subst}
use Rattle.ring_model.specs.declared.bases.Base.{Base}
use Rattle.saved_history.specs.declared.saved.SavedRing.{SavedRing}
use Rattle.saved_history.specs.Content.{block_of}
use Rattle.segment_files.specs.Chain.{file_in}
use Rattle.judged_files.specs.Beginnings.{beginning, AreUnheld}
use Rattle.judged_files.proofs.Ringing.{unbegun_by}
use Rattle.judged_files.proofs.rings.begun_rings.Goals as goal

pub returns-clause-err : goal.returns-clause-err
returns-clause-err c =
    let bytes = c.args.bytes.now in
    let s = c.in-Ok.segment in
    let e = c.in-Err-rings_at.error in
    unbegun_by bytes (file_in (beginning bytes) s) refl c.in-Ok.ensures.ok.0 e
    (subst (λ (bs : List Base). AreUnheld bs (map block_of s.saved.rings.items) e) c.deref.ensures.value
    (subst (λ (rs : List SavedRing). AreUnheld c.deref.result.now (map block_of rs) e) c.deref-2.ensures.value c.in-Err-rings_at.ensures.err))
