use Rattle.std.proofs.Common.{◌≡◌, Some, List, inr, refl, subst}
use Rattle.std.specs.Prelude.{slice_get}
use Rattle.std.specs.Slice.{IsItemAt}
use Rattle.std.proofs.lemmas.Option.{slice_get_read}
use Rattle.std.proofs.lemmas.Result.{IfOk-weaker, IfErr-weaker}
use Rattle.saved_history.specs.declared.saved.SavedRing.{SavedRing}
use Rattle.c_calls.specs.Resumed.{IsResumedAs, IsResumedAt, IsRingRefused, IsPlaceRefused}
use Rattle.c_calls.proofs.Places.{right_at}
use Rattle.c_calls.proofs.resumes.resume_at.Goals as goal

pub resume-requires : goal.resume-requires
resume-requires c =
    let ring : SavedRing = c.in-Some.ring.now in
    let rings : List SavedRing = c.args.saved.now.rings.items in
    let found = subst (λ (xs : List SavedRing). IsItemAt xs c.args.place (Some c.in-Some.ring)) c.deref.ensures.value c.in-Some.ensures.lookup in
    let at : slice_get rings c.args.place ≡ Some ring = slice_get_read rings _ c.args.place ring refl found.3.0 found.1 in
    right_at c.args.saved.now.version 0 rings c.args.place ring c.requires.blocks at

pub returns-in-Some-clause-ok : goal.returns-in-Some-clause-ok
returns-in-Some-clause-ok c =
    let ring : SavedRing = c.in-Some.ring.now in
    let rings : List SavedRing = c.args.saved.now.rings.items in
    let found = subst (λ (xs : List SavedRing). IsItemAt xs c.args.place (Some c.in-Some.ring)) c.deref.ensures.value c.in-Some.ensures.lookup in
    let at : slice_get rings c.args.place ≡ Some ring = slice_get_read rings _ c.args.place ring refl found.3.0 found.1 in
    IfOk-weaker c.resume.result (λ d. IsResumedAs ring c.args.seats d) (λ d. IsResumedAt c.args.saved.now c.args.place c.args.seats d) (λ d resumed. record { ring = ring; at = at; resumed = resumed }) c.resume.ensures.ok

pub returns-in-Some-clause-err : goal.returns-in-Some-clause-err
returns-in-Some-clause-err c =
    let ring : SavedRing = c.in-Some.ring.now in
    let rings : List SavedRing = c.args.saved.now.rings.items in
    let found = subst (λ (xs : List SavedRing). IsItemAt xs c.args.place (Some c.in-Some.ring)) c.deref.ensures.value c.in-Some.ensures.lookup in
    let at : slice_get rings c.args.place ≡ Some ring = slice_get_read rings _ c.args.place ring refl found.3.0 found.1 in
    IfErr-weaker c.resume.result (λ code. IsRingRefused ring c.args.seats code) (λ code. IsPlaceRefused c.args.saved.now c.args.place c.args.seats code) (λ code why. inr (ring, at, why)) c.resume.ensures.err
