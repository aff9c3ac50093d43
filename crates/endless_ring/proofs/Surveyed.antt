-- A survey is noted where a journal is kept.
use Rattle.std.proofs.Common.{◌≡◌, ℕ, Bool, cond, List, [], ◌∷◌, ◌++◌, Result, Ok, Err, refl, ◌∙◌, ap}
use Rattle.std.specs.Prelude.{IfOk, OnErr}
use Rattle.ring_model.specs.declared.events.Survey.{Survey}
use Rattle.one_thread_ring.specs.declared.errors.CallError.{CallError}
use Rattle.one_thread_ring.specs.Refusals.{IsDecided, bounds_of, seat_refusal}
use Rattle.endless_ring.specs.Endless.{EndlessView, IsEndless, IsSurveyed, local_survey}
use Rattle.endless_ring.specs.declared.files.Looked.{Looked}
use Rattle.endless_ring.specs.Files.{FilesView, PlaceView, IsPlace}
use Rattle.endless_ring.specs.Calls.{IsSurveyedBy}

abbrev pub view : EndlessView → PlaceView → Bool → ℕ → List Looked → FilesView
view e p kept events looked = record { ring = e; place = p; notes = record { kept = kept; events = events; looked = looked } }

pub surveyed : (e f : EndlessView) (p : PlaceView) (kept : Bool) (events : ℕ) (was now : List Looked) (seat : ℕ) (answer : Result Survey CallError) → IfOk answer (λ s. IsSurveyed e f seat s)
    → IfOk answer (λ s. now ≡ cond kept (was ++ record { seat = seat; survey = local_survey e.ring } ∷ []) was) → IsEndless f → OnErr answer (f ≡ e) → OnErr answer (now ≡ was)
    → IsDecided (seat_refusal (bounds_of e.ring) seat) answer → IsPlace p → IsSurveyedBy (view e p kept events was) (view f p kept events now) seat answer
surveyed e f p kept events was now seat (Ok s) ok noted endless same unnoted why place = record {
  ok = ok;
  noted = ap (λ (ls : List Looked). record { kept = kept; events = events; looked = ls }) noted;
  filed = record { ring = endless; place = place };
  place = refl;
  same = tt;
  refused = why;
}
surveyed e f p kept events was now seat (Err x) ok noted endless same unnoted why place = record {
  ok = tt;
  noted = tt;
  filed = record { ring = endless; place = place };
  place = refl;
  same = ap (λ (d : EndlessView). view d p kept events now) same ∙ ap (λ (ls : List Looked). view e p kept events ls) unnoted;
  refused = why;
}

-- where a refusal leaves the ring, it leaves all
pub left : {A : Type 0} (e f : EndlessView) (p : PlaceView) (kept : Bool) (events : ℕ) (looked : List Looked) (answer : Result A CallError) → OnErr answer (f ≡ e)
    → OnErr answer (view f p kept events looked ≡ view e p kept events looked)
left e f p kept events looked (Ok r) same = tt
left e f p kept events looked (Err x) same = ap (λ (d : EndlessView). view d p kept events looked) same
