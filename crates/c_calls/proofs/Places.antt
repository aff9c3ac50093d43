-- Rings of legal texts, and lack of memory.
use Rattle.std.proofs.Common.{◌≡◌, ℕ, zero, suc, ◌+◌, ◌<◌, ◌≤◌, List, [], ◌∷◌, map, refl, sym, subst, Some}
use Rattle.std.specs.Prelude.{slice_get}
use Rattle.std.proofs.lemmas.Option.{none-some, same_Some}
use Rattle.std.proofs.lemmas.List.{length-map}
use Rattle.std.proofs.lemmas.List.Elements.{All-map}
use Rattle.ring_model.specs.Limits.{event_limit}
use Rattle.ring_model.specs.declared.events.Event.{Event}
use Rattle.saved_history.specs.declared.saved.SavedRing.{SavedRing}
use Rattle.saved_history.specs.Content.{block_of}
use Rattle.ring_check.specs.Table.{event_of}
use Rattle.ring_check.specs.Meaning.{IsRightBlock, AreRightBlocks}
use Rattle.one_thread_ring.specs.Resuming.{CanGoOnWith, IsOutOfMemory}
use Rattle.one_thread_ring.specs.declared.errors.CallError.TheVariants as call
use Rattle.one_thread_ring.specs.declared.errors.OpenError.TheVariants as opens
use Rattle.one_thread_ring.specs.declared.resuming.ResumeError.{ResumeError}
use Rattle.one_thread_ring.specs.declared.resuming.ResumeError.TheVariants as resume
use Rattle.c_calls.specs.Codes.{resume_code, no_memory}
use Rattle.c_calls.specs.Resumed.{FitsSeats}

-- each ring of right blocks is right at some place
pub right_at : (v p : ℕ) (rs : List SavedRing) (i : ℕ) (r : SavedRing) → AreRightBlocks v p (map block_of rs) → slice_get rs i ≡ Some r → (version : ℕ) × (place : ℕ) × IsRightBlock version place (block_of r)
right_at v p [] i r right e = absurd (none-some r e)
right_at v p (s ∷ rs) zero r right e = (v, p, subst (λ (x : SavedRing). IsRightBlock v p (block_of x)) (same_Some s r e) right.0)
right_at v p (s ∷ rs) (suc i) r right e = right_at v (p + 1) rs i r right.1 e

-- a ring that fits the seats may be resumed
pub can_go_on : (v p : ℕ) (r : SavedRing) (seats : ℕ) → IsRightBlock v p (block_of r) → FitsSeats r seats → CanGoOnWith seats (block_of r)
can_go_on v p r seats right fits = record {
  version = v;
  place = p;
  right = right;
  count = fits.count;
  callers = All-map (λ (e : Event). e.seat < seats) event_of r.events.items fits.names.callers;
  surveyors = fits.names.surveyors;
  few = subst (λ (n : ℕ). n ≤ event_limit) (sym (length-map r.events.items event_of)) fits.few;
}

pub want_code : (e : ResumeError) → IsOutOfMemory e → resume_code e ≡ no_memory
want_code (resume.Open (opens.Size s)) w = absurd w
want_code (resume.Open opens.Length) w = absurd w
want_code (resume.Open (opens.Value i)) w = absurd w
want_code (resume.Open opens.Seats) w = absurd w
want_code (resume.Open opens.OutOfMemory) w = refl
want_code (resume.Call call.NoSeat) w = absurd w
want_code (resume.Call call.NoMachine) w = absurd w
want_code (resume.Call call.NoValue) w = absurd w
want_code (resume.Call call.NotRising) w = absurd w
want_code (resume.Call call.WholeRing) w = absurd w
want_code (resume.Call (call.NotPrivileged m)) w = absurd w
want_code (resume.Call call.HistoryFull) w = absurd w
want_code (resume.Call call.OutOfMemory) w = refl
want_code resume.Differs w = absurd w
want_code resume.OutOfMemory w = refl
