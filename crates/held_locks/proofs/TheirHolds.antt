-- A hold that was handed over is its client's.
use Rattle.std.proofs.Common.{◌≡◌, ◌≢◌, ℕ, Bool, true, false, List, [], ◌∷◌, refl, sym, ◌∙◌, ap, inl, inr, Option, Some}
use Rattle.std.specs.Prelude.{◌&&◌, ◌==◌, if◌then◌else◌, slice_get, option_map, ◌⊎◌}
use Rattle.std.proofs.lemmas.Bool.{eq-eqb, ne_eqb, and_from, true≢false}
use Rattle.std.proofs.lemmas.Option.{slice_get-map}
use Rattle.held_locks.specs.declared.answers.Answer.TheVariants as answer
use Rattle.held_locks.specs.declared.answers.Holder.{Holder}
use Rattle.held_locks.specs.declared.answers.Refusal.TheVariants as refusal
use Rattle.held_locks.specs.declared.answers.Waiter.{Waiter}
use Rattle.held_locks.specs.Queues.{Lock, is_held_with}
use Rattle.held_locks.specs.Locks.{Release, told, ended, step_at}
use Rattle.held_locks.specs.Kept.{LockView, lock_of, locks_of}
use Rattle.held_locks.specs.Handed.{handed, IsTheirs, HandedHoldsAreTheirs}
use Rattle.held_locks.proofs.Standing.{get_set_same}
use Rattle.held_locks.proofs.Excluded.{exclusion, others_release_nothing}

-- a release with the token of the hold
own_release : (b : Bool) (c : ℕ) (l : Lock) → b ≡ true → l.queue ≡ [] → (if b then ended l.ring l.queue 1 ((c, answer.Released) ∷ []) else told l c (answer.Refused refusal.Holder)).answers ≡ (c, answer.Released) ∷ []
own_release true c l e free = ap (λ (queue : List Waiter). (ended l.ring queue 1 ((c, answer.Released) ∷ [])).answers) free
own_release false c l e free = absurd (true≢false (sym e))

not_with : (a b : Bool) → (a ≡ false) ⊎ (b ≡ false) → (a && b) ≡ false
not_with true b (inl e) = absurd (true≢false e)
not_with true b (inr e) = e
not_with false b e = refl

module _ (locks : List Lock) (at : ℕ) (l : Lock) (h : Holder) (there : slice_get locks at ≡ Some l) (held : l.holder ≡ Some h) (free : l.queue ≡ []) where
  own : is_held_with h.client h.token l.holder ≡ true
  own = ap (λ (x : Option Holder). is_held_with h.client h.token x) held ∙ and_from (h.client == h.client) (h.token == h.token) (eq-eqb h.client h.client refl) (eq-eqb h.token h.token refl)

  another : (c token : ℕ) → (c ≢ h.client) ⊎ (token ≢ h.token) → is_held_with c token l.holder ≡ false
  another c token n = ap (λ (x : Option Holder). is_held_with c token x) held ∙ not_with (h.client == c) (h.token == token) (by n)
    where
      by : (c ≢ h.client) ⊎ (token ≢ h.token) → ((h.client == c) ≡ false) ⊎ ((h.token == token) ≡ false)
      by (inl d) = inl (ne_eqb h.client c (λ e. d (sym e)))
      by (inr d) = inr (ne_eqb h.token token (λ e. d (sym e)))

  is_theirs : IsTheirs locks at h
  is_theirs = record {
    released = ap (λ (x : Option Lock). (step_at locks h.client at (Release h.token) x).answers) there ∙ own_release (is_held_with h.client h.token l.holder) h.client l own free;
    others = λ c token n. others_release_nothing locks at l c token there (another c token n);
    excluded = λ is none. exclusion locks is at l h there held none;
  }

pub handed_holds_are_theirs : HandedHoldsAreTheirs
handed_holds_are_theirs old new h is =
    let v : LockView = handed is.lock h in
    let here : slice_get new h.lock ≡ Some v = ap (λ (vs : List LockView). slice_get vs h.lock) is.new_is ∙ get_set_same old h.lock v is.lock is.there in
    let there : slice_get (locks_of new) h.lock ≡ Some (lock_of v) = slice_get-map lock_of new h.lock ∙ ap (λ (x : Option LockView). option_map lock_of x) here in
    is_theirs (locks_of new) h.lock (lock_of v) (record { client = h.client; token = h.token }) there refl is.held.free
