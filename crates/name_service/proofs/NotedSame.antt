-- What the journal gets of an answer is the same by the names before it and by those after it.
use Rattle.std.proofs.Common.{◌≡◌, ℕ, Bool, true, false, List, ◌++◌, Option, None, Some, refl, sym, ◌∙◌, ap, inl, inr}
use Rattle.std.specs.Prelude.{slice_get, slice_set, not, ◌&&◌, is_some, option_map}
use Rattle.std.proofs.lemmas.Bool.{false≢true}
use Rattle.held_locks.specs.Locks.{Ask}
use Rattle.held_locks.proofs.Standing.{get_set_same}
use Rattle.lock_names.specs.declared.replies.NameAnswers.{NameAnswers}
use Rattle.lock_names.specs.Bindings.{Bound, found, free}
use Rattle.lock_names.specs.Names.{Named, fresh}
use Rattle.lock_names.specs.Kept.{NamedView, named_of, for_hold, at_free, reached_from, reached, noted_at, IsTaken, IsAsked, events_of}
use Rattle.lock_names.proofs.Found.{some_same, none_some, free_at}
use Rattle.lock_journal.specs.Noting.{end_line, events_from}
use Rattle.name_service.specs.Noting.{new_of, note_of_new, note_of_free, note_at, note_since}

abbrev ring_in : Option (ℕ × Bound) → Option ℕ
ring_in o = option_map (λ (p : ℕ × Bound). p.0) o

ring_by : (o : Option (ℕ × Bound)) (i : ℕ) → Some i ≡ ring_in o → (b : Bound) × (o ≡ Some (i, b))
ring_by None i e = absurd (none_some i (sym e))
ring_by (Some p) i e = (p.1, ap (λ (n : ℕ). Some (n, p.1)) (sym (some_same i p.0 e)))

-- a ring that none has had is the lowest free one
lowest : (s : Named) (x : List ℕ) (hold : Bool) (f : Option ℕ) (i : ℕ) (b : Bound) → at_free s x hold f ≡ Some (i, b) → f ≡ Some i
lowest s x false f i b e = absurd (none_some (i, b) e)
lowest s x true None i b e = absurd (none_some (i, b) e)
lowest s x true (Some j) i b e = ap (λ (p : ℕ × Bound). Some p.0) (some_same (j, fresh s x j) (i, b) e)

fresh_free : (s : Named) (x : List ℕ) (ask : Ask) (o : Option (ℕ × Bound)) (z : Bool) (i : ℕ) (b : Bound) → reached_from s x ask o ≡ Some (i, b) → (not (is_some o) && z) ≡ true → free s.names ≡ Some i
fresh_free s x ask None z i b e q = lowest s x (for_hold ask) (free s.names) i b e
fresh_free s x ask (Some p) z i b e q = absurd (false≢true q)

module _ (old new : NamedView) (c : ℕ) (x : List ℕ) (ask : Ask) (r : NameAnswers) (d : IsAsked old new c x ask r) where
  named_taken : (i : ℕ) → r.ring ≡ Some i → r.fresh ≡ true → IsTaken old new c x ask r → slice_get new.names i ≡ Some (Some (fresh (named_of old) x i))
  named_taken i e q t =
      let at = ring_by (reached (named_of old) x ask) i (sym e ∙ d.ring) in
      let none : free old.names ≡ Some i = fresh_free (named_of old) x ask (found x old.names) (is_some (found x new.names)) i at.0 at.1 (sym t.fresh ∙ q) in
      let names : new.names ≡ slice_set old.names i (Some (fresh (named_of old) x i)) =
      t.names ∙ ap (λ (o : Option ℕ). noted_at (named_of old) x o r.fresh r.freed) e ∙ ap (λ (z : Bool). noted_at (named_of old) x (Some i) z r.freed) q in
      ap (λ (os : List (Option Bound)). slice_get os i) names ∙ get_set_same old.names i (Some (fresh (named_of old) x i)) None (free_at old.names i none)

  -- the ring has the name that is new
  named_new : (i : ℕ) → r.ring ≡ Some i → r.fresh ≡ true → slice_get new.names i ≡ Some (Some (fresh (named_of old) x i))
  named_new i e q = elim d.answer [
    | inl t ↦ named_taken i e q t
    | inr w ↦ absurd (false≢true (sym w.none.2 ∙ q))
  ]

  new_by : (i : ℕ) (q : Bool) → r.ring ≡ Some i → r.fresh ≡ q → new_of q i (slice_get new.names i) ≡ note_of_new (named_of old) x i q
  new_by i false e f = refl
  new_by i true e f = ap (λ (o : Option (Option Bound)). new_of true i o) (named_new i e f)

  noted_by : (o : Option ℕ) (place : ℕ) → r.ring ≡ o → place ≡ events_of old.locks o → note_since o place new r ≡ note_at o old new x r
  noted_by None place e f = refl
  noted_by (Some i) place e f =
      ap (λ (u : List ℕ). u ++ ((end_line i r.ended ++ events_from i place (slice_get new.locks i)) ++ note_of_free i r.freed)) (new_by i r.fresh e refl)
      ∙ ap (λ (n : ℕ). note_of_new (named_of old) x i r.fresh ++ ((end_line i r.ended ++ events_from i n (slice_get new.locks i)) ++ note_of_free i r.freed)) f

  pub noted_same : (place : ℕ) → place ≡ events_of old.locks r.ring → note_since r.ring place new r ≡ note_at r.ring old new x r
  noted_same place e = noted_by r.ring place refl e
