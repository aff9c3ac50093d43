-- The lines of what is said, piece by piece.
use Rattle.std.proofs.Common.{◌≡◌, ℕ, ◌≤◌, Bool, List, [], ◌∷◌, ◌++◌, length, Option, None, Some, refl, sym, ◌∙◌, ap, inl, inr}
use Rattle.std.specs.Prelude.{slice_get}
use Rattle.std.specs.List.{flat_map}
use Rattle.std.proofs.lemmas.List.{append-nil}
use Rattle.std.proofs.lemmas.Grind.{flat_map-append}
use Rattle.std.proofs.lemmas.Option.{slice_get_cases}
use Rattle.held_locks.specs.declared.answers.Answer.TheVariants as answer
use Rattle.held_locks.specs.declared.answers.Holder.{Holder}
use Rattle.held_locks.specs.declared.answers.Left.{Left}
use Rattle.held_locks.specs.Kept.{LockView}
use Rattle.lock_protocol.specs.Answers.{answer_line}
use Rattle.lock_names.specs.declared.replies.Reply.{Reply}
use Rattle.lock_names.specs.Names.{Bound, Said}
use Rattle.lock_names.specs.Kept.{own_said, grant_said}
use Rattle.lock_names.specs.Leaves.{bound_or, said_left}
use Rattle.lock_journal.specs.Noting.{note_of_left}
use Rattle.name_service.specs.Noting.{reply_line, line_of_said, lines_of_said, note_of_free, is_freed, note_of_name_left}

pub lines_append : (xs ys : List Said) → lines_of_said (xs ++ ys) ≡ lines_of_said xs ++ lines_of_said ys
lines_append xs ys = flat_map-append line_of_said xs ys

pub own_line : (c : ℕ) (x : List ℕ) (own : Option Reply) (r : Reply) → own ≡ Some r → reply_line c x r ≡ lines_of_said (own_said c x own)
own_line c x own r e = sym (ap (λ (o : Option Reply). lines_of_said (own_said c x o)) e ∙ append-nil (reply_line c x r))

pub grant_line : (x : List ℕ) (granted : Option Holder) (h : Holder) → granted ≡ Some h → answer_line h.client x (answer.Granted h.token) ≡ lines_of_said (grant_said x granted)
grant_line x granted h e = sym (ap (λ (o : Option Holder). lines_of_said (grant_said x o)) e ∙ append-nil (answer_line h.client x (answer.Granted h.token)))

pub both_lines : (c : ℕ) (x : List ℕ) (own : Option Reply) (granted : Option Holder) → lines_of_said (own_said c x own) ++ lines_of_said (grant_said x granted) ≡ lines_of_said (own_said c x own ++ grant_said x granted)
both_lines c x own granted = sym (lines_append (own_said c x own) (grant_said x granted))

-- ---- a leave

-- what is said of one hold that was left
abbrev pub lines_left : List (Option Bound) → Left → List ℕ
lines_left os l = lines_of_said (grant_said (bound_or (slice_get os l.lock)).name l.granted)

pub lines_of_left : (os : List (Option Bound)) (left : List Left) → lines_of_said (said_left os left) ≡ flat_map (lines_left os) left
lines_of_left os [] = refl
lines_of_left os (l ∷ left) =
    lines_append (grant_said (bound_or (slice_get os l.lock)).name l.granted) (said_left os left) ∙ ap (λ (u : List ℕ). lines_left os l ++ u) (lines_of_left os left)

-- what an empty list of holds has at a place
abbrev pub no_left : Left
no_left = record { lock = 0; ended = record { seat = 0; survey = record { position = 0; privileged = 0; first = 0; calm = 0; rest = 0 } }; granted = None }

pub grant_lines : (os : List (Option Bound)) (l : Left) (x was now : List ℕ) → x ≡ (bound_or (slice_get os l.lock)).name → now ≡ was ++ lines_of_said (grant_said x l.granted) → now ≡ was ++ lines_left os l
grant_lines os l x was now e n = n ∙ ap (λ (y : List ℕ). was ++ lines_of_said (grant_said y l.granted)) e

-- ---- a ring that has lost its name

pub freed_note : (fixed : ℕ) (locks : List LockView) (l : Left) (freed : Bool) (was now : List ℕ) → freed ≡ is_freed fixed l → now ≡ was ++ (note_of_left locks l ++ note_of_free l.lock freed) → now ≡ was ++ note_of_name_left fixed locks l
freed_note fixed locks l freed was now e n = n ∙ ap (λ (q : Bool). was ++ (note_of_left locks l ++ note_of_free l.lock q)) e

-- ---- the name of a ring

some_name : (x y : List ℕ) → Some x ≡ Some y → x ≡ y
some_name x y e = cc

none_name : (x : List ℕ) → ◌≡◌ {A = Option (List ℕ)} None (Some x) → ⊥
none_name x e = cc

name_by : (x : List ℕ) (r : Option (List ℕ)) (o : Option (Option Bound)) → r ≡ Some x → ((b : Bound) → o ≡ Some (Some b) → r ≡ Some b.name) → (o ≡ Some None → r ≡ None) → (o ≡ None → r ≡ None) → x ≡ (bound_or o).name
name_by x r None e some none far = absurd (none_name x (sym (far refl) ∙ e))
name_by x r (Some None) e some none far = absurd (none_name x (sym (none refl) ∙ e))
name_by x r (Some (Some b)) e some none far = some_name x b.name (sym e ∙ some b refl)

no_name_by : (r : Option (List ℕ)) (o : Option (Option Bound)) → r ≡ None → ((b : Bound) → o ≡ Some (Some b) → r ≡ Some b.name) → [] ≡ (bound_or o).name
no_name_by r None e some = refl
no_name_by r (Some None) e some = refl
no_name_by r (Some (Some b)) e some = absurd (none_name b.name (sym e ∙ some b refl))

far_by : (os : List (Option Bound)) (i : ℕ) (r : Option (List ℕ)) → (length os ≤ i → r ≡ None) → slice_get os i ≡ None → r ≡ None
far_by os i r far e = elim (slice_get_cases os i).1 [
  | inl p ↦ absurd (none_is p.0 (sym e ∙ p.2))
  | inr p ↦ far p.0
]
  where
    none_is : (x : Option Bound) → ◌≡◌ {A = Option (Option Bound)} None (Some x) → ⊥
    none_is x f = cc

pub name_there : (os : List (Option Bound)) (i : ℕ) (x : List ℕ) (r : Option (List ℕ)) → r ≡ Some x → ((b : Bound) → slice_get os i ≡ Some (Some b) → r ≡ Some b.name) → (slice_get os i ≡ Some None → r ≡ None) → (length os ≤ i → r ≡ None) →
    x ≡ (bound_or (slice_get os i)).name
name_there os i x r e some none far = name_by x r (slice_get os i) e some none (far_by os i r far)

pub no_name_there : (os : List (Option Bound)) (i : ℕ) (r : Option (List ℕ)) → r ≡ None → ((b : Bound) → slice_get os i ≡ Some (Some b) → r ≡ Some b.name) → [] ≡ (bound_or (slice_get os i)).name
no_name_there os i r e some = no_name_by r (slice_get os i) e some
