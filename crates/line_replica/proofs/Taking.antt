-- A line with a key and a number is taken by what follows them.
use Rattle.std.proofs.Common.{◌≡◌, ℕ, Bool, true, false, cond, List, [], Option, Some, None, inl, inr, ◌⊎◌, refl, subst}
use Rattle.disks.specs.Held.{Held}
use Rattle.line_service.specs.Stands.{AnsweringWith}
use Rattle.segment_files.specs.Remarks.{remark_of}
use Rattle.line_replica.specs.declared.keys.Turn.{Turn}
use Rattle.line_replica.specs.declared.keys.Turn.TheVariants as turn
use Rattle.line_replica.specs.declared.reading.Tag.{Tag}
use Rattle.line_replica.specs.declared.numbered.Numbered.{Numbered}
use Rattle.line_replica.specs.Keys.{Table, with_told, forgotten_if}
use Rattle.line_replica.specs.Reading.{did_at, is_forget, kept_text}
use Rattle.line_replica.specs.State.{kept_line}
use Rattle.line_replica.specs.Replies.{IsTold, IsAnsweredOnce, IsTagTaken, IsAnsweredOrNot, turn_of, forget_note}

-- the service inside could not answer
pub inside_or_not : {S : Type 0} (A : AnsweringWith S) {s t : S} {f h : Option Held} {line : List ℕ} → ((t ≡ s) × (h ≡ f)) ⊎ ((said : List ℕ) × (noted : List ℕ) × A s f line said noted t h) → (noted : List ℕ) × IsAnsweredOrNot A s f line noted t h
inside_or_not A (inl same) = ([], inl (refl, same.0, same.1))
inside_or_not A (inr a) = (a.1, inr (a.0, a.2))

module _ {S : Type 0} (A : AnsweringWith S) (tag : Tag) (old new : Numbered S) (was is : Option Held) (rest said noted : List ℕ) where
  pub keeps : (text : List ℕ) → Some text ≡ did_at rest → IsTold [] (with_told old.keys tag.key tag.number (kept_text text)) (remark_of (kept_line tag (kept_text text))) old was said noted new is → IsTagTaken A (did_at rest) tag old was rest said noted new is
  keeps text e t = subst (λ (d : Option (List ℕ)). IsTagTaken A d tag old was rest said noted new is) e t

  by_word : (forgets : Bool) → None ≡ did_at rest → forgets ≡ is_forget rest → cond forgets (IsTold [] (forgotten_if (turn_of old.keys tag) old.keys tag.key) (forget_note (turn_of old.keys tag) tag) old was said noted new is) (IsAnsweredOnce A (turn_of old.keys tag) tag old was rest said noted new is) →
      IsTagTaken A (did_at rest) tag old was rest said noted new is
  by_word forgets e f t =
      subst (λ (d : Option (List ℕ)). IsTagTaken A d tag old was rest said noted new is) e
      (subst (λ (b : Bool). cond b (IsTold [] (forgotten_if (turn_of old.keys tag) old.keys tag.key) (forget_note (turn_of old.keys tag) tag) old was said noted new is) (IsAnsweredOnce A (turn_of old.keys tag) tag old was rest said noted new is)) f t)

  pub forgets : None ≡ did_at rest → true ≡ is_forget rest → IsTold [] (forgotten_if (turn_of old.keys tag) old.keys tag.key) (forget_note (turn_of old.keys tag) tag) old was said noted new is → IsTagTaken A (did_at rest) tag old was rest said noted new is
  forgets e f t = by_word true e f t

  pub answers : None ≡ did_at rest → false ≡ is_forget rest → IsAnsweredOnce A (turn_of old.keys tag) tag old was rest said noted new is → IsTagTaken A (did_at rest) tag old was rest said noted new is
  answers e f t = by_word false e f t

  -- nothing happened inside
  Unmoved : Type 0
  Unmoved = (notes : List ℕ) × IsAnsweredOrNot A old.inner was rest notes new.inner is

  told_nothing : (text note : List ℕ) (keys : Table) → IsTold text keys note old was said noted new is → Unmoved
  unfolding Unmoved
  told_nothing text note keys t = ([], inl (refl, t.inner, t.files))

  by_turn : (r : Turn) → IsAnsweredOnce A r tag old was rest said noted new is → Unmoved
  unfolding Unmoved
  by_turn turn.Fresh p = (p.inside, inr (said, p.answered))
  by_turn turn.Again t = told_nothing _ _ _ t
  by_turn (turn.Past last) t = told_nothing _ _ _ t

  or_forgotten : (b : Bool) → cond b (IsTold [] (forgotten_if (turn_of old.keys tag) old.keys tag.key) (forget_note (turn_of old.keys tag) tag) old was said noted new is) (IsAnsweredOnce A (turn_of old.keys tag) tag old was rest said noted new is) → Unmoved
  or_forgotten true t = told_nothing _ _ _ t
  or_forgotten false a = by_turn (turn_of old.keys tag) a

  -- the service inside has answered, or nothing happened
  pub or_not : (d : Option (List ℕ)) → IsTagTaken A d tag old was rest said noted new is → (notes : List ℕ) × IsAnsweredOrNot A old.inner was rest notes new.inner is
  unfolding Unmoved
  or_not (Some text) t = told_nothing _ _ _ t
  or_not None a = or_forgotten (is_forget rest) a
