-- The service inside answers the lines that it is given.
use Rattle.std.proofs.Common.{◌≡◌, ℕ, Bool, true, false, cond, List, [], ◌∷◌, ◌++◌, Option, Some, None, inl, inr, ◌⊎◌, refl, ap, sym, subst, ◌∙◌, append-nil, append_assoc}
use Rattle.std.specs.List.{AllByRecursion}
use Rattle.disks.specs.Held.{Held}
use Rattle.line_service.specs.Answering.{Answering, Answers}
use Rattle.line_service.specs.Stands.{Stand, AnsweringWith, by_stand, stand}
use Rattle.line_service.proofs.Standing.{same_stand}
use Rattle.segment_files.specs.Remarks.{remark_of}
use Rattle.line_replica.specs.declared.keys.Turn.{Turn}
use Rattle.line_replica.specs.declared.keys.Turn.TheVariants as turn
use Rattle.line_replica.specs.declared.reading.Tag.{Tag}
use Rattle.line_replica.specs.declared.numbered.Numbered.{Numbered}
use Rattle.line_replica.specs.declared.replica.Replica.{Replica}
use Rattle.line_replica.specs.Keys.{Table, with_told, forgotten_if, line_to_asker}
use Rattle.line_replica.specs.Log.{Numbers, numbers_of, given, given_at, given_after, given_of, with_number, numbers_at, numbers_but, numbers_behind, numbers_after}
use Rattle.line_replica.specs.Noted.{IsOwn, IsGiven, AreGiven}
use Rattle.line_replica.specs.Laws.{HasTheHistoryWithoutThem, LosesLast, IsLostAtTheEnd}
use Rattle.line_replica.specs.Reading.{Heard, Tagged, Place, Digest, Plain, heard, did_at, is_forget, kept_text}
use Rattle.line_replica.specs.Replies.{IsTold, IsPlaced, IsLost, IsWhole, IsReplied, IsHeard, IsAnsweredOnce, IsTagTaken, input_of, turn_of, forget_note}
use Rattle.line_replica.specs.Running.{next_of, place_line}
use Rattle.line_replica.specs.State.{kept_line, forget_line, remarks_of}
use Rattle.line_replica.proofs.Numbers.{numbers_inserted, same_turn, forgets_number}

pub answers_then : {S : Type 0} (A : Answering S) (old mid new : S) (lines more : List (List ℕ)) (said later noted notes : List ℕ) → Answers A old lines said noted mid → Answers A mid more later notes new → Answers A old (lines ++ more) (said ++ later) (noted ++ notes) new
answers_then A old mid new [] more said later noted notes a b =
    subst (λ (s : _). Answers A s more (said ++ later) (noted ++ notes) new) a.2
    (subst (λ (u : List ℕ). Answers A mid more (u ++ later) (noted ++ notes) new) (sym a.0)
    (subst (λ (u : List ℕ). Answers A mid more later (u ++ notes) new) (sym a.1) b))
answers_then A old mid new (line ∷ lines) more said later noted notes a b =
    let rest = answers_then A a.0 mid new lines more a.2 later a.4 notes a.8 b in (
      a.0,
      a.1,
      a.2 ++ later,
      a.3,
      a.4 ++ notes,
      a.5,
      ap (λ (u : List ℕ). u ++ later) a.6 ∙ append_assoc a.1 a.2 later,
      ap (λ (u : List ℕ). u ++ notes) a.7 ∙ append_assoc a.3 a.4 notes,
      rest,
    )

pub true_or_false : true ≡ false → ⊥
true_or_false e = subst (λ (b : Bool). cond b (Unit {0}) ⊥) e tt

-- ---- the lines that bring back what a line of the log has changed

abbrev pub own_at : Turn → Tag → List ℕ → List ℕ → List (List ℕ)
own_at turn.Fresh tag rest said = kept_line tag (line_to_asker rest said) ∷ []
own_at _ tag rest said = []

abbrev pub own_forget : Turn → Tag → List (List ℕ)
own_forget turn.Again tag = forget_line tag ∷ []
own_forget _ tag = []

abbrev pub own_behind : Option (List ℕ) → Table → Tag → List ℕ → List ℕ → List (List ℕ)
own_behind (Some text) keys tag rest said = kept_line tag (kept_text text) ∷ []
own_behind None keys tag rest said = cond (is_forget rest) (own_forget (turn_of keys tag) tag) (own_at (turn_of keys tag) tag rest said)

abbrev pub own_of : Heard → Table → List ℕ → List ℕ → List (List ℕ)
own_of (Tagged tag rest) keys since said = own_behind (did_at rest) keys tag rest said
own_of (Place place) keys since said = place_line place (next_of since) ∷ []
own_of (Digest place digest) keys since said = place_line place digest ∷ []
own_of Plain keys since said = []

-- the own lines that this line may bring are of this kind, if the service inside answered it so
pub record Brings {S : Type 0} (A : AnsweringWith S) (Own : List ℕ → Type 0) (since : List ℕ) (old : S) (was : Option Held) (line said : List ℕ) (new : S) (is : Option Held) : Type 0 where
  pub done : (tag : Tag) (rest inside : List ℕ) → heard line ≡ Tagged tag rest → A old was rest said inside new is → Own (kept_line tag (line_to_asker rest said))
  pub did : (tag : Tag) (rest text : List ℕ) → heard line ≡ Tagged tag rest → did_at rest ≡ Some text → Own (kept_line tag (kept_text text))
  pub forgets : (tag : Tag) (rest : List ℕ) → heard line ≡ Tagged tag rest → Own (forget_line tag)
  pub place : (place : ℕ) → heard line ≡ Place place → Own (place_line place (next_of since))
  pub digest : (place : ℕ) (digest : List ℕ) → heard line ≡ Digest place digest → Own (place_line place digest)

-- so it is with each line of this other kind
abbrev pub BringAll : {S : Type 0} → AnsweringWith S → (List ℕ → Type 0) → (List ℕ → Type 0) → Type 0
BringAll A Own Line = (since : List ℕ) (old new : _) (was is : Option Held) (line said : List ℕ) → Line line → Brings A Own since old was line said new is

own_brings : {S : Type 0} (A : AnsweringWith S) → BringAll A IsOwn (λ line. Unit {0})
own_brings A since old new was is line said any = record {
  done = λ tag rest inside e a. inl (tag, line_to_asker rest said, refl);
  did = λ tag rest text e f. inl (tag, kept_text text, refl);
  forgets = λ tag rest e. inr (inl (tag, refl));
  place = λ place e. inr (inr (place, next_of since, refl));
  digest = λ place digest e. inr (inr (place, digest, refl));
}

any_lines : (lines : List (List ℕ)) → AllByRecursion (λ (line : List ℕ). Unit {0}) lines
any_lines [] = tt
any_lines (line ∷ lines) = (tt, any_lines lines)

module _ {S : Type 0} (A : AnsweringWith S) where
  module _ (Own : List ℕ → Type 0) where
    -- lines that were given, and the last numbers then
    pub record IsTaken (old : Numbered S) (was : Option Held) (lines own : List (List ℕ)) (noted : List ℕ) (new : Numbered S) (is : Option Held) (numbers : Numbers) : Type 0 where
      pub given : IsGiven A Own (stand old.inner was) lines own noted (stand new.inner is)
      pub numbers_are : numbers_of new.keys ≡ numbers

    module _ (old new : Numbered S) (was is : Option Held) (noted : List ℕ) where
      -- nothing was given
      none : (own : List (List ℕ)) → AllByRecursion Own own → noted ≡ remarks_of own → new.inner ≡ old.inner → is ≡ was → (numbers : Numbers) → numbers_of new.keys ≡ numbers → IsTaken old was [] own noted new is numbers
      none own each e inner files numbers f = record {
        given = record { told = []; notes = []; answered = (refl, refl, same_stand new.inner old.inner is was inner files); each = each; noted_are = e };
        numbers_are = f;
      }

      one : (line said inside : List ℕ) (own : List (List ℕ)) → AllByRecursion Own own → noted ≡ inside ++ remarks_of own → A old.inner was line said inside new.inner is → (numbers : Numbers) → numbers_of new.keys ≡ numbers → IsTaken old was (line ∷ []) own noted new is numbers
      one line said inside own each e a numbers f = record {
        given = record {
          told = said;
          notes = inside;
          answered = (stand new.inner is, said, [], inside, [], a, sym (append-nil said), sym (append-nil inside), (refl, refl, refl));
          each = each;
          noted_are = e;
        };
        numbers_are = f;
      }

    module _ (old new : Numbered S) (was is : Option Held) (since line said noted : List ℕ) (brings : Brings A Own since old.inner was line said new.inner is) where
      told : (text : List ℕ) (keys : Table) → IsTold text keys [] old was said noted new is → (numbers : Numbers) → numbers_of keys ≡ numbers → IsTaken old was [] [] noted new is numbers
      told text keys t numbers e = none old new was is noted [] tt t.notes t.inner t.files numbers (ap numbers_of t.keys_are ∙ e)

      told_one : (text : List ℕ) (keys : Table) (own : List ℕ) → Own own → IsTold text keys (remark_of own) old was said noted new is → (numbers : Numbers) → numbers_of keys ≡ numbers → IsTaken old was [] (own ∷ []) noted new is numbers
      told_one text keys own is_own t numbers e = none old new was is noted (own ∷ []) (is_own, tt) (t.notes ∙ sym (append-nil (remark_of own))) t.inner t.files numbers (ap numbers_of t.keys_are ∙ e)

      by_turn : (r : Turn) (tag : Tag) (input : List ℕ) → heard line ≡ Tagged tag input → IsAnsweredOnce A r tag old was input said noted new is → IsTaken old was (given_at r input) (own_at r tag input said) noted new is (numbers_at r (numbers_of old.keys) tag)
      by_turn turn.Fresh tag input h p =
          let own = kept_line tag (line_to_asker input said) in
          one old new was is noted input said p.inside (own ∷ []) (brings.done tag input p.inside h p.answered, tt) (p.notes ∙ ap (λ (u : List ℕ). p.inside ++ u) (sym (append-nil (remark_of own)))) p.answered
          (with_number (numbers_of old.keys) tag) (ap numbers_of p.keys_are ∙ numbers_inserted old.keys tag.key _)
      by_turn turn.Again tag input h t = told _ old.keys t (numbers_of old.keys) refl
      by_turn (turn.Past last) tag input h t = told _ old.keys t (numbers_of old.keys) refl

      by_forget : (r : Turn) (tag : Tag) (rest : List ℕ) → heard line ≡ Tagged tag rest → IsTold [] (forgotten_if r old.keys tag.key) (forget_note r tag) old was said noted new is → IsTaken old was [] (own_forget r tag) noted new is (numbers_but r (numbers_of old.keys) tag)
      by_forget turn.Fresh tag rest h t = told [] old.keys t (numbers_of old.keys) refl
      by_forget turn.Again tag rest h t = told_one [] _ (forget_line tag) (brings.forgets tag rest h) t _ (forgets_number turn.Again old.keys tag)
      by_forget (turn.Past last) tag rest h t = told [] old.keys t (numbers_of old.keys) refl

      by_word : (forgets : Bool) (tag : Tag) (rest : List ℕ) → heard line ≡ Tagged tag rest →
          cond forgets (IsTold [] (forgotten_if (turn_of old.keys tag) old.keys tag.key) (forget_note (turn_of old.keys tag) tag) old was said noted new is) (IsAnsweredOnce A (turn_of old.keys tag) tag old was rest said noted new is) →
          IsTaken old was (cond forgets [] (given_at (turn_of old.keys tag) rest)) (cond forgets (own_forget (turn_of old.keys tag) tag) (own_at (turn_of old.keys tag) tag rest said)) noted new is (cond forgets (numbers_but (turn_of old.keys tag) (numbers_of old.keys) tag) (numbers_at (turn_of old.keys tag) (numbers_of old.keys) tag))
      by_word true tag rest h t = by_forget (turn_of old.keys tag) tag rest h t
      by_word false tag rest h a = by_turn (turn_of old.keys tag) tag rest h a

      behind : (did : Option (List ℕ)) (tag : Tag) (rest : List ℕ) → heard line ≡ Tagged tag rest → did_at rest ≡ did → IsTagTaken A did tag old was rest said noted new is →
          IsTaken old was (given_after did (numbers_of old.keys) tag rest) (own_behind did old.keys tag rest said) noted new is (numbers_behind did (numbers_of old.keys) tag rest)
      behind (Some text) tag rest h d t = told_one [] (with_told old.keys tag.key tag.number (kept_text text)) (kept_line tag (kept_text text)) (brings.did tag rest text h d) t (with_number (numbers_of old.keys) tag) (numbers_inserted old.keys tag.key _)
      behind None tag rest h d a =
          subst (λ (r : Turn). IsTaken old was (cond (is_forget rest) [] (given_at r rest)) (own_behind None old.keys tag rest said) noted new is (cond (is_forget rest) (numbers_but r (numbers_of old.keys) tag) (numbers_at r (numbers_of old.keys) tag)))
          (same_turn old.keys tag) (by_word (is_forget rest) tag rest h a)

    module _ (old new : Replica S) (was is : Option Held) (line said noted : List ℕ) (brings : Brings A Own old.running.since old.numbered.inner was line said new.numbered.inner is) where
      placed : (place : ℕ) (digest text : List ℕ) → Own (place_line place digest) → IsPlaced place digest text old was said noted new is → IsTaken old.numbered was [] (place_line place digest ∷ []) noted new.numbered is (numbers_of old.numbered.keys)
      placed place digest text is_own p =
          none old.numbered new.numbered was is noted (place_line place digest ∷ []) (is_own, tt) (p.notes ∙ sym (append-nil (remark_of (place_line place digest)))) (ap (λ (m : Numbered S). m.inner) p.numbered) p.files
          (numbers_of old.numbered.keys) (ap (λ (m : Numbered S). numbers_of m.keys) p.numbered)

      -- what is heard of a line, and what it was taken as
      pub read : (h : Heard) → heard line ≡ h → IsHeard A h old was line said noted new is → IsTaken old.numbered was (given_of h (numbers_of old.numbered.keys) line) (own_of h old.numbered.keys old.running.since said) noted new.numbered is (numbers_after h (numbers_of old.numbered.keys))
      read (Tagged tag rest) e a = behind old.numbered new.numbered was is old.running.since line said noted brings (did_at rest) tag rest e refl a.numbered
      read (Place place) e a = placed place (next_of old.running.since) _ (brings.place place e) a
      read (Digest place digest) e a = placed place digest [] (brings.digest place digest e) a
      read Plain e a = one old.numbered new.numbered was is noted line said noted [] tt (sym (append-nil noted)) a.numbered.answered (numbers_of old.numbered.keys) (ap numbers_of a.numbered.keys_are)

  -- a line whose answer was not lost is whole
  pub whole_line : (old new : Replica S) (was is : Option Held) (line said noted : List ℕ) → IsReplied A old was line said noted new is → new.lost ≡ false → IsHeard A (heard line) old was line said noted new is
  whole_line old new was is line said noted r whole = of r.answered
    where
      of : IsWhole A old was line said noted new is ⊎ IsLost A old was (input_of (heard line) line) said noted new is → IsHeard A (heard line) old was line said noted new is
      of (inl w) = w.heard_as
      of (inr l) = absurd (true_or_false (sym l.lost ∙ whole))

  -- where nothing is lost after some lines, nothing was lost before them
  pub whole_at : (old new : Replica S) (was is : Option Held) (lines : List (List ℕ)) (said noted : List ℕ) → Answers (by_stand (IsReplied A)) (stand old was) lines said noted (stand new is) → new.lost ≡ false → old.lost ≡ false
  whole_at old new was is [] said noted a whole = ap (λ (s : Stand (Replica S)). s.service.lost) (sym a.2) ∙ whole
  whole_at old new was is (line ∷ lines) said noted a whole = a.5.before

  -- where an answer was lost, no line was answered after it, and nothing is said
  ends_lost : (old new : Replica S) (was is : Option Held) (lines : List (List ℕ)) (said noted : List ℕ) → Answers (by_stand (IsReplied A)) (stand old was) lines said noted (stand new is) → old.lost ≡ true → (lines ≡ []) × (said ≡ [])
  ends_lost old new was is [] said noted a lost = (refl, a.0)
  ends_lost old new was is (line ∷ lines) said noted a lost = absurd (true_or_false (sym lost ∙ a.5.before))

  lost_text : (old new : Replica S) (was is : Option Held) (line said noted : List ℕ) → IsReplied A old was line said noted new is → new.lost ≡ true → said ≡ []
  lost_text old new was is line said noted r lost = of r.answered
    where
      of : IsWhole A old was line said noted new is ⊎ IsLost A old was (input_of (heard line) line) said noted new is → said ≡ []
      of (inl w) = absurd (true_or_false (sym lost ∙ w.whole))
      of (inr l) = l.says

  -- where an answer was lost, it was the last line's
  pub lost : IsLostAtTheEnd A
  lost old new was is [] said noted a whole gone = absurd (true_or_false (sym gone ∙ (ap (λ (s : Stand (Replica S)). s.service.lost) a.2 ∙ whole)))
  lost old new was is (line ∷ lines) said noted a whole gone =
      let mid = a.0 in
      elim mid.service.lost as (λ b. mid.service.lost ≡ b → LosesLast A old was (line ∷ lines) said noted) [
        | true ↦ λ e.
            let end = ends_lost mid.service new mid.files is lines a.2 a.4 a.8 e in
            let silent = lost_text old mid.service was mid.files line a.1 a.3 a.5 e in
            ([], line, old, was, [], noted, ap (λ (u : List (List ℕ)). line ∷ u) end.0, refl, whole, (a.6 ∙ (ap (λ (u : List ℕ). u ++ a.2) silent ∙ end.1), refl, refl))
        | false ↦ λ e.
            let r = lost mid.service new mid.files is lines a.2 a.4 a.8 e gone in (
              line ∷ r.0,
              r.1,
              r.2,
              r.3,
              a.3 ++ r.4,
              r.5,
              ap (λ (u : List (List ℕ)). line ∷ u) r.6,
              a.7 ∙ (ap (λ (u : List ℕ). a.3 ++ u) r.7 ∙ sym (append_assoc a.3 r.4 r.5)),
              r.8,
              (mid, a.1, a.2, a.3, r.4, a.5, a.6, refl, r.9),
            )
      ] refl

  -- the lines that are given, one after the other, are answered inside
  pub given_inside : (Own : List ℕ → Type 0) (numbers : Numbers) (old new : Stand S) (lines : List (List ℕ)) (inside noted : List ℕ) → AreGiven A Own numbers old lines inside noted new → (told : List ℕ) × Answers (by_stand A) old (given numbers lines) told inside new
  given_inside Own numbers old new [] inside noted g = ([], (refl, g.0, g.2))
  given_inside Own numbers old new (line ∷ lines) inside noted g =
      let rest = given_inside Own (numbers_after (heard line) numbers) g.0 new lines g.4 g.3 g.8 in (
        g.5.told ++ rest.0,
        subst (λ (u : List ℕ). Answers (by_stand A) old (given numbers (line ∷ lines)) (g.5.told ++ rest.0) u new) (sym g.6)
            (answers_then (by_stand A) old g.0 new (given_of (heard line) numbers line) (given (numbers_after (heard line) numbers) lines) g.5.told rest.0 g.5.notes g.4 g.5.answered rest.1),
      )

  -- each line is taken, one after the other
  module _ (Own Line : List ℕ → Type 0) (bring : BringAll A Own Line) where
    pub taken : (old new : Replica S) (was is : Option Held) (lines : List (List ℕ)) (said noted : List ℕ) → AllByRecursion Line lines → Answers (by_stand (IsReplied A)) (stand old was) lines said noted (stand new is) → new.lost ≡ false →
        (inside : List ℕ) × AreGiven A Own (numbers_of old.numbered.keys) (stand old.numbered.inner was) lines inside noted (stand new.numbered.inner is)
    taken old new was is [] said noted all a whole =
        ([], (refl, a.1, ap (λ (s : Stand (Replica S)). stand s.service.numbered.inner s.files) a.2))
    taken old new was is (line ∷ lines) said noted all a whole =
        let mid = a.0 in
        let w = whole_at mid.service new mid.files is lines a.2 a.4 a.8 whole in
        let brings = bring old.running.since old.numbered.inner mid.service.numbered.inner was mid.files line a.1 all.0 in
        let now = read Own old mid.service was mid.files line a.1 a.3 brings (heard line) refl (whole_line old mid.service was mid.files line a.1 a.3 a.5 w) in
        let more = taken mid.service new mid.files is lines a.2 a.4 all.1 a.8 whole in
        let rest = subst (λ (n : Numbers). AreGiven A Own n (stand mid.service.numbered.inner mid.files) lines more.0 a.4 (stand new.numbered.inner is)) now.numbers_are more.1 in
        (now.given.notes ++ more.0, (stand mid.service.numbered.inner mid.files, own_of (heard line) old.numbered.keys old.running.since a.1, a.3, a.4, more.0, now.given, refl, a.7, rest))

  pub history : HasTheHistoryWithoutThem A
  history old new was is lines said noted a whole =
      let t = taken IsOwn (λ line. Unit {0}) (own_brings A) old new was is lines said noted (any_lines lines) a whole in
      let g = given_inside IsOwn (numbers_of old.numbered.keys) (stand old.numbered.inner was) (stand new.numbered.inner is) lines t.0 noted t.1 in
      (g.0, t.0, g.1, t.1)
