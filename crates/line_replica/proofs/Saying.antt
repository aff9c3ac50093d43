-- What is said of the lines that the service inside is given.
use Rattle.std.proofs.Common.{◌≡◌, ℕ, Bool, true, false, cond, List, [], ◌∷◌, ◌++◌, Option, Some, None, inl, inr, ◌⊎◌, refl, ap, sym, subst, ◌∙◌, append-nil}
use Rattle.std.specs.List.{AllByRecursion}
use Rattle.disks.specs.Held.{Held}
use Rattle.line_service.specs.Stands.{AnsweringWith, stand}
use Rattle.line_service.proofs.Standing.{same_stand}
use Rattle.segment_files.specs.Remarks.{remark_of}
use Rattle.line_replica.specs.declared.keys.Turn.{Turn}
use Rattle.line_replica.specs.declared.keys.Turn.TheVariants as turn
use Rattle.line_replica.specs.declared.reading.Tag.{Tag}
use Rattle.line_replica.specs.declared.numbered.Numbered.{Numbered}
use Rattle.line_replica.specs.declared.replica.Replica.{Replica}
use Rattle.line_replica.specs.Keys.{Table, with_told, forgotten_if, line_to_asker}
use Rattle.line_replica.specs.Log.{Numbers, numbers_of, given_at, given_after, given_of, with_number, numbers_at, numbers_but, numbers_behind, numbers_after}
use Rattle.line_replica.specs.Noted.{IsGiven}
use Rattle.line_replica.specs.Reading.{Heard, Tagged, Place, Digest, Plain, heard, did_at, is_forget, kept_text}
use Rattle.line_replica.specs.Replies.{IsTold, IsPlaced, IsHeard, IsAnsweredOnce, IsTagTaken, turn_of, forget_note}
use Rattle.line_replica.specs.Running.{next_of, place_line}
use Rattle.line_replica.specs.State.{kept_line, forget_line, remarks_of}
use Rattle.line_replica.proofs.Numbers.{numbers_inserted, same_turn, forgets_number}
use Rattle.line_replica.proofs.Given.{Brings, own_at, own_forget, own_behind, own_of}

-- ---- one line

module _ {S : Type 0} (A : AnsweringWith S) (Own : List ℕ → Type 0) where
  -- lines that were given, what was said, and the last numbers then
  pub record IsTakenSo (old : Numbered S) (was : Option Held) (lines own : List (List ℕ)) (said noted : List ℕ) (new : Numbered S) (is : Option Held) (numbers : Numbers) : Type 0 where
    pub given_so : IsGiven A Own (stand old.inner was) lines own noted (stand new.inner is)
    pub numbers_are : numbers_of new.keys ≡ numbers
    pub says : ((lines ≡ []) × (given_so.told ≡ [])) ⊎ (given_so.told ≡ said)

  module _ (old new : Numbered S) (was is : Option Held) (noted : List ℕ) where
    none : (said : List ℕ) (own : List (List ℕ)) → AllByRecursion Own own → noted ≡ remarks_of own → new.inner ≡ old.inner → is ≡ was → (numbers : Numbers) → numbers_of new.keys ≡ numbers → IsTakenSo old was [] own said noted new is numbers
    none said own each e inner files numbers f = record {
      given_so = record { told = []; notes = []; answered = (refl, refl, same_stand new.inner old.inner is was inner files); each = each; noted_are = e };
      numbers_are = f;
      says = inl (refl, refl);
    }

    one : (line said inside : List ℕ) (own : List (List ℕ)) → AllByRecursion Own own → noted ≡ inside ++ remarks_of own → A old.inner was line said inside new.inner is → (numbers : Numbers) → numbers_of new.keys ≡ numbers → IsTakenSo old was (line ∷ []) own said noted new is numbers
    one line said inside own each e a numbers f = record {
      given_so = record {
        told = said;
        notes = inside;
        answered = (stand new.inner is, said, [], inside, [], a, sym (append-nil said), sym (append-nil inside), (refl, refl, refl));
        each = each;
        noted_are = e;
      };
      numbers_are = f;
      says = inr refl;
    }

  module _ (old new : Numbered S) (was is : Option Held) (since line said noted : List ℕ) (brings : Brings A Own since old.inner was line said new.inner is) where
    told : (text : List ℕ) (keys : Table) → IsTold text keys [] old was said noted new is → (numbers : Numbers) → numbers_of keys ≡ numbers → IsTakenSo old was [] [] said noted new is numbers
    told text keys t numbers e = none old new was is noted said [] tt t.notes t.inner t.files numbers (ap numbers_of t.keys_are ∙ e)

    told_one : (text : List ℕ) (keys : Table) (own : List ℕ) → Own own → IsTold text keys (remark_of own) old was said noted new is → (numbers : Numbers) → numbers_of keys ≡ numbers → IsTakenSo old was [] (own ∷ []) said noted new is numbers
    told_one text keys own is_own t numbers e = none old new was is noted said (own ∷ []) (is_own, tt) (t.notes ∙ sym (append-nil (remark_of own))) t.inner t.files numbers (ap numbers_of t.keys_are ∙ e)

    by_turn : (r : Turn) (tag : Tag) (input : List ℕ) → heard line ≡ Tagged tag input → IsAnsweredOnce A r tag old was input said noted new is → IsTakenSo old was (given_at r input) (own_at r tag input said) said noted new is (numbers_at r (numbers_of old.keys) tag)
    by_turn turn.Fresh tag input h p =
        let own = kept_line tag (line_to_asker input said) in
        one old new was is noted input said p.inside (own ∷ []) (brings.done tag input p.inside h p.answered, tt) (p.notes ∙ ap (λ (u : List ℕ). p.inside ++ u) (sym (append-nil (remark_of own)))) p.answered
        (with_number (numbers_of old.keys) tag) (ap numbers_of p.keys_are ∙ numbers_inserted old.keys tag.key _)
    by_turn turn.Again tag input h t = told _ old.keys t (numbers_of old.keys) refl
    by_turn (turn.Past last) tag input h t = told _ old.keys t (numbers_of old.keys) refl

    by_forget : (r : Turn) (tag : Tag) (rest : List ℕ) → heard line ≡ Tagged tag rest → IsTold [] (forgotten_if r old.keys tag.key) (forget_note r tag) old was said noted new is → IsTakenSo old was [] (own_forget r tag) said noted new is (numbers_but r (numbers_of old.keys) tag)
    by_forget turn.Fresh tag rest h t = told [] old.keys t (numbers_of old.keys) refl
    by_forget turn.Again tag rest h t = told_one [] _ (forget_line tag) (brings.forgets tag rest h) t _ (forgets_number turn.Again old.keys tag)
    by_forget (turn.Past last) tag rest h t = told [] old.keys t (numbers_of old.keys) refl

    by_word : (forgets : Bool) (tag : Tag) (rest : List ℕ) → heard line ≡ Tagged tag rest →
        cond forgets (IsTold [] (forgotten_if (turn_of old.keys tag) old.keys tag.key) (forget_note (turn_of old.keys tag) tag) old was said noted new is) (IsAnsweredOnce A (turn_of old.keys tag) tag old was rest said noted new is) →
        IsTakenSo old was (cond forgets [] (given_at (turn_of old.keys tag) rest)) (cond forgets (own_forget (turn_of old.keys tag) tag) (own_at (turn_of old.keys tag) tag rest said)) said noted new is (cond forgets (numbers_but (turn_of old.keys tag) (numbers_of old.keys) tag) (numbers_at (turn_of old.keys tag) (numbers_of old.keys) tag))
    by_word true tag rest h t = by_forget (turn_of old.keys tag) tag rest h t
    by_word false tag rest h a = by_turn (turn_of old.keys tag) tag rest h a

    behind : (did : Option (List ℕ)) (tag : Tag) (rest : List ℕ) → heard line ≡ Tagged tag rest → did_at rest ≡ did → IsTagTaken A did tag old was rest said noted new is →
        IsTakenSo old was (given_after did (numbers_of old.keys) tag rest) (own_behind did old.keys tag rest said) said noted new is (numbers_behind did (numbers_of old.keys) tag rest)
    behind (Some text) tag rest h d t = told_one [] (with_told old.keys tag.key tag.number (kept_text text)) (kept_line tag (kept_text text)) (brings.did tag rest text h d) t (with_number (numbers_of old.keys) tag) (numbers_inserted old.keys tag.key _)
    behind None tag rest h d a =
        subst (λ (r : Turn). IsTakenSo old was (cond (is_forget rest) [] (given_at r rest)) (own_behind None old.keys tag rest said) said noted new is (cond (is_forget rest) (numbers_but r (numbers_of old.keys) tag) (numbers_at r (numbers_of old.keys) tag)))
        (same_turn old.keys tag) (by_word (is_forget rest) tag rest h a)

  module _ (old new : Replica S) (was is : Option Held) (line said noted : List ℕ) (brings : Brings A Own old.running.since old.numbered.inner was line said new.numbered.inner is) where
    placed : (place : ℕ) (digest text : List ℕ) → Own (place_line place digest) → IsPlaced place digest text old was said noted new is → IsTakenSo old.numbered was [] (place_line place digest ∷ []) said noted new.numbered is (numbers_of old.numbered.keys)
    placed place digest text is_own p =
        none old.numbered new.numbered was is noted said (place_line place digest ∷ []) (is_own, tt) (p.notes ∙ sym (append-nil (remark_of (place_line place digest)))) (ap (λ (m : Numbered S). m.inner) p.numbered) p.files
        (numbers_of old.numbered.keys) (ap (λ (m : Numbered S). numbers_of m.keys) p.numbered)

    pub read : (h : Heard) → heard line ≡ h → IsHeard A h old was line said noted new is → IsTakenSo old.numbered was (given_of h (numbers_of old.numbered.keys) line) (own_of h old.numbered.keys old.running.since said) said noted new.numbered is (numbers_after h (numbers_of old.numbered.keys))
    read (Tagged tag rest) e a = behind old.numbered new.numbered was is old.running.since line said noted brings (did_at rest) tag rest e refl a.numbered
    read (Place place) e a = placed place (next_of old.running.since) _ (brings.place place e) a
    read (Digest place digest) e a = placed place digest [] (brings.digest place digest e) a
    read Plain e a = one old.numbered new.numbered was is noted line said noted [] tt (sym (append-nil noted)) a.numbered.answered (numbers_of old.numbered.keys) (ap numbers_of a.numbered.keys_are)
