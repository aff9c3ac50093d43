-- Equal lines give equal answers.
use Rattle.std.proofs.Common.{◌≡◌, ℕ, Bool, true, false, ◌&&◌, List, [], ◌∷◌, ◌++◌, Option, None, sym, ap, subst, ◌∙◌, cond}
use Rattle.std.specs.Prelude.{◌||◌, is_some}
use Rattle.disks.specs.Held.{Held}
use Rattle.line_service.specs.Stands.{Stand}
use Rattle.ring_service.specs.Answers.{answer_line}
use Rattle.ring_service.specs.Notes.{notes_of}
use Rattle.ring_service.specs.declared.answers.Answer.{Answer}
use Rattle.ring_service.specs.declared.answers.Answer.TheVariants as answer
use Rattle.ring_service.specs.declared.answers.Refusal.TheVariants as refusal
use Rattle.ring_service.specs.Permits.{Terms}
use Rattle.ring_service.specs.Standings.{Standing}
use Rattle.ring_service.specs.Turns.{Turn, IsRightTurn}
use Rattle.ring_service.specs.Serving.{IsGiven, IsAnswered, Answers, name_in, is_memory}
use Rattle.ring_service.specs.Equal.{EqualLinesGiveEqualAnswers}
use Rattle.ring_service.proofs.Lines.{one_turn}
use Rattle.ring_service.proofs.Heeding.{heeded_right}

-- what is given where no line may save
abbrev unsaved : Answer → Answer
unsaved answer.Saved = answer.Refused refusal.Off
unsaved asked = asked

given_is : (journal history : Option (List ℕ)) (was is : Option Held) (name : List ℕ) (rings : List Standing) (asked given : Answer) → IsGiven journal history None was is name rings asked given → given ≡ unsaved asked
given_is journal history was is name rings (answer.Granted number result) given g = g.0
given_is journal history was is name rings answer.Waits given g = g.0
given_is journal history was is name rings (answer.Corrupted old) given g = g.0
given_is journal history was is name rings (answer.Survey s) given g = g.0
given_is journal history was is name rings (answer.Block first count) given g = g.0
given_is journal history was is name rings answer.Saved given g = g.0
given_is journal history was is name rings (answer.Refused why) given g = g.0

right_of : (terms : Terms) (old new : List Standing) (was is : Option Held) (line said noted : List ℕ) → terms.strict ≡ true → (a : IsAnswered terms old was line said noted new is) → IsRightTurn terms.faults old line a.turn
right_of terms old new was is line said noted strict a =
    heeded_right terms.refusing terms.faults old line a.turn a.of_line (subst (λ (x : Bool). (x && (is_some terms.refusing || is_memory a.turn.answer)) ≡ false) strict a.heeded)

pub record IsAnsweredAlike (said noted told kept : List ℕ) (new other : List Standing) : Type 0 where
  pub said_is : told ≡ said
  pub noted_is : kept ≡ noted
  pub equal : other ≡ new

line_alike : (terms : Terms) (old new other : List Standing) (before after was is : Option Held) (line said noted told kept : List ℕ) → terms.strict ≡ true → terms.saves ≡ None →
    IsAnswered terms old before line said noted new after → IsAnswered terms old was line told kept other is → IsAnsweredAlike said noted told kept new other
line_alike terms old new other before after was is line said noted told kept strict saves a b =
    let turn : b.turn ≡ a.turn = one_turn terms.faults old line b.turn a.turn (right_of terms old other was is line told kept strict b) (right_of terms old new before after line said noted strict a) in
    let first : a.given ≡ unsaved a.turn.answer = given_is terms.journal terms.history before after (name_in line) new a.turn.answer a.given (subst (λ (x : Option (List ℕ)). IsGiven terms.journal terms.history x before after (name_in line) new a.turn.answer a.given) saves a.gives) in
    let second : b.given ≡ unsaved b.turn.answer = given_is terms.journal terms.history was is (name_in line) other b.turn.answer b.given (subst (λ (x : Option (List ℕ)). IsGiven terms.journal terms.history x was is (name_in line) other b.turn.answer b.given) saves b.gives) in
    let given : b.given ≡ a.given = second ∙ ap (λ (t : Turn (List Standing)). unsaved t.answer) turn ∙ sym first in record {
      said_is = b.says ∙ ap answer_line given ∙ sym a.says;
      noted_is = b.notes ∙ ap (λ (t : Turn (List Standing)). cond (is_some terms.journal) (notes_of t.recorded) []) turn ∙ sym a.notes;
      equal = sym b.leaves ∙ ap (λ (t : Turn (List Standing)). t.leaves) turn ∙ a.leaves;
    }

pub equal_lines : EqualLinesGiveEqualAnswers
equal_lines terms rings new other before after was is [] said noted told kept strict saves a b = (b.0 ∙ sym a.0, b.1 ∙ sym a.1, ap (λ (x : Stand (List Standing)). x.service) b.2 ∙ sym (ap (λ (x : Stand (List Standing)). x.service) a.2))
equal_lines terms rings new other before after was is (line ∷ lines) said noted told kept strict saves a b =
    let mid : List Standing = a.0.service in
    let r = line_alike terms rings mid b.0.service before a.0.files was b.0.files line a.1 a.3 b.1 b.3 strict saves a.5 b.5 in
    let there = subst (λ (x : List Standing). Answers terms x b.0.files lines b.2 b.4 other is) r.equal b.8 in
    let more = equal_lines terms mid new other a.0.files after b.0.files is lines a.2 a.4 b.2 b.4 strict saves a.8 there in (
      b.6 ∙ ap (λ (x : List ℕ). x ++ b.2) r.said_is ∙ ap (λ (x : List ℕ). a.1 ++ x) more.0 ∙ sym a.6,
      b.7 ∙ ap (λ (x : List ℕ). x ++ b.4) r.noted_is ∙ ap (λ (x : List ℕ). a.3 ++ x) more.1 ∙ sym a.7,
      more.2,
    )
