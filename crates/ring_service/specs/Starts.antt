-- A line that is too long is answered as its start is, lines are answered as long as the segment is
-- not due, and where the content of files is known before a line it is known after it.
use Rattle.std.proofs.Common.{◌≡◌, ℕ, Bool, false, not, ◌&&◌, ◌⊎◌, List, Option, None, Some, sym, ap, subst, inl, inr}
use Rattle.std.specs.Prelude.{is_some, IsSome}
use Rattle.std.proofs.lemmas.Bool.{false≢true}
use Rattle.disks.specs.Held.{Held, Replaces}
use Rattle.line_service.specs.Answering.{IsByStart}
use Rattle.line_service.specs.Stands.{by_stand}
use Rattle.line_service.specs.Segmenting.{KeepsKnown}
use Rattle.saved_history.specs.Spelling.{text}
use Rattle.ring_service.specs.declared.answers.Answer.{Answer}
use Rattle.ring_service.specs.declared.answers.Answer.TheVariants as answer
use Rattle.ring_service.specs.Standings.{Standing}
use Rattle.ring_service.specs.Due.{is_due}
use Rattle.ring_service.specs.Saved.{content_of}
use Rattle.ring_service.specs.Permits.{Terms, file_in}
use Rattle.ring_service.specs.Serving.{name_in, IsApartFrom, IsSaveGiven, IsGiven, IsAnswered}
use Rattle.ring_service.specs.Whole.{whole_answer}
use Rattle.ring_service.specs.Services.{ServiceView, IsServed, terms_of, is_over}

pub by_start : IsByStart (by_stand IsServed)
by_start old new full said noted long a = record {
  answered = whole_answer full long a.answered;
  rules = a.rules;
  due = a.due;
  right = a.right;
}

pub goes : (s : ServiceView) → is_due s.rules.limit s.rings ≡ false → is_over s ≡ false
goes s e = ap (λ (b : Bool). b && not (is_some s.rules.refusing)) e

-- ---- what an answer does to files

-- A line that saved has replaced a file, which is not the journal's. No other line changes one.
abbrev pub HaveChanged : Option (List ℕ) → Option Held → Option Held → Type 0
HaveChanged journal was is =
    (is ≡ was)
    ⊎ ((file : List ℕ)
    × (bytes : List ℕ)
    × Replaces was is file (Some bytes)
    × IsApartFrom was journal file)

save_changed : (journal history saves : Option (List ℕ)) (was is : Option Held) (name : List ℕ) (rings : List Standing) (given : Answer) → IsSaveGiven journal history saves was is name rings given → HaveChanged journal was is
save_changed journal history None was is name rings given g = inl g.1
save_changed journal history (Some folder) was is name rings given (inl (plain, inl s)) = inr (file_in folder name, text (content_of rings), s.1, s.3)
save_changed journal history (Some folder) was is name rings given (inl (plain, inr s)) = inl s.1
save_changed journal history (Some folder) was is name rings given (inr s) = inl s.2

given_changed : (journal history saves : Option (List ℕ)) (was is : Option Held) (name : List ℕ) (rings : List Standing) (asked given : Answer) → IsGiven journal history saves was is name rings asked given → HaveChanged journal was is
given_changed journal history saves was is name rings answer.Saved given g = save_changed journal history saves was is name rings given g
given_changed journal history saves was is name rings asked given g = inl g.1

pub answered_changed : (terms : Terms) (old new : List Standing) (was is : Option Held) (line said noted : List ℕ) → IsAnswered terms old was line said noted new is → HaveChanged terms.journal was is
answered_changed terms old new was is line said noted a = given_changed terms.journal terms.history terms.saves was is (name_in line) new a.turn.answer a.given a.gives

changed_known : (journal : Option (List ℕ)) (was is : Option Held) → HaveChanged journal was is → IsSome was → IsSome is
changed_known journal was is (inl e) k = subst (λ (x : Option Held). IsSome x) (sym e) k
changed_known journal None is (inr r) k = absurd (false≢true k)
changed_known journal (Some was) None (inr r) k = absurd r.2
changed_known journal (Some was) (Some is) (inr r) k = k

pub knows : KeepsKnown IsServed
knows old new was is line said noted a k = changed_known (terms_of old).journal was is (answered_changed (terms_of old) old.rings new.rings was is line said noted a.answered) k
