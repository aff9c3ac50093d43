-- Lines that are answered are inputs of the machine of locks, and what is said is its answers.
use Rattle.std.proofs.Common.{◌≡◌, ℕ, suc, Bool, true, false, List, [], ◌∷◌, ◌++◌, length, Option, Some, None, refl, sym, ◌∙◌, ap, subst, inl, inr, arith, slice_get, append_assoc, zero, ◌≤◌, ◌⊎◌}
use Rattle.std.specs.Prelude.{if◌then◌else◌}
use Rattle.std.proofs.lemmas.List.{append-nil, length-map}
use Rattle.std.proofs.lemmas.Grind.{flat_map-append}
use Rattle.ring_model.specs.History.{State}
use Rattle.held_locks.specs.declared.answers.Waiter.{Waiter}
use Rattle.held_locks.specs.declared.answers.Holder.{Holder}
use Rattle.held_locks.specs.declared.answers.Answer.{Answer}
use Rattle.held_locks.specs.declared.answers.Refusal.{Refusal}
use Rattle.held_locks.specs.declared.answers.Answers.{Answers}
use Rattle.held_locks.specs.Queues.{Lock, without, is_held_by}
use Rattle.held_locks.specs.Locks.{Ask, Acquire, Try, Release, Cancel, Corrupt, Stats, Restart, step, Leave, Turn, ended, dropped, turn, Asked, Step, advanced, Input}
use Rattle.held_locks.specs.Promises.{locks_after, leaves}
use Rattle.held_locks.specs.Kept.{LockView, IsAnswer, other_grant, locks_of, answers_of, lock_of, ended_in, IsDone, IsLack, left_by, left_at, left_of, state_of, own_answer, IsFull}
use Rattle.held_locks.proofs.Shown.{locks_append}
use Rattle.held_locks.proofs.AllLeft.{there_is}
use Rattle.lock_protocol.specs.Names.{Names, name_of, lock_named}
use Rattle.lock_protocol.specs.Inputs.{IsReadAs}
use Rattle.lock_protocol.specs.Answers.{answer_line}
use Rattle.lock_protocol.specs.Views.{Input as LineInput}
use Rattle.line_service.specs.Answering.{Answers as Answered}
use Rattle.lock_journal.specs.declared.terms.Terms.{Terms}
use Rattle.held_locks.specs.Asked.{IsAnswerTo}
use Rattle.lock_service.proofs.SameNames.{names_stay}
use Rattle.lock_journal.proofs.Answering.{lines_are}
use Rattle.lock_journal.proofs.Following.{lock_there, step_is}
use Rattle.lock_journal.proofs.LockLines.{stays}
use Rattle.lock_journal.specs.Answering.{IsLineAnswered, IsToldOfNamed, IsTold, IsAnsweredIf, IsInputAnswered, denial_of, IsToldOfLeave}
use Rattle.lock_journal.specs.Asking.{one_ask, is_off}
use Rattle.lock_journal.specs.Counting.{SegmentView}
use Rattle.lock_journal.specs.Noting.{lines_about, lines_of_left, line_of_left}
use Rattle.lock_journal.specs.Told.{Telling, text_of}
use Rattle.lock_life.specs.Life.{tellings, IsNoAnswer, AreHeard, AreInputsOf, about, IsTaken}
use Rattle.held_locks.specs.declared.answers.Answer.TheVariants as answer
use Rattle.held_locks.specs.declared.answers.Refusal.TheVariants as refusal
use Rattle.lock_protocol.specs.Asks as asks
use Rattle.lock_protocol.specs.declared.answers.Denial.TheVariants as denial
use Rattle.lock_protocol.specs.Views as input

-- what a line does: the locks after it are those after its inputs
pub record IsHeardSo (names : Names) (ls new : List Lock) (line said : List ℕ) : Type 0 where
  pub inputs : List Input
  pub heard : IsTaken names ls line said inputs ⊎ (IsNoAnswer names line said × (inputs ≡ []))
  pub locks : new ≡ locks_after ls inputs

-- ---- texts

text_append : (names : Names) (xs ys : List Telling) → text_of names (xs ++ ys) ≡ text_of names xs ++ text_of names ys
text_append names xs ys = flat_map-append (λ (t : Telling). answer_line t.client (name_of names t.lock) t.said) xs ys

pub tellings_append : (ls : List Lock) (is js : List Input) → tellings ls (is ++ js) ≡ tellings ls is ++ tellings (locks_after ls is) js
tellings_append ls [] js = refl
tellings_append ls (Asked c i ask ∷ is) js =
    ap (λ (x : List Telling). about i (step ls (Asked c i ask)).answers ++ x) (tellings_append (step ls (Asked c i ask)).locks is js)
    ∙ sym (append_assoc (about i (step ls (Asked c i ask)).answers) (tellings (step ls (Asked c i ask)).locks is) (tellings (locks_after (step ls (Asked c i ask)).locks is) js))
tellings_append ls (Restart ∷ is) js = tellings_append (step ls Restart).locks is js

-- ---- one ask

module _ (names : Names) (old new : List LockView) (c i : ℕ) (ask : Ask) where
  pub says_done : (r : Answers) → IsDone old new c i ask r → lines_about names i (answers_of c r) ≡ text_of names (tellings (locks_of old) (Asked c i ask ∷ []))
  says_done r d =
      lines_are names i (answers_of c r)
      ∙ (ap (λ (x : List (ℕ × Answer)). text_of names (about i x)) d.answers
      ∙ ap (text_of names) (sym (append-nil (about i (step (locks_of old) (Asked c i ask)).answers))))

-- a client that is refused for lack of room or memory
pub wanted : (names : Names) (line : List ℕ) (old : List LockView) (i : ℕ) (ask : Ask) (c : ℕ) (r : Answers) → r.granted ≡ None → ((r.own ≡ Some (answer.Refused refusal.Full)) × IsFull old i ask) ⊎ (r.own ≡ Some (answer.Refused refusal.Memory)) → IsNoAnswer names line (lines_about names i (answers_of c r))
wanted names line old i ask c r none w = elim w [
  | inl f ↦ inr (inr (inr (c, i, refusal.Full, inl refl, only refusal.Full f.0)))
  | inr m ↦ inr (inr (inr (c, i, refusal.Memory, inr refl, only refusal.Memory m)))
]
  where
    only : (why : Refusal) → r.own ≡ Some (answer.Refused why) → lines_about names i (answers_of c r) ≡ answer_line c (name_of names i) (answer.Refused why)
    only why e =
        ap (λ (x : Option Answer). lines_about names i (own_answer c x ++ other_grant r.granted)) e
        ∙ (ap (λ (x : Option Holder). lines_about names i ((c, answer.Refused why) ∷ other_grant x)) none ∙ append-nil (answer_line c (name_of names i) (answer.Refused why)))

-- ---- a client leaves all locks

leave_answers : (ls : List Lock) (l : Lock) (c n : ℕ) → slice_get ls n ≡ Some l → (step ls (Asked c n Leave)).answers ≡ (turn [] l c Leave).answers
leave_answers ls l c n e = ap (λ (x : Step). x.answers) (step_is ls n c Leave l e)

abbrev left_turn : ℕ → LockView → Bool → Turn
left_turn c v b = if b then ended (state_of v.ring) (without c v.queue) 2 [] else dropped (lock_of v) c []

left_says : (names : Names) (c n : ℕ) (v : LockView) → lines_of_left names (left_at c n (Some v)) ≡ text_of names (about n (turn [] (lock_of v) c Leave).answers)
left_says names c n v = go (is_held_by c v.holder)
  where
    grants : (a : State ℕ) (line : List Waiter) → other_grant (advanced a line).lock.holder ≡ (advanced a line).answers
    grants a [] = refl
    grants a (w ∷ line) = refl

    go : (b : Bool) → lines_of_left names (left_by n (ended_in v.ring (left_turn c v b).marks) (left_turn c v b).lock.holder) ≡ text_of names (about n (left_turn c v b).answers)
    go true = append-nil (lines_about names n (other_grant (left_turn c v true).lock.holder)) ∙ (ap (λ (x : List (ℕ × Answer)). lines_about names n x) (grants (state_of v.ring) (without c v.queue)) ∙ lines_are names n (left_turn c v true).answers)
    go false = refl

pub says_left : (names : Names) (old : List LockView) (c n : ℕ) → n ≤ length old → lines_of_left names (left_of c old n) ≡ text_of names (tellings (locks_of old) (leaves c n))
says_left names old c zero l = refl
says_left names old c (suc n) l =
    let ls : List Lock = locks_of old in
    let v = there_is old n (omega (arith, l)) in
    let now : List Lock = locks_after ls (leaves c n) in
    let here : slice_get now n ≡ Some (lock_of v.0) = stays ls c n n (omega arith) ∙ lock_there old n v.0 v.1 in
    let one : lines_of_left names (left_at c n (slice_get old n)) ≡ text_of names (tellings now (Asked c n Leave ∷ [])) =
    ap (λ (x : Option LockView). lines_of_left names (left_at c n x)) v.1
    ∙ (left_says names c n v.0
    ∙ (ap (λ (x : List (ℕ × Answer)). text_of names (about n x)) (sym (leave_answers now (lock_of v.0) c n here)) ∙ ap (text_of names) (sym (append-nil (about n (step now (Asked c n Leave)).answers))))) in
    flat_map-append (line_of_left names) (left_of c old n) (left_at c n (slice_get old n))
    ∙ (ap (λ (x : List ℕ). x ++ lines_of_left names (left_at c n (slice_get old n))) (says_left names old c n (omega (arith, l)))
    ∙ (ap (λ (x : List ℕ). text_of names (tellings ls (leaves c n)) ++ x) one
    ∙ (sym (text_append names (tellings ls (leaves c n)) (tellings now (Asked c n Leave ∷ []))) ∙ ap (text_of names) (sym (tellings_append ls (leaves c n) (Asked c n Leave ∷ []))))))

-- ---- a line

module _ (old new : SegmentView) (line : List ℕ) where
  abbrev pub ls : List Lock
  ls = locks_of old.locks

  abbrev pub none_taken : (said : List ℕ) → IsNoAnswer old.names line said → new ≡ old → IsHeardSo old.names ls (locks_of new.locks) line said
  none_taken said n e = record { inputs = []; heard = inr (n, refl); locks = ap (λ (s : SegmentView). locks_of s.locks) e }

  module _ (client : ℕ) (ask : asks.Ask) (read : IsReadAs line (input.Asked client ask)) where
    abbrev pub done : (name : List ℕ) (i : ℕ) (a : Ask) (r : Answers) (said : List ℕ) → one_ask ask ≡ Some (name, a) → lock_named old.names name ≡ Some i → said ≡ lines_about old.names i (answers_of client r) → IsDone old.locks new.locks client i a r → IsHeardSo old.names ls (locks_of new.locks) line said
    done name i a r said q there says d = record {
      inputs = Asked client i a ∷ [];
      heard = inl (record {
        client = client;
        ask = ask;
        read = read;
        inputs = subst (λ (x : Option (List ℕ × Ask)). AreInputsOf old.names (length ls) client x (Asked client i a ∷ [])) (sym q) (i, there, refl);
        says = says ∙ says_done old.names old.locks new.locks client i a r d;
      });
      locks = d.locks;
    }

    abbrev pub lack_so : (i : ℕ) (a : Ask) (r : Answers) (said : List ℕ) → said ≡ lines_about old.names i (answers_of client r) → IsLack old.locks new.locks i a r → IsHeardSo old.names ls (locks_of new.locks) line said
    lack_so i a r said says w = record {
      inputs = [];
      heard = inr (subst (IsNoAnswer old.names line) (sym says) (wanted old.names line old.locks i a client r w.none.1 w.why), refl);
      locks = ap locks_of w.same;
    }

    answer_so : (name : List ℕ) (i : ℕ) (a : Ask) (r : Answers) (said : List ℕ) → one_ask ask ≡ Some (name, a) → lock_named old.names name ≡ Some i → said ≡ lines_about old.names i (answers_of client r) → IsAnswer old.locks new.locks client i a r → IsHeardSo old.names ls (locks_of new.locks) line said
    answer_so name i a r said q there says (inl d) = done name i a r said q there says d
    answer_so name i a r said q there says (inr w) = lack_so i a r said says w

    answer_to : (name : List ℕ) (i : ℕ) (a : Ask) (r : Answers) (said : List ℕ) → one_ask ask ≡ Some (name, a) → lock_named old.names name ≡ Some i → said ≡ lines_about old.names i (answers_of client r) → IsAnswerTo old.locks new.locks client i a r → IsHeardSo old.names ls (locks_of new.locks) line said
    answer_to name i (Acquire order) r said q there says d = answer_so name i (Acquire order) r said q there says d
    answer_to name i (Try order) r said q there says d = answer_so name i (Try order) r said q there says d
    answer_to name i (Corrupt machine value) r said q there says d = answer_so name i (Corrupt machine value) r said q there says d
    answer_to name i (Release token) r said q there says d = done name i (Release token) r said q there says d
    answer_to name i Cancel r said q there says d = done name i Cancel r said q there says d
    answer_to name i Leave r said q there says d = done name i Leave r said q there says d
    answer_to name i Stats r said q there says d = done name i Stats r said q there says d

    -- no lock has the name
    abbrev pub unknown_so : (name : List ℕ) (a : Ask) (said : List ℕ) → one_ask ask ≡ Some (name, a) → lock_named old.names name ≡ None → said ≡ answer_line client name (answer.Refused refusal.Lock) → IsNoAnswer old.names line said
    unknown_so name a said q none says = inr (inr (inl (record { client = client; ask = ask; read = read; name = name; what = a; asks = q; none = none; says = says })))

    abbrev pub left_so : (said noted : List ℕ) (noting : Bool) → one_ask ask ≡ None → IsToldOfLeave noting client old said noted new → IsHeardSo old.names ls (locks_of new.locks) line said
    left_so said noted noting q t =
        let many : length ls ≡ length old.locks = length-map old.locks lock_of in
        let is : leaves client (length old.locks) ≡ leaves client (length ls) = ap (λ (n : ℕ). leaves client n) (sym many) in record {
          inputs = leaves client (length old.locks);
          heard = inl (record {
            client = client;
            ask = ask;
            read = read;
            inputs = subst (λ (x : Option (List ℕ × Ask)). AreInputsOf old.names (length ls) client x (leaves client (length old.locks))) (sym q) is;
            says = t.says ∙ (ap (lines_of_left old.names) t.done.told ∙ says_left old.names old.locks client (length old.locks) (omega arith));
          });
          locks = t.done.locks;
        }

    named_so : (name : List ℕ) (a : Ask) (o : Option ℕ) (strict noting : Bool) (said noted : List ℕ) → one_ask ask ≡ Some (name, a) → lock_named old.names name ≡ o → IsToldOfNamed o strict noting client name a old said noted new → IsHeardSo old.names ls (locks_of new.locks) line said
    named_so name a None strict noting said noted q there t = none_taken said (unknown_so name a said q there t.says) t.leaves
    named_so name a (Some i) strict noting said noted q there t = answer_to name i a t.answers said q there t.says t.done

    told_so : (x : Option (List ℕ × Ask)) (strict noting : Bool) (said noted : List ℕ) → one_ask ask ≡ x → IsTold strict noting client x old said noted new → IsHeardSo old.names ls (locks_of new.locks) line said
    told_so None strict noting said noted q t = left_so said noted noting q t
    told_so (Some (name, a)) strict noting said noted q t = named_so name a (lock_named old.names name) strict noting said noted q refl t

    answered_if : (off : Bool) (terms : Terms) (said noted : List ℕ) → IsAnsweredIf off terms client ask old said noted new → IsHeardSo old.names ls (locks_of new.locks) line said
    answered_if true terms said noted t = none_taken said (inr (inl (client, denial.Off, t.says))) t.leaves
    answered_if false terms said noted t = told_so (one_ask ask) terms.strict terms.noting said noted refl t

  heard_input : (terms : Terms) (i : LineInput) (said noted : List ℕ) → IsReadAs line i → IsInputAnswered terms i old said noted new → IsHeardSo old.names ls (locks_of new.locks) line said
  heard_input terms (input.Asked client ask) said noted r t = answered_if client ask r (is_off terms.faults ask) terms said noted t
  heard_input terms (input.Refused client why) said noted r t = none_taken said (inr (inl (client, denial_of why, t.says))) t.leaves
  heard_input terms input.Nobody said noted r t = none_taken said (inl (r, t.says)) t.leaves

  pub heard_line : (terms : Terms) (said noted : List ℕ) → IsLineAnswered terms old line said noted new → IsHeardSo old.names ls (locks_of new.locks) line said
  heard_line terms said noted a = heard_input terms a.0 said noted a.1 a.2

-- ---- lines

pub record AreHeardSo (names : Names) (ls new : List Lock) (lines : List (List ℕ)) (said : List ℕ) : Type 0 where
  pub inputs : List Input
  pub heard : AreHeard names ls lines said inputs
  pub locks : new ≡ locks_after ls inputs

pub heard_lines : (terms : Terms) (old new : SegmentView) (lines : List (List ℕ)) (said noted : List ℕ) → Answered (IsLineAnswered terms) old lines said noted new → AreHeardSo old.names (locks_of old.locks) (locks_of new.locks) lines said
heard_lines terms old new [] said noted a = record { inputs = []; heard = (a.0, refl); locks = ap (λ (s : SegmentView). locks_of s.locks) a.2 }
heard_lines terms old new (line ∷ lines) said noted a =
    let one = heard_line old a.0 line terms a.1 a.3 a.5 in
    let all = heard_lines terms a.0 new lines a.2 a.4 a.8 in
    let more : AreHeardSo old.names (locks_of a.0.locks) (locks_of new.locks) lines a.2 = subst (λ (x : Names). AreHeardSo x (locks_of a.0.locks) (locks_of new.locks) lines a.2) (names_stay terms old a.0 line a.1 a.3 a.5) all in record {
      inputs = one.inputs ++ more.inputs;
      heard = (
        a.1,
        a.2,
        one.inputs,
        more.inputs,
        one.heard,
        a.6,
        refl,
        subst (λ (x : List Lock). AreHeard old.names x lines a.2 more.inputs) one.locks more.heard,
      );
      locks = more.locks ∙ (ap (λ (x : List Lock). locks_after x more.inputs) one.locks ∙ sym (locks_append (locks_of old.locks) one.inputs more.inputs));
    }
