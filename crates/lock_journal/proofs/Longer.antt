-- Lines one after the other: histories grow, and each line's notes are calls of the journal.
use Rattle.std.proofs.Common.{◌≡◌, ℕ, Bool, true, false, List, [], ◌∷◌, ◌++◌, length, Option, Some, None, refl, sym, ◌∙◌, ap, subst, inl, inr, arith, slice_get, ◌<◌, ◌^◌, append_assoc, ◌≤◌}
use Rattle.std.proofs.lemmas.Bool.{cases_eq}
use Rattle.std.proofs.lemmas.Grind.{flat_map-append}
use Rattle.journal.specs.Spelling.{journal_line}
use Rattle.ring_service.specs.Standings.{Standing}
use Rattle.ring_service.proofs.Recovering.{lines_of}
use Rattle.held_locks.specs.declared.answers.Answers.{Answers}
use Rattle.held_locks.specs.declared.answers.Left.{Left}
use Rattle.held_locks.specs.Locks.{Ask, Acquire, Try, Release, Cancel, Corrupt, Stats, step, Leave, turn, Asked}
use Rattle.held_locks.specs.Promises.{locks_after, leaves}
use Rattle.held_locks.specs.Kept.{LockView, IsAnswer, locks_of, IsLeft, lock_of, IsDone}
use Rattle.lock_protocol.specs.Names.{lock_named}
use Rattle.lock_protocol.specs.Views.{Input}
use Rattle.line_service.specs.Answering.{Answers as Answered}
use Rattle.lock_journal.specs.declared.terms.Terms.{Terms}
use Rattle.held_locks.specs.Asked.{IsAnswerTo}
use Rattle.lock_journal.proofs.Chains.{chain_append, chain_many, chain_grown}
use Rattle.lock_journal.proofs.Following.{some_is, also_there, Followed, as_many, step_many}
use Rattle.lock_journal.proofs.LockLines.{AreBounded, IsNotedSo, noted_line, left_many}
use Rattle.lock_journal.proofs.Marks.{made_longer}
use Rattle.lock_journal.specs.Answering.{IsLineAnswered, IsToldOfNamed, IsTold, IsAnsweredIf, IsInputAnswered}
use Rattle.lock_journal.specs.Asking.{one_ask, is_off}
use Rattle.lock_journal.specs.Begun.{AnsweredLinesFollow}
use Rattle.lock_journal.specs.Counting.{SegmentView}
use Rattle.lock_journal.specs.Told.{AreOf, AreLinesIn}
use Rattle.lock_protocol.specs.Asks as asks
use Rattle.lock_protocol.specs.Views as input

-- ---- histories grow with each line

pub record AreLonger (old new : List LockView) : Type 0 where
  pub many : length new ≡ length old
  pub each : (i : ℕ) (v w : LockView) → slice_get old i ≡ Some v → slice_get new i ≡ Some w → length v.ring.ring.book.history ≤ length w.ring.ring.book.history

same_long : (v w : LockView) → v ≡ w → length v.ring.ring.book.history ≤ length w.ring.ring.book.history
same_long v w e = let n = ap (λ (x : LockView). length x.ring.ring.book.history) e in omega (arith, n)

longer_itself : (old new : List LockView) → new ≡ old → AreLonger old new
longer_itself old new e = record {
  many = ap (λ (x : List LockView). length x) e;
  each = λ i v w p q. same_long v w (some_is v w (sym p ∙ (ap (λ (x : List LockView). slice_get x i) (sym e) ∙ q)));
}

module _ (old new : List LockView) where
  longer_done : (c i : ℕ) (ask : Ask) (r : Answers) → IsDone old new c i ask r → AreLonger old new
  longer_done c i ask r d = record {
    many = as_many old new (step (locks_of old) (Asked c i ask)).locks d.locks (step_many (locks_of old) c i ask);
    each = λ j v w p q. elim (cases_eq j i) [
      | inl e ↦ made_longer v.ring w.ring (step (locks_of old) (Asked c i ask)).marks (d.marks v w (ap (λ (k : ℕ). slice_get old k) (sym e) ∙ p) (ap (λ (k : ℕ). slice_get new k) (sym e) ∙ q))
      | inr e ↦ same_long v w (some_is v w (sym p ∙ (sym (d.others j e) ∙ q)))
    ];
  }

  longer_answer : (c i : ℕ) (ask : Ask) (r : Answers) → IsAnswer old new c i ask r → AreLonger old new
  longer_answer c i ask r (inl d) = longer_done c i ask r d
  longer_answer c i ask r (inr d) = longer_itself old new d.same

  longer_ask : (c i : ℕ) (ask : Ask) (r : Answers) → IsAnswerTo old new c i ask r → AreLonger old new
  longer_ask c i (Acquire order) r d = longer_answer c i (Acquire order) r d
  longer_ask c i (Try order) r d = longer_answer c i (Try order) r d
  longer_ask c i (Corrupt machine value) r d = longer_answer c i (Corrupt machine value) r d
  longer_ask c i (Release token) r d = longer_done c i (Release token) r d
  longer_ask c i Cancel r d = longer_done c i Cancel r d
  longer_ask c i Leave r d = longer_done c i Leave r d
  longer_ask c i Stats r d = longer_done c i Stats r d

  longer_left : (c : ℕ) (said : List Left) → IsLeft old new c said → AreLonger old new
  longer_left c said d = record {
    many = as_many old new (locks_after (locks_of old) (leaves c (length old))) d.locks (left_many (locks_of old) c (length old));
    each = λ i v w p q. made_longer v.ring w.ring (turn [] (lock_of v) c Leave).marks (d.marks i v w p q);
  }

module _ (old new : SegmentView) where
  longer_kept : new ≡ old → AreLonger old.locks new.locks
  longer_kept e = longer_itself old.locks new.locks (ap (λ (s : SegmentView). s.locks) e)

  longer_named : (o : Option ℕ) (strict noting : Bool) (c : ℕ) (name : List ℕ) (ask : Ask) (said noted : List ℕ) → IsToldOfNamed o strict noting c name ask old said noted new → AreLonger old.locks new.locks
  longer_named None strict noting c name ask said noted t = longer_kept t.leaves
  longer_named (Some i) strict noting c name ask said noted t = longer_ask old.locks new.locks c i ask t.answers t.done

  longer_told : (strict noting : Bool) (c : ℕ) (x : Option (List ℕ × Ask)) (said noted : List ℕ) → IsTold strict noting c x old said noted new → AreLonger old.locks new.locks
  longer_told strict noting c None said noted t = longer_left old.locks new.locks c t.left t.done
  longer_told strict noting c (Some (name, ask)) said noted t = longer_named (lock_named old.names name) strict noting c name ask said noted t

  longer_if : (off : Bool) (terms : Terms) (c : ℕ) (a : asks.Ask) (said noted : List ℕ) → IsAnsweredIf off terms c a old said noted new → AreLonger old.locks new.locks
  longer_if true terms c a said noted t = longer_kept t.leaves
  longer_if false terms c a said noted t = longer_told terms.strict terms.noting c (one_ask a) said noted t

  longer_input : (terms : Terms) (i : Input) (said noted : List ℕ) → IsInputAnswered terms i old said noted new → AreLonger old.locks new.locks
  longer_input terms (input.Asked c ask) said noted t = longer_if (is_off terms.faults ask) terms c ask said noted t
  longer_input terms (input.Refused c why) said noted t = longer_kept t.leaves
  longer_input terms input.Nobody said noted t = longer_kept t.leaves

-- so the histories are within bounds all along
bounded_before : (old new : List LockView) → AreLonger old new → AreBounded new → AreBounded old
bounded_before old new l most i v e =
    let n = l.many in
    let w = also_there old new i v (sym n) e in
    let here = l.each i v w.0 e w.1 in
    let end = most i w.0 w.1 in
    omega (arith, here, end)

pub bounded_all : (terms : Terms) (old new : SegmentView) (lines : List (List ℕ)) (said noted : List ℕ) → Answered (IsLineAnswered terms) old lines said noted new → AreBounded new.locks → AreBounded old.locks
bounded_all terms old new [] said noted a most = subst (λ (s : SegmentView). AreBounded s.locks) a.2 most
bounded_all terms old new (line ∷ lines) said noted a most =
    bounded_before old.locks a.0.locks (longer_input old a.0 terms a.5.0 a.1 a.3 a.5.2) (bounded_all terms a.0 new lines a.2 a.4 a.8 most)

-- ---- lines

pub are_of : (rings : List Standing) (vs : List LockView) → Followed rings vs → AreOf rings vs
are_of rings vs f i v e =
    let k = f.each i v e in
    (k.0, k.1, record { base = k.2.shadows.base; start = k.2.shadows.start; history = k.2.shadows.history })

-- the notes of lines are calls, and what the answer to each line reports is in the rings
pub record AreNotedSo (terms : Terms) (rings : List Standing) (old : SegmentView) (lines : List (List ℕ)) (said noted : List ℕ) (new : SegmentView) : Type 0 where
  pub notes : IsNotedSo rings new.locks noted
  pub told : AreLinesIn terms old rings lines said new notes.behind

pub answered_lines_follow : AnsweredLinesFollow
answered_lines_follow terms old mid new lines more said noted unsaid notes a b = record { noting = a.noting; answers = go old lines said noted a.answers }
  where
    go : (now : SegmentView) (xs : List (List ℕ)) (s n : List ℕ) → Answered (IsLineAnswered terms) now xs s n mid → Answered (IsLineAnswered terms) now (xs ++ more) (s ++ unsaid) (n ++ notes) new
    go now [] s n k =
        subst (λ (x : SegmentView). Answered (IsLineAnswered terms) x more (s ++ unsaid) (n ++ notes) new) k.2
        (subst (λ (x : List ℕ). Answered (IsLineAnswered terms) mid more (x ++ unsaid) (n ++ notes) new) (sym k.0) (subst (λ (x : List ℕ). Answered (IsLineAnswered terms) mid more unsaid (x ++ notes) new) (sym k.1) b.answers))
    go now (x ∷ xs) s n k = (
      k.0,
      k.1,
      k.2 ++ unsaid,
      k.3,
      k.4 ++ notes,
      k.5,
      ap (λ (u : List ℕ). u ++ unsaid) k.6 ∙ append_assoc k.1 k.2 unsaid,
      ap (λ (u : List ℕ). u ++ notes) k.7 ∙ append_assoc k.3 k.4 notes,
      go k.0 xs k.2 k.4 k.8,
    )

-- ---- the notes of all lines

pub noted_lines : (terms : Terms) (rings : List Standing) (old new : SegmentView) (lines : List (List ℕ)) (said noted : List ℕ) → length rings < 2 ^ 32 → Followed rings old.locks → terms.noting ≡ true → Answered (IsLineAnswered terms) old lines said noted new → AreBounded new.locks →
    AreNotedSo terms rings old lines said noted new
noted_lines terms rings old new [] said noted few f noting a most =
    subst (λ (x : List ℕ). AreNotedSo terms rings old [] said x new) (sym a.1)
    (subst (λ (x : SegmentView). AreNotedSo terms rings old [] said [] x) (sym a.2) (record { notes = record { calls = []; behind = rings; chain = refl; followed = f; lines = refl }; told = (a.0, refl, refl) }))
noted_lines terms rings old new (line ∷ lines) said noted few f noting a most =
    let one = noted_line rings old a.0 few f (bounded_all terms a.0 new lines a.2 a.4 a.8 most) terms line a.1 a.3 noting a.5 in
    let size : length one.noted.behind ≡ length rings = chain_many rings one.noted.behind one.noted.calls one.noted.chain in
    let r = noted_lines terms one.noted.behind a.0 new lines a.2 a.4 (omega (arith, few, size)) one.noted.followed noting a.8 most in record {
      notes = record {
        calls = one.noted.calls ++ r.notes.calls;
        behind = r.notes.behind;
        chain = chain_append rings one.noted.behind r.notes.behind one.noted.calls r.notes.calls one.noted.chain r.notes.chain;
        followed = r.notes.followed;
        lines = a.7 ∙ (ap (λ (x : List ℕ). x ++ a.4) one.noted.lines ∙ (ap (λ (x : List ℕ). lines_of one.noted.calls ++ x) r.notes.lines ∙ sym (flat_map-append journal_line one.noted.calls r.notes.calls)));
      };
      told = (
        a.0,
        one.noted.behind,
        a.1,
        a.2,
        record {
          note = a.3;
          answered = a.5;
          tellings = one.told.tellings;
          text = one.told.text;
          each = one.told.each;
          grown = chain_grown rings one.noted.behind one.noted.calls one.noted.chain;
          of_locks = are_of one.noted.behind a.0.locks one.noted.followed;
        },
        a.6,
        r.told,
      );
    }
