-- What is kept of the notes of lines, cut at any byte: line by line.
use Rattle.std.proofs.Common.{◌≡◌, ℕ, suc, Bool, true, false, List, [], ◌∷◌, ◌++◌, length, Option, Some, None, refl, sym, ◌∙◌, ap, subst, inl, inr, arith, slice_get, ◌<◌, ◌^◌, zero, drop, ◌≤◌}
use Rattle.std.specs.Prelude.{option_map}
use Rattle.std.specs.List.{flat_map}
use Rattle.std.proofs.lemmas.Bool.{cases_lt}
use Rattle.std.proofs.lemmas.Grind.{flat_map-append}
use Rattle.std.proofs.lemmas.Option.{slice_get-map}
use Rattle.one_thread_ring.specs.Journals.{event_lines}
use Rattle.ring_service.specs.Standings.{Standing}
use Rattle.ring_service.proofs.Recovering.{split, after_head}
use Rattle.held_locks.specs.declared.answers.HoldEnd.{HoldEnd}
use Rattle.held_locks.specs.declared.answers.Answers.{Answers}
use Rattle.held_locks.specs.declared.answers.Left.{Left}
use Rattle.held_locks.specs.Queues.{Lock}
use Rattle.held_locks.specs.Locks.{Ask, Acquire, Try, Release, Cancel, Stats, Mark, step, Leave, Turn, turn, Asked, Step, step_at}
use Rattle.held_locks.specs.Promises.{locks_after, leaves, AreRight}
use Rattle.held_locks.specs.Kept.{LockView, IsAnswer, locks_of, answers_of, IsLeft, lock_of, ended_in, ended_at, IsDone, IsLack, AreMade, left_at, left_of}
use Rattle.held_locks.proofs.Right.{right_stays}
use Rattle.held_locks.proofs.Shown.{locks_append}
use Rattle.held_locks.proofs.Standing.{get_set_same}
use Rattle.held_locks.proofs.AllLeft.{there_is}
use Rattle.lock_protocol.specs.Asks.{heard}
use Rattle.lock_protocol.specs.Inputs.{IsReadAs}
use Rattle.lock_protocol.specs.Names.{Names, lock_named}
use Rattle.lock_protocol.specs.Views.{Input as LineInput}
use Rattle.line_service.specs.Answering.{Answers as Answered}
use Rattle.lock_journal.specs.declared.terms.Terms.{Terms}
use Rattle.held_locks.specs.Asked.{events_at, IsAnswerTo}
use Rattle.lock_service.proofs.SameNames.{names_stay}
use Rattle.lock_journal.proofs.Chains.{chain_many, chain_right}
use Rattle.lock_journal.proofs.Following.{some_is, none_is, also_there, lock_there, Followed, step_is, as_many, step_many}
use Rattle.lock_journal.proofs.LockLines.{AreBounded, IsNotedSo, left_lock, noted_line, left_many, AreLeftSo, all_past, order_small, stays, left_note, left_so}
use Rattle.lock_journal.proofs.Longer.{bounded_all}
use Rattle.lock_journal.proofs.Marks.{IsSmallAsk}
use Rattle.lock_journal.specs.Answering.{IsLineAnswered, IsToldOfNamed, IsTold, IsAnsweredIf, IsInputAnswered, denial_of}
use Rattle.lock_journal.specs.Asking.{one_ask, is_off}
use Rattle.lock_journal.specs.Counting.{SegmentView}
use Rattle.lock_journal.specs.Noting.{lines_about, note_about, notes_of_left, events_from, end_line, note_of_left}
use Rattle.lock_life.proofs.Cutting.{IsCutSo, IsNoFault, cut_empty, cut_then, cut_behind, cut_turn, within_first}
use Rattle.lock_life.proofs.GivenUp.{same_lists}
use Rattle.lock_life.proofs.Inputs.{IsHeardSo, AreHeardSo, none_taken, done, lack_so, unknown_so, left_so as left_heard, heard_line, heard_lines}
use Rattle.lock_life.specs.Life.{IsNoAnswer, AreHeard}
use Rattle.lock_protocol.specs.Asks as asks
use Rattle.lock_protocol.specs.declared.answers.Denial.TheVariants as denial
use Rattle.lock_protocol.specs.Views as input

-- ---- one lock is asked

module _ (rings : List Standing) (old new : List LockView) (few : length rings < 2 ^ 32) (f : Followed rings old) (most : AreBounded new) (c i : ℕ) (ask : Ask) where
  pub cut_done : (r : Answers) → IsDone old new c i ask r → IsSmallAsk ask → IsNoFault ask → (bytes lost : List ℕ) → bytes ++ lost ≡ note_about i old new r.ended → IsCutSo rings (locks_of old) (Asked c i ask ∷ []) bytes
  cut_done r d small plain bytes lost e = go (slice_get old i) refl
    where
      ls : List Lock
      ls = locks_of old

      marks : List Mark
      marks = (step (locks_of old) (Asked c i ask)).marks

      missing : (o : Option LockView) → slice_get new i ≡ o → slice_get old i ≡ None → length new ≡ length old → o ≡ None
      missing None p none n = refl
      missing (Some w) p none n = let v = also_there new old i w n p in absurd (none_is v.0 (sym none ∙ v.1))

      go : (o : Option LockView) → slice_get old i ≡ o → IsCutSo rings (locks_of old) (Asked c i ask ∷ []) bytes
      go None none =
          let n : length new ≡ length old = as_many old new (step (locks_of old) (Asked c i ask)).locks d.locks (step_many (locks_of old) c i ask) in
          let gone : slice_get new i ≡ None = missing (slice_get new i) refl none n in
          let quiet : r.ended ≡ None = d.ended ∙ ap (λ (x : Option LockView). ended_at x (step (locks_of old) (Asked c i ask)).marks) none in
          let note : note_about i old new r.ended ≡ [] =
          ap (λ (x : Option HoldEnd). end_line i x ++ events_from i (events_at (slice_get old i)) (slice_get new i)) quiet
          ∙ ap (λ (x : Option LockView). events_from i (events_at (slice_get old i)) x) gone in
          cut_empty rings old (Asked c i ask ∷ []) bytes lost f (e ∙ note)
      go (Some v) at =
          let here : slice_get (locks_of old) i ≡ Some (lock_of v) = lock_there old i v at in
          let s : step (locks_of old) (Asked c i ask) ≡ step_at (locks_of old) c i ask (Some (lock_of v)) = step_is (locks_of old) i c ask (lock_of v) here in
          let n : length new ≡ length old = as_many old new (step (locks_of old) (Asked c i ask)).locks d.locks (step_many (locks_of old) c i ask) in
          let w = also_there old new i v (sym n) at in
          let t : Turn = turn (locks_of old) (lock_of v) c ask in
          let is : (step (locks_of old) (Asked c i ask)).marks ≡ t.marks = ap (λ (x : Step). x.marks) s in
          let lock : lock_of w.0 ≡ t.lock = some_is (lock_of w.0) t.lock (sym (lock_there new i w.0 w.1) ∙ (ap (λ (x : List Lock). slice_get x i) (d.locks ∙ ap (λ (x : Step). x.locks) s) ∙ get_set_same (locks_of old) i t.lock (lock_of v) here)) in
          let made : AreMade v.ring t.marks w.0.ring = subst (λ (x : List Mark). AreMade v.ring x w.0.ring) is (d.marks v w.0 at w.1) in
          let ends : r.ended ≡ ended_in v.ring t.marks = d.ended ∙ (ap (λ (x : Option LockView). ended_at x (step (locks_of old) (Asked c i ask)).marks) at ∙ ap (λ (x : List Mark). ended_in v.ring x) is) in
          let note : note_about i old new r.ended ≡ end_line i (ended_in v.ring t.marks) ++ event_lines i (drop (length v.ring.ring.book.history) w.0.ring.ring.book.history) =
          ap (λ (x : Option HoldEnd). end_line i x ++ events_from i (events_at (slice_get old i)) (slice_get new i)) ends
          ∙ (ap (λ (x : Option LockView). end_line i (ended_in v.ring t.marks) ++ events_from i (events_at x) (slice_get new i)) at
          ∙ ap (λ (x : Option LockView). end_line i (ended_in v.ring t.marks) ++ events_from i (length v.ring.ring.book.history) x) w.1) in
          cut_turn rings old few f i v c ask at w.0 small plain made lock (most i w.0 w.1) bytes lost (e ∙ note)

  -- nothing is noted of an ask that is refused for lack of room or memory
  pub lack_notes : (r : Answers) → IsLack old new i ask r → note_about i old new r.ended ≡ []
  lack_notes r d =
      ap (λ (x : Option HoldEnd). end_line i x ++ events_from i (events_at (slice_get old i)) (slice_get new i)) d.none.0
      ∙ (ap (λ (x : List LockView). events_from i (events_at (slice_get old i)) (slice_get x i)) d.same ∙ past (slice_get old i))
    where
      past : (o : Option LockView) → events_from i (events_at o) o ≡ []
      past None = refl
      past (Some v) = all_past i v.ring.ring.book.history (length v.ring.ring.book.history) refl

-- ---- a client leaves all locks

-- the first locks of one list, and the others of another
mixed : ℕ → List LockView → List LockView → List LockView
mixed zero new old = old
mixed (suc n) [] old = old
mixed (suc n) (w ∷ new) [] = []
mixed (suc n) (w ∷ new) (v ∷ old) = w ∷ mixed n new old

mixed_many : (n : ℕ) (new old : List LockView) → length (mixed n new old) ≡ length old
unfolding mixed
mixed_many zero new old = refl
mixed_many (suc n) [] old = refl
mixed_many (suc n) (w ∷ new) [] = refl
mixed_many (suc n) (w ∷ new) (v ∷ old) = ap suc (mixed_many n new old)

mixed_first : (n : ℕ) (new old : List LockView) (j : ℕ) → length new ≡ length old → j < n → slice_get (mixed n new old) j ≡ slice_get new j
unfolding mixed
mixed_first zero new old j m l = absurd (omega (arith, l))
mixed_first (suc n) [] [] j m l = refl
mixed_first (suc n) [] (v ∷ old) j m l = absurd (omega (arith, m))
mixed_first (suc n) (w ∷ new) [] j m l = absurd (omega (arith, m))
mixed_first (suc n) (w ∷ new) (v ∷ old) zero m l = refl
mixed_first (suc n) (w ∷ new) (v ∷ old) (suc j) m l = mixed_first n new old j (omega (arith, m)) (omega (arith, l))

mixed_later : (n : ℕ) (new old : List LockView) (j : ℕ) → n ≤ j → slice_get (mixed n new old) j ≡ slice_get old j
unfolding mixed
mixed_later zero new old j l = refl
mixed_later (suc n) [] old j l = refl
mixed_later (suc n) (w ∷ new) [] j l = refl
mixed_later (suc n) (w ∷ new) (v ∷ old) zero l = absurd (omega (arith, l))
mixed_later (suc n) (w ∷ new) (v ∷ old) (suc j) l = mixed_later n new old j (omega (arith, l))

no_fault : IsNoFault Leave
no_fault i v e = cc

module _ (rings : List Standing) (old new : List LockView) (few : length rings < 2 ^ 32) (f : Followed rings old) (most : AreBounded new) (c : ℕ) (said : List Left) (d : IsLeft old new c said) where
  old_new : length new ≡ length old
  old_new = as_many old new (locks_after (locks_of old) (leaves c (length old))) d.locks (left_many (locks_of old) c (length old))

  -- the locks of which the client has left the first
  mixed_locks : (n : ℕ) → n ≤ length old → locks_of (mixed n new old) ≡ locks_after (locks_of old) (leaves c n)
  mixed_locks n l = same_lists (locks_of (mixed n new old)) (locks_after (locks_of old) (leaves c n)) (λ j. elim (cases_lt j n) [
    | inl lt ↦
        let v = there_is old j (omega (arith, lt, l)) in
        let at : slice_get (locks_of old) j ≡ Some (lock_of v.0) = lock_there old j v.0 v.1 in
        slice_get-map lock_of (mixed n new old) j
        ∙ (ap (λ (x : Option LockView). option_map lock_of x) (mixed_first n new old j old_new lt)
        ∙ (sym (slice_get-map lock_of new j)
        ∙ (ap (λ (x : List Lock). slice_get x j) d.locks ∙ (left_lock (locks_of old) c (length old) j (lock_of v.0) at (omega (arith, lt, l)) ∙ sym (left_lock (locks_of old) c n j (lock_of v.0) at lt)))))
    | inr le ↦
        slice_get-map lock_of (mixed n new old) j
        ∙ (ap (λ (x : Option LockView). option_map lock_of x) (mixed_later n new old j le) ∙ (sym (slice_get-map lock_of old j) ∙ sym (stays (locks_of old) c n j le)))
  ])

  mixed_followed : (n : ℕ) → n ≤ length old → (a : AreLeftSo rings old new c n) → Followed a.behind (mixed n new old)
  mixed_followed n l a =
      let size : length a.behind ≡ length rings = chain_many rings a.behind a.calls a.chain in
      let many = f.many in
      let same_many : length (mixed n new old) ≡ length old = mixed_many n new old in record {
        many = omega (arith, size, many, same_many);
        right = chain_right rings a.behind a.calls f.right a.chain;
        each = λ j x e. elim (cases_lt j n) [
          | inl lt ↦ a.gone j x lt (sym (mixed_first n new old j old_new lt) ∙ e)
          | inr le ↦ let g = f.each j x (sym (mixed_later n new old j le) ∙ e) in (g.0, a.rest j le ∙ g.1, g.2)
        ];
        locks = subst AreRight (sym (mixed_locks n l)) (right_stays (locks_of old) (leaves c n) f.locks);
      }

  cut_left_at : (n : ℕ) → n ≤ length old → (bytes lost : List ℕ) → bytes ++ lost ≡ flat_map (note_of_left new) (left_of c old n) → IsCutSo rings (locks_of old) (leaves c n) bytes
  cut_left_at zero l bytes lost e = cut_empty rings old [] bytes lost f e
  cut_left_at (suc n) l bytes lost e =
      let first : List ℕ = flat_map (note_of_left new) (left_of c old n) in
      let one : List ℕ = flat_map (note_of_left new) (left_at c n (slice_get old n)) in
      let both : bytes ++ lost ≡ first ++ one = e ∙ flat_map-append (note_of_left new) (left_of c old n) (left_at c n (slice_get old n)) in
      elim (cases_lt (length bytes) (length first)) [
        | inl lt ↦ cut_then rings (locks_of old) (leaves c n) (Asked c n Leave ∷ []) bytes (cut_left_at n (omega (arith, l)) bytes (drop (length bytes) first) (within_first bytes lost first one both (omega (arith, lt))))
        | inr le ↦
            let a = left_so rings old new few f most c said d n (omega (arith, l)) in
            let vs : List LockView = mixed n new old in
            let g : Followed a.behind vs = mixed_followed n (omega (arith, l)) a in
            let size : length a.behind ≡ length rings = chain_many rings a.behind a.calls a.chain in
            let rest : List ℕ = drop (length first) bytes in
            let v = there_is old n (omega (arith, l)) in
            let w = also_there old new n v.0 (sym old_new) v.1 in
            let at : slice_get vs n ≡ Some v.0 = mixed_later n new old n (omega arith) ∙ v.1 in
            let lock : lock_of w.0 ≡ (turn (locks_of vs) (lock_of v.0) c Leave).lock = some_is (lock_of w.0) (turn (locks_of old) (lock_of v.0) c Leave).lock
            (sym (lock_there new n w.0 w.1) ∙ (ap (λ (x : List Lock). slice_get x n) d.locks ∙ left_lock (locks_of old) c (length old) n (lock_of v.0) (lock_there old n v.0 v.1) (omega (arith, l)))) in
            let made : AreMade v.0.ring (turn (locks_of vs) (lock_of v.0) c Leave).marks w.0.ring = d.marks n v.0 w.0 v.1 w.1 in
            let note : one ≡ end_line n (ended_in v.0.ring (turn (locks_of vs) (lock_of v.0) c Leave).marks) ++ event_lines n (drop (length v.0.ring.ring.book.history) w.0.ring.ring.book.history) =
            ap (λ (x : Option LockView). flat_map (note_of_left new) (left_at c n x)) v.1 ∙ left_note c n v.0 w.0 new w.1 made in
            let noted : IsNotedSo rings vs first = record { calls = a.calls; behind = a.behind; chain = a.chain; followed = g; lines = a.lines } in
            cut_behind rings (locks_of old) vs (leaves c n) (Asked c n Leave ∷ []) first rest bytes noted (mixed_locks n (omega (arith, l)))
            (cut_turn a.behind vs (omega (arith, few, size)) g n v.0 c Leave at w.0 tt no_fault made lock (most n w.0 w.1) rest lost (after_head bytes lost first one both le ∙ note))
            (split bytes lost first one both le)
      ]

  pub cut_left : (bytes lost : List ℕ) → bytes ++ lost ≡ notes_of_left new said → IsCutSo rings (locks_of old) (leaves c (length old)) bytes
  cut_left bytes lost e = cut_left_at (length old) (omega arith) bytes lost (e ∙ ap (λ (x : List Left). notes_of_left new x) d.told)

-- ---- a line

-- the inputs of a line, and what was kept of them
pub record IsLineCut (names : Names) (rings : List Standing) (ls new : List Lock) (line said bytes : List ℕ) : Type 0 where
  pub taken : IsHeardSo names ls new line said
  pub cut : IsCutSo rings ls taken.inputs bytes

module _ (rings : List Standing) (old new : SegmentView) (few : length rings < 2 ^ 32) (f : Followed rings old.locks) (most : AreBounded new.locks) (line bytes lost : List ℕ) where
  line_quiet : (said noted : List ℕ) → IsNoAnswer old.names line said → new ≡ old → noted ≡ [] → bytes ++ lost ≡ noted → IsLineCut old.names rings (locks_of old.locks) (locks_of new.locks) line said bytes
  line_quiet said noted n same none e = record {
    taken = none_taken old new line said n same;
    cut = cut_empty rings old.locks [] bytes lost f (e ∙ none);
  }

  module _ (client : ℕ) (ask : asks.Ask) (read : IsReadAs line (input.Asked client ask)) (said : List ℕ) where
    line_done : (name : List ℕ) (i : ℕ) (a : Ask) (r : Answers) → one_ask ask ≡ Some (name, a) → lock_named old.names name ≡ Some i → said ≡ lines_about old.names i (answers_of client r) → IsSmallAsk a → IsNoFault a → IsDone old.locks new.locks client i a r →
        bytes ++ lost ≡ note_about i old.locks new.locks r.ended → IsLineCut old.names rings (locks_of old.locks) (locks_of new.locks) line said bytes
    line_done name i a r q there says small plain d e = record {
      taken = done old new line client ask read name i a r said q there says d;
      cut = cut_done rings old.locks new.locks few f most client i a r d small plain bytes lost e;
    }

    line_answer : (name : List ℕ) (i : ℕ) (a : Ask) (r : Answers) → one_ask ask ≡ Some (name, a) → lock_named old.names name ≡ Some i → said ≡ lines_about old.names i (answers_of client r) → IsSmallAsk a → IsNoFault a → IsAnswer old.locks new.locks client i a r →
        bytes ++ lost ≡ note_about i old.locks new.locks r.ended → IsLineCut old.names rings (locks_of old.locks) (locks_of new.locks) line said bytes
    line_answer name i a r q there says small plain (inl d) e = line_done name i a r q there says small plain d e
    line_answer name i a r q there says small plain (inr w) e = record {
      taken = lack_so old new line client ask read i a r said says w;
      cut = cut_empty rings old.locks [] bytes lost f (e ∙ lack_notes rings old.locks new.locks few f most client i a r w);
    }

    -- no lock has the name
    line_unknown : (name : List ℕ) (a : Ask) (strict : Bool) (noted : List ℕ) → one_ask ask ≡ Some (name, a) → lock_named old.names name ≡ None → bytes ++ lost ≡ noted → IsToldOfNamed None strict true client name a old said noted new → IsLineCut old.names rings (locks_of old.locks) (locks_of new.locks) line said bytes
    line_unknown name a strict noted q none e t = line_quiet said noted (unknown_so old new line client ask read name a said q none t.says) t.leaves t.notes e

    may_want : (name : List ℕ) (o : Option ℕ) (a : Ask) (strict : Bool) (noted : List ℕ) → ((i : ℕ) (r : Answers) → IsAnswerTo old.locks new.locks client i a r → IsAnswer old.locks new.locks client i a r) → one_ask ask ≡ Some (name, a) → lock_named old.names name ≡ o → IsSmallAsk a → IsNoFault a →
        bytes ++ lost ≡ noted → IsToldOfNamed o strict true client name a old said noted new → IsLineCut old.names rings (locks_of old.locks) (locks_of new.locks) line said bytes
    may_want name None a strict noted is_so q there small plain e t = line_unknown name a strict noted q there e t
    may_want name (Some i) a strict noted is_so q there small plain e t = line_answer name i a t.answers q there t.says small plain (is_so i t.answers t.done) (e ∙ t.notes)

    line_of : (strict : Bool) (a : asks.Ask) (noted : List ℕ) → ask ≡ a → heard a ≡ Some a → is_off false a ≡ false → bytes ++ lost ≡ noted → IsTold strict true client (one_ask a) old said noted new → IsLineCut old.names rings (locks_of old.locks) (locks_of new.locks) line said bytes
    line_of strict (asks.acquire name order) noted q h plain e t =
        may_want name (lock_named old.names name) (Acquire order) strict noted (λ i r d. d) (ap one_ask q) refl (order_small (asks.acquire name) order (asks.acquire name order) h) (λ i v p. cc) e t
    line_of strict (asks.try name order) noted q h plain e t =
        may_want name (lock_named old.names name) (Try order) strict noted (λ i r d. d) (ap one_ask q) refl (order_small (asks.try name) order (asks.try name order) h) (λ i v p. cc) e t
    line_of strict (asks.release name token) noted q h plain e t = may_want name (lock_named old.names name) (Release token) strict noted (λ i r d. inl d) (ap one_ask q) refl tt (λ i v p. cc) e t
    line_of strict (asks.cancel name) noted q h plain e t = may_want name (lock_named old.names name) Cancel strict noted (λ i r d. inl d) (ap one_ask q) refl tt (λ i v p. cc) e t
    line_of strict asks.leave noted q h plain e t = record {
      taken = left_heard old new line client ask read said noted true (ap one_ask q) t;
      cut = cut_left rings old.locks new.locks few f most client t.left t.done bytes lost (e ∙ t.notes);
    }
    line_of strict (asks.corrupt name machine value) noted q h plain e t = absurd (let wrong : true ≡ false = plain in cc)
    line_of strict (asks.stats name) noted q h plain e t = may_want name (lock_named old.names name) Stats strict noted (λ i r d. inl d) (ap one_ask q) refl tt (λ i v p. cc) e t

    line_if : (off : Bool) (terms : Terms) (noted : List ℕ) → terms.noting ≡ true → terms.faults ≡ false → is_off terms.faults ask ≡ off → bytes ++ lost ≡ noted → IsAnsweredIf off terms client ask old said noted new → IsLineCut old.names rings (locks_of old.locks) (locks_of new.locks) line said bytes
    line_if true terms noted noting faults o e t = line_quiet said noted (inr (inl (client, denial.Off, t.says))) t.leaves t.notes e
    line_if false terms noted noting faults o e t =
        line_of terms.strict ask noted refl read.2 (subst (λ (b : Bool). is_off b ask ≡ false) faults o) e (subst (λ (b : Bool). IsTold terms.strict b client (one_ask ask) old said noted new) noting t)

  line_input : (terms : Terms) (i : LineInput) (said noted : List ℕ) → terms.noting ≡ true → terms.faults ≡ false → IsReadAs line i → bytes ++ lost ≡ noted → IsInputAnswered terms i old said noted new → IsLineCut old.names rings (locks_of old.locks) (locks_of new.locks) line said bytes
  line_input terms (input.Asked client ask) said noted noting faults r e t = line_if client ask r said (is_off terms.faults ask) terms noted noting faults refl e t
  line_input terms (input.Refused client why) said noted noting faults r e t = line_quiet said noted (inr (inl (client, denial_of why, t.says))) t.leaves t.notes e
  line_input terms input.Nobody said noted noting faults r e t = line_quiet said noted (inl (r, t.says)) t.leaves t.notes e

-- ---- lines

pub record AreCutSo (names : Names) (rings : List Standing) (ls new : List Lock) (lines : List (List ℕ)) (said bytes : List ℕ) : Type 0 where
  pub taken : AreHeardSo names ls new lines said
  pub cut : IsCutSo rings ls taken.inputs bytes

abbrev joined : (names : Names) (ls mid new : List Lock) (line : List ℕ) (lines : List (List ℕ)) (said first later : List ℕ) → said ≡ first ++ later → IsHeardSo names ls mid line first → AreHeardSo names mid new lines later → AreHeardSo names ls new (line ∷ lines) said
joined names ls mid new line lines said first later e h more = record {
  inputs = h.inputs ++ more.inputs;
  heard = (first, later, h.inputs, more.inputs, h.heard, e, refl, subst (λ (x : List Lock). AreHeard names x lines later more.inputs) h.locks more.heard);
  locks = more.locks ∙ (ap (λ (x : List Lock). locks_after x more.inputs) h.locks ∙ sym (locks_append ls h.inputs more.inputs));
}

pub cut_lines : (terms : Terms) (rings : List Standing) (old new : SegmentView) (lines : List (List ℕ)) (said noted : List ℕ) → length rings < 2 ^ 32 → Followed rings old.locks → terms.noting ≡ true → terms.faults ≡ false → Answered (IsLineAnswered terms) old lines said noted new → AreBounded new.locks →
    (bytes lost : List ℕ) → bytes ++ lost ≡ noted → AreCutSo old.names rings (locks_of old.locks) (locks_of new.locks) lines said bytes
cut_lines terms rings old new [] said noted few f noting faults a most bytes lost e = record {
  taken = record { inputs = []; heard = (a.0, refl); locks = ap (λ (s : SegmentView). locks_of s.locks) a.2 };
  cut = cut_empty rings old.locks [] bytes lost f (e ∙ a.1);
}
cut_lines terms rings old new (line ∷ lines) said noted few f noting faults a most bytes lost e =
    let mid : SegmentView = a.0 in
    let named : mid.names ≡ old.names = names_stay terms old mid line a.1 a.3 a.5 in
    let within : AreBounded mid.locks = bounded_all terms mid new lines a.2 a.4 a.8 most in
    let both : bytes ++ lost ≡ a.3 ++ a.4 = e ∙ a.7 in
    elim (cases_lt (length bytes) (length a.3)) [
      | inl lt ↦
          let one = line_input rings old mid few f within line bytes (drop (length bytes) a.3) terms a.5.0 a.1 a.3 noting faults a.5.1 (within_first bytes lost a.3 a.4 both (omega (arith, lt))) a.5.2 in
          let more : AreHeardSo old.names (locks_of mid.locks) (locks_of new.locks) lines a.2 = subst (λ (x : Names). AreHeardSo x (locks_of mid.locks) (locks_of new.locks) lines a.2) named (heard_lines terms mid new lines a.2 a.4 a.8) in record {
            taken = joined old.names (locks_of old.locks) (locks_of mid.locks) (locks_of new.locks) line lines said a.1 a.2 a.6 one.taken more;
            cut = cut_then rings (locks_of old.locks) one.taken.inputs more.inputs bytes one.cut;
          }
      | inr le ↦
          let rest : List ℕ = drop (length a.3) bytes in
          let n = (noted_line rings old mid few f within terms line a.1 a.3 noting a.5).noted in
          let h = heard_line old mid line terms a.1 a.3 a.5 in
          let size : length n.behind ≡ length rings = chain_many rings n.behind n.calls n.chain in
          let more : AreCutSo old.names n.behind (locks_of mid.locks) (locks_of new.locks) lines a.2 rest =
          subst (λ (x : Names). AreCutSo x n.behind (locks_of mid.locks) (locks_of new.locks) lines a.2 rest) named (cut_lines terms n.behind mid new lines a.2 a.4 (omega (arith, few, size)) n.followed noting faults a.8 most rest lost (after_head bytes lost a.3 a.4 both le)) in record {
            taken = joined old.names (locks_of old.locks) (locks_of mid.locks) (locks_of new.locks) line lines said a.1 a.2 a.6 h more.taken;
            cut = cut_behind rings (locks_of old.locks) mid.locks h.inputs more.taken.inputs a.3 rest bytes n h.locks more.cut (split bytes lost a.3 a.4 both le);
          }
    ]
