-- A ring that is asked by a name does what a lock does that is asked by the ring's number.
use Rattle.std.proofs.Common.{◌≡◌, ℕ, zero, suc, ◌^◌, ◌<◌, ◌≤◌, Bool, true, false, cond, List, [], ◌∷◌, ◌++◌, length, map, Option, Some, None, ◌⊎◌, inl, inr, refl, sym, ap, subst, ◌∙◌, append-nil, arith}
use Rattle.std.specs.Prelude.{slice_get, slice_set, option_map, ◌&&◌, ◌==◌, if◌then◌else◌}
use Rattle.std.specs.Fmt.{decimal}
use Rattle.std.proofs.lemmas.Bool.{cases_Bool}
use Rattle.std.proofs.lemmas.List.{length-map}
use Rattle.std.proofs.lemmas.Option.{slice_get_within}
use Rattle.segment_files.specs.Remarks.{without_remarks}
use Rattle.segment_files.specs.RemarkLaws.{AreLines}
use Rattle.held_locks.specs.declared.answers.Holder.{Holder}
use Rattle.held_locks.specs.declared.answers.HoldEnd.{HoldEnd}
use Rattle.held_locks.specs.declared.answers.Answer.{Answer}
use Rattle.held_locks.specs.declared.answers.Answer.TheVariants as answer
use Rattle.held_locks.specs.declared.answers.Answers.{Answers}
use Rattle.held_locks.specs.declared.answers.Refusal.TheVariants as refusal
use Rattle.held_locks.specs.Queues.{Lock, is_held_with}
use Rattle.held_locks.specs.Locks.{Ask, Acquire, Try, Release, Cancel, Leave, Corrupt, Stats, Asked, Turn, Step, told, ended, turn, step, step_at}
use Rattle.held_locks.specs.Kept.{LockView, lock_of, locks_of, lock_limit, answers_of, AreMade, ended_at, IsDone}
use Rattle.held_locks.specs.Asked.{IsAnswerTo, events_at}
use Rattle.held_locks.proofs.Asking.{asked_long}
use Rattle.lock_protocol.specs.Asks as lines
use Rattle.lock_protocol.specs.Names.{Names, IsName}
use Rattle.lock_protocol.specs.Inputs.{input_line, IsReadAs}
use Rattle.lock_protocol.specs.Views as input
use Rattle.lock_journal.specs.Asking.{one_ask, is_off, is_lack}
use Rattle.lock_journal.specs.Counting.{IsCounted, count_about}
use Rattle.lock_journal.specs.Noting.{events_from, lines_about, note_about}
use Rattle.lock_journal.specs.Answering.{IsToldOf, IsToldOfNamed, IsTold, IsAnsweredIf}
use Rattle.lock_journal.proofs.Answering.{tellings_of, lines_are}
use Rattle.lock_journal.proofs.Lacks.{done_not}
use Rattle.lock_journal.proofs.LockLines.{all_past}
use Rattle.lock_names.specs.declared.replies.Reply.{Reply}
use Rattle.lock_names.specs.declared.replies.Reply.TheVariants as reply
use Rattle.lock_names.specs.declared.replies.NameAnswers.{NameAnswers}
use Rattle.lock_names.specs.Names.{Bound, Named, Of, Said, NamedStep, number_in, of_ring, as_told, said_of, found, free, fresh, total, at_none, at_name, given, replied, step_named}
use Rattle.lock_names.specs.Promises.{IsNamed}
use Rattle.lock_names.specs.Kept.{NamedView, named_of, for_hold, own_number, with_number, own_said, grant_said, said_in, at_free, reached_from, reached, IsRecorded, noted_at, noted, IsTaken, IsWanting}
use Rattle.lock_names.proofs.Found.{some_same, none_some, found_at}
use Rattle.lock_names.proofs.Asking.{lock_view}
use Rattle.lock_names.proofs.Taking.{Reaches, reaches_found, reaches_free}
use Rattle.lock_names.proofs.Twins.{same_token}
use Rattle.name_service.specs.declared.service.NameTerms.{NameTerms}
use Rattle.name_service.specs.Naming.{NamingView, is_wanting}
use Rattle.name_service.specs.Noting.{reply_line, lines_of_said, note_of_new, note_of_free, note_at}
use Rattle.name_service.specs.Serving.{reply_told, IsNameToldOf}
use Rattle.name_service.specs.RightNames.{AreRightNames}
use Rattle.name_service.specs.RingLines.{numbers_from, ring_segment, ring_ask, number_for, holder_at, line_at, line_for, ring_line, IsBoundIn, AreToldByName, IsOfRing, IsOfNobody, ReportsNothing, IsOfNoRing}
use Rattle.name_service.proofs.Digits.{ring_found}
use Rattle.name_service.proofs.PlainNotes.{IsLeft, left_if, asked_left}
use Rattle.name_service.proofs.RingReads.{reads_ring, asks_ring, off_ring, number_small}

-- ---- the release of a hold

held_same : (c token : ℕ) (b : Bound) (o : Option Holder) → ((h : Holder) → o ≡ Some h → b.before < h.token) → is_held_with c (number_in b token) o ≡ is_held_with c (own_number b token o) o
held_same c token b None began = refl
held_same c token b (Some h) began =
    let lt : b.before < h.token = began h refl in
    ap (λ (q : Bool). (h.client == c) && q) (same_token b token h.token h.token lt (omega arith))

release_turn : (ls : List Lock) (l : Lock) (c n m : ℕ) → is_held_with c n l.holder ≡ is_held_with c m l.holder → turn ls l c (Release n) ≡ turn ls l c (Release m)
release_turn ls l c n m e = ap (λ (q : Bool). if q then ended l.ring l.queue 1 ((c, answer.Released) ∷ []) else told l c (answer.Refused refusal.Holder)) e

release_step : (ls : List Lock) (c i n m : ℕ) (l : Lock) → slice_get ls i ≡ Some l → is_held_with c n l.holder ≡ is_held_with c m l.holder → step ls (Asked c i (Release n)) ≡ step ls (Asked c i (Release m))
release_step ls c i n m l at e =
    ap (λ (o : Option Lock). step_at ls c i (Release n) o) at
    ∙ ap (λ (t : Turn). record { locks = slice_set ls i t.lock; marks = t.marks; answers = t.answers }) (release_turn ls l c n m e)
    ∙ sym (ap (λ (o : Option Lock). step_at ls c i (Release m) o) at)

done_as : (vs ws : List LockView) (c i : ℕ) (a d : Ask) (r : Answers) → step (locks_of vs) (Asked c i a) ≡ step (locks_of vs) (Asked c i d) → IsDone vs ws c i a r → IsDone vs ws c i d r
done_as vs ws c i a d r e k = record {
  locks = k.locks ∙ ap (λ (s : Step). s.locks) e;
  answers = k.answers ∙ ap (λ (s : Step). s.answers) e;
  ended = k.ended ∙ ap (λ (s : Step). ended_at (slice_get vs i) s.marks) e;
  marks = λ v w f g. subst (λ (s : Step). AreMade v.ring s.marks w.ring) e (k.marks v w f g);
  others = k.others;
}

-- what is done with the name's token is done with the ring's own number
module _ (vs ws : List LockView) (c i : ℕ) (b : Bound) (r : Answers) (l : Lock) (at : slice_get (locks_of vs) i ≡ Some l) (began : (h : Holder) → l.holder ≡ Some h → b.before < h.token) where
  pub renumbered : (a : Ask) → IsDone vs ws c i (of_ring b a) r → IsAnswerTo vs ws c i (with_number b a l.holder) r
  renumbered (Acquire label) d = inl d
  renumbered (Try label) d = inl d
  renumbered (Release token) d = done_as vs ws c i (Release (number_in b token)) (Release (own_number b token l.holder)) r (release_step (locks_of vs) c i (number_in b token) (own_number b token l.holder) l at (held_same c token b l.holder began)) d
  renumbered Cancel d = d
  renumbered Leave d = d
  renumbered (Corrupt machine value) d = inl d
  renumbered Stats d = d

-- ---- which ring is reached

module _ (s : Named) (x : List ℕ) (a : Ask) (n : IsNamed s) where
  by_free : (p : ℕ × Bound) (q : Bool) (o : Option ℕ) → found x s.names ≡ None → for_hold a ≡ q → free s.names ≡ o → at_free s x q o ≡ Some p → Reaches s x a p.0 p.1
  by_free p true (Some i) none h f e =
      subst (λ (z : ℕ × Bound). Reaches s x a z.0 z.1) (some_same (i, fresh s x i) p e) (reaches_free s x a i n none h f)
  by_free p true None none h f e = absurd (none_some p e)
  by_free p false o none h f e = absurd (none_some p e)

  by_found : (p : ℕ × Bound) (o : Option (ℕ × Bound)) → found x s.names ≡ o → reached_from s x a o ≡ Some p → Reaches s x a p.0 p.1
  by_found p (Some r) f e = subst (λ (z : ℕ × Bound). Reaches s x a z.0 z.1) (some_same r p e) (reaches_found s x a r.0 r.1 n f)
  by_found p None f e = by_free p (for_hold a) (free s.names) f refl refl e

  pub reaching : (p : ℕ × Bound) → reached s x a ≡ Some p → Reaches s x a p.0 p.1
  reaching p e = by_found p (found x s.names) refl e

-- no ring is reached, so nothing changes
pub record IsNothing (s : Named) (c : ℕ) (x : List ℕ) (t : NamedStep) : Type 0 where
  pub same : t.named ≡ s
  pub said : (t.said ≡ []) ⊎ ((r : Reply) × IsOfNobody r × (t.said ≡ record { client = c; name = x; reply = r } ∷ []))

module _ (s : Named) (c : ℕ) (x : List ℕ) where
  replies : (r : Reply) → IsOfNobody r → IsNothing s c x (replied s c x r)
  replies r is = record { same = refl; said = inr (r, is, refl) }

  given_none : (a : Ask) (o : Option ℕ) → at_free s x true o ≡ None → IsNothing s c x (given s c x a o)
  given_none a None e = replies reply.Names tt
  given_none a (Some i) e = absurd (none_some (i, fresh s x i) (sym e))

  none_given : (a : Ask) → at_free s x (for_hold a) (free s.names) ≡ None → IsNothing s c x (at_none s c x a)
  none_given (Acquire label) e = given_none (Acquire label) (free s.names) e
  none_given (Try label) e = given_none (Try label) (free s.names) e
  none_given (Release token) e = replies (reply.Lock (answer.Refused refusal.Holder)) tt
  none_given Cancel e = replies (reply.Lock (answer.Refused refusal.Waiter)) tt
  none_given Leave e = record { same = refl; said = inl refl }
  none_given (Corrupt i v) e = replies (reply.Lock (answer.Refused refusal.Lock)) tt
  none_given Stats e = replies (reply.Lock (answer.Stats (record { machines = 0; waiters = 0; passes = 0; holder = None }))) refl

  none_found : (a : Ask) (o : Option (ℕ × Bound)) → reached_from s x a o ≡ None → IsNothing s c x (at_name s c x a o)
  none_found a None e = none_given a e
  none_found a (Some p) e = absurd (none_some p (sym e))

  pub reaching_none : (a : Ask) → reached s x a ≡ None → IsNothing s c x (step_named s (Of c x a))
  reaching_none a e = none_found a (found x s.names) e

-- ---- what is said where no ring answers

abbrev first_reply : Reply → List Said → Reply
first_reply r [] = r
first_reply r (d ∷ ds) = d.reply

abbrev said_by : ℕ → List ℕ → Reply → Said
said_by c x r = record { client = c; name = x; reply = r }

none_said : (c : ℕ) (x : List ℕ) (own : Option Reply) (g : Option Holder) → own_said c x own ++ grant_said x g ≡ [] → (own ≡ None) × (g ≡ None)
none_said c x None None e = (refl, refl)
none_said c x None (Some h) e = let n : ◌≡◌ {A = ℕ} 1 0 = ap (λ (ds : List Said). length ds) e in absurd (omega (arith, n))
none_said c x (Some r) None e = let n : ◌≡◌ {A = ℕ} 1 0 = ap (λ (ds : List Said). length ds) e in absurd (omega (arith, n))
none_said c x (Some r) (Some h) e = let n : ◌≡◌ {A = ℕ} 2 0 = ap (λ (ds : List Said). length ds) e in absurd (omega (arith, n))

one_said : (c : ℕ) (x : List ℕ) (own : Option Reply) (g : Option Holder) (r : Reply) → IsOfNobody r → own_said c x own ++ grant_said x g ≡ said_by c x r ∷ [] → (own ≡ Some r) × (g ≡ None)
one_said c x None None r is e = let n : ◌≡◌ {A = ℕ} 0 1 = ap (λ (ds : List Said). length ds) e in absurd (omega (arith, n))
one_said c x None (Some h) r is e = absurd (subst (λ (z : Reply). IsOfNobody z) (sym (ap (λ (ds : List Said). first_reply r ds) e)) is)
one_said c x (Some q) None r is e = (ap (λ (ds : List Said). Some (first_reply r ds)) e, refl)
one_said c x (Some q) (Some h) r is e = let n : ◌≡◌ {A = ℕ} 2 1 = ap (λ (ds : List Said). length ds) e in absurd (omega (arith, n))

nobody_told : (w : Bool) (r : Reply) → IsOfNobody r → IsOfNobody (reply_told w r)
nobody_told true reply.Names is = tt
nobody_told true (reply.Lock a) is = is
nobody_told false r is = is

-- the reply that nobody is granted by
abbrev IsNobodys : Option Reply → Type 0
IsNobodys own = (own ≡ None) ⊎ ((r : Reply) × IsOfNobody r × (own ≡ Some r))

abbrev told_text : Bool → ℕ → List ℕ → Option Reply → Option Holder → List ℕ
told_text w c x own g = lines_of_said (own_said c x (option_map (reply_told w) own) ++ grant_said x g)

tells_nothing : (w : Bool) (c : ℕ) (x : List ℕ) (own : Option Reply) (g : Option Holder) → IsNobodys own → g ≡ None → ReportsNothing (told_text w c x own g)
tells_nothing w c x own g (inl e) f = inl (ap (λ (o : Option Reply). told_text w c x o g) e ∙ ap (λ (h : Option Holder). told_text w c x None h) f)
tells_nothing w c x own g (inr (r, is, e)) f = inr (inr (
  c,
  x,
  reply_told w r,
  nobody_told w r is,
  ap (λ (o : Option Reply). told_text w c x o g) e ∙ (ap (λ (h : Option Holder). told_text w c x (Some r) h) f ∙ append-nil (reply_line c x (reply_told w r))),
))

either_none : (q : Bool) (note : List ℕ) → note ≡ [] → cond q note [] ≡ []
either_none true note e = e
either_none false note e = refl

-- ---- what an answer about a name is to the rings

-- what a line about a name is to the rings; and its notes are whole lines
pub record IsOne (terms : NameTerms) (old : NamingView) (line said noted : List ℕ) (new : NamingView) : Type 0 where
  pub lines : AreLines noted
  pub is : IsOfNoRing old.named said noted new.named ⊎ ((ring : List ℕ) × (told : List ℕ) × IsOfRing terms old.named line said noted new.named ring told)

pub of_none : (terms : NameTerms) (old new : NamingView) (line said noted : List ℕ) → IsOfNoRing old.named said noted new.named → IsOne terms old line said noted new
of_none terms old new line said noted n = record { lines = inl n.notes; is = inl n }

same_view : (old new : NamedView) → new.locks ≡ old.locks → new.names ≡ old.names → new.fixed ≡ old.fixed → new.top ≡ old.top → new ≡ old
same_view old new a b c d =
    ap (λ (x : List LockView). record { locks = x; names = new.names; fixed = new.fixed; top = new.top }) a
    ∙ ap (λ (x : List (Option Bound)). record { locks = old.locks; names = x; fixed = new.fixed; top = new.top }) b
    ∙ ap (λ (x : ℕ). record { locks = old.locks; names = old.names; fixed = x; top = new.top }) c
    ∙ ap (λ (x : ℕ). record { locks = old.locks; names = old.names; fixed = old.fixed; top = x }) d

-- nothing was asked
pub nothing_taken : (old new : NamedView) (c : ℕ) (x : List ℕ) (a : Ask) (r : NameAnswers) → r.ring ≡ None → reached (named_of old) x a ≡ None → IsTaken old new c x a r → new ≡ old
nothing_taken old new c x a r ring e t =
    let none = reaching_none (named_of old) c x a e in
    let named : named_of new ≡ named_of old = t.named ∙ none.same in
    let recorded : IsRecorded old.locks new.locks c a r None = subst (λ (o : Option (ℕ × Bound)). IsRecorded old.locks new.locks c a r o) e t.recorded in
    same_view old new recorded.0 (t.names ∙ ap (λ (o : Option ℕ). noted_at (named_of old) x o r.fresh r.freed) ring)
    (ap (λ (s : Named). s.fixed) named) (ap (λ (s : Named). s.top) named)

nobody_taken : (old new : NamedView) (c : ℕ) (x : List ℕ) (a : Ask) (r : NameAnswers) → reached (named_of old) x a ≡ None → IsTaken old new c x a r → IsNobodys r.own × (r.granted ≡ None)
nobody_taken old new c x a r e t = go (reaching_none (named_of old) c x a e).said
  where
    go : ((step_named (named_of old) (Of c x a)).said ≡ []) ⊎ ((q : Reply) × IsOfNobody q × ((step_named (named_of old) (Of c x a)).said ≡ said_by c x q ∷ [])) → IsNobodys r.own × (r.granted ≡ None)
    go (inl f) = let n = none_said c x r.own r.granted (t.said ∙ f) in (inl n.0, n.1)
    go (inr (q, is, f)) = let n = one_said c x r.own r.granted q is (t.said ∙ f) in (inr (q, is, n.0), n.1)

-- no room, or no memory
no_events : (ring : ℕ) (o : Option LockView) → events_from ring (events_at o) o ≡ []
no_events ring None = refl
no_events ring (Some v) = all_past ring v.ring.ring.book.history (length v.ring.ring.book.history) refl

wanting_note : (o : Option ℕ) (old new : NamedView) (x : List ℕ) (a : Ask) (r : NameAnswers) → IsWanting old new x a r → note_at o old new x r ≡ []
wanting_note None old new x a r w = refl
wanting_note (Some ring) old new x a r w =
    ap (λ (q : Bool). note_of_new (named_of old) x ring q ++ (note_about ring old.locks new.locks r.ended ++ note_of_free ring r.freed)) w.none.2
    ∙ ap (λ (e : Option HoldEnd). note_about ring old.locks new.locks e ++ note_of_free ring r.freed) w.none.0
    ∙ ap (λ (v : NamedView). note_about ring old.locks v.locks None ++ note_of_free ring r.freed) w.same
    ∙ ap (λ (q : Bool). note_about ring old.locks old.locks None ++ note_of_free ring q) w.stays
    ∙ append-nil (note_about ring old.locks old.locks None)
    ∙ no_events ring (slice_get old.locks ring)

nobody_wanting : (old new : NamedView) (x : List ℕ) (a : Ask) (r : NameAnswers) → IsWanting old new x a r → IsNobodys r.own
nobody_wanting old new x a r w = elim w.why [
  | inl p ↦ inr (reply.Lock (answer.Refused refusal.Full), tt, p.0)
  | inr p ↦ inr (reply.Lock (answer.Refused refusal.Memory), tt, p)
]

module _ (terms : NameTerms) (c : ℕ) (x : List ℕ) (a : Ask) (old new : NamingView) (said noted : List ℕ) (t : IsNameToldOf terms c x a old said noted new) where
  nothing_is : new.named ≡ old.named → IsNobodys t.answers.own → t.answers.granted ≡ None → note_at t.answers.ring old.named new.named x t.answers ≡ [] → IsOfNoRing old.named said noted new.named
  nothing_is same own granted note = record {
    same = same;
    notes = t.notes ∙ either_none terms.lines.noting (note_at t.answers.ring old.named new.named x t.answers) note;
    nothing = subst (λ (u : List ℕ). ReportsNothing u) (sym t.says) (tells_nothing (is_wanting terms.most old.named) c x t.answers.own t.answers.granted own granted);
  }

  pub wanting_is : IsWanting old.named new.named x a t.answers → IsOfNoRing old.named said noted new.named
  wanting_is w = nothing_is w.same (nobody_wanting old.named new.named x a t.answers w) w.none.1 (wanting_note t.answers.ring old.named new.named x a t.answers w)

  pub none_is : reached (named_of old.named) x a ≡ None → IsTaken old.named new.named c x a t.answers → IsOfNoRing old.named said noted new.named
  none_is e k =
      let ring : t.answers.ring ≡ None = t.done.ring ∙ ap (λ (o : Option (ℕ × Bound)). option_map (λ (p : ℕ × Bound). p.0) o) e in
      let n = nobody_taken old.named new.named c x a t.answers e k in
      nothing_is (nothing_taken old.named new.named c x a t.answers ring e k) n.0 n.1 (ap (λ (o : Option ℕ). note_at o old.named new.named x t.answers) ring)

-- ---- a ring answers

-- a reply of a ring is said as it is
lock_told : (w : Bool) (c : ℕ) (x : List ℕ) (own : Option Reply) (g : Option Holder) (b : Bound) (list : List (ℕ × Answer)) → own_said c x own ++ grant_said x g ≡ map (said_of b) list → option_map (reply_told w) own ≡ own
lock_told w c x None g b list e = refl
lock_told true c x (Some (reply.Lock a)) g b list e = refl
lock_told false c x (Some (reply.Lock a)) g b list e = refl
lock_told w c x (Some reply.Names) g b [] e = let n : ◌≡◌ {A = ℕ} (suc (length (grant_said x g))) 0 = ap (λ (ds : List Said). length ds) e in absurd (omega (arith, n))
lock_told w c x (Some reply.Names) g b (a ∷ list) e = absurd (is_lock (as_told b a.1) (ap (λ (ds : List Said). first_reply reply.Names ds) e))
  where
    is_lock : (a : Answer) → reply.Names ≡ reply.Lock a → ⊥
    is_lock a e = cc

told_list : (old : NamedView) (ring : ℕ) (b : Bound) → IsBoundIn old ring b → (list : List (ℕ × Answer)) → AreToldByName old (tellings_of ring list) (lines_of_said (map (said_of b) list))
told_list old ring b bound [] = refl
told_list old ring b bound (a ∷ list) = (b, lines_of_said (map (said_of b) list), bound, refl, told_list old ring b bound list)

bound_in : (v : NamedView) (x : List ℕ) (a : Ask) (i : ℕ) (b : Bound) → Reaches (named_of v) x a i b → IsBoundIn v i b
bound_in v x a i b r = elim r.which [
  | inl f ↦ inl (found_at x v.names (i, b) f).entry
  | inr f ↦ inr (f.1, f.2 ∙ ap (λ (z : List ℕ). fresh (named_of v) z i) (sym r.name))
]

pub grants_among : (ls : List Lock) (i : ℕ) (l : Lock) → slice_get ls i ≡ Some l → l.ring.grants ≤ total ls
grants_among [] i l e = absurd (none_some l e)
grants_among (m ∷ ls) zero l e = let same : m.ring.grants ≡ l.ring.grants = ap (λ (k : Lock). k.ring.grants) (some_same m l e) in omega arith
grants_among (m ∷ ls) (suc i) l e = let rest : l.ring.grants ≤ total ls = grants_among ls i l e in omega arith

pub due_counted : (old new : NamedView) (n : ℕ) → length new.locks ≡ length old.locks → IsCounted (ring_segment old) (ring_segment new) n
due_counted old new n many = record {
  names = ap (λ (k : ℕ). numbers_from 0 k) many;
  remaining = omega arith;
  short = refl;
}

pub no_lack : (old new : List LockView) (c i : ℕ) (a : Ask) (raw : Answers) (strict : Bool) → IsDone old new c i a raw → (strict && is_lack raw.own) ≡ false
no_lack old new c i a raw strict d = elim (cases_Bool (is_lack raw.own)) [
  | inl e ↦ absurd (done_not old new c i a raw d e)
  | inr e ↦ ap (λ (q : Bool). strict && q) e ∙ and_false strict
]
  where
    and_false : (q : Bool) → (q && false) ≡ false
    and_false true = refl
    and_false false = refl

module _ (terms : NameTerms) (c : ℕ) (x : List ℕ) (a : Ask) (old new : NamingView) (said noted : List ℕ) (t : IsNameToldOf terms c x a old said noted new) (named : IsName x) (right : AreRightNames old.named) (bits : old.named.top < 2 ^ 64)
    (p : ℕ × Bound) (e : reached (named_of old.named) x a ≡ Some p) (k : IsTaken old.named new.named c x a t.answers) where
  abbrev i : ℕ
  i = p.0

  abbrev b : Bound
  b = p.1

  reaches : Reaches (named_of old.named) x a i b
  reaches = reaching (named_of old.named) x a right.named p e

  abbrev lock : Lock
  lock = reaches.fits.lock

  recorded : (raw : Answers) × IsDone old.named.locks new.named.locks c i (of_ring b a) raw × (t.answers.ended ≡ raw.ended)
  recorded = subst (λ (o : Option (ℕ × Bound)). IsRecorded old.named.locks new.named.locks c a t.answers o) e k.recorded

  abbrev raw : Answers
  raw = recorded.0

  done : IsAnswerTo old.named.locks new.named.locks c i (with_number b a lock.holder) raw
  done = renumbered old.named.locks new.named.locks c i b raw lock reaches.fits.there (λ h f. (reaches.fits.right.held h f).0) a recorded.1

  many : length new.named.locks ≡ length old.named.locks
  many = asked_long old.named.locks new.named.locks c i (with_number b a lock.holder) raw done

  list : said_in c x t.answers ≡ map (said_of b) (answers_of c raw)
  list = k.said ∙ (ap (λ (s : NamedStep). s.said) (reaches.step c) ∙ sym (ap (λ (z : List (ℕ × Answer)). map (said_of b) z) recorded.1.answers))

  text : said ≡ lines_of_said (map (said_of b) (answers_of c raw))
  text =
      let w : Bool = is_wanting terms.most old.named in
      t.says
      ∙ (ap (λ (o : Option Reply). lines_of_said (own_said c x o ++ grant_said x t.answers.granted)) (lock_told w c x t.answers.own t.answers.granted b (answers_of c raw) list)
      ∙ ap (λ (ds : List Said). lines_of_said ds) list)

  ring : t.answers.ring ≡ Some i
  ring = t.done.ring ∙ ap (λ (o : Option (ℕ × Bound)). option_map (λ (q : ℕ × Bound). q.0) o) e

  plain : IsLeft noted (cond terms.lines.noting (note_about i old.named.locks new.named.locks raw.ended) [])
  plain =
      let noting : Bool = terms.lines.noting in
      let note : noted ≡ cond noting (note_at (Some i) old.named new.named x t.answers) [] = t.notes ∙ ap (λ (o : Option ℕ). cond noting (note_at o old.named new.named x t.answers) []) ring in
      let left = left_if noting (note_at (Some i) old.named new.named x t.answers) (note_about i old.named.locks new.named.locks t.answers.ended) (asked_left i old.named new.named x t.answers named) in
      subst (λ (u : List ℕ). IsLeft u (cond noting (note_about i old.named.locks new.named.locks raw.ended) [])) (sym note)
      (subst (λ (z : Option HoldEnd). IsLeft (cond noting (note_at (Some i) old.named new.named x t.answers) []) (cond noting (note_about i old.named.locks new.named.locks z) [])) recorded.2 left)

  abbrev numbers : Names
  numbers = numbers_from 0 (length old.named.locks)

  told_of_ring : IsToldOf terms.lines.strict terms.lines.noting c i (with_number b a lock.holder) (ring_segment old.named) (lines_about numbers i (answers_of c raw)) (without_remarks noted) (ring_segment new.named)
  told_of_ring = record {
    answers = raw;
    done = done;
    given = no_lack old.named.locks new.named.locks c i (of_ring b a) raw terms.lines.strict recorded.1;
    says = refl;
    notes = plain.left;
    counted = due_counted old.named new.named (count_about i old.named.locks new.named.locks raw.ended) many;
  }

  within : i < length old.named.locks
  within =
      let lt : i < length (locks_of old.named.locks) = slice_get_within (locks_of old.named.locks) i lock reaches.fits.there in
      let same : length (locks_of old.named.locks) ≡ length old.named.locks = length-map old.named.locks lock_of in
      omega arith

  few : length old.named.locks < 2 ^ 64
  few = let most : length old.named.locks ≤ lock_limit = right.few in omega (arith, most)

  small : (h : Holder) → lock.holder ≡ Some h → h.token < 2 ^ 64
  small h f =
      let held : h.token ≤ lock.ring.grants = (reaches.fits.right.held h f).1 in
      let one : lock.ring.grants ≤ total (locks_of old.named.locks) = grants_among (locks_of old.named.locks) i lock reaches.fits.there in
      let all : total (locks_of old.named.locks) ≤ old.named.top = right.counted in
      let lt : old.named.top < 2 ^ 64 = bits in
      omega arith

  module _ (line : List ℕ) (ask : lines.Ask) (one : one_ask ask ≡ Some (x, a)) (off : is_off terms.lines.faults ask ≡ false) (reads : IsReadAs line (input.Asked c ask)) where
    abbrev own : lines.Ask
    own = ring_ask i (number_for b a lock.holder) ask

    abbrev ring_text : List ℕ
    ring_text = lines_about numbers i (answers_of c raw)

    answered : IsAnsweredIf (is_off terms.lines.faults own) terms.lines c own (ring_segment old.named) ring_text (without_remarks noted) (ring_segment new.named)
    answered =
        subst (λ (q : Bool). IsAnsweredIf q terms.lines c own (ring_segment old.named) ring_text (without_remarks noted) (ring_segment new.named)) (sym (off_ring i (number_for b a lock.holder) terms.lines.faults ask ∙ off))
        (subst (λ (z : Option (List ℕ × Ask)). IsTold terms.lines.strict terms.lines.noting c z (ring_segment old.named) ring_text (without_remarks noted) (ring_segment new.named)) (sym (asks_ring i b lock.holder ask x a one))
        (subst (λ (o : Option ℕ). IsToldOfNamed o terms.lines.strict terms.lines.noting c (decimal i) (with_number b a lock.holder) (ring_segment old.named) ring_text (without_remarks noted) (ring_segment new.named)) (sym (ring_found (length old.named.locks) i few within))
        told_of_ring))

    line_is : ring_line old.named c ask ≡ Some (input_line c own)
    line_is =
        let w = lock_view old.named.locks i lock reaches.fits.there in
        let held : holder_at (slice_get old.named.locks i) ≡ lock.holder = ap (λ (o : Option LockView). holder_at o) w.1 ∙ ap (λ (l : Lock). l.holder) w.2 in
        ap (λ (o : Option (List ℕ × Ask)). line_for old.named c ask o) one
        ∙ (ap (λ (o : Option (ℕ × Bound)). line_at old.named c ask a o) e
        ∙ ap (λ (h : Option Holder). Some (input_line c (ring_ask i (number_for b a h) ask))) held)

    pub ring_is : IsOne terms old line said noted new
    ring_is =
        let far : i < 2 ^ 64 = let a : i < length old.named.locks = within in let b : length old.named.locks < 2 ^ 64 = few in omega arith in
        record {
          lines = plain.lines;
          is = inr (
            input_line c own,
            ring_text,
            record {
              client = c;
              ask = ask;
              reads = reads;
              line_is = line_is;
              answered = (input.Asked c own, reads_ring i (number_for b a lock.holder) far (number_small b a lock.holder small) line c ask reads, answered);
              tellings = tellings_of i (answers_of c raw);
              text = lines_are numbers i (answers_of c raw);
              by_name = subst (λ (u : List ℕ). AreToldByName old.named (tellings_of i (answers_of c raw)) u) (sym text) (told_list old.named i b (bound_in old.named x a i b reaches) (answers_of c raw));
            },
          );
        }
