-- An ask of a name, by the ring that it reached: what has changed, and what is counted of it.
use Rattle.std.proofs.Common.{◌≡◌, ℕ, ◌+◌, ◌-◌, Bool, true, false, ◌||◌, List, [], ◌∷◌, ◌++◌, map, length, Option, None, Some, ◌⊎◌, refl, sym, ◌∙◌, ap, subst, inl, inr, arith}
use Rattle.std.specs.Prelude.{slice_get, option_map}
use Rattle.std.proofs.lemmas.Bool.{false≢true}
use Rattle.held_locks.specs.declared.answers.Answer.{Answer}
use Rattle.held_locks.specs.declared.answers.Answer.TheVariants as answer
use Rattle.held_locks.specs.declared.answers.Answers.{Answers}
use Rattle.held_locks.specs.declared.answers.Holder.{Holder}
use Rattle.held_locks.specs.declared.answers.HoldEnd.{HoldEnd}
use Rattle.held_locks.specs.Locks.{Ask, Acquire, Try, Release, Cancel, Leave, Corrupt, Stats}
use Rattle.held_locks.specs.Kept.{LockView, own_answer, other_grant, answers_of, IsDone}
use Rattle.held_locks.specs.Asked.{IsAnswerTo, events_at}
use Rattle.held_locks.proofs.Asking.{asked_long}
use Rattle.lock_names.specs.declared.replies.Reply.{Reply}
use Rattle.lock_names.specs.declared.replies.Reply.TheVariants as reply
use Rattle.lock_names.specs.declared.replies.NameAnswers.{NameAnswers}
use Rattle.lock_names.specs.declared.replies.NameAsked.{NameAsked}
use Rattle.lock_names.specs.Bindings.{Bound, found, free}
use Rattle.lock_names.specs.Names.{Named, Of, Said, NamedStep, of_ring, as_told, said_of, fresh, given, at_none, at_name, at_ring, step_named}
use Rattle.lock_names.specs.Kept.{NamedView, named_of, for_hold, at_free, reached_from, reached, own_said, grant_said, said_in, IsRecorded, noted_at, IsTaken, IsAsked, events_of, HasEvents}
use Rattle.lock_names.proofs.Found.{some_same, none_some}
use Rattle.lock_journal.specs.Asking.{is_lack}
use Rattle.lock_journal.specs.Due.{is_short_at, has_short}
use Rattle.lock_journal.specs.Counting.{IsWatched, end_count}
use Rattle.lock_journal.proofs.Lacks.{done_not}
use Rattle.lock_journal.proofs.Short.{none_at, short_after}
use Rattle.name_service.specs.Naming.{reply_told, is_name_lack, is_short_asked, count_at}

-- ---- a step, by the ring that is reached

abbrev ring_in : Option (ℕ × Bound) → Option ℕ
ring_in o = option_map (λ (p : ℕ × Bound). p.0) o

given_by : (s : Named) (c : ℕ) (x : List ℕ) (ask : Ask) (o : Option ℕ) (i : ℕ) (b : Bound) → at_free s x true o ≡ Some (i, b) → given s c x ask o ≡ at_ring s c i b ask
given_by s c x ask None i b e = absurd (none_some (i, b) e)
given_by s c x ask (Some j) i b e =
    let same : ◌≡◌ {A = ℕ × Bound} (j, fresh s x j) (i, b) = some_same (j, fresh s x j) (i, b) e in
    ap (λ (p : ℕ × Bound). at_ring s c p.0 p.1 ask) same

none_by : (s : Named) (c : ℕ) (x : List ℕ) (ask : Ask) (i : ℕ) (b : Bound) → at_free s x (for_hold ask) (free s.names) ≡ Some (i, b) → at_none s c x ask ≡ at_ring s c i b ask
none_by s c x (Acquire label) i b e = given_by s c x (Acquire label) (free s.names) i b e
none_by s c x (Try label) i b e = given_by s c x (Try label) (free s.names) i b e
none_by s c x (Release token) i b e = absurd (none_some (i, b) e)
none_by s c x Cancel i b e = absurd (none_some (i, b) e)
none_by s c x Leave i b e = absurd (none_some (i, b) e)
none_by s c x (Corrupt m v) i b e = absurd (none_some (i, b) e)
none_by s c x Stats i b e = absurd (none_some (i, b) e)

step_by : (s : Named) (c : ℕ) (x : List ℕ) (ask : Ask) (i : ℕ) (b : Bound) (o : Option (ℕ × Bound)) → reached_from s x ask o ≡ Some (i, b) → at_name s c x ask o ≡ at_ring s c i b ask
step_by s c x ask i b None e = none_by s c x ask i b e
step_by s c x ask i b (Some p) e = ap (λ (q : ℕ × Bound). at_ring s c q.0 q.1 ask) (some_same p (i, b) e)

-- the ring is asked
pub step_at_ring : (s : Named) (c : ℕ) (x : List ℕ) (ask : Ask) (i : ℕ) (b : Bound) → reached s x ask ≡ Some (i, b) → step_named s (Of c x ask) ≡ at_ring s c i b ask
step_at_ring s c x ask i b e = step_by s c x ask i b (found x s.names) e

still_given : (s : Named) (c : ℕ) (x : List ℕ) (ask : Ask) (o : Option ℕ) → at_free s x true o ≡ None → (given s c x ask o).named ≡ s
still_given s c x ask None e = refl
still_given s c x ask (Some j) e = absurd (none_some (j, fresh s x j) (sym e))

still_none : (s : Named) (c : ℕ) (x : List ℕ) (ask : Ask) → at_free s x (for_hold ask) (free s.names) ≡ None → (at_none s c x ask).named ≡ s
still_none s c x (Acquire label) e = still_given s c x (Acquire label) (free s.names) e
still_none s c x (Try label) e = still_given s c x (Try label) (free s.names) e
still_none s c x (Release token) e = refl
still_none s c x Cancel e = refl
still_none s c x Leave e = refl
still_none s c x (Corrupt m v) e = refl
still_none s c x Stats e = refl

still_by : (s : Named) (c : ℕ) (x : List ℕ) (ask : Ask) (o : Option (ℕ × Bound)) → reached_from s x ask o ≡ None → (at_name s c x ask o).named ≡ s
still_by s c x ask None e = still_none s c x ask e
still_by s c x ask (Some p) e = absurd (none_some p (sym e))

-- no ring is asked, and nothing changes
step_still : (s : Named) (c : ℕ) (x : List ℕ) (ask : Ask) → reached s x ask ≡ None → (step_named s (Of c x ask)).named ≡ s
step_still s c x ask e = still_by s c x ask (found x s.names) e

-- ---- no ring was reached

same_view : (ls ms : List LockView) (os ps : List (Option Bound)) (f g t u : ℕ) → ls ≡ ms → os ≡ ps → f ≡ g → t ≡ u →
    ◌≡◌ {A = NamedView} (record { locks = ls; names = os; fixed = f; top = t }) (record { locks = ms; names = ps; fixed = g; top = u })
same_view ls ms os ps f g t u a b c d =
    ap (λ (x : List LockView). record { locks = x; names = os; fixed = f; top = t }) a
    ∙ ap (λ (x : List (Option Bound)). record { locks = ms; names = x; fixed = f; top = t }) b
    ∙ ap (λ (x : ℕ). record { locks = ms; names = ps; fixed = x; top = t }) c
    ∙ ap (λ (x : ℕ). record { locks = ms; names = ps; fixed = g; top = x }) d

-- the ring that was reached was asked, or nothing has changed
abbrev pub IsSettled : NamedView → NamedView → ℕ → Ask → NameAnswers → ℕ → Bound → Type 0
IsSettled old new c ask r i b =
    ((raw : Answers) × IsDone old.locks new.locks c i (of_ring b ask) raw × (r.ended ≡ raw.ended)) ⊎ ((new ≡ old) × (r.ended ≡ None))

abbrev begins_lack : List Said → Bool
begins_lack [] = false
begins_lack (a ∷ more) = is_name_lack (Some (reply_told true a.reply))

module _ (old new : NamedView) (c : ℕ) (x : List ℕ) (ask : Ask) (r : NameAnswers) (d : IsAsked old new c x ask r) where
  unreached_taken : reached (named_of old) x ask ≡ None → IsTaken old new c x ask r → (new ≡ old) × (r.ended ≡ None)
  unreached_taken e t =
      let still : named_of new ≡ named_of old = t.named ∙ step_still (named_of old) c x ask e in
      let rec = subst (λ (o : Option (ℕ × Bound)). IsRecorded old.locks new.locks c ask r o) e t.recorded in
      let ring : r.ring ≡ None = d.ring ∙ ap (λ (o : Option (ℕ × Bound)). ring_in o) e in
      let names : new.names ≡ old.names = t.names ∙ ap (λ (o : Option ℕ). noted_at (named_of old) x o r.fresh r.freed) ring in (
        same_view new.locks old.locks new.names old.names new.fixed old.fixed new.top old.top rec.0 names (ap (λ (z : Named). z.fixed) still) (ap (λ (z : Named). z.top) still),
        rec.1,
      )

  pub unreached : reached (named_of old) x ask ≡ None → (new ≡ old) × (r.ended ≡ None)
  unreached e = elim d.answer [
    | inl t ↦ unreached_taken e t
    | inr w ↦ (w.same, w.none.0)
  ]

  unreached_by : (o : Option (ℕ × Bound)) → reached (named_of old) x ask ≡ o → ring_in o ≡ None → (new ≡ old) × (r.ended ≡ None)
  unreached_by None e f = unreached e
  unreached_by (Some p) e f = absurd (none_some p.0 (sym f))

  -- an ask that reaches no ring changes nothing
  pub unreached_same : r.ring ≡ None → (new ≡ old) × (r.ended ≡ None)
  unreached_same e = unreached_by (reached (named_of old) x ask) refl (sym d.ring ∙ e)

  -- ---- the ring that was reached

  settled : (i : ℕ) (b : Bound) → reached (named_of old) x ask ≡ Some (i, b) → IsSettled old new c ask r i b
  settled i b e = elim d.answer [
    | inl t ↦ inl (subst (λ (o : Option (ℕ × Bound)). IsRecorded old.locks new.locks c ask r o) e t.recorded)
    | inr w ↦ inr (w.same, w.none.0)
  ]

  -- ---- a lack

  own_lack : (o : Option Reply) (g : Option Holder) → is_name_lack (option_map (reply_told true) o) ≡ true → begins_lack (own_said c x o ++ grant_said x g) ≡ true
  own_lack None g e = absurd (false≢true e)
  own_lack (Some (reply.Lock a)) g e = e
  own_lack (Some reply.Names) g e = e

  told_lack : (b : Bound) (a : Answer) → is_lack (Some (as_told b a)) ≡ is_lack (Some a)
  told_lack b (answer.Granted n) = refl
  told_lack b (answer.Waiting n) = refl
  told_lack b answer.Busy = refl
  told_lack b answer.Released = refl
  told_lack b answer.Cancelled = refl
  told_lack b (answer.Corrupted v) = refl
  told_lack b (answer.Stats st) = refl
  told_lack b (answer.Refused why) = refl

  raw_lack : (b : Bound) (o : Option Answer) (g : Option Holder) → begins_lack (map (said_of b) (own_answer c o ++ other_grant g)) ≡ true → is_lack o ≡ true
  raw_lack b None None e = absurd (false≢true e)
  raw_lack b None (Some h) e = absurd (false≢true e)
  raw_lack b (Some a) g e = sym (told_lack b a) ∙ e

  lack_taken : is_name_lack (option_map (reply_told true) r.own) ≡ true → IsTaken old new c x ask r → (o : Option (ℕ × Bound)) → reached (named_of old) x ask ≡ o → (new ≡ old) × (r.ended ≡ None)
  lack_taken lack t None e = unreached_taken e t
  lack_taken lack t (Some p) e =
      let rec = subst (λ (o : Option (ℕ × Bound)). IsRecorded old.locks new.locks c ask r o) e t.recorded in
      let said : said_in c x r ≡ map (said_of p.1) (answers_of c rec.0) =
      t.said ∙ ap (λ (z : NamedStep). z.said) (step_at_ring (named_of old) c x ask p.0 p.1 e) ∙ ap (λ (told : List (ℕ × Answer)). map (said_of p.1) told) (sym rec.1.answers) in
      let first : begins_lack (map (said_of p.1) (answers_of c rec.0)) ≡ true = sym (ap begins_lack said) ∙ own_lack r.own r.granted lack in
      absurd (done_not old.locks new.locks c p.0 (of_ring p.1 ask) rec.0 rec.1 (raw_lack p.1 rec.0.own rec.0.granted first))

  -- a refusal for lack of room, of memory or of rings changes nothing
  pub lack_same : is_name_lack (option_map (reply_told true) r.own) ≡ true → (new ≡ old) × (r.ended ≡ None)
  lack_same lack = elim d.answer [
    | inl t ↦ lack_taken lack t (reached (named_of old) x ask) refl
    | inr w ↦ (w.same, w.none.0)
  ]

  -- ---- what is counted

  answer_to : (i : ℕ) (a : Ask) (raw : Answers) → IsDone old.locks new.locks c i a raw → IsAnswerTo old.locks new.locks c i a raw
  answer_to i (Acquire label) raw k = inl k
  answer_to i (Try label) raw k = inl k
  answer_to i (Release token) raw k = k
  answer_to i Cancel raw k = k
  answer_to i Leave raw k = k
  answer_to i (Corrupt m v) raw k = inl k
  answer_to i Stats raw k = k

  same_short : (i : ℕ) (short : Bool) → IsWatched old.locks short → (short || is_short_at (slice_get old.locks i)) ≡ (short || has_short old.locks)
  same_short i true w = refl
  same_short i false w = none_at old.locks i (w refl) ∙ sym (w refl)

  same_none : (short : Bool) → IsWatched old.locks short → (short || false) ≡ (short || has_short old.locks)
  same_none true w = refl
  same_none false w = sym (w refl)

  short_settled : (i : ℕ) (b : Bound) (short : Bool) → IsWatched old.locks short → IsSettled old new c ask r i b → (short || is_short_at (slice_get new.locks i)) ≡ (short || has_short new.locks)
  short_settled i b short w (inl k) = short_after old.locks new.locks c i (of_ring b ask) k.0 short (answer_to i (of_ring b ask) k.0 k.1) w
  short_settled i b short w (inr k) = subst (λ (v : NamedView). (short || is_short_at (slice_get v.locks i)) ≡ (short || has_short v.locks)) (sym k.0) (same_short i short w)

  short_by : (short : Bool) → IsWatched old.locks short → (o : Option (ℕ × Bound)) → reached (named_of old) x ask ≡ o → (short || is_short_asked new.locks (ring_in o)) ≡ (short || has_short new.locks)
  short_by short w None e = subst (λ (v : NamedView). (short || false) ≡ (short || has_short v.locks)) (sym (unreached e).0) (same_none short w)
  short_by short w (Some p) e = short_settled p.0 p.1 short w (settled p.0 p.1 e)

  -- only the ring that was asked has to be looked at
  pub short_asked : (short : Bool) → IsWatched old.locks short → (short || is_short_asked new.locks r.ring) ≡ (short || has_short new.locks)
  short_asked short w = ap (λ (o : Option ℕ). short || is_short_asked new.locks o) d.ring ∙ short_by short w (reached (named_of old) x ask) refl

  long_settled : (i : ℕ) (b : Bound) → IsSettled old new c ask r i b → length new.locks ≡ length old.locks
  long_settled i b (inl k) = asked_long old.locks new.locks c i (of_ring b ask) k.0 (answer_to i (of_ring b ask) k.0 k.1)
  long_settled i b (inr k) = ap (λ (v : NamedView). length v.locks) k.0

  long_by : (o : Option (ℕ × Bound)) → reached (named_of old) x ask ≡ o → length new.locks ≡ length old.locks
  long_by None e = ap (λ (v : NamedView). length v.locks) (unreached e).0
  long_by (Some p) e = long_settled p.0 p.1 (settled p.0 p.1 e)

  pub long_asked : length new.locks ≡ length old.locks
  long_asked = long_by (reached (named_of old) x ask) refl

  count_none : (before after : ℕ) → before ≡ 0 → after ≡ 0 → r.ended ≡ None → end_count r.ended + (after - before) ≡ 0
  count_none before after e f g = ap (λ (h : Option HoldEnd). end_count h + (after - before)) g ∙ ap (λ (n : ℕ). 0 + (n - before)) f ∙ omega arith

  count_some : (i before after : ℕ) → before ≡ events_at (slice_get old.locks i) → after ≡ events_at (slice_get new.locks i) →
      end_count r.ended + (after - before) ≡ count_at (Some i) old new r
  count_some i before after e f =
      ap (λ (n : ℕ). end_count r.ended + (after - n)) e ∙ ap (λ (n : ℕ). end_count r.ended + (n - events_at (slice_get old.locks i))) f

  count_by : (o : Option (ℕ × Bound)) → reached (named_of old) x ask ≡ o → (before after : ℕ) → before ≡ events_of old.locks (ring_in o) → after ≡ events_of new.locks (ring_in o) →
      end_count r.ended + (after - before) ≡ count_at (ring_in o) old new r
  count_by None k before after e f = count_none before after e f (unreached k).1
  count_by (Some p) k before after e f = count_some p.0 before after e f

  pub count_asked : (a : NameAsked) → a.answers ≡ r → HasEvents old.locks new.locks a → end_count r.ended + (a.after - a.before) ≡ count_at r.ring old new r
  count_asked a e h =
      let ring : a.answers.ring ≡ ring_in (reached (named_of old) x ask) = ap (λ (z : NameAnswers). z.ring) e ∙ d.ring in
      count_by (reached (named_of old) x ask) refl a.before a.after (h.before ∙ ap (λ (o : Option ℕ). events_of old.locks o) ring) (h.after ∙ ap (λ (o : Option ℕ). events_of new.locks o) ring)
      ∙ ap (λ (o : Option ℕ). count_at o old new r) (sym d.ring)

  -- nothing is counted of a lack
  pub none_counted : r.ended ≡ None → (o : Option ℕ) → count_at o old old r ≡ 0
  none_counted e None = refl
  none_counted e (Some i) =
      ap (λ (h : Option HoldEnd). end_count h + (events_at (slice_get old.locks i) - events_at (slice_get old.locks i))) e ∙ omega arith
