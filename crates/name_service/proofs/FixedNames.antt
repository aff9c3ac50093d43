-- Locks of a list without a pool answer by names as they do by their places.
use Rattle.std.proofs.Common.{◌≡◌, ℕ, zero, suc, ◌+◌, ◌-◌, ◌<◌, ◌≤◌, Bool, true, false, cond, List, [], ◌∷◌, ◌++◌, length, map, Option, Some, None, inl, inr, refl, sym, ap, subst, ◌∙◌, append-nil, arith}
use Rattle.std.specs.Prelude.{slice_get, slice_set, not, ◌==◌, ◌&&◌, ◌||◌, nat_le, nat_lt, is_some, option_map, unwrap_or, if◌then◌else◌}
use Rattle.std.specs.List.{AllByRecursion}
use Rattle.std.specs.Str.{bytes_eq}
use Rattle.std.proofs.lemmas.Bool.{false≢true, leb-true, le-leb, ltb-false, le-ltb}
use Rattle.std.proofs.lemmas.Option.{slice_get_within}
use Rattle.held_locks.specs.declared.answers.Answer.{Answer}
use Rattle.held_locks.specs.declared.answers.Answer.TheVariants as answer
use Rattle.held_locks.specs.declared.answers.Answers.{Answers}
use Rattle.held_locks.specs.declared.answers.Holder.{Holder}
use Rattle.held_locks.specs.declared.answers.HoldEnd.{HoldEnd}
use Rattle.held_locks.specs.declared.answers.Left.{Left}
use Rattle.held_locks.specs.declared.answers.Refusal.{Refusal}
use Rattle.held_locks.specs.declared.answers.Refusal.TheVariants as refusal
use Rattle.held_locks.specs.Locks.{Ask, Acquire, Try, Release, Cancel, Leave, Corrupt, Stats, Turn, Asked, turn, step}
use Rattle.held_locks.specs.Queues.{Lock, holder_of}
use Rattle.held_locks.specs.Promises.{locks_after, leaves}
use Rattle.held_locks.specs.Kept.{LockView, lock_of, locks_of, other_grant, answers_of, IsDone, IsFull, IsLack, ended_in, left_by, left_at, left_of}
use Rattle.held_locks.specs.Asked.{IsAnswerTo}
use Rattle.held_locks.proofs.Asking.{after_long, views_long}
use Rattle.lock_protocol.specs.Asks as lines
use Rattle.lock_protocol.specs.Views.{Input}
use Rattle.lock_protocol.specs.Views as input
use Rattle.lock_protocol.specs.Names.{Names, lock_named, name_of}
use Rattle.lock_protocol.specs.Answers.{answer_line}
use Rattle.lock_names.specs.declared.replies.NameAnswers.{NameAnswers}
use Rattle.lock_names.specs.declared.replies.Reply.{Reply}
use Rattle.lock_names.specs.declared.replies.Reply.TheVariants as reply
use Rattle.lock_names.specs.Begun.{fixed_names}
use Rattle.lock_names.specs.Bindings.{Bound, further, found, free}
use Rattle.lock_names.proofs.Found.{some_same, none_some, found_at}
use Rattle.lock_names.specs.Names.{Named, Of, Said, NamedStep, of_ring, told_holder, as_told, said_of, kept, at_ring, at_name, named_after, leave_each, step_named}
use Rattle.lock_names.specs.Kept.{NamedView, named_of, top_limit, for_hold, may_pass, at_free, reached_from, reached, own_said, grant_said, IsRecorded, HasNoRoom, IsTaken, IsWanting}
use Rattle.lock_names.specs.Leaves.{bound_or, told_left, said_left, name_left, names_left}
use Rattle.lock_names.proofs.Taking.{set_same}
use Rattle.lock_journal.specs.Asking.{one_ask, is_off, is_lack}
use Rattle.lock_journal.specs.Answering.{IsSaid, IsToldOf, IsToldOfLeave, IsToldOfNamed, IsTold, IsAnsweredIf, IsInputAnswered}
use Rattle.lock_journal.specs.Counting.{count_about, count_of_all}
use Rattle.lock_journal.specs.Noting.{note_about, note_of_left, lines_about, line_of_left, lines_of_left, notes_of_left}
use Rattle.name_service.specs.declared.service.NameTerms.{NameTerms}
use Rattle.name_service.specs.Naming.{NamingView, count_at, has_no_pool, is_no_lock, is_wanting, reply_told, is_name_lack}
use Rattle.name_service.specs.Noting.{lines_of_said, note_of_new, note_of_free, note_at, is_freed, notes_of_names_left}
use Rattle.name_service.specs.Serving.{own_told, IsOnlySaid, IsNameToldOf, IsNameToldIf, IsNameToldOfLeave, IsNameTold, IsNameAnsweredIf, IsNameInputAnswered}
use Rattle.name_service.specs.FixedNames.{AreFixed, by_place, FixedNamesAreLocks}
use Rattle.name_service.proofs.Reached.{step_at_ring, long_asked}
use Rattle.name_service.proofs.AskedRings.{no_lack}

-- ---- a binding that shifts no token

abbrev plain : List ℕ → Bound
plain x = record { name = x; before = 0; floor = 0 }

token_same : (n : ℕ) → 0 + (n - 0) ≡ n
token_same n = omega arith

number_by : (token : ℕ) (q : Bool) → nat_le token 0 ≡ q → (if q then 0 else ((token - 0) + 0)) ≡ token
number_by token true e = let le : token ≤ 0 = leb-true token 0 e in omega (arith, le)
number_by token false e = omega arith

ask_same : (x : List ℕ) (a : Ask) → of_ring (plain x) a ≡ a
ask_same x (Acquire label) = refl
ask_same x (Try label) = refl
ask_same x (Release token) = ap Release (number_by token (nat_le token 0) refl)
ask_same x Cancel = refl
ask_same x Leave = refl
ask_same x (Corrupt m v) = refl
ask_same x Stats = refl

holder_same : (x : List ℕ) (o : Option Holder) → option_map (told_holder (plain x)) o ≡ o
holder_same x None = refl
holder_same x (Some h) = ap (λ (n : ℕ). Some (record h { token = n })) (token_same h.token)

passes_same : (n : ℕ) → n - 0 ≡ n
passes_same n = omega arith

told_same : (x : List ℕ) (a : Answer) → as_told (plain x) a ≡ a
told_same x (answer.Granted n) = ap answer.Granted (token_same n)
told_same x (answer.Waiting n) = refl
told_same x answer.Busy = refl
told_same x answer.Released = refl
told_same x answer.Cancelled = refl
told_same x (answer.Corrupted v) = refl
told_same x (answer.Stats s) =
    ap (λ (n : ℕ). answer.Stats (record s { passes = n; holder = option_map (told_holder (plain x)) s.holder })) (passes_same s.passes)
    ∙ ap (λ (h : Option Holder). answer.Stats (record s { holder = h })) (holder_same x s.holder)
told_same x (answer.Refused why) = refl

-- ---- the names of a list

abbrev ring_of : List ℕ → List (Option Bound) → Option ℕ
ring_of x os = option_map (λ (p : ℕ × Bound). p.0) (found x os)

map_further : (o : Option (ℕ × Bound)) → option_map suc (option_map (λ (p : ℕ × Bound). p.0) o) ≡ option_map (λ (p : ℕ × Bound). p.0) (further o)
map_further None = refl
map_further (Some p) = refl

by_first : (q : Bool) (n x : List ℕ) (ns : Names) → lock_named ns x ≡ ring_of x (fixed_names ns) →
    (if q then Some 0 else option_map suc (lock_named ns x)) ≡ option_map (λ (p : ℕ × Bound). p.0) (if q then Some (zero, plain n) else further (found x (fixed_names ns)))
by_first true n x ns e = refl
by_first false n x ns e = ap (λ (o : Option ℕ). option_map suc o) e ∙ map_further (found x (fixed_names ns))

place_is : (ns : Names) (x : List ℕ) → lock_named ns x ≡ ring_of x (fixed_names ns)
place_is [] x = refl
place_is (n ∷ ns) x = by_first (bytes_eq x n) n x ns (place_is ns x)

entry_is : (ns : Names) (i : ℕ) (b : Bound) → slice_get (fixed_names ns) i ≡ Some (Some b) → (slice_get ns i ≡ Some b.name) × (b ≡ plain b.name)
entry_is [] i b e = absurd (none_some (Some b) e)
entry_is (n ∷ ns) zero b e =
    let same : plain n ≡ b = some_same (plain n) b (some_same (Some (plain n)) (Some b) e) in
    (ap (λ (z : Bound). Some z.name) same, subst (λ (z : Bound). z ≡ plain z.name) same refl)
entry_is (n ∷ ns) (suc i) b e = entry_is ns i b e

none_free : (ns : Names) → free (fixed_names ns) ≡ None
none_free [] = refl
none_free (n ∷ ns) = ap (λ (o : Option ℕ). option_map suc o) (none_free ns)

at_none : (s : Named) (x : List ℕ) (hold : Bool) → at_free s x hold None ≡ None
at_none s x true = refl
at_none s x false = refl

-- an ask reaches the ring of its name, or none
reached_is : (s : Named) (x : List ℕ) (a : Ask) → free s.names ≡ None → reached s x a ≡ found x s.names
reached_is s x a e = by (found x s.names)
  where
    by : (o : Option (ℕ × Bound)) → reached_from s x a o ≡ o
    by None = ap (λ (f : Option ℕ). at_free s x (for_hold a) f) e ∙ at_none s x (for_hold a)
    by (Some p) = refl

-- how any of the rings is bound
bound_is : (ns : Names) (i : ℕ) → bound_or (slice_get (fixed_names ns) i) ≡ plain (name_of ns i)
bound_is [] i = refl
bound_is (n ∷ ns) zero = refl
bound_is (n ∷ ns) (suc i) = bound_is ns i

-- ---- what is said and noted of a ring

lines_same : (ns : Names) (i : ℕ) (x : List ℕ) → name_of ns i ≡ x → (list : List (ℕ × Answer)) → lines_of_said (map (said_of (plain x)) list) ≡ lines_about ns i list
lines_same ns i x e [] = refl
lines_same ns i x e ((c, a) ∷ more) =
    ap (λ (z : Answer). answer_line c x z ++ lines_of_said (map (said_of (plain x)) more)) (told_same x a)
    ∙ (ap (λ (y : List ℕ). answer_line c y a ++ lines_of_said (map (said_of (plain x)) more)) (sym e)
    ∙ ap (λ (u : List ℕ). answer_line c (name_of ns i) a ++ u) (lines_same ns i x e more))

note_same : (i : ℕ) (x : List ℕ) (old new : NamedView) (r : NameAnswers) → r.fresh ≡ false → r.freed ≡ false → note_at (Some i) old new x r ≡ note_about i old.locks new.locks r.ended
note_same i x old new r e f =
    ap (λ (q : Bool). note_of_new (named_of old) x i q ++ (note_about i old.locks new.locks r.ended ++ note_of_free i r.freed)) e
    ∙ (ap (λ (q : Bool). note_about i old.locks new.locks r.ended ++ note_of_free i q) f
    ∙ append-nil (note_about i old.locks new.locks r.ended))

never_low : (n : ℕ) → nat_lt n 0 ≡ false
never_low n = le-ltb n 0 (omega arith)

both_false : (q : Bool) → (q && false) ≡ false
both_false true = refl
both_false false = refl

none_wanted : (most : ℕ) (v : NamedView) → most ≡ 0 → is_wanting most v ≡ false
none_wanted most v e =
    ap (λ (n : ℕ). not (is_some (free v.names)) && nat_lt (length v.locks - v.fixed) n) e
    ∙ (ap (λ (q : Bool). not (is_some (free v.names)) && q) (never_low (length v.locks - v.fixed)) ∙ both_false (not (is_some (free v.names))))

as_it_is : (o : Option Reply) → option_map (reply_told false) o ≡ o
as_it_is None = refl
as_it_is (Some (reply.Lock a)) = refl
as_it_is (Some reply.Names) = refl

low_stays : (i n : ℕ) → i < n → (q r : Bool) → nat_lt i n ≡ q → (q || r) ≡ true
low_stays i n lt true r e = refl
low_stays i n lt false r e = let le : n ≤ i = ltb-false i n e in absurd (omega (arith, lt, le))

-- ---- a lock of the list answers

module _ (ns : Names) (terms : NameTerms) (c : ℕ) (x : List ℕ) (a : Ask) (old new : NamingView) (said noted : List ℕ) (t : IsNameToldOf terms c x a old said noted new) (none : terms.most ≡ 0) (f : AreFixed ns old.named) (few : old.named.top < top_limit)
    (i : ℕ) (e : reached (named_of old.named) x a ≡ Some (i, plain x)) (entry : slice_get old.named.names i ≡ Some (Some (plain x))) (name : name_of ns i ≡ x) (low : i < old.named.fixed) (there : found x old.named.names ≡ Some (i, plain x)) where
  abbrev r : NameAnswers
  r = t.answers

  -- so the lock of this place has answered
  record IsOfLock : Type 0 where
    pub raw : Answers
    pub answer : IsAnswerTo old.named.locks new.named.locks c i a raw
    pub given : (terms.lines.strict && is_lack raw.own) ≡ false
    pub says : own_said c x r.own ++ grant_said x r.granted ≡ map (said_of (plain x)) (answers_of c raw)
    pub ended : r.ended ≡ raw.ended
    pub fresh : r.fresh ≡ false
    pub freed : r.freed ≡ false
    pub names : new.named.names ≡ old.named.names
    pub fixed : new.named.fixed ≡ old.named.fixed

  to_answer : (b : Ask) (raw : Answers) → IsDone old.named.locks new.named.locks c i b raw → IsAnswerTo old.named.locks new.named.locks c i b raw
  to_answer (Acquire label) raw k = inl k
  to_answer (Try label) raw k = inl k
  to_answer (Release token) raw k = k
  to_answer Cancel raw k = k
  to_answer Leave raw k = k
  to_answer (Corrupt m v) raw k = inl k
  to_answer Stats raw k = k

  to_lack : (b : Ask) (raw : Answers) → may_pass b ≡ true → IsLack old.named.locks new.named.locks i b raw → IsAnswerTo old.named.locks new.named.locks c i b raw
  to_lack (Acquire label) raw m k = inr k
  to_lack (Try label) raw m k = inr k
  to_lack (Release token) raw m k = absurd (false≢true m)
  to_lack Cancel raw m k = absurd (false≢true m)
  to_lack Leave raw m k = absurd (false≢true m)
  to_lack (Corrupt m v) raw n k = inr k
  to_lack Stats raw m k = absurd (false≢true m)

  taken : IsTaken old.named new.named c x a r → IsOfLock
  taken k =
      let s : Named = named_of old.named in
      let rec : (raw : Answers) × IsDone old.named.locks new.named.locks c i (of_ring (plain x) a) raw × (r.ended ≡ raw.ended) = subst (λ (o : Option (ℕ × Bound)). IsRecorded old.named.locks new.named.locks c a r o) e k.recorded in
      let is : step_named s (Of c x a) ≡ at_ring s c i (plain x) a = step_at_ring s c x a i (plain x) e in
      let after : named_of new.named ≡ (at_ring s c i (plain x) a).named = k.named ∙ ap (λ (z : NamedStep). z.named) is in
      let ls : List Lock = (step s.locks (Asked c i (of_ring (plain x) a))).locks in
      let names : new.named.names ≡ old.named.names =
      ap (λ (z : Named). z.names) after
      ∙ (ap (λ (q : Bool). slice_set old.named.names i (kept q (plain x))) (low_stays i old.named.fixed low (nat_lt i old.named.fixed) (is_some (holder_of (slice_get ls i))) refl) ∙ set_same old.named.names i (Some (plain x)) entry) in
      record {
        raw = rec.0;
        answer = to_answer a rec.0 (subst (λ (b : Ask). IsDone old.named.locks new.named.locks c i b rec.0) (ask_same x a) rec.1);
        given = no_lack old.named.locks new.named.locks c i (of_ring (plain x) a) rec.0 terms.lines.strict rec.1;
        says = k.said ∙ (ap (λ (z : NamedStep). z.said) is ∙ sym (ap (λ (z : List (ℕ × Answer)). map (said_of (plain x)) z) rec.1.answers));
        ended = rec.2;
        fresh = k.fresh ∙ ap (λ (o : Option (ℕ × Bound)). not (is_some o) && is_some (found x new.named.names)) there;
        freed =
            k.freed
            ∙ (ap (λ (os : List (Option Bound)). is_some (found x old.named.names) && not (is_some (found x os))) names
            ∙ ap (λ (o : Option (ℕ × Bound)). is_some o && not (is_some o)) there);
        names = names;
        fixed = ap (λ (z : Named). z.fixed) after;
      }

  -- a refusal for lack of room or of memory
  abbrev lack : Refusal → Answers
  lack why = record { own = Some (answer.Refused why); ended = None; granted = None }

  own_is : own_told terms old r ≡ r.own
  own_is = ap (λ (q : Bool). option_map (reply_told q) r.own) (none_wanted terms.most old.named none) ∙ as_it_is r.own

  lacking : (w : IsWanting old.named new.named x a r) (why : Refusal) → r.own ≡ Some (reply.Lock (answer.Refused why)) → IsLack old.named.locks new.named.locks i a (lack why) → IsOfLock
  lacking w why own is = record {
    raw = lack why;
    answer = to_lack a (lack why) w.asks is;
    given = sym (ap (λ (o : Option Reply). terms.lines.strict && is_name_lack o) (own_is ∙ own)) ∙ t.given;
    says = ap (λ (o : Option Reply). own_said c x o ++ grant_said x r.granted) own ∙ ap (λ (h : Option Holder). own_said c x (Some (reply.Lock (answer.Refused why))) ++ grant_said x h) w.none.1;
    ended = w.none.0;
    fresh = w.none.2;
    freed = w.stays;
    names = ap (λ (v : NamedView). v.names) w.same;
    fixed = ap (λ (v : NamedView). v.fixed) w.same;
  }

  full : HasNoRoom old.named a (Some (i, plain x)) → IsFull old.named.locks i a
  full (inl le) = let lt : old.named.top < top_limit = few in absurd (omega (arith, le, lt))
  full (inr k) = subst (λ (b : Ask). IsFull old.named.locks i b) (ask_same x a) k

  wanting : IsWanting old.named new.named x a r → IsOfLock
  wanting w = elim w.why [
    | inl p ↦
        let room : HasNoRoom old.named a (Some (i, plain x)) = subst (λ (o : Option (ℕ × Bound)). HasNoRoom old.named a o) e p.1 in
        lacking w refusal.Full p.0 (record { why = inl (refl, full room); none = (refl, refl); same = ap (λ (v : NamedView). v.locks) w.same })
    | inr p ↦ lacking w refusal.Memory p (record { why = inr refl; none = (refl, refl); same = ap (λ (v : NamedView). v.locks) w.same })
  ]

  of_lock : IsOfLock
  of_lock = elim t.done.answer [
    | inl k ↦ taken k
    | inr w ↦ wanting w
  ]

  ring : r.ring ≡ Some i
  ring = t.done.ring ∙ ap (λ (o : Option (ℕ × Bound)). option_map (λ (p : ℕ × Bound). p.0) o) e

  pub told_of_lock : IsToldOf terms.lines.strict terms.lines.noting c i a (by_place ns old) said noted (by_place ns new)
  told_of_lock =
      let k = of_lock in
      let note : note_at r.ring old.named new.named x r ≡ note_about i old.named.locks new.named.locks k.raw.ended =
      ap (λ (o : Option ℕ). note_at o old.named new.named x r) ring
      ∙ (note_same i x old.named new.named r k.fresh k.freed ∙ ap (λ (h : Option HoldEnd). note_about i old.named.locks new.named.locks h) k.ended) in
      let count : count_at r.ring old.named new.named r ≡ count_about i old.named.locks new.named.locks k.raw.ended =
      ap (λ (o : Option ℕ). count_at o old.named new.named r) ring ∙ ap (λ (h : Option HoldEnd). count_about i old.named.locks new.named.locks h) k.ended in
      record {
        answers = k.raw;
        done = k.answer;
        given = k.given;
        says =
            t.says
            ∙ (ap (λ (o : Option Reply). lines_of_said (own_said c x o ++ grant_said x r.granted)) own_is
            ∙ (ap (λ (ds : List Said). lines_of_said ds) k.says ∙ lines_same ns i x name (answers_of c k.raw)));
        notes = t.notes ∙ ap (λ (u : List ℕ). cond terms.lines.noting u []) note;
        counted = record {
          names = refl;
          remaining = t.counted.remaining ∙ ap (λ (n : ℕ). old.remaining - n) count;
          short = t.counted.short;
        };
      }

  pub still_fixed : AreFixed ns new.named
  still_fixed =
      let k = of_lock in record {
        named = k.names ∙ f.named;
        fixed = k.fixed ∙ f.fixed;
        many = long_asked old.named new.named c x a r t.done ∙ f.many;
      }

-- ---- a client leaves all

all_append : {X : Type 0} (P : X → Type 0) (xs ys : List X) → AllByRecursion P xs → AllByRecursion P ys → AllByRecursion P (xs ++ ys)
all_append P [] ys p q = q
all_append P (x ∷ xs) ys p q = (p.0, all_append P xs ys p.1 q)

abbrev Low : ℕ → Left → Type 0
Low n l = l.lock < n

low_by : (i : ℕ) (o : Option HoldEnd) (g : Option Holder) → AllByRecursion (Low (suc i)) (left_by i o g)
low_by i None g = tt
low_by i (Some e) g = let lt : i < suc i = omega arith in (lt, tt)

low_at : (c i : ℕ) (o : Option LockView) → AllByRecursion (Low (suc i)) (left_at c i o)
low_at c i None = tt
low_at c i (Some v) = let t : Turn = turn [] (lock_of v) c Leave in low_by i (ended_in v.ring t.marks) t.lock.holder

higher : (n : ℕ) (ls : List Left) → AllByRecursion (Low n) ls → AllByRecursion (Low (suc n)) ls
higher n [] all = tt
higher n (l ∷ ls) all =
    let lt : l.lock < n = all.0 in
    let more : l.lock < suc n = omega (arith, lt) in
    (more, higher n ls all.1)

all_low : (c : ℕ) (vs : List LockView) (n : ℕ) → AllByRecursion (Low n) (left_of c vs n)
all_low c vs zero = tt
all_low c vs (suc n) = all_append (Low (suc n)) (left_of c vs n) (left_at c n (slice_get vs n)) (higher n (left_of c vs n) (all_low c vs n)) (low_at c n (slice_get vs n))

-- tokens are the numbers of grants
left_told : (ns : Names) (ls : List Left) → map (told_left (fixed_names ns)) ls ≡ ls
left_told ns [] = refl
left_told ns (l ∷ ls) =
    ap (λ (b : Bound). record l { granted = option_map (told_holder b) l.granted } ∷ map (told_left (fixed_names ns)) ls) (bound_is ns l.lock)
    ∙ (ap (λ (h : Option Holder). record l { granted = h } ∷ map (told_left (fixed_names ns)) ls) (holder_same (name_of ns l.lock) l.granted)
    ∙ ap (λ (x : List Left). l ∷ x) (left_told ns ls))

grant_line : (x : List ℕ) (g : Option Holder) (more : List Said) (ns : Names) (i : ℕ) → x ≡ name_of ns i → lines_of_said (grant_said x g ++ more) ≡ lines_about ns i (other_grant g) ++ lines_of_said more
grant_line x None more ns i e = refl
grant_line x (Some h) more ns i e =
    ap (λ (y : List ℕ). answer_line h.client y (answer.Granted h.token) ++ lines_of_said more) e
    ∙ ap (λ (u : List ℕ). u ++ lines_of_said more) (sym (append-nil (answer_line h.client (name_of ns i) (answer.Granted h.token))))

left_said : (ns : Names) (ls : List Left) → lines_of_said (said_left (fixed_names ns) ls) ≡ lines_of_left ns ls
left_said ns [] = refl
left_said ns (l ∷ ls) =
    grant_line (bound_or (slice_get (fixed_names ns) l.lock)).name l.granted (said_left (fixed_names ns) ls) ns l.lock (ap (λ (b : Bound). b.name) (bound_is ns l.lock))
    ∙ ap (λ (u : List ℕ). line_of_left ns l ++ u) (left_said ns ls)

none_freed : (n : ℕ) (l : Left) → l.lock < n → is_freed n l ≡ false
none_freed n l lt = ap (λ (q : Bool). not q) (low_stays l.lock n lt (nat_lt l.lock n) (is_some l.granted) refl)

left_noted : (n : ℕ) (vs : List LockView) (ls : List Left) → AllByRecursion (Low n) ls → notes_of_names_left n vs ls ≡ notes_of_left vs ls
left_noted n vs [] all = refl
left_noted n vs (l ∷ ls) all =
    ap (λ (q : Bool). (note_of_left vs l ++ note_of_free l.lock q) ++ notes_of_names_left n vs ls) (none_freed n l all.0)
    ∙ (ap (λ (u : List ℕ). u ++ notes_of_names_left n vs ls) (append-nil (note_of_left vs l)) ∙ ap (λ (u : List ℕ). note_of_left vs l ++ u) (left_noted n vs ls all.1))

left_named : (n : ℕ) (os : List (Option Bound)) (ls : List Left) → AllByRecursion (Low n) ls → names_left n os ls ≡ os
left_named n os [] all = refl
left_named n os (l ∷ ls) all =
    let same : name_left n os l ≡ os = ap (λ (q : Bool). if q then os else slice_set os l.lock None) (low_stays l.lock n all.0 (nat_lt l.lock n) (is_some l.granted) refl) in
    ap (λ (ps : List (Option Bound)). names_left n ps ls) same ∙ left_named n os ls all.1

leave_fixed : (s : Named) (c : ℕ) (os : List (Option Bound)) → (named_after s (leave_each c os)).fixed ≡ s.fixed
leave_fixed s c [] = refl
leave_fixed s c (None ∷ os) = leave_fixed s c os
leave_fixed s c (Some b ∷ os) = leave_fixed (step_named s (Of c b.name Leave)).named c os ∙ one (found b.name s.names)
  where
    one : (o : Option (ℕ × Bound)) → (at_name s c b.name Leave o).named.fixed ≡ s.fixed
    one None = refl
    one (Some p) = refl

module _ (ns : Names) (noting : Bool) (c : ℕ) (old new : NamingView) (said noted : List ℕ) (t : IsNameToldOfLeave noting c old said noted new) (f : AreFixed ns old.named) where
  abbrev raw : List Left
  raw = t.done.raw

  all : AllByRecursion (Low old.named.fixed) raw
  all =
      subst (λ (ls : List Left). AllByRecursion (Low old.named.fixed) ls) (sym t.done.locks.told)
      (subst (λ (n : ℕ). AllByRecursion (Low n) (left_of c old.named.locks (length old.named.locks))) (f.many ∙ sym f.fixed) (all_low c old.named.locks (length old.named.locks)))

  left_is : new.left ≡ raw
  left_is = t.done.told ∙ (ap (λ (os : List (Option Bound)). map (told_left os) raw) f.named ∙ left_told ns raw)

  pub told_of_leave : IsToldOfLeave noting c (by_place ns old) said noted (by_place ns new)
  told_of_leave = record {
    left = raw;
    done = t.done.locks;
    says =
        t.says
        ∙ (ap (λ (ls : List Left). lines_of_said (said_left old.named.names ls)) left_is
        ∙ (ap (λ (os : List (Option Bound)). lines_of_said (said_left os raw)) f.named ∙ left_said ns raw));
    notes =
        t.notes
        ∙ (ap (λ (ls : List Left). cond noting (notes_of_names_left old.named.fixed new.named.locks ls) []) left_is
        ∙ ap (λ (u : List ℕ). cond noting u []) (left_noted old.named.fixed new.named.locks raw all));
    counted = record {
      names = refl;
      remaining = t.counted.remaining ∙ ap (λ (ls : List Left). old.remaining - count_of_all new.named.locks ls) left_is;
      short = t.counted.short;
    };
  }

  left_many : length new.named.locks ≡ length old.named.locks
  left_many = views_long old.named.locks new.named.locks (locks_after (locks_of old.named.locks) (leaves c (length old.named.locks))) t.done.locks.locks (after_long (locks_of old.named.locks) (leaves c (length old.named.locks)))

  pub left_fixed : AreFixed ns new.named
  left_fixed = record {
    named = t.done.names ∙ (ap (λ (ls : List Left). names_left old.named.fixed old.named.names ls) left_is ∙ (left_named old.named.fixed old.named.names raw all ∙ f.named));
    fixed = ap (λ (s : Named). s.fixed) t.done.named ∙ (leave_fixed (named_of old.named) c old.named.names ∙ f.fixed);
    many = left_many ∙ f.many;
  }

-- ---- a line

module _ (ns : Names) (terms : NameTerms) (old new : NamingView) (line said noted : List ℕ) (none : terms.most ≡ 0) (f : AreFixed ns old.named) (few : old.named.top < top_limit) where
  abbrev Such : Type 0 → Type 0
  Such Answered = Answered × AreFixed ns new.named

  same_fixed : new ≡ old → AreFixed ns new.named
  same_fixed e = subst (λ (v : NamingView). AreFixed ns v.named) (sym e) f

  only : (text : List ℕ) → IsOnlySaid text old said noted new → Such (IsSaid text (by_place ns old) said noted (by_place ns new))
  only text t = (record { says = t.says; notes = t.notes; leaves = ap (λ (v : NamingView). by_place ns v) t.leaves }, same_fixed t.leaves)

  no_ring : free old.named.names ≡ None
  no_ring = ap (λ (os : List (Option Bound)). free os) f.named ∙ none_free ns

  place : (x : List ℕ) → lock_named ns x ≡ ring_of x old.named.names
  place x = place_is ns x ∙ ap (λ (os : List (Option Bound)). ring_of x os) (sym f.named)

  -- there is no pool
  pool : has_no_pool terms.most old.named ≡ true
  pool =
      let many : length old.named.locks ≡ old.named.fixed = f.many ∙ sym f.fixed in
      ap (λ (n : ℕ). n == 0 && nat_le (length old.named.locks) old.named.fixed) none
      ∙ le-leb (length old.named.locks) old.named.fixed (omega (arith, many))

  no_lock : (x : List ℕ) (a : Ask) → is_no_lock terms.most old.named x a ≡ not (is_some (found x old.named.names))
  no_lock x a =
      ap (λ (q : Bool). not (is_some (reached (named_of old.named) x a)) && q) pool
      ∙ (and_true (not (is_some (reached (named_of old.named) x a))) ∙ ap (λ (o : Option (ℕ × Bound)). not (is_some o)) (reached_is (named_of old.named) x a no_ring))
    where
      and_true : (q : Bool) → (q && true) ≡ q
      and_true true = refl
      and_true false = refl

  of_found : (c : ℕ) (x : List ℕ) (a : Ask) (o : Option (ℕ × Bound)) → found x old.named.names ≡ o → IsNameToldIf (not (is_some o)) terms c x a old said noted new →
      Such (IsToldOfNamed (option_map (λ (p : ℕ × Bound). p.0) o) terms.lines.strict terms.lines.noting c x a (by_place ns old) said noted (by_place ns new))
  of_found c x a None e t = only (answer_line c x (answer.Refused refusal.Lock)) t
  of_found c x a (Some (i, b)) e t =
      let at = found_at x old.named.names (i, b) e in
      let is = entry_is ns i b (subst (λ (os : List (Option Bound)). slice_get os i ≡ Some (Some b)) f.named at.entry) in
      let same : b ≡ plain x = is.1 ∙ ap (λ (y : List ℕ). plain y) (sym at.name) in
      let entry : slice_get old.named.names i ≡ Some (Some (plain x)) = at.entry ∙ ap (λ (z : Bound). Some (Some z)) same in
      let there : found x old.named.names ≡ Some (i, plain x) = e ∙ ap (λ (z : Bound). Some (i, z)) same in
      let name : name_of ns i ≡ x = ap (λ (o : Option (List ℕ)). unwrap_or o []) (is.0 ∙ ap (λ (y : List ℕ). Some y) (sym at.name)) in
      let lt : i < length ns = slice_get_within ns i b.name is.0 in
      let fixed : old.named.fixed ≡ length ns = f.fixed in
      let low : i < old.named.fixed = omega (arith, lt, fixed) in
      let reach : reached (named_of old.named) x a ≡ Some (i, plain x) = reached_is (named_of old.named) x a no_ring ∙ there in
      (told_of_lock ns terms c x a old new said noted t none f few i reach entry name low there, still_fixed ns terms c x a old new said noted t none f few i reach entry name low there)

  of_told : (c : ℕ) (o : Option (List ℕ × Ask)) → IsNameTold terms c o old said noted new → Such (IsTold terms.lines.strict terms.lines.noting c o (by_place ns old) said noted (by_place ns new))
  of_told c None t = (told_of_leave ns terms.lines.noting c old new said noted t f, left_fixed ns terms.lines.noting c old new said noted t f)
  of_told c (Some (x, a)) t =
      subst (λ (o : Option ℕ). Such (IsToldOfNamed o terms.lines.strict terms.lines.noting c x a (by_place ns old) said noted (by_place ns new))) (sym (place x))
      (of_found c x a (found x old.named.names) refl (subst (λ (q : Bool). IsNameToldIf q terms c x a old said noted new) (no_lock x a) t))

  of_if : (off : Bool) (c : ℕ) (ask : lines.Ask) → IsNameAnsweredIf off terms c ask old said noted new → Such (IsAnsweredIf off terms.lines c ask (by_place ns old) said noted (by_place ns new))
  of_if true c ask t = only _ t
  of_if false c ask t = of_told c (one_ask ask) t

  of_input : (i : Input) → IsNameInputAnswered terms i old said noted new → Such (IsInputAnswered terms.lines i (by_place ns old) said noted (by_place ns new))
  of_input (input.Asked c ask) t = of_if (is_off terms.lines.faults ask) c ask t
  of_input (input.Refused c why) t = only _ t
  of_input input.Nobody t = only [] t

pub fixed_names_are_locks : FixedNamesAreLocks
fixed_names_are_locks ns terms old new line said noted none f few a =
    let k = of_input ns terms old new line said noted none f few a.0 a.2 in
    ((a.0, a.1, k.0), k.1)
