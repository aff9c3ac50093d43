-- A name that is asked, as it is kept: what is done is the step of the machine.
use Rattle.std.proofs.Common.{◌≡◌, ℕ, zero, suc, ◌+◌, ◌-◌, ◌<◌, ◌≤◌, Bool, true, false, List, [], ◌∷◌, ◌++◌, length, map, Option, None, Some, ◌⊎◌, inl, inr, refl, sym, ◌∙◌, ap, subst, arith}
use Rattle.std.specs.Prelude.{slice_get, slice_set, not, ◌&&◌, ◌||◌, cond, nat_lt, is_some, option_map}
use Rattle.std.proofs.lemmas.Bool.{false≢true, ltb-true, ltb-false}
use Rattle.held_locks.specs.declared.answers.Holder.{Holder}
use Rattle.held_locks.specs.declared.answers.Answer.{Answer}
use Rattle.held_locks.specs.declared.answers.Answer.TheVariants as answer
use Rattle.held_locks.specs.declared.answers.Answers.{Answers}
use Rattle.held_locks.specs.declared.answers.Refusal.TheVariants as refusal
use Rattle.held_locks.specs.declared.asks.OneAsk.{OneAsk}
use Rattle.held_locks.specs.declared.asks.OneAsk.TheVariants as asks
use Rattle.held_locks.specs.Queues.{Lock, client_of, holder_of}
use Rattle.held_locks.specs.Locks.{Ask, Acquire, Try, Release, Cancel, Leave, Corrupt, Stats, Turn, turn}
use Rattle.held_locks.specs.Kept.{LockView, lock_of, locks_of, own_answer, other_grant, answers_of, IsDone, IsLack}
use Rattle.held_locks.specs.Asked.{asked, events_at, IsAnswerTo}
use Rattle.held_locks.proofs.Asking.{asked_long}
use Rattle.held_locks.proofs.Standing.{get_set_same}
use Rattle.lock_names.specs.declared.replies.Reply.{Reply}
use Rattle.lock_names.specs.declared.replies.Reply.TheVariants as reply
use Rattle.lock_names.specs.declared.replies.NameAnswers.{NameAnswers}
use Rattle.lock_names.specs.declared.replies.NameAsked.{NameAsked}
use Rattle.lock_names.specs.declared.table.Counts.{Counts}
use Rattle.lock_names.specs.Names.{Bound, Named, Of, NamedStep, of_ring, told_holder, as_told, said_of, found, free, grants_at, fresh, kept, stays, at_ring, given, at_none, at_name, step_named}
use Rattle.lock_names.specs.Promises.{IsRightBound, IsNamed}
use Rattle.name_bindings.specs.Bindings.{ring_of}
use Rattle.lock_names.specs.Kept.{NamedView, named_of, top_limit, IsKeptNamed, for_hold, may_pass, unused_answer, bound_by, IsReady, told_of, IsTold, reached_from, reached, at_free, own_said, grant_said, IsRecorded, noted_at, IsTaken, HasNoRoom, IsWanting, IsAsked, events_of, HasEvents}
use Rattle.name_bindings.proofs.Found.{own_name, some_same, none_some, not_some, OnlyAt, found_at, free_at}
use Rattle.lock_names.proofs.Fitting.{Fits, name_after, at_ring_is, fits_found, fits_free, lock_at, named_step}
use Rattle.name_bindings.proofs.Changed.{found_bound, found_forgot}
use Rattle.lock_names.proofs.Asking.{view_lock, lock_view, done_locks, done_answers, done_or_lack}

-- ---- bindings by their numbers

abbrev pub numbers_of : Bound → Counts
numbers_of b = record { before = b.before; floor = b.floor }

told_by : (b : Bound) (a : Answer) → as_told (bound_by (numbers_of b)) a ≡ as_told b a
told_by b (answer.Granted n) = refl
told_by b (answer.Waiting n) = refl
told_by b answer.Busy = refl
told_by b answer.Released = refl
told_by b answer.Cancelled = refl
told_by b (answer.Corrupted v) = refl
told_by b (answer.Stats s) = refl
told_by b (answer.Refused why) = refl

own_by : (b : Bound) (o : Option Answer) → option_map (λ (a : Answer). reply.Lock (as_told (bound_by (numbers_of b)) a)) o ≡ option_map (λ (a : Answer). reply.Lock (as_told b a)) o
own_by b None = refl
own_by b (Some a) = ap (λ (x : Answer). Some (reply.Lock x)) (told_by b a)

all_by : (i : ℕ) (b : Bound) (r : Answers) → told_of i (bound_by (numbers_of b)) r ≡ told_of i b r
all_by i b r = ap (λ (o : Option Reply). record { ring = Some i; fresh = false; freed = false; own = o; ended = r.ended; granted = option_map (told_holder b) r.granted }) (own_by b r.own)

ask_by : (b : Bound) (ask : Ask) → of_ring (bound_by (numbers_of b)) ask ≡ of_ring b ask
ask_by b (Acquire label) = refl
ask_by b (Try label) = refl
ask_by b (Release token) = refl
ask_by b Cancel = refl
ask_by b Leave = refl
ask_by b (Corrupt i v) = refl
ask_by b Stats = refl

pub told_as : (vs ws : List LockView) (low high c i : ℕ) (b : Bound) (k : Counts) (ask : Ask) (r : NameAnswers) → k ≡ numbers_of b → IsTold vs ws low high c i (bound_by k) ask r → IsTold vs ws low high c i b ask r
told_as vs ws low high c i b k ask r e t =
    let u : IsTold vs ws low high c i (bound_by (numbers_of b)) ask r = subst (λ (n : Counts). IsTold vs ws low high c i (bound_by n) ask r) e t in
    record {
      raw = u.raw;
      answer = subst (λ (a : Ask). IsAnswerTo vs ws c i a u.raw) (ask_by b ask) u.answer;
      told = u.told ∙ all_by i b u.raw;
      top = u.top;
      tokens = u.tokens;
    }

pub ready_fits : (v : NamedView) (i : ℕ) (b : Bound) (k : Counts) (ask : Ask) → IsKeptNamed v → Fits (named_of v) i b → k ≡ numbers_of b → (may_pass ask ≡ true → v.top < top_limit) → IsReady v.locks v.top i (bound_by k) ask
ready_fits v i b k ask n f e limit =
    let w = lock_view v.locks i f.lock f.there in
    subst (λ (m : Counts). IsReady v.locks v.top i (bound_by m) ask) (sym e) (record {
      right = n.named.right;
      lock = w.0;
      there = w.1;
      bound = subst (λ (l : Lock). IsRightBound v.top l (bound_by (numbers_of b))) (sym w.2) (record { before = f.right.before; token = f.right.token; held = f.right.held });
      tokens = n.tokens;
      limit = limit;
    })

-- ---- which ring is reached

pub record Reaches (s : Named) (x : List ℕ) (ask : Ask) (i : ℕ) (b : Bound) : Type 0 where
  pub is : reached s x ask ≡ Some (i, b)
  pub name : b.name ≡ x
  pub fits : Fits s i b
  pub step : (c : ℕ) → step_named s (Of c x ask) ≡ at_ring s c i b ask
  pub which : (found x s.names ≡ Some (i, b)) ⊎ ((found x s.names ≡ None) × (slice_get s.names i ≡ Some None) × (b ≡ fresh s x i))

pub reaches_found : (s : Named) (x : List ℕ) (ask : Ask) (i : ℕ) (b : Bound) → IsNamed s → found x s.names ≡ Some (i, b) → Reaches s x ask i b
reaches_found s x ask i b n e = record {
  is = ap (λ (o : Option (ℕ × Bound)). reached_from s x ask o) e;
  name = sym (found_at x s.names (i, b) e).name;
  fits = fits_found s x (i, b) n e;
  step = λ c. ap (λ (o : Option (ℕ × Bound)). at_name s c x ask o) e;
  which = inl e;
}

given_hold : (s : Named) (c : ℕ) (x : List ℕ) (ask : Ask) → for_hold ask ≡ true → at_none s c x ask ≡ given s c x ask (free s.names)
given_hold s c x (Acquire label) h = refl
given_hold s c x (Try label) h = refl
given_hold s c x (Release token) h = absurd (false≢true h)
given_hold s c x Cancel h = absurd (false≢true h)
given_hold s c x Leave h = absurd (false≢true h)
given_hold s c x (Corrupt i v) h = absurd (false≢true h)
given_hold s c x Stats h = absurd (false≢true h)

pub reaches_free : (s : Named) (x : List ℕ) (ask : Ask) (i : ℕ) → IsNamed s → found x s.names ≡ None → for_hold ask ≡ true → free s.names ≡ Some i → Reaches s x ask i (fresh s x i)
reaches_free s x ask i n e h f = record {
  is = ap (λ (o : Option (ℕ × Bound)). reached_from s x ask o) e ∙ ap (λ (q : Bool). at_free s x q (free s.names)) h ∙ ap (λ (o : Option ℕ). at_free s x true o) f;
  name = refl;
  fits = fits_free s x i n e f;
  step = λ c. ap (λ (o : Option (ℕ × Bound)). at_name s c x ask o) e ∙ given_hold s c x ask h ∙ ap (λ (o : Option ℕ). given s c x ask o) f;
  which = inr (e, free_at s.names i f, refl);
}

-- ---- the state after it

pub same_named : (ls ms : List Lock) (os ps : List (Option Bound)) (f g t u : ℕ) → ls ≡ ms → os ≡ ps → f ≡ g → t ≡ u →
    ◌≡◌ {A = Named} (record { locks = ls; names = os; fixed = f; top = t }) (record { locks = ms; names = ps; fixed = g; top = u })
same_named ls ms os ps f g t u a b c d =
    ap (λ (x : List Lock). record { locks = x; names = os; fixed = f; top = t }) a
    ∙ ap (λ (x : List (Option Bound)). record { locks = ms; names = x; fixed = f; top = t }) b
    ∙ ap (λ (x : ℕ). record { locks = ms; names = ps; fixed = x; top = t }) c
    ∙ ap (λ (x : ℕ). record { locks = ms; names = ps; fixed = g; top = x }) d

pub set_same : {X : Type 0} (xs : List X) (i : ℕ) (x : X) → slice_get xs i ≡ Some x → slice_set xs i x ≡ xs
set_same [] i x e = refl
set_same {X = X} (y ∷ xs) zero x e = ap (λ (z : X). z ∷ xs) (sym (some_same y x e))
set_same {X = X} (y ∷ xs) (suc i) x e = ap (λ (zs : List X). y ∷ zs) (set_same xs i x e)

pub set_twice : {X : Type 0} (xs : List X) (i : ℕ) (x y : X) → slice_set (slice_set xs i x) i y ≡ slice_set xs i y
set_twice [] i x y = refl
set_twice (z ∷ xs) zero x y = refl
set_twice {X = X} (z ∷ xs) (suc i) x y = ap (λ (zs : List X). z ∷ zs) (set_twice xs i x y)

-- the ring was asked, its grants were counted, and its name stays or is forgotten
pub record IsSettled (old new : NamedView) (i : ℕ) (b : Bound) : Type 0 where
  pub names : new.names ≡ slice_set old.names i (kept (stays old.fixed i (locks_of new.locks)) b)
  pub fixed : new.fixed ≡ old.fixed

named_done : (old new : NamedView) (c i : ℕ) (b : Bound) (ask : Ask) (r : Answers) (f : Fits (named_of old) i b) → IsDone old.locks new.locks c i (of_ring b ask) r → IsSettled old new i b →
    new.top ≡ old.top + (grants_at (slice_get (locks_of new.locks) i) - grants_at (slice_get (locks_of old.locks) i)) → named_of new ≡ (at_ring (named_of old) c i b ask).named
named_done old new c i b ask r f d s top =
    let ls : List Lock = locks_of old.locks in
    let l : Lock = f.lock in
    let t : Turn = turn ls l c (of_ring b ask) in
    let all : locks_of new.locks ≡ slice_set ls i t.lock = done_locks old.locks new.locks c i (of_ring b ask) r l d f.there in
    let at : slice_get (locks_of new.locks) i ≡ Some t.lock = ap (λ (x : List Lock). slice_get x i) all ∙ get_set_same ls i t.lock l f.there in
    let names : new.names ≡ slice_set old.names i (name_after old.fixed i b t) =
    s.names ∙ ap (λ (o : Option Lock). slice_set old.names i (kept (nat_lt i old.fixed || is_some (holder_of o)) b)) at in
    let count : new.top ≡ old.top + (t.lock.ring.grants - l.ring.grants) =
    top ∙ ap (λ (o : Option Lock). old.top + (grants_at o - grants_at (slice_get ls i))) at ∙ ap (λ (o : Option Lock). old.top + (t.lock.ring.grants - grants_at o)) f.there in
    same_named (locks_of new.locks) (slice_set ls i t.lock) new.names (slice_set old.names i (name_after old.fixed i b t)) new.fixed old.fixed new.top (old.top + (t.lock.ring.grants - l.ring.grants)) all names s.fixed count
    ∙ sym (ap (λ (x : NamedStep). x.named) (at_ring_is (named_of old) c i b ask l f.there))

-- ---- what is said

said_all : (b : Bound) (c : ℕ) (o : Option Answer) (g : Option Holder) →
    own_said c b.name (option_map (λ (a : Answer). reply.Lock (as_told b a)) o) ++ grant_said b.name (option_map (told_holder b) g) ≡ map (said_of b) (own_answer c o ++ other_grant g)
said_all b c None None = refl
said_all b c None (Some h) = refl
said_all b c (Some a) None = refl
said_all b c (Some a) (Some h) = refl

said_done : (old new : NamedView) (c i : ℕ) (b : Bound) (ask : Ask) (r : Answers) (f : Fits (named_of old) i b) → IsDone old.locks new.locks c i (of_ring b ask) r →
    map (said_of b) (answers_of c r) ≡ (at_ring (named_of old) c i b ask).said
said_done old new c i b ask r f d =
    ap (λ (x : List (ℕ × Answer)). map (said_of b) x) (done_answers old.locks new.locks c i (of_ring b ask) r f.lock d f.there)
    ∙ sym (ap (λ (x : NamedStep). x.said) (at_ring_is (named_of old) c i b ask f.lock f.there))

-- ---- the answers, whether the name is new, and whether it is freed

abbrev pub with_notes : Bool → Bool → NameAnswers → NameAnswers
with_notes q d r = record { ring = r.ring; fresh = q; freed = d; own = r.own; ended = r.ended; granted = r.granted }

abbrev pub is_new : List ℕ → List (Option Bound) → List (Option Bound) → Bool
is_new x os ps = not (is_some (found x os)) && is_some (found x ps)

abbrev pub is_gone : List ℕ → List (Option Bound) → List (Option Bound) → Bool
is_gone x os ps = is_some (found x os) && not (is_some (found x ps))

not_both : (q : Bool) → (not q && q) ≡ false
not_both true = refl
not_both false = refl

both_not : (q : Bool) → (q && not q) ≡ false
both_not true = refl
both_not false = refl

abbrev in_ring : Option (ℕ × Bound) → Option ℕ
in_ring o = option_map (λ (p : ℕ × Bound). p.0) o

pub some_mapped : {X Y : Type 0} (f : X → Y) (o : Option X) → is_some (option_map f o) ≡ is_some o
some_mapped f None = refl
some_mapped f (Some x) = refl

ring_some : (o : Option (ℕ × Bound)) → is_some (in_ring o) ≡ is_some o
ring_some o = some_mapped (λ (p : ℕ × Bound). p.0) o

-- the ring of the name keeps it, or not
found_kept : (x : List ℕ) (os : List (Option Bound)) (i : ℕ) (b : Bound) (q : Bool) → found x os ≡ Some (i, b) → OnlyAt os i b → is_some (found x (slice_set os i (kept q b))) ≡ q
found_kept x os i b true e only =
    ap (λ (ps : List (Option Bound)). is_some (found x ps)) (set_same os i (Some b) (found_at x os (i, b) e).entry) ∙ ap (λ (o : Option (ℕ × Bound)). is_some o) e
found_kept x os i b false e only =
    let f = found_at x os (i, b) e in
    sym (ring_some (found x (slice_set os i None)))
    ∙ ap (λ (o : Option ℕ). is_some o) (found_forgot os i b x f.entry only)
    ∙ ap (λ (z : Bool). is_some (cond z None (in_ring (found x os)))) (own_name b.name x (sym f.name))

-- a free ring gets the name, or not
found_given : (x : List ℕ) (os : List (Option Bound)) (i : ℕ) (b : Bound) (q : Bool) → found x os ≡ None → slice_get os i ≡ Some None → b.name ≡ x → is_some (found x (slice_set os i (kept q b))) ≡ q
found_given x os i b true e at name =
    let none : found b.name os ≡ None = ap (λ (y : List ℕ). found y os) name ∙ e in
    sym (ring_some (found x (slice_set os i (Some b))))
    ∙ ap (λ (o : Option ℕ). is_some o) (found_bound os i b x at none)
    ∙ ap (λ (z : Bool). is_some (cond z (Some i) (in_ring (found x os)))) (own_name b.name x name)
found_given x os i b false e at name =
    ap (λ (ps : List (Option Bound)). is_some (found x ps)) (set_same os i None at) ∙ ap (λ (o : Option (ℕ × Bound)). is_some o) e

-- so a journal with what is new and what is freed has all names
noted_bound : (s : Named) (x : List ℕ) (i : ℕ) (b : Bound) (q d z : Bool) (ps : List (Option Bound)) → slice_get s.names i ≡ Some (Some b) → ps ≡ slice_set s.names i (kept z b) → q ≡ false → d ≡ not z →
    ps ≡ noted_at s x (Some i) q d
noted_bound s x i b q d true ps at e f g = e ∙ set_same s.names i (Some b) at ∙ ap (λ (y : Bool). noted_at s x (Some i) y false) (sym f) ∙ ap (λ (y : Bool). noted_at s x (Some i) q y) (sym g)
noted_bound s x i b q d false ps at e f g = e ∙ ap (λ (y : Bool). noted_at s x (Some i) y true) (sym f) ∙ ap (λ (y : Bool). noted_at s x (Some i) q y) (sym g)

noted_free : (s : Named) (x : List ℕ) (i : ℕ) (b : Bound) (q d z : Bool) (ps : List (Option Bound)) → slice_get s.names i ≡ Some None → b ≡ fresh s x i → ps ≡ slice_set s.names i (kept z b) → q ≡ z → d ≡ false →
    ps ≡ noted_at s x (Some i) q d
noted_free s x i b q d true ps at new e f g =
    e ∙ ap (λ (y : Bound). slice_set s.names i (Some y)) new ∙ ap (λ (y : Bool). noted_at s x (Some i) y false) (sym f) ∙ ap (λ (y : Bool). noted_at s x (Some i) q y) (sym g)
noted_free s x i b q d false ps at new e f g = e ∙ set_same s.names i None at ∙ ap (λ (y : Bool). noted_at s x (Some i) y false) (sym f) ∙ ap (λ (y : Bool). noted_at s x (Some i) q y) (sym g)

noted_is : (s : Named) (x : List ℕ) (ask : Ask) (i : ℕ) (b : Bound) (q d z : Bool) (ps : List (Option Bound)) → IsNamed s → Reaches s x ask i b → ps ≡ slice_set s.names i (kept z b) → q ≡ is_new x s.names ps →
    d ≡ is_gone x s.names ps → ps ≡ noted_at s x (Some i) q d
noted_is s x ask i b q d z ps n re e f g = elim re.which [
  | inl k ↦
      let at = (found_at x s.names (i, b) k).entry in
      let there : is_some (found x ps) ≡ z = ap (λ (os : List (Option Bound)). is_some (found x os)) e ∙ found_kept x s.names i b z k (λ j d h same. n.once j i d b h at same) in
      noted_bound s x i b q d z ps at e
      (f ∙ ap (λ (o : Option (ℕ × Bound)). not (is_some o) && is_some (found x ps)) k)
      (g ∙ ap (λ (o : Option (ℕ × Bound)). is_some o && not (is_some (found x ps))) k ∙ ap (λ (y : Bool). not y) there)
  | inr k ↦
      let there : is_some (found x ps) ≡ z = ap (λ (os : List (Option Bound)). is_some (found x os)) e ∙ found_given x s.names i b z k.0 k.1 re.name in
      noted_free s x i b q d z ps k.1 k.2 e
      (f ∙ ap (λ (o : Option (ℕ × Bound)). not (is_some o) && is_some (found x ps)) k.0 ∙ there)
      (g ∙ ap (λ (o : Option (ℕ × Bound)). is_some o && not (is_some (found x ps))) k.0)
]

told_ring : (old new : NamedView) (c : ℕ) (x : List ℕ) (ask : Ask) (i : ℕ) (b : Bound) (r : NameAnswers) → Reaches (named_of old) x ask i b → IsTold old.locks new.locks old.top new.top c i b ask r →
    r.ring ≡ option_map (λ (p : ℕ × Bound). p.0) (reached (named_of old) x ask)
told_ring old new c x ask i b r re t = ap (λ (z : NameAnswers). z.ring) t.told ∙ sym (ap (λ (o : Option (ℕ × Bound)). option_map (λ (p : ℕ × Bound). p.0) o) re.is)

taken : (old new : NamedView) (c : ℕ) (x : List ℕ) (ask : Ask) (i : ℕ) (b : Bound) (r : NameAnswers) (q d : Bool) → IsNamed (named_of old) → Reaches (named_of old) x ask i b → (t : IsTold old.locks new.locks old.top new.top c i b ask r) →
    IsDone old.locks new.locks c i (of_ring b ask) t.raw → IsSettled old new i b → q ≡ is_new x old.names new.names → d ≡ is_gone x old.names new.names → IsTaken old new c x ask (with_notes q d r)
taken old new c x ask i b r q d n re t done s e g = record {
  named = named_done old new c i b ask t.raw re.fits done s t.top ∙ sym (ap (λ (z : NamedStep). z.named) (re.step c));
  said =
      ap (λ (z : NameAnswers). own_said c x z.own ++ grant_said x z.granted) t.told
      ∙ subst (λ (n : List ℕ). own_said c n (option_map (λ (a : Answer). reply.Lock (as_told b a)) t.raw.own) ++ grant_said n (option_map (told_holder b) t.raw.granted) ≡ map (said_of b) (answers_of c t.raw)) re.name
      (said_all b c t.raw.own t.raw.granted)
      ∙ said_done old new c i b ask t.raw re.fits done
      ∙ sym (ap (λ (z : NamedStep). z.said) (re.step c));
  recorded = subst (λ (o : Option (ℕ × Bound)). IsRecorded old.locks new.locks c ask (with_notes q d r) o) (sym re.is) (t.raw, done, ap (λ (z : NameAnswers). z.ended) t.told);
  fresh = e;
  freed = g;
  names =
      noted_is (named_of old) x ask i b q d (stays old.fixed i (locks_of new.locks)) new.names n re s.names e g
      ∙ ap (λ (o : Option ℕ). noted_at (named_of old) x o q d) (sym (ap (λ (z : NameAnswers). z.ring) t.told));
}

-- ---- nothing has changed

client_some : (o : Option Holder) → is_some o ≡ true → is_some (client_of o) ≡ true
client_some None e = e
client_some (Some h) e = refl

pub stays_held : (fixed i : ℕ) (l : Lock) → (fixed ≤ i → is_some l.holder ≡ true) → (low : Bool) → nat_lt i fixed ≡ low → (low || is_some (client_of l.holder)) ≡ true
stays_held fixed i l h true e = refl
stays_held fixed i l h false e = client_some l.holder (h (ltb-false i fixed e))

goes_free : (fixed i : ℕ) (l : Lock) → fixed ≤ i → l.holder ≡ None → (low : Bool) → nat_lt i fixed ≡ low → (low || is_some (client_of l.holder)) ≡ false
goes_free fixed i l le h true e = let lt : i < fixed = ltb-true i fixed e in absurd (omega (arith, le))
goes_free fixed i l le h false e = ap (λ (o : Option Holder). is_some (client_of o)) h

names_same : (v : NamedView) (i : ℕ) (b : Bound) → IsNamed (named_of v) → Fits (named_of v) i b → slice_set v.names i (kept (stays v.fixed i (locks_of v.locks)) b) ≡ v.names
names_same v i b n f =
    let l : Lock = f.lock in
    let here : stays v.fixed i (locks_of v.locks) ≡ (nat_lt i v.fixed || is_some (client_of l.holder)) = ap (λ (o : Option Lock). nat_lt i v.fixed || is_some (holder_of o)) f.there in
    elim f.which [
      | inl e ↦
          let entry : slice_get v.names i ≡ Some (Some b) = f.entry ∙ ap (λ (o : Option Bound). Some o) e in
          let q = stays_held v.fixed i l (n.each i l (Some b) f.there entry).1 (nat_lt i v.fixed) refl in
          ap (λ (z : Bool). slice_set v.names i (kept z b)) (here ∙ q) ∙ set_same v.names i (Some b) entry
      | inr e ↦
          let entry : slice_get v.names i ≡ Some None = f.entry ∙ ap (λ (o : Option Bound). Some o) e.0 in
          let w = n.each i l None f.there entry in
          let q = goes_free v.fixed i l w.0 w.1 (nat_lt i v.fixed) refl in
          ap (λ (z : Bool). slice_set v.names i (kept z b)) (here ∙ q) ∙ set_same v.names i None entry
    ]

same_view : (ls ms : List LockView) (os ps : List (Option Bound)) (f g t u : ℕ) → ls ≡ ms → os ≡ ps → f ≡ g → t ≡ u →
    ◌≡◌ {A = NamedView} (record { locks = ls; names = os; fixed = f; top = t }) (record { locks = ms; names = ps; fixed = g; top = u })
same_view ls ms os ps f g t u a b c d =
    ap (λ (x : List LockView). record { locks = x; names = os; fixed = f; top = t }) a
    ∙ ap (λ (x : List (Option Bound)). record { locks = ms; names = x; fixed = f; top = t }) b
    ∙ ap (λ (x : ℕ). record { locks = ms; names = ps; fixed = x; top = t }) c
    ∙ ap (λ (x : ℕ). record { locks = ms; names = ps; fixed = g; top = x }) d

no_more : (low x : ℕ) → low + (x - x) ≡ low
no_more low x = omega arith

view_same : (old new : NamedView) (i : ℕ) (b : Bound) → IsNamed (named_of old) → Fits (named_of old) i b → new.locks ≡ old.locks → IsSettled old new i b →
    new.top ≡ old.top + (grants_at (slice_get (locks_of new.locks) i) - grants_at (slice_get (locks_of old.locks) i)) → new ≡ old
view_same old new i b n f e s top =
    same_view new.locks old.locks new.names old.names new.fixed old.fixed new.top old.top e
    (s.names ∙ ap (λ (x : List LockView). slice_set old.names i (kept (stays old.fixed i (locks_of x)) b)) e ∙ names_same old i b n f) s.fixed
    (top ∙ ap (λ (x : List LockView). old.top + (grants_at (slice_get (locks_of x) i) - grants_at (slice_get (locks_of old.locks) i))) e ∙ no_more old.top (grants_at (slice_get (locks_of old.locks) i)))

want_why : (old new : NamedView) (x : List ℕ) (ask : Ask) (i : ℕ) (b : Bound) (r : NameAnswers) (raw : Answers) → Reaches (named_of old) x ask i b → r.own ≡ option_map (λ (a : Answer). reply.Lock (as_told b a)) raw.own →
    IsLack old.locks new.locks i (of_ring b ask) raw →
    ((r.own ≡ Some (reply.Lock (answer.Refused refusal.Full))) × HasNoRoom old ask (reached (named_of old) x ask)) ⊎ (r.own ≡ Some (reply.Lock (answer.Refused refusal.Memory)))
want_why old new x ask i b r raw re own w = elim w.why [
  | inl p ↦ inl (
    own ∙ ap (λ (o : Option Answer). option_map (λ (a : Answer). reply.Lock (as_told b a)) o) p.0,
    subst (λ (o : Option (ℕ × Bound)). HasNoRoom old ask o) (sym re.is) (inr p.1),
  )
  | inr p ↦ inr (own ∙ ap (λ (o : Option Answer). option_map (λ (a : Answer). reply.Lock (as_told b a)) o) p)
]

wanting : (old new : NamedView) (c : ℕ) (x : List ℕ) (ask : Ask) (i : ℕ) (b : Bound) (r : NameAnswers) (q d : Bool) → Reaches (named_of old) x ask i b → (t : IsTold old.locks new.locks old.top new.top c i b ask r) →
    may_pass ask ≡ true → IsLack old.locks new.locks i (of_ring b ask) t.raw → new ≡ old → q ≡ is_new x old.names new.names → d ≡ is_gone x old.names new.names → IsWanting old new x ask (with_notes q d r)
wanting old new c x ask i b r q d re t may w same e g = record {
  asks = may;
  why = want_why old new x ask i b r t.raw re (ap (λ (z : NameAnswers). z.own) t.told) w;
  none = (
    ap (λ (z : NameAnswers). z.ended) t.told ∙ w.none.0,
    ap (λ (z : NameAnswers). z.granted) t.told ∙ ap (λ (h : Option Holder). option_map (told_holder b) h) w.none.1,
    e ∙ ap (λ (v : NamedView). is_new x old.names v.names) same ∙ not_both (is_some (found x old.names)),
  );
  stays = g ∙ ap (λ (v : NamedView). is_gone x old.names v.names) same ∙ both_not (is_some (found x old.names));
  same = same;
}

-- ---- a ring that was asked

pub asked_ring : (old new : NamedView) (c : ℕ) (x : List ℕ) (ask : Ask) (i : ℕ) (b : Bound) (r : NameAnswers) (q d : Bool) → IsKeptNamed old → Reaches (named_of old) x ask i b →
    IsTold old.locks new.locks old.top new.top c i b ask r → IsSettled old new i b → q ≡ is_new x old.names new.names → d ≡ is_gone x old.names new.names → IsAsked old new c x ask (with_notes q d r)
asked_ring old new c x ask i b r q d n re t s e g = record {
  ring = told_ring old new c x ask i b r re t;
  answer = elim (done_or_lack old.locks new.locks c i b ask t.raw t.answer) [
    | inl done ↦ inl (taken old new c x ask i b r q d n.named re t done s e g)
    | inr w ↦ inr (wanting old new c x ask i b r q d re t w.0 w.1 (view_same old new i b n.named re.fits w.1.same s t.top) e g)
  ];
}

pub asked_kept : (old new : NamedView) (c : ℕ) (x : List ℕ) (ask : Ask) (i : ℕ) (b : Bound) (r : NameAnswers) → IsKeptNamed old → Reaches (named_of old) x ask i b →
    IsTold old.locks new.locks old.top new.top c i b ask r → IsSettled old new i b → IsKeptNamed new
asked_kept old new c x ask i b r n re t s = record {
  named = elim (done_or_lack old.locks new.locks c i b ask t.raw t.answer) [
    | inl d ↦ subst (λ (z : Named). IsNamed z) (sym (named_done old new c i b ask t.raw re.fits d s t.top ∙ sym (ap (λ (z : NamedStep). z.named) (re.step c)))) (named_step (named_of old) (Of c x ask) n.named tt)
    | inr w ↦ subst (λ (v : NamedView). IsNamed (named_of v)) (sym (view_same old new i b n.named re.fits w.1.same s t.top)) n.named
  ];
  places =
      let many : length new.locks ≡ length old.locks = asked_long old.locks new.locks c i (of_ring b ask) t.raw t.answer in
      let same : new.fixed ≡ old.fixed = s.fixed in
      let le : old.fixed ≤ length old.locks = n.places in
      omega arith;
  tokens = t.tokens;
}

-- ---- a name stays or is forgotten

pub settle_free : (os : List (Option Bound)) (vs : List LockView) (fixed i : ℕ) (b : Bound) (v : LockView) → slice_get vs i ≡ Some v → fixed ≤ i → is_some v.holder ≡ false →
    slice_set os i None ≡ slice_set os i (kept (stays fixed i (locks_of vs)) b)
settle_free os vs fixed i b v at le h =
    let q : stays fixed i (locks_of vs) ≡ false =
    ap (λ (o : Option Lock). nat_lt i fixed || is_some (holder_of o)) (view_lock vs i v at) ∙ goes_free fixed i (lock_of v) le (not_some v.holder h) (nat_lt i fixed) refl in
    sym (ap (λ (z : Bool). slice_set os i (kept z b)) q)

pub settle_kept : (os : List (Option Bound)) (vs : List LockView) (fixed i : ℕ) (b : Bound) (v : LockView) → slice_get os i ≡ Some (Some b) → slice_get vs i ≡ Some v → (fixed ≤ i → is_some v.holder ≡ true) →
    os ≡ slice_set os i (kept (stays fixed i (locks_of vs)) b)
settle_kept os vs fixed i b v entry at h =
    let q : stays fixed i (locks_of vs) ≡ true = ap (λ (o : Option Lock). nat_lt i fixed || is_some (holder_of o)) (view_lock vs i v at) ∙ stays_held fixed i (lock_of v) h (nat_lt i fixed) refl in
    sym (ap (λ (z : Bool). slice_set os i (kept z b)) q ∙ set_same os i (Some b) entry)

-- whether it is forgotten
pub gone_free : (vs : List LockView) (fixed i : ℕ) (v : LockView) → slice_get vs i ≡ Some v → fixed ≤ i → is_some v.holder ≡ false → true ≡ not (stays fixed i (locks_of vs))
gone_free vs fixed i v at le h =
    let q : stays fixed i (locks_of vs) ≡ false =
    ap (λ (o : Option Lock). nat_lt i fixed || is_some (holder_of o)) (view_lock vs i v at) ∙ goes_free fixed i (lock_of v) le (not_some v.holder h) (nat_lt i fixed) refl in
    sym (ap (λ (z : Bool). not z) q)

pub gone_kept : (vs : List LockView) (fixed i : ℕ) (v : LockView) → slice_get vs i ≡ Some v → (fixed ≤ i → is_some v.holder ≡ true) → false ≡ not (stays fixed i (locks_of vs))
gone_kept vs fixed i v at h =
    let q : stays fixed i (locks_of vs) ≡ true = ap (λ (o : Option Lock). nat_lt i fixed || is_some (holder_of o)) (view_lock vs i v at) ∙ stays_held fixed i (lock_of v) h (nat_lt i fixed) refl in
    sym (ap (λ (z : Bool). not z) q)

-- ---- a name that a ring has

-- an ask of a ring says of nothing that it is new or freed
abbrev is_fresh : NameAnswers → Bool
is_fresh r = r.fresh

abbrev is_freed : NameAnswers → Bool
is_freed r = r.freed

pub asked_bound : (old new : NamedView) (c : ℕ) (x : List ℕ) (ask : Ask) (i : ℕ) (b : Bound) (r : NameAnswers) (d : Bool) → IsKeptNamed old → found x old.names ≡ Some (i, b) →
    IsTold old.locks new.locks old.top new.top c i b ask r → IsSettled old new i b → d ≡ not (stays old.fixed i (locks_of new.locks)) → IsAsked old new c x ask (with_notes r.fresh d r)
asked_bound old new c x ask i b r d n e t s g =
    let re : Reaches (named_of old) x ask i b = reaches_found (named_of old) x ask i b n.named e in
    let at = (found_at x old.names (i, b) e).entry in
    let q : r.fresh ≡ is_new x old.names new.names = ap is_fresh t.told ∙ sym (ap (λ (o : Option (ℕ × Bound)). not (is_some o) && is_some (found x new.names)) e) in
    let there : is_some (found x new.names) ≡ stays old.fixed i (locks_of new.locks) =
    ap (λ (os : List (Option Bound)). is_some (found x os)) s.names ∙ found_kept x old.names i b (stays old.fixed i (locks_of new.locks)) e (λ j d h same. n.named.once j i d b h at same) in
    asked_ring old new c x ask i b r r.fresh d n re t s q
    (g ∙ ap (λ (z : Bool). not z) (sym there) ∙ sym (ap (λ (o : Option (ℕ × Bound)). is_some o && not (is_some (found x new.names))) e))

-- ---- a name that none has

pub fresh_is : (v : NamedView) (x : List ℕ) (i g : ℕ) (w : LockView) → slice_get v.locks i ≡ Some w → g ≡ (lock_of w).ring.grants → fresh (named_of v) x i ≡ record { name = x; before = g; floor = v.top }
fresh_is v x i g w at e = ap (λ (n : ℕ). record { name = x; before = n; floor = v.top }) (ap (λ (o : Option Lock). grants_at o) (view_lock v.locks i w at) ∙ sym e)

pub reaches_bound : (v : NamedView) (x : List ℕ) (ask : Ask) (i g : ℕ) (w : LockView) → IsNamed (named_of v) → found x v.names ≡ None → for_hold ask ≡ true → free v.names ≡ Some i → slice_get v.locks i ≡ Some w →
    g ≡ (lock_of w).ring.grants → Reaches (named_of v) x ask i (record { name = x; before = g; floor = v.top })
reaches_bound v x ask i g w n e h f at same = subst (λ (b : Bound). Reaches (named_of v) x ask i b) (fresh_is v x i g w at same) (reaches_free (named_of v) x ask i n e h f)

pub hold_or_told : (ask : OneAsk) → unused_answer (asked ask) ≡ None → for_hold (asked ask) ≡ true
hold_or_told (asks.Acquire label) e = refl
hold_or_told (asks.Try label) e = refl
hold_or_told (asks.Release token) e = absurd (none_some (answer.Refused refusal.Holder) (sym e))
hold_or_told asks.Cancel e = absurd (none_some (answer.Refused refusal.Waiter) (sym e))
hold_or_told (asks.Corrupt i v) e = absurd (none_some (answer.Refused refusal.Lock) (sym e))
hold_or_told asks.Stats e = absurd (none_some (answer.Stats (record { machines = 0; waiters = 0; passes = 0; holder = None })) (sym e))

pub told_unfreed : (old new : NamedView) (c : ℕ) (x : List ℕ) (ask : Ask) (i : ℕ) (b : Bound) (r : NameAnswers) → IsTold old.locks new.locks old.top new.top c i b ask r → found x old.names ≡ None →
    r.freed ≡ is_gone x old.names new.names
told_unfreed old new c x ask i b r t e = ap is_freed t.told ∙ sym (ap (λ (o : Option (ℕ × Bound)). is_some o && not (is_some (found x new.names))) e)

not_not : (q : Bool) → not (not q) ≡ q
not_not true = refl
not_not false = refl

-- the name is new, if its ring keeps it
pub new_settled : (x : List ℕ) (os ps : List (Option Bound)) (i : ℕ) (b : Bound) (z freed : Bool) → found x os ≡ None → slice_get os i ≡ Some None → b.name ≡ x → ps ≡ slice_set os i (kept z b) → freed ≡ not z → not freed ≡ is_new x os ps
new_settled x os ps i b z freed none at name e f =
    ap (λ (q : Bool). not q) f
    ∙ not_not z
    ∙ sym (found_given x os i b z none at name)
    ∙ sym (ap (λ (qs : List (Option Bound)). is_some (found x qs)) e)
    ∙ sym (ap (λ (o : Option (ℕ × Bound)). not (is_some o) && is_some (found x ps)) none)

pub settled_bound : (os now later : List (Option Bound)) (i : ℕ) (b : Bound) (o : Option Bound) → now ≡ slice_set os i (Some b) → later ≡ slice_set now i o → later ≡ slice_set os i o
settled_bound os now later i b o e f = f ∙ ap (λ (x : List (Option Bound)). slice_set x i o) e ∙ set_twice os i (Some b) o

-- ---- the ring of a free name

pub record IsFree (v : NamedView) (x : List ℕ) (ask : Ask) (i : ℕ) : Type 0 where
  pub entry : slice_get v.names i ≡ Some None
  pub lock : LockView
  pub there : slice_get v.locks i ≡ Some lock
  pub reach : Reaches (named_of v) x ask i (fresh (named_of v) x i)
  pub bound : (g : ℕ) → g ≡ (lock_of lock).ring.grants → Reaches (named_of v) x ask i (record { name = x; before = g; floor = v.top })

pub free_ring : (v : NamedView) (x : List ℕ) (ask : OneAsk) (i : ℕ) → IsKeptNamed v → found x v.names ≡ None → unused_answer (asked ask) ≡ None → free v.names ≡ Some i → IsFree v x (asked ask) i
free_ring v x ask i n none not_told f =
    let entry : slice_get v.names i ≡ Some None = free_at v.names i f in
    let l = lock_at (named_of v) i None n.named entry in
    let w = lock_view v.locks i l.0 l.1 in
    let hold : for_hold (asked ask) ≡ true = hold_or_told ask not_told in
    record {
      entry = entry;
      lock = w.0;
      there = w.1;
      reach = reaches_free (named_of v) x (asked ask) i n.named none hold f;
      bound = λ g e. reaches_bound v x (asked ask) i g w.0 n.named none hold f w.1 e;
    }

-- ---- the ring of a name

found_ring : (x : List ℕ) (os : List (Option Bound)) (i : ℕ) (o : Option (ℕ × Bound)) → found x os ≡ o → option_map (λ (p : ℕ × Bound). p.0) o ≡ Some i → (b : Bound) × (found x os ≡ Some (i, b)) × (b.name ≡ x)
found_ring x os i None e f = absurd (none_some i f)
found_ring x os i (Some p) e f = (p.1, e ∙ ap (λ (n : ℕ). Some (n, p.1)) (some_same p.0 i f), sym (found_at x os p e).name)

pub ring_found : (x : List ℕ) (os : List (Option Bound)) (i : ℕ) → ring_of x os ≡ Some i → (b : Bound) × (found x os ≡ Some (i, b)) × (b.name ≡ x)
ring_found x os i e = found_ring x os i (found x os) refl e

-- ---- events

-- the ring that was asked says how many events its segment had and has
pub has_events : (vs ws : List LockView) (i : ℕ) (r : NameAsked) (q d : Bool) → r.answers.ring ≡ Some i → r.before ≡ events_at (slice_get vs i) → r.after ≡ events_at (slice_get ws i) →
    HasEvents vs ws (record { answers = with_notes q d r.answers; before = r.before; after = r.after })
has_events vs ws i r q d e before after = record {
  before = before ∙ sym (ap (λ (o : Option ℕ). events_of vs o) e);
  after = after ∙ sym (ap (λ (o : Option ℕ). events_of ws o) e);
}
