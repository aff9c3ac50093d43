-- A ring more, as it is kept.
use Rattle.std.proofs.Common.{◌≡◌, ◌≢◌, ℕ, ◌+◌, ◌^◌, ◌<◌, ◌≤◌, true, false, List, [], ◌∷◌, ◌++◌, length, Option, None, Some, inl, inr, refl, sym, ◌∙◌, ap, subst, arith}
use Rattle.std.specs.Prelude.{slice_get, is_some}
use Rattle.std.proofs.lemmas.Bool.{false≢true}
use Rattle.std.proofs.lemmas.List.{length-append, length-map, map-append}
use Rattle.ring_model.specs.Ring.{IsRing, is_settled}
use Rattle.ring_model.specs.History.{State}
use Rattle.endless_ring.specs.Endless.{EndlessView}
use Rattle.held_locks.specs.declared.answers.Holder.{Holder}
use Rattle.held_locks.specs.declared.answers.Refusal.{Refusal}
use Rattle.held_locks.specs.declared.answers.Refusal.TheVariants as refusal
use Rattle.held_locks.specs.Queues.{Lock}
use Rattle.held_locks.specs.Kept.{LockView, state_of, lock_of, locks_of, AreKept}
use Rattle.held_locks.specs.Cuts.{AreNext}
use Rattle.held_locks.specs.Opened.{open_in, holder_after, IsAdded, IsNotAdded}
use Rattle.held_locks.proofs.NextSegments.{next_same}
use Rattle.lock_names.specs.declared.growing.NotGrown.{NotGrown}
use Rattle.lock_names.specs.declared.growing.NotGrown.TheVariants as not_grown
use Rattle.lock_names.specs.Names.{Named, More, free_lock}
use Rattle.lock_names.specs.Promises.{IsNamed}
use Rattle.lock_names.specs.Kept.{NamedView, named_of, waiting, top_limit, IsKeptNamed}
use Rattle.lock_names.specs.Grown.{IsGrown, CannotGrow, AreNextNames}
use Rattle.lock_names.proofs.Fitting.{named_step}
use Rattle.lock_names.proofs.Asking.{few_waiting, view_lock}
use Rattle.lock_names.proofs.Taking.{same_named}

at_end : {X : Type 0} (xs : List X) (x : X) → slice_get (xs ++ x ∷ []) (length xs) ≡ Some x
at_end [] x = refl
at_end (y ∷ xs) x = at_end xs x

-- the lock that was added
pub record IsLast (old new : List LockView) (e : EndlessView) (ring : EndlessView) : Type 0 where
  pub view : LockView
  pub holder : view.holder ≡ holder_after (open_in e)
  pub ring_is : view.ring ≡ ring
  pub there : slice_get new (length old) ≡ Some view
  pub longer : length new ≡ length old + 1

pub last_is : (old new : List LockView) (e : EndlessView) (a : IsAdded old new e) → IsLast old new e a.ring
last_is old new e a =
    let v : LockView = record { ring = a.ring; queue = []; holder = holder_after (open_in e) } in record {
      view = v;
      holder = refl;
      ring_is = refl;
      there = ap (λ (x : List LockView). slice_get x (length old)) a.added ∙ at_end old v;
      longer = ap (λ (x : List LockView). length x) a.added ∙ length-append old (v ∷ []);
    }

pub last_grants : (old new : List LockView) (e : EndlessView) (a : IsAdded old new e) (i g : ℕ) (r : EndlessView) → i ≡ length old → ((v : LockView) → slice_get new i ≡ Some v → r ≡ v.ring) →
    g ≡ r.base.grants + r.ring.book.now.grants → g ≡ (state_of a.ring).grants
last_grants old new e a i g r at ring is =
    let l = last_is old new e a in
    is ∙ ap (λ (x : EndlessView). x.base.grants + x.ring.book.now.grants) (ring l.view (ap (λ (n : ℕ). slice_get new n) at ∙ l.there) ∙ l.ring_is)

pub last_holder : (old new : List LockView) (e : EndlessView) (a : IsAdded old new e) (i : ℕ) (h : Option Holder) → i ≡ length old → ((v : LockView) → slice_get new i ≡ Some v → h ≡ v.holder) → h ≡ holder_after (open_in e)
last_holder old new e a i h at holder =
    let l = last_is old new e a in
    holder l.view (ap (λ (n : ℕ). slice_get new n) at ∙ l.there) ∙ l.holder

no_hold : (o : Option ℕ) → is_some (holder_after o) ≡ false → o ≡ None
no_hold None e = refl
no_hold (Some t) e = absurd (false≢true (sym e))

pub not_open : (e : EndlessView) (h : Option Holder) → h ≡ holder_after (open_in e) → is_some h ≡ false → open_in e ≡ None
not_open e h same none = no_hold (open_in e) (ap (λ (o : Option Holder). is_some o) (sym same) ∙ none)

pub is_open : (e : EndlessView) (h : Option Holder) → h ≡ holder_after (open_in e) → is_some h ≡ true → open_in e ≢ None
is_open e h same some none = false≢true (sym (ap (λ (o : Option Holder). is_some o) same ∙ ap (λ (o : Option ℕ). is_some (holder_after o)) none) ∙ some)

pub grown_is : (old new : NamedView) (e : EndlessView) (a : IsAdded old.locks new.locks e) → open_in e ≡ None → new.names ≡ old.names ++ None ∷ [] → new.fixed ≡ old.fixed → new.top ≡ old.top + (state_of a.ring).grants → IsGrown old new e
grown_is old new e a none names fixed top =
    let v : LockView = record { ring = a.ring; queue = []; holder = holder_after (open_in e) } in
    let locks : locks_of new.locks ≡ locks_of old.locks ++ free_lock (state_of a.ring) ∷ [] =
    ap (λ (x : List LockView). locks_of x) a.added ∙ map-append lock_of old.locks (v ∷ [])
    ∙ ap (λ (o : Option ℕ). locks_of old.locks ++ record { ring = state_of a.ring; queue = []; holder = holder_after o } ∷ []) none in
    record {
      added = a;
      free = none;
      named = same_named (locks_of new.locks) (locks_of old.locks ++ free_lock (state_of a.ring) ∷ []) new.names (old.names ++ None ∷ []) new.fixed old.fixed new.top (old.top + (state_of a.ring).grants) locks names fixed top;
    }

pub grown_kept : (old new : NamedView) (entries : List (ℕ × ℕ)) (e : EndlessView) → IsKeptNamed old → AreKept new.locks entries → IsGrown old new e → new.top < top_limit → IsKeptNamed new
grown_kept old new entries e n k g lt =
    let a : State ℕ = state_of g.added.ring in
    let last = last_is old.locks new.locks e g.added in
    let lock = k.right.each (length old.locks) (lock_of last.view) (view_lock new.locks (length old.locks) last.view last.there) in
    let few : waiting (locks_of new.locks) ≤ 4000000000000 = few_waiting new.locks entries k in
    let below : new.top < 2 ^ 63 = lt in
    let tokens : new.top + waiting (locks_of new.locks) < 2 ^ 64 = omega arith in
    let many : length (locks_of old.locks) ≡ length old.locks = length-map old.locks lock_of in
    let longer : length new.locks ≡ length old.locks + 1 = last.longer in
    let fixed : new.fixed ≡ old.fixed = ap (λ (s : Named). s.fixed) g.named in
    let was : old.fixed ≤ length old.locks = n.places in
    let room : old.fixed ≤ length (locks_of old.locks) = omega arith in
    record {
      named = subst (λ (s : Named). IsNamed s) (sym g.named) (named_step (named_of old) (More a) n.named (subst (λ (x : EndlessView). IsRing (state_of x).ring) last.ring_is lock.ring, subst (λ (x : EndlessView). is_settled (state_of x).ring.values ≡ true) last.ring_is lock.settled, room));
      places = omega arith;
      tokens = tokens;
    }

pub not_added_is : (v : NamedView) (e : EndlessView) (why : Refusal) (told : NotGrown) → IsNotAdded v.locks e why → (why ≡ refusal.Full → told ≡ not_grown.Full) → (why ≡ refusal.Memory → told ≡ not_grown.Memory) → CannotGrow v e told
not_added_is v e why told not full memory = elim not [
  | inl p ↦ subst (λ (x : NotGrown). CannotGrow v e x) (sym (full p.0)) (inl p.1)
  | inr p ↦ subst (λ (x : NotGrown). CannotGrow v e x) (sym (memory p)) tt
]

-- ---- the next segments

pub next_names : (old new : NamedView) → AreNext old.locks new.locks → new.names ≡ old.names → new.fixed ≡ old.fixed → new.top ≡ old.top → AreNextNames old new
next_names old new n names fixed top = record {
  locks = n;
  named = same_named (locks_of new.locks) (locks_of old.locks) new.names old.names new.fixed old.fixed new.top old.top (next_same old.locks new.locks n) names fixed top;
}

pub next_kept : (old new : NamedView) → IsKeptNamed old → AreNextNames old new → IsKeptNamed new
next_kept old new k n =
    let locks : locks_of new.locks ≡ locks_of old.locks = ap (λ (s : Named). s.locks) n.named in
    let many : length new.locks ≡ length old.locks = sym (length-map new.locks lock_of) ∙ ap (λ (x : List Lock). length x) locks ∙ length-map old.locks lock_of in
    let fixed : new.fixed ≡ old.fixed = ap (λ (s : Named). s.fixed) n.named in
    let top : new.top ≡ old.top = ap (λ (s : Named). s.top) n.named in
    let was : old.fixed ≤ length old.locks = k.places in
    let wait : waiting (locks_of new.locks) ≡ waiting (locks_of old.locks) = ap (λ (x : List Lock). waiting x) locks in
    let few : old.top + waiting (locks_of old.locks) < 2 ^ 64 = k.tokens in
    record {
      named = subst (λ (s : Named). IsNamed s) (sym n.named) k.named;
      places = omega arith;
      tokens = omega arith;
    }
