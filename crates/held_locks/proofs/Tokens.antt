-- The tokens rise, and with no fault they count the passes.
use Rattle.std.proofs.Common.{◌≡◌, ℕ, ◌+◌, ◌<◌, ◌≤◌, Bool, true, false, List, [], ◌∷◌, ◌++◌, refl, sym, ◌∙◌, ap, subst, arith}
use Rattle.std.specs.Prelude.{if◌then◌else◌}
use Rattle.std.proofs.lemmas.Bool.{eq-eqb, both_ways}
use Rattle.ring_model.specs.Ring.{IsRing}
use Rattle.held_locks.specs.declared.answers.Waiter.{Waiter}
use Rattle.held_locks.specs.declared.answers.Holder.{Holder}
use Rattle.held_locks.specs.declared.answers.Answer.{Answer}
use Rattle.held_locks.specs.Queues.{Lock}
use Rattle.held_locks.specs.Locks.{Ask, Mark, Turn, granted, advanced, Input, Asked, step}
use Rattle.held_locks.specs.Promises.{names, grants_in, grants_of, breaks, Rise, TokensRise, AreCounted, TokensAreCounted}
use Rattle.held_locks.proofs.Rings.{grant_grants, fault_is}
use Rattle.held_locks.proofs.Moves.{Move, Stays, Waits, Gets, Ends, Drops, Faults}
use Rattle.held_locks.proofs.Changes.{Change, Moves, Stands, Restarts, one_step}
use Rattle.held_locks.proofs.Right.{right_step}
use Rattle.held_locks.proofs.Excluded.{no_grants, ended_grants, drop_grants, grants_if}

abbrev token_next : Lock → ℕ → Holder
token_next l c = record { client = c; token = l.ring.grants + 1 }

-- the passes and the grants of a step
pub data Passes (l m : Lock) (faulty : Bool) (answers : List (ℕ × Answer)) : Type 0 where
  NoPass : grants_in answers ≡ [] → m.ring.grants ≡ l.ring.grants → Passes l m faulty answers
  Repaired : grants_in answers ≡ [] → l.ring.grants ≤ m.ring.grants → faulty ≡ true → Passes l m faulty answers
  OnePass : (c : ℕ) → grants_in answers ≡ token_next l c ∷ [] → m.ring.grants ≡ l.ring.grants + 1 → Passes l m faulty answers

passes_advanced : (l : Lock) (queue : List Waiter) (faulty : Bool) (front : List (ℕ × Answer)) → ((more : List (ℕ × Answer)) → grants_in (front ++ more) ≡ grants_in more) → IsRing l.ring.ring → Passes l (advanced l.ring queue).lock faulty (front ++ (advanced l.ring queue).answers)
passes_advanced l [] faulty front none g = NoPass (none []) refl
passes_advanced l (w ∷ queue) faulty front none g = OnePass w.client (none (granted l.ring queue w).answers) (grant_grants l.ring w.label g)

passes_move : (ls : List Lock) (at : ℕ) (l : Lock) (c : ℕ) (ask : Ask) (t : Turn) → IsRing l.ring.ring → Move ls l c ask t → Passes l t.lock (breaks at (Asked c at ask)) t.answers
passes_move ls at l c ask t g (Stays a q leave e) = subst (λ (x : Turn). Passes l x.lock (breaks at (Asked c at ask)) x.answers) (sym e) (NoPass (no_grants c a q) refl)
passes_move ls at l c ask t g (Waits order k a held other free back e) = subst (λ (x : Turn). Passes l x.lock (breaks at (Asked c at ask)) x.answers) (sym e) (NoPass refl refl)
passes_move ls at l c ask t g (Gets order asking a e) =
    subst (λ (x : Turn). Passes l x.lock (breaks at (Asked c at ask)) x.answers) (sym e) (OnePass c refl (grant_grants l.ring order g))
passes_move ls at l c ask t g (Ends k seat queue answers held own is e) =
    subst (λ (x : Turn). Passes l x.lock (breaks at (Asked c at ask)) x.answers) (sym e)
    (passes_advanced l queue (breaks at (Asked c at ask)) answers (ended_grants l c k ask seat queue answers is) g)
passes_move ls at l c ask t g (Drops answers is e) = subst (λ (x : Turn). Passes l x.lock (breaks at (Asked c at ask)) x.answers) (sym e) (NoPass (drop_grants c ask answers is) refl)
passes_move ls at l c ask t g (Faults i v a lt lk e) =
    subst (λ (x : Turn). Passes l x.lock (breaks at (Asked c at ask)) x.answers) (sym e)
    (Repaired refl (fault_is l.ring i v g lt lk).grants (ap (λ (x : Ask). breaks at (Asked c at x)) a ∙ eq-eqb at at refl))

passes_change : (ls : List Lock) (at : ℕ) (l : Lock) (i : Input) (m : Lock) (marks : List Mark) (answers : List (ℕ × Answer)) → IsRing l.ring.ring → Change ls at l i m marks answers → Passes l m (breaks at i) answers
passes_change ls at l i m marks answers g (Moves c ask t is move e f k) =
    subst (λ (x : Input). Passes l m (breaks at x) answers) (sym is)
    (subst (λ (x : Lock). Passes l x (breaks at (Asked c at ask)) answers) (sym e)
    (subst (λ (x : List (ℕ × Answer)). Passes l t.lock (breaks at (Asked c at ask)) x) (sym k) (passes_move ls at l c ask t g move)))
passes_change ls at l i m marks answers g (Stands c j ask is other e f k) = NoPass (ap (λ (x : List (ℕ × Answer)). grants_in x) k) (ap (λ (x : Lock). x.ring.grants) e)
passes_change ls at l i m marks answers g (Restarts is e f k) = NoPass (ap (λ (x : List (ℕ × Answer)). grants_in x) k) (ap (λ (x : Lock). x.ring.grants) e)

-- ---- over the inputs

lower : (low more high : ℕ) (hs : List Holder) → low ≤ more → Rise more hs high → Rise low hs high
lower low more high [] l r = omega arith
lower low more high (h ∷ hs) l r = let first : more < h.token = r.0 in (omega arith, r.1)

rise_on : (l m : Lock) (faulty : Bool) (answers : List (ℕ × Answer)) (hs : List Holder) (high : ℕ) → Passes l m faulty answers → Rise m.ring.grants hs high → Rise l.ring.grants (grants_in answers ++ hs) high
rise_on l m faulty answers hs high (NoPass e f) r = rw e (lower l.ring.grants m.ring.grants high hs (omega arith) r)
rise_on l m faulty answers hs high (Repaired e f q) r = rw e (lower l.ring.grants m.ring.grants high hs f r)
rise_on l m faulty answers hs high (OnePass c e f) r = rw e (omega arith, lower (l.ring.grants + 1) m.ring.grants high hs (omega arith) r)

pub tokens_rise : TokensRise
tokens_rise ls [] at l r e = (l, e, omega arith)
tokens_rise ls (i ∷ is) at l r e =
    let s = one_step ls at l i e in
    let p = passes_change ls at l i s.lock (if names at i then (step ls i).marks else []) (if names at i then (step ls i).answers else []) (r.each at l e).ring s.change in
    let more = tokens_rise (step ls i).locks is at s.lock (right_step ls i r) s.there in
    let front : (if names at i then grants_in (step ls i).answers else []) ≡ grants_in (if names at i then (step ls i).answers else []) = grants_if (names at i) (step ls i).answers in
    let all = rise_on l s.lock (breaks at i) (if names at i then (step ls i).answers else []) (grants_of at (step ls i).locks is) more.0.ring.grants p more.2 in
    (more.0, more.1, subst (λ (x : List Holder). Rise l.ring.grants (x ++ grants_of at (step ls i).locks is) more.0.ring.grants) (sym front) all)

count_on : (l m : Lock) (faulty : Bool) (answers : List (ℕ × Answer)) (hs : List Holder) → faulty ≡ false → Passes l m faulty answers → AreCounted m.ring.grants hs → AreCounted l.ring.grants (grants_in answers ++ hs)
count_on l m faulty answers hs n (NoPass e f) r = rw e (subst (λ (x : ℕ). AreCounted x hs) f r)
count_on l m faulty answers hs n (Repaired e f q) r = absurd (both_ways faulty n q)
count_on l m faulty answers hs n (OnePass c e f) r = rw e (refl, subst (λ (x : ℕ). AreCounted x hs) f r)

pub tokens_are_counted : TokensAreCounted
tokens_are_counted ls [] at l r e n = tt
tokens_are_counted ls (i ∷ is) at l r e n =
    let s = one_step ls at l i e in
    let p = passes_change ls at l i s.lock (if names at i then (step ls i).marks else []) (if names at i then (step ls i).answers else []) (r.each at l e).ring s.change in
    let more = tokens_are_counted (step ls i).locks is at s.lock (right_step ls i r) s.there n.1 in
    let front : (if names at i then grants_in (step ls i).answers else []) ≡ grants_in (if names at i then (step ls i).answers else []) = grants_if (names at i) (step ls i).answers in
    let all = count_on l s.lock (breaks at i) (if names at i then (step ls i).answers else []) (grants_of at (step ls i).locks is) n.0 p more in
    subst (λ (x : List Holder). AreCounted l.ring.grants (x ++ grants_of at (step ls i).locks is)) (sym front) all
