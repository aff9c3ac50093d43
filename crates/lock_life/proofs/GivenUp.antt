-- The clients that wait for a lock give up, one after the other; and a hold that ends then is
-- followed by none.
use Rattle.std.proofs.Common.{◌≡◌, ℕ, suc, Bool, true, false, List, [], ◌∷◌, ◌++◌, map, Option, Some, None, refl, sym, ◌∙◌, ap, inl, inr, slice_get, slice_set, ◌≢◌}
use Rattle.std.specs.Prelude.{if◌then◌else◌}
use Rattle.std.specs.List.{AllByRecursion}
use Rattle.std.proofs.lemmas.Bool.{cases_eq, eq-eqb}
use Rattle.held_locks.specs.declared.answers.Waiter.{Waiter}
use Rattle.held_locks.specs.declared.answers.Holder.{Holder}
use Rattle.held_locks.specs.declared.answers.Answer.{Answer}
use Rattle.held_locks.specs.Queues.{Lock, stands, without, is_held_by, is_held_with}
use Rattle.held_locks.specs.Locks.{Ask, Cancel, step, told, ended, dropped, turn, Asked, Step, step_at, Input}
use Rattle.held_locks.specs.Promises.{locks_after, AreApart}
use Rattle.held_locks.proofs.Moves.{IsEnd, Released, Left}
use Rattle.held_locks.proofs.Standing.{get_set_other, get_set_same}
use Rattle.held_locks.proofs.Turned.{without_absent}
use Rattle.held_locks.proofs.Shown.{locks_append}
use Rattle.lock_journal.proofs.Following.{some_is, none_is, step_is}
use Rattle.lock_life.specs.Life.{IsGivenUp}
use Rattle.held_locks.specs.declared.answers.Answer.TheVariants as answer
use Rattle.held_locks.specs.declared.answers.Refusal.TheVariants as refusal

-- all who wait for a lock give up
abbrev pub all_give_up : ℕ → List Waiter → List Input
all_give_up i line = map (λ (w : Waiter). Asked w.client i Cancel) line

pub each_gives_up : (i : ℕ) (line : List Waiter) → AllByRecursion (IsGivenUp i) (all_give_up i line)
each_gives_up i [] = tt
each_gives_up i (w ∷ line) = (refl, each_gives_up i line)

-- lists with the same elements are the same
pub same_lists : {X : Type 0} (xs ys : List X) → ((i : ℕ) → slice_get xs i ≡ slice_get ys i) → xs ≡ ys
same_lists [] [] f = refl
same_lists [] (y ∷ ys) f = absurd (none_is y (f 0))
same_lists (x ∷ xs) [] f = absurd (none_is x (sym (f 0)))
same_lists (x ∷ xs) (y ∷ ys) f = ap (λ z. z ∷ xs) (some_is x y (f 0)) ∙ ap (λ zs. y ∷ zs) (same_lists xs ys (λ i. f (suc i)))

abbrev pub alone : Lock → Lock
alone l = record l { queue = [] }

stands_first : (w : Waiter) (rest : List Waiter) → stands w.client (w ∷ rest) ≡ true
stands_first w rest = rw (eq-eqb w.client w.client refl) refl

without_first : (w : Waiter) (rest : List Waiter) → stands w.client rest ≡ false → without w.client (w ∷ rest) ≡ rest
without_first w rest s = rw (eq-eqb w.client w.client refl) (without_absent w.client rest s)

-- the client that is first in line gives up
gives_up_first : (ls : List Lock) (l : Lock) (w : Waiter) (rest : List Waiter) → l.queue ≡ w ∷ rest → stands w.client rest ≡ false → (turn ls l w.client Cancel).lock ≡ record l { queue = rest }
gives_up_first ls l w rest e s =
    let here : stands w.client l.queue ≡ true = ap (λ (x : List Waiter). stands w.client x) e ∙ stands_first w rest in
    ap (λ (b : Bool). (if b then dropped l w.client ((w.client, answer.Cancelled) ∷ []) else told l w.client (answer.Refused refusal.Waiter)).lock) here
    ∙ ap (λ (x : List Waiter). record l { queue = x }) (ap (λ (x : List Waiter). without w.client x) e ∙ without_first w rest s)

-- then all of them
pub record HaveGivenUp (ls : List Lock) (i : ℕ) (l : Lock) (now : List Lock) : Type 0 where
  pub here : slice_get now i ≡ Some (alone l)
  pub others : (j : ℕ) → j ≢ i → slice_get now j ≡ slice_get ls j

pub all_gave_up : (line : List Waiter) (ls : List Lock) (i : ℕ) (l : Lock) → slice_get ls i ≡ Some l → l.queue ≡ line → AreApart line → HaveGivenUp ls i l (locks_after ls (all_give_up i line))
all_gave_up [] ls i l at e apart = record { here = at ∙ ap (λ (x : List Waiter). Some (record l { queue = x })) e; others = λ j n. refl }
all_gave_up (w ∷ line) ls i l at e apart =
    let t : Lock = (turn ls l w.client Cancel).lock in
    let s : step ls (Asked w.client i Cancel) ≡ step_at ls w.client i Cancel (Some l) = step_is ls i w.client Cancel l at in
    let one : (step ls (Asked w.client i Cancel)).locks ≡ slice_set ls i t = ap (λ (x : Step). x.locks) s in
    let is : t ≡ record l { queue = line } = gives_up_first ls l w line e apart.0 in
    let there : slice_get (step ls (Asked w.client i Cancel)).locks i ≡ Some (record l { queue = line }) = ap (λ (x : List Lock). slice_get x i) one ∙ (get_set_same ls i t l at ∙ ap (λ (x : Lock). Some x) is) in
    let more = all_gave_up line (step ls (Asked w.client i Cancel)).locks i (record l { queue = line }) there refl apart.1 in record {
      here = more.here;
      others = λ j n. more.others j n ∙ (ap (λ (x : List Lock). slice_get x j) one ∙ get_set_other ls i j t n);
    }

-- a hold that ends while nobody waits
pub ends_alone : (ls : List Lock) (l : Lock) (c : ℕ) (ask : Ask) (h : Holder) (seat : ℕ) (line : List Waiter) (answers : List (ℕ × Answer)) → l.holder ≡ Some h → h.client ≡ c → IsEnd l c h ask seat line answers →
    (turn ls (alone l) c ask).lock ≡ record { ring = l.ring; queue = []; holder = None }
ends_alone ls l c ask h seat line answers held own (Released a b d e) =
    let same : is_held_with c h.token (Some h) ≡ true = rw (eq-eqb h.client c own, eq-eqb h.token h.token refl) refl in
    let is : is_held_with c h.token l.holder ≡ true = ap (λ (x : Option Holder). is_held_with c h.token x) held ∙ same in
    ap (λ (x : Ask). (turn ls (alone l) c x).lock) a
    ∙ ap (λ (b : Bool). (if b then ended l.ring [] 1 ((c, answer.Released) ∷ []) else told (alone l) c (answer.Refused refusal.Holder)).lock) is
ends_alone ls l c ask h seat line answers held own (Left a b d e) =
    let same : is_held_by c (Some h) ≡ true = eq-eqb h.client c own in
    let is : is_held_by c l.holder ≡ true = ap (λ (x : Option Holder). is_held_by c x) held ∙ same in
    ap (λ (x : Ask). (turn ls (alone l) c x).lock) a ∙ ap (λ (b : Bool). (if b then ended l.ring (without c []) 2 [] else dropped (alone l) c []).lock) is

-- the locks after both: nobody holds this one, and nobody waits for it; the others are as they were
pub ended_alone : (ls now : List Lock) (i : ℕ) (l : Lock) (c : ℕ) (ask : Ask) (h : Holder) (seat : ℕ) (line : List Waiter) (answers : List (ℕ × Answer)) → slice_get ls i ≡ Some l → AreApart l.queue → l.holder ≡ Some h → h.client ≡ c → IsEnd l c h ask seat line answers →
    slice_get now i ≡ Some (record { ring = l.ring; queue = []; holder = None }) → ((j : ℕ) → j ≢ i → slice_get now j ≡ slice_get ls j) → now ≡ locks_after ls (all_give_up i l.queue ++ Asked c i ask ∷ [])
ended_alone ls now i l c ask h seat line answers at apart held own is here others =
    let before : List Lock = locks_after ls (all_give_up i l.queue) in
    let g = all_gave_up l.queue ls i l at refl apart in
    let t : Lock = (turn before (alone l) c ask).lock in
    let last : (step before (Asked c i ask)).locks ≡ slice_set before i t = ap (λ (x : Step). x.locks) (step_is before i c ask (alone l) g.here) in
    same_lists now (locks_after ls (all_give_up i l.queue ++ Asked c i ask ∷ [])) (λ j.
    (elim (cases_eq j i) [
      | inl q ↦
          ap (λ (k : ℕ). slice_get now k) q
          ∙ (here ∙ (ap (λ (x : Lock). Some x) (sym (ends_alone before l c ask h seat line answers held own is))
          ∙ (sym (get_set_same before i t (alone l) g.here) ∙ ap (λ (k : ℕ). slice_get (slice_set before i t) k) (sym q))))
      | inr q ↦ others j q ∙ (sym (g.others j q) ∙ sym (get_set_other before i j t q))
    ])
    ∙ (ap (λ (x : List Lock). slice_get x j) (sym last) ∙ ap (λ (x : List Lock). slice_get x j) (sym (locks_append ls (all_give_up i l.queue) (Asked c i ask ∷ [])))))
