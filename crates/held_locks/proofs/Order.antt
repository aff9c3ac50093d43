-- First come, first served.
use Rattle.std.proofs.Common.{◌≡◌, ◌≢◌, ℕ, ◌+◌, Bool, true, false, cond, not, List, [], ◌∷◌, ◌++◌, refl, sym, ◌∙◌, ap, subst, inl, inr}
use Rattle.std.specs.Prelude.{◌&&◌, ◌==◌, if◌then◌else◌, ◌⊎◌}
use Rattle.std.proofs.lemmas.Bool.{eq-eqb, ne_eqb, both_ways, and_from}
use Rattle.std.proofs.lemmas.List.{append_assoc}
use Rattle.ring_model.specs.History.{State, next}
use Rattle.held_locks.specs.declared.answers.Waiter.{Waiter}
use Rattle.held_locks.specs.declared.answers.Holder.{Holder}
use Rattle.held_locks.specs.declared.answers.Answer.{Answer}
use Rattle.held_locks.specs.Queues.{Lock, without}
use Rattle.held_locks.specs.Locks.{Ask, Mark, Turn, told, granted, advanced, Input, Asked, step}
use Rattle.held_locks.specs.Promises.{IsRightLock, names, grants_in, grants_of, gives_up, AreServed, FirstComeFirstServed}
use Rattle.held_locks.proofs.Moves.{Move, Stays, Waits, Gets, Ends, Drops, Faults, IsEnd, Released, Left, IsDrop, Cancelled, Gone, waiter}
use Rattle.held_locks.proofs.Changes.{Change, Moves, Stands, Restarts, one_step}
use Rattle.held_locks.proofs.Right.{right_step}
use Rattle.held_locks.proofs.Excluded.{no_grants, ended_grants, drop_grants, grants_if}

-- ---- a queue that some have left

-- all of the first are in the second, in its order
abbrev pub AreLeft : List Waiter → List Waiter → Type 0
AreLeft [] ys = Unit {0}
AreLeft (x ∷ xs) [] = ⊥
AreLeft (x ∷ xs) (y ∷ ys) = ((x ≡ y) × AreLeft xs ys) ⊎ AreLeft (x ∷ xs) ys

skip : (xs : List Waiter) (y : Waiter) (ys : List Waiter) → AreLeft xs ys → AreLeft xs (y ∷ ys)
skip [] y ys s = tt
skip (x ∷ xs) y ys s = inr s

all_left : (xs : List Waiter) → AreLeft xs xs
all_left [] = tt
all_left (x ∷ xs) = inl (refl, all_left xs)

without_more : (c : ℕ) (w : Waiter) (rest queue : List Waiter) → AreLeft rest queue → (b : Bool) → AreLeft (cond (not b) (w ∷ rest) rest) (w ∷ queue)
without_more c w rest queue s true = skip rest w queue s
without_more c w rest queue s false = inl (refl, s)

without_left : (c : ℕ) (queue : List Waiter) → AreLeft (without c queue) queue
without_left c [] = tt
without_left c (w ∷ queue) = without_more c w (without c queue) queue (without_left c queue) (w.client == c)

pub record Split (next : Waiter) (others ys : List Waiter) : Type 0 where
  pub gone : List Waiter
  pub behind : List Waiter
  pub is : ys ≡ gone ++ next ∷ behind
  pub remain : AreLeft others behind

further : (y next : Waiter) (others ys : List Waiter) → Split next others ys → Split next others (y ∷ ys)
further y next others ys s = record { gone = y ∷ s.gone; behind = s.behind; is = ap (λ (x : List Waiter). y ∷ x) s.is; remain = s.remain }

split : (gone : List Waiter) (next : Waiter) (others ys : List Waiter) → AreLeft (gone ++ next ∷ others) ys → Split next others ys
split [] next others [] s = absurd s
split (g ∷ gone) next others [] s = absurd s
split [] next others (y ∷ ys) s = elim s [
  | inl p ↦ record { gone = []; behind = ys; is = ap (λ (x : Waiter). x ∷ ys) (sym p.0); remain = p.1 }
  | inr p ↦ further y next others ys (split [] next others ys p)
]
split (g ∷ gone) next others (y ∷ ys) s = elim s [
  | inl p ↦ further y next others ys (split gone next others ys p.1)
  | inr p ↦ further y next others ys (split (g ∷ gone) next others ys p)
]

pub served_before : (xs ys : List Waiter) (w : Waiter) (hs : List Holder) → AreLeft xs ys → AreServed xs w hs → AreServed ys w hs
served_before xs ys w [] s a = tt
served_before xs ys w (h ∷ hs) s a = elim a [
  | inl e ↦ inl e
  | inr p ↦
      let q = split p.0 p.2 p.1 ys (subst (λ (x : List Waiter). AreLeft x ys) p.3 s) in
      inr (q.gone, q.behind, p.2, q.is, p.4, served_before p.1 q.behind w hs q.remain p.5)
]

without_append : (c : ℕ) (xs ys : List Waiter) → without c (xs ++ ys) ≡ without c xs ++ without c ys
without_append c [] ys = refl
without_append c (x ∷ xs) ys = go (x.client == c) (without_append c xs ys)
  where
    go : (b : Bool) → without c (xs ++ ys) ≡ without c xs ++ without c ys → cond (not b) (x ∷ without c (xs ++ ys)) (without c (xs ++ ys)) ≡ cond (not b) (x ∷ without c xs) (without c xs) ++ without c ys
    go true e = e
    go false e = ap (λ (z : List Waiter). x ∷ z) e

pub without_split : (c : ℕ) (front : List Waiter) (w : Waiter) (back : List Waiter) → c ≢ w.client → without c (front ++ w ∷ back) ≡ without c front ++ w ∷ without c back
without_split c front w back n =
    let p : (w.client == c) ≡ false = ne_eqb w.client c (λ q. n (sym q)) in
    without_append c front (w ∷ back) ∙ ap (λ (b : Bool). without c front ++ cond (not b) (w ∷ without c back) (without c back)) p

-- ---- a step

-- the client still waits, or one before it was granted, or it was
pub data Serves (m : Lock) (front : List Waiter) (w : Waiter) (answers : List (ℕ × Answer)) : Type 0 where
  StillWaits : grants_in answers ≡ [] → (before back : List Waiter) → m.queue ≡ before ++ w ∷ back → AreLeft before front → Serves m front w answers
  ServesAnother : (h : Holder) (f : Waiter) → grants_in answers ≡ h ∷ [] → h.client ≡ f.client → (before back : List Waiter) → m.queue ≡ before ++ w ∷ back → AreLeft (f ∷ before) front → Serves m front w answers
  ServesIt : (h : Holder) → grants_in answers ≡ h ∷ [] → h.client ≡ w.client → Serves m front w answers

nobody_there : (front : List Waiter) (w : Waiter) (back : List Waiter) → front ++ w ∷ back ≡ [] → ⊥
nobody_there [] w back e = cc
nobody_there (f ∷ front) w back e = cc

serves_advanced : (a : State ℕ) (before : List Waiter) (w : Waiter) (back front : List Waiter) (told : List (ℕ × Answer)) → ((more : List (ℕ × Answer)) → grants_in (told ++ more) ≡ grants_in more) → AreLeft before front →
    Serves (advanced a (before ++ w ∷ back)).lock front w (told ++ (advanced a (before ++ w ∷ back)).answers)
serves_advanced a [] w back front told none s = ServesIt (record { client = w.client; token = a.grants + 1 }) (none (granted a back w).answers) refl
serves_advanced a (f ∷ before) w back front told none s =
    ServesAnother (record { client = f.client; token = a.grants + 1 }) f (none (granted a (before ++ w ∷ back) f).answers) refl before back refl s

-- the queue with which a hold ends still has the client
pub record Remains (queue front : List Waiter) (w : Waiter) : Type 0 where
  pub before : List Waiter
  pub back : List Waiter
  pub is : queue ≡ before ++ w ∷ back
  pub fewer : AreLeft before front

not_it : (at c : ℕ) (w : Waiter) (b : Bool) → ((at == at) && (c == w.client)) ≡ false → c ≢ w.client
not_it at c w b n e = both_ways ((at == at) && (c == w.client)) n (and_from (at == at) (c == w.client) (eq-eqb at at refl) (eq-eqb c w.client e))

remains_without : (c : ℕ) (queue front : List Waiter) (w : Waiter) (back : List Waiter) → queue ≡ front ++ w ∷ back → c ≢ w.client → Remains (without c queue) front w
remains_without c queue front w back e n = record {
  before = without c front;
  back = without c back;
  is = ap (λ (x : List Waiter). without c x) e ∙ without_split c front w back n;
  fewer = without_left c front;
}

remains_end : (at : ℕ) (l : Lock) (c : ℕ) (h : Holder) (ask : Ask) (seat : ℕ) (queue : List Waiter) (answers : List (ℕ × Answer)) (front : List Waiter) (w : Waiter) (back : List Waiter) → l.queue ≡ front ++ w ∷ back →
    gives_up at w.client (Asked c at ask) ≡ false → IsEnd l c h ask seat queue answers → Remains queue front w
remains_end at l c h ask seat queue answers front w back p n (Released a b e f) = record { before = front; back = back; is = e ∙ p; fewer = all_left front }
remains_end at l c h ask seat queue answers front w back p n (Left a b e f) =
    let other : c ≢ w.client = not_it at c w true (ap (λ (x : Ask). gives_up at w.client (Asked c at x)) (sym a) ∙ n) in
    subst (λ (x : List Waiter). Remains x front w) (sym e) (remains_without c l.queue front w back p other)

not_dropped : (at c : ℕ) (ask : Ask) (answers : List (ℕ × Answer)) (w : Waiter) → gives_up at w.client (Asked c at ask) ≡ false → IsDrop c ask answers → c ≢ w.client
not_dropped at c ask answers w n (Cancelled a e) = not_it at c w true (ap (λ (x : Ask). gives_up at w.client (Asked c at x)) (sym a) ∙ n)
not_dropped at c ask answers w n (Gone a e) = not_it at c w true (ap (λ (x : Ask). gives_up at w.client (Asked c at x)) (sym a) ∙ n)

serves_move : (ls : List Lock) (at : ℕ) (l : Lock) (c : ℕ) (ask : Ask) (t : Turn) (front : List Waiter) (w : Waiter) (back : List Waiter) → IsRightLock l → l.queue ≡ front ++ w ∷ back →
    gives_up at w.client (Asked c at ask) ≡ false → Move ls l c ask t → Serves t.lock front w t.answers
serves_move ls at l c ask t front w back r p n (Stays a q leave e) = subst (λ (x : Turn). Serves x.lock front w x.answers) (sym e) (StillWaits (no_grants c a q) front back p (all_left front))
serves_move ls at l c ask t front w back r p n (Waits order k a held other free circle e) =
    subst (λ (x : Turn). Serves x.lock front w x.answers) (sym e)
    (StillWaits refl front (back ++ waiter c order ∷ []) (ap (λ (x : List Waiter). x ++ waiter c order ∷ []) p ∙ append_assoc front (w ∷ back) (waiter c order ∷ [])) (all_left front))
serves_move ls at l c ask t front w back r p n (Gets order asking a e) = absurd (nobody_there front w back (sym p ∙ r.held a))
serves_move ls at l c ask t front w back r p n (Ends k seat queue answers held own is e) =
    let m = remains_end at l c k ask seat queue answers front w back p n is in
    subst (λ (x : Turn). Serves x.lock front w x.answers) (sym e)
    (subst (λ (x : List Waiter). Serves (advanced l.ring x).lock front w (answers ++ (advanced l.ring x).answers)) (sym m.is)
    (serves_advanced l.ring m.before w m.back front answers (ended_grants l c k ask seat queue answers is) m.fewer))
serves_move ls at l c ask t front w back r p n (Drops answers is e) =
    let m = remains_without c l.queue front w back p (not_dropped at c ask answers w n is) in
    subst (λ (x : Turn). Serves x.lock front w x.answers) (sym e) (StillWaits (drop_grants c ask answers is) m.before m.back m.is m.fewer)
serves_move ls at l c ask t front w back r p n (Faults i v a lt lk e) = subst (λ (x : Turn). Serves x.lock front w x.answers) (sym e) (StillWaits refl front back p (all_left front))

serves_change : (ls : List Lock) (at : ℕ) (l : Lock) (i : Input) (m : Lock) (marks : List Mark) (answers : List (ℕ × Answer)) (front : List Waiter) (w : Waiter) (back : List Waiter) → IsRightLock l →
    l.queue ≡ front ++ w ∷ back → gives_up at w.client i ≡ false → Change ls at l i m marks answers → Serves m front w answers
serves_change ls at l i m marks answers front w back r p n (Moves c ask t is move e f k) =
    subst (λ (x : Lock). Serves x front w answers) (sym e)
    (subst (λ (x : List (ℕ × Answer)). Serves t.lock front w x) (sym k) (serves_move ls at l c ask t front w back r p (ap (λ (x : Input). gives_up at w.client x) (sym is) ∙ n) move))
serves_change ls at l i m marks answers front w back r p n (Stands c j ask is other e f k) = StillWaits (ap (λ (x : List (ℕ × Answer)). grants_in x) k) front back (ap (λ (x : Lock). x.queue) e ∙ p) (all_left front)
serves_change ls at l i m marks answers front w back r p n (Restarts is e f k) = absurd (both_ways (gives_up at w.client i) n (ap (λ (x : Input). gives_up at w.client x) is))

-- ---- over the inputs

serve_on : (m : Lock) (front : List Waiter) (w : Waiter) (answers : List (ℕ × Answer)) (hs : List Holder) → ((before back : List Waiter) → m.queue ≡ before ++ w ∷ back → AreServed before w hs) → Serves m front w answers →
    AreServed front w (grants_in answers ++ hs)
serve_on m front w answers hs more (StillWaits e before back p s) = rw e (served_before before front w hs s (more before back p))
serve_on m front w answers hs more (ServesAnother h f e q before back p s) =
    let x = split [] f before front s in
    rw e (inr (x.gone, x.behind, f, x.is, q, served_before before x.behind w hs x.remain (more before back p)))
serve_on m front w answers hs more (ServesIt h e q) = rw e (inl q)

pub first_come_first_served : FirstComeFirstServed
first_come_first_served ls [] at l front w back r e p n = tt
first_come_first_served ls (i ∷ is) at l front w back r e p n =
    let s = one_step ls at l i e in
    let answers : List (ℕ × Answer) = if names at i then (step ls i).answers else [] in
    let now = serves_change ls at l i s.lock (if names at i then (step ls i).marks else []) answers front w back (r.each at l e) p n.0 s.change in
    let more : (before later : List Waiter) → s.lock.queue ≡ before ++ w ∷ later → AreServed before w (grants_of at (step ls i).locks is) = λ before later q.
    first_come_first_served (step ls i).locks is at s.lock before w later (right_step ls i r) s.there q n.1 in
    let front_is : (if names at i then grants_in (step ls i).answers else []) ≡ grants_in answers = grants_if (names at i) (step ls i).answers in
    subst (λ (x : List Holder). AreServed front w (x ++ grants_of at (step ls i).locks is)) (sym front_is) (serve_on s.lock front w answers (grants_of at (step ls i).locks is) more now)
