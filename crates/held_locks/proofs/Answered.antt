-- Each ask has one answer; nobody holds a lock for which it waits; and circles are real.
use Rattle.std.proofs.Common.{◌≡◌, ℕ, zero, suc, ◌+◌, ◌-◌, ◌<◌, ◌≤◌, true, false, List, [], ◌∷◌, ◌++◌, length, refl, sym, ◌∙◌, ap, subst, inl, inr, arith, Option, Some, None, eqb}
use Rattle.std.specs.Prelude.{◌==◌, slice_get, slice_index, ◌⊎◌}
use Rattle.std.specs.List.{list_any, IsDistinct, AllByRecursion}
use Rattle.std.proofs.lemmas.Bool.{eqb-true, eqb-false, false≢true, true≢false, or_cases, or_parts, false_from_ne_true}
use Rattle.std.proofs.lemmas.Option.{slice_get_within}
use Rattle.std.proofs.lemmas.Map.Steps.{length-le_from_distinct_below}
use Rattle.ring_model.specs.History.{State}
use Rattle.held_locks.specs.declared.answers.Waiter.{Waiter}
use Rattle.held_locks.specs.declared.answers.Holder.{Holder}
use Rattle.held_locks.specs.declared.answers.Answer.{Answer}
use Rattle.held_locks.specs.declared.answers.Answer.TheVariants as answer
use Rattle.held_locks.specs.Queues.{Lock, stands, waits_for, client_of, holder_of, comes_to}
use Rattle.held_locks.specs.Locks.{Ask, Acquire, Try, Release, Cancel, Leave, Corrupt, Stats, Turn, advanced, turn, step_at}
use Rattle.held_locks.specs.Promises.{AreRight, comes, ComesToAnEnd, IsGrantOfAnother, IsAnswered, OneAnswerEach, NobodyWaitsForNothing, NoCircle, CirclesAreReal}
use Rattle.held_locks.proofs.Moves.{Move, Stays, Waits, Gets, Ends, Drops, Faults, IsEnd, Released, Left, IsDrop, Cancelled, Gone, IsAsking, Acquires, Tries, is_leave, move_of}
use Rattle.held_locks.proofs.Standing.{waits_there, waits_at, stands_without}
use Rattle.held_locks.proofs.Circles.{whom}
use Rattle.held_locks.proofs.Right.{right_stays}

pub nobody_waits_for_nothing : NobodyWaitsForNothing
nobody_waits_for_nothing ls is r at l e = ((right_stays ls is r).each at l e).held

pub no_circle : NoCircle
no_circle ls is r c = (right_stays ls is r).ends c

-- ---- nobody waits for itself

some_none : (c : ℕ) → ◌≡◌ {A = Option ℕ} (Some c) None → ⊥
some_none c e = cc

round_and_round : (ls : List Lock) (c : ℕ) → whom ls c ≡ Some c → (steps : ℕ) → comes steps ls (Some c) ≡ None → ⊥
round_and_round ls c w zero e = some_none c e
round_and_round ls c w (suc steps) e = round_and_round ls c w steps (ap (λ (x : Option ℕ). comes steps ls x) (sym w) ∙ e)

-- the holder of a lock is not in its queue
pub not_in_own_queue : (ls : List Lock) (i : ℕ) (l : Lock) (h : Holder) → AreRight ls → slice_get ls i ≡ Some l → l.holder ≡ Some h → stands h.client l.queue ≡ false
not_in_own_queue ls i l h r e held = false_from_ne_true (stands h.client l.queue) (λ s.
    let w : whom ls h.client ≡ Some h.client = ap holder_of (waits_there ls h.client i l r.once e s) ∙ ap client_of held in
    let end = r.ends h.client in
    round_and_round ls h.client w end.0 end.1)

-- ---- one answer

answered_once : (c : ℕ) (ask : Ask) (a : Answer) (others : List (ℕ × Answer)) → is_leave ask ≡ false → IsGrantOfAnother c others → IsAnswered c ask ((c, a) ∷ others)
answered_once c (Acquire order) a others n g = (a, others, refl, g)
answered_once c (Try order) a others n g = (a, others, refl, g)
answered_once c (Release token) a others n g = (a, others, refl, g)
answered_once c Cancel a others n g = (a, others, refl, g)
answered_once c Leave a others n g = absurd (true≢false n)
answered_once c (Corrupt i v) a others n g = (a, others, refl, g)
answered_once c Stats a others n g = (a, others, refl, g)

asking_answered : (c order : ℕ) (ask : Ask) (a : Answer) → IsAsking ask order → IsAnswered c ask ((c, a) ∷ [])
asking_answered c order ask a (Acquires e) = subst (λ (x : Ask). IsAnswered c x ((c, a) ∷ [])) (sym e) (a, [], refl, inl refl)
asking_answered c order ask a (Tries e) = subst (λ (x : Ask). IsAnswered c x ((c, a) ∷ [])) (sym e) (a, [], refl, inl refl)

another_granted : (a : State ℕ) (queue : List Waiter) (c : ℕ) → stands c queue ≡ false → IsGrantOfAnother c (advanced a queue).answers
another_granted a [] c s = inl refl
another_granted a (w ∷ queue) c s = inr (w.client, a.grants + 1, refl, eqb-false w.client c (or_parts (w.client == c) (stands c queue) s).0)

end_answered : (l : Lock) (c : ℕ) (h : Holder) (ask : Ask) (seat : ℕ) (queue : List Waiter) (answers : List (ℕ × Answer)) → stands c l.queue ≡ false → IsEnd l c h ask seat queue answers →
    IsAnswered c ask (answers ++ (advanced l.ring queue).answers)
end_answered l c h ask seat queue answers s (Released a b e f) =
    let out : stands c queue ≡ false = ap (λ (x : List Waiter). stands c x) e ∙ s in
    subst (λ (x : Ask). IsAnswered c x (answers ++ (advanced l.ring queue).answers)) (sym a)
    (answer.Released, (advanced l.ring queue).answers, ap (λ (x : List (ℕ × Answer)). x ++ (advanced l.ring queue).answers) f, another_granted l.ring queue c out)
end_answered l c h ask seat queue answers s (Left a b e f) =
    let out : stands c queue ≡ false = ap (λ (x : List Waiter). stands c x) e ∙ stands_without c l.queue in
    subst (λ (x : Ask). IsAnswered c x (answers ++ (advanced l.ring queue).answers)) (sym a)
    (subst (λ (x : List (ℕ × Answer)). IsGrantOfAnother c (x ++ (advanced l.ring queue).answers)) (sym f) (another_granted l.ring queue c out))

drop_answered : (c : ℕ) (ask : Ask) (answers : List (ℕ × Answer)) → IsDrop c ask answers → IsAnswered c ask answers
drop_answered c ask answers (Cancelled a e) = subst (λ (x : Ask). IsAnswered c x answers) (sym a) (answer.Cancelled, [], e, inl refl)
drop_answered c ask answers (Gone a e) = subst (λ (x : Ask). IsAnswered c x answers) (sym a) (inl e)

answered_move : (ls : List Lock) (i : ℕ) (l : Lock) (c : ℕ) (ask : Ask) (t : Turn) → AreRight ls → slice_get ls i ≡ Some l → Move ls l c ask t → IsAnswered c ask t.answers
answered_move ls i l c ask t r at (Stays a q leave e) = subst (λ (x : Turn). IsAnswered c ask x.answers) (sym e) (answered_once c ask a [] leave (inl refl))
answered_move ls i l c ask t r at (Waits order k a held other free back e) =
    subst (λ (x : Turn). IsAnswered c ask x.answers) (sym e) (asking_answered c order ask (answer.Waiting (length l.queue)) (Acquires a))
answered_move ls i l c ask t r at (Gets order asking a e) = subst (λ (x : Turn). IsAnswered c ask x.answers) (sym e) (asking_answered c order ask (answer.Granted (l.ring.grants + 1)) asking)
answered_move ls i l c ask t r at (Ends k seat queue answers held own is e) =
    let out : stands c l.queue ≡ false = subst (λ (x : ℕ). stands x l.queue ≡ false) own (not_in_own_queue ls i l k r at held) in
    subst (λ (x : Turn). IsAnswered c ask x.answers) (sym e) (end_answered l c k ask seat queue answers out is)
answered_move ls i l c ask t r at (Drops answers is e) = subst (λ (x : Turn). IsAnswered c ask x.answers) (sym e) (drop_answered c ask answers is)
answered_move ls i l c ask t r at (Faults k v a lt lk e) =
    subst (λ (x : Turn). IsAnswered c ask x.answers) (sym e) (subst (λ (x : Ask). IsAnswered c x ((c, answer.Corrupted (slice_index l.ring.ring.values k)) ∷ [])) (sym a) (answer.Corrupted (slice_index l.ring.ring.values k), [], refl, inl refl))

no_such : (ls : List Lock) (i : ℕ) → i < length ls → slice_get ls i ≡ None → ⊥
no_such [] i l e = omega arith
no_such (x ∷ ls) zero l e = no_x x e
  where
    no_x : (x : Lock) → ◌≡◌ {A = Option Lock} (Some x) None → ⊥
    no_x x e = cc
no_such (x ∷ ls) (suc i) l e = no_such ls i (omega arith) e

answered_at : (ls : List Lock) (c i : ℕ) (ask : Ask) (w : Option Lock) → slice_get ls i ≡ w → AreRight ls → i < length ls → IsAnswered c ask (step_at ls c i ask w).answers
answered_at ls c i ask None e r l = absurd (no_such ls i l e)
answered_at ls c i ask (Some x) e r l = answered_move ls i x c ask (turn ls x c ask) r e (move_of ls x c ask)

pub one_answer_each : OneAnswerEach
one_answer_each ls c i ask r l = answered_at ls c i ask (slice_get ls i) refl r l

-- ---- a refused circle is one

longer : (ls : List Lock) (steps : ℕ) (at : Option ℕ) → comes steps ls at ≡ None → comes (suc steps) ls at ≡ None
longer ls steps None e = refl
longer ls zero (Some c) e = absurd (some_none c e)
longer ls (suc steps) (Some c) e = longer ls steps (whom ls c) e

much_longer : (ls : List Lock) (more steps : ℕ) (at : Option ℕ) → comes steps ls at ≡ None → comes (more + steps) ls at ≡ None
much_longer ls zero steps at e = subst (λ (x : ℕ). comes x ls at ≡ None) (omega arith) e
much_longer ls (suc more) steps at e =
    let n : suc (more + steps) ≡ suc more + steps = omega arith in
    subst (λ (x : ℕ). comes x ls at ≡ None) n (longer ls (more + steps) at (much_longer ls more steps at e))

-- the places of the locks on the way from a client to the end, which are as many as the steps
pub record Way (ls : List Lock) (count : ℕ) : Type 0 where
  pub places : List ℕ
  pub many : length places ≡ count
  pub apart : IsDistinct eqb places
  pub below : (q : ℕ) → list_any (eqb q) places ≡ true → q < length ls
  pub near : (q : ℕ) (m : Lock) → list_any (eqb q) places ≡ true → slice_get ls q ≡ Some m → comes count ls (client_of m.holder) ≡ None

none_left : (d : ℕ) (x : Option ℕ) → x ≡ None → ◌≡◌ {A = Option ℕ} x (Some d) → ⊥
none_left d x e f = some_none d (sym f ∙ e)

same_lock : (l m : Lock) → ◌≡◌ {A = Option Lock} (Some l) (Some m) → l ≡ m
same_lock l m e = cc

apart_from : (i : ℕ) (places : List ℕ) → list_any (eqb i) places ≡ false → AllByRecursion (λ y. eqb i y ≡ false) places
apart_from i [] e = tt
apart_from i (q ∷ places) e = let p = or_parts (eqb i q) (list_any (eqb i) places) e in (p.0, apart_from i places p.1)

module _ (ls : List Lock) where
  here : (i : ℕ) (l : Lock) (count : ℕ) → slice_get ls i ≡ Some l → comes count ls (client_of l.holder) ≡ None → (q : ℕ) (m : Lock) → q ≡ i → slice_get ls q ≡ Some m → comes count ls (client_of m.holder) ≡ None
  here i l count e f q m p g =
      let is : l ≡ m = same_lock l m (sym e ∙ ap (λ (k : ℕ). slice_get ls k) (sym p) ∙ g) in
      subst (λ (x : Lock). comes count ls (client_of x.holder) ≡ None) is f

  farther : (i : ℕ) (l : Lock) (d k : ℕ) → slice_get ls i ≡ Some l → client_of l.holder ≡ Some d → comes (suc k) ls (Some d) ≡ None → (comes k ls (Some d) ≡ None → ⊥) → Way ls k → Way ls (suc k)
  unfolding IsDistinct
  farther i l d k e h end first w =
      let new : list_any (eqb i) w.places ≡ false = false_from_ne_true (list_any (eqb i) w.places) (λ s.
      first (ap (λ (x : Option ℕ). comes k ls x) (sym h) ∙ w.near i l s e)) in
      let long : comes (suc k) ls (client_of l.holder) ≡ None = ap (λ (x : Option ℕ). comes (suc k) ls x) h ∙ end in record {
        places = i ∷ w.places;
        many = ap suc w.many;
        apart = (apart_from i w.places new, w.apart);
        below = λ q s. elim (or_cases (eqb q i) (list_any (eqb q) w.places) s) [
          | inl p ↦ subst (λ (x : ℕ). x < length ls) (sym (eqb-true q i p)) (slice_get_within ls i l e)
          | inr p ↦ w.below q p
        ];
        near = λ q m s g. elim (or_cases (eqb q i) (list_any (eqb q) w.places) s) [
          | inl p ↦ here i l (suc k) e long q m (eqb-true q i p) g
          | inr p ↦ longer ls k (client_of m.holder) (w.near q m p g)
        ];
      }

  no_way : Way ls 0
  unfolding IsDistinct
  no_way = record { places = []; many = refl; apart = tt; below = λ q s. absurd (false≢true s); near = λ q m s g. absurd (false≢true s) }

  abbrev Ways : ℕ → Type 0
  Ways k = (i : ℕ) (l : Lock) (e : ℕ) → slice_get ls i ≡ Some l → client_of l.holder ≡ Some e → comes (suc k) ls (Some e) ≡ None → (comes k ls (Some e) ≡ None → ⊥) → Way ls (suc k)

  held_way : (k j : ℕ) (m : Lock) (h : Option ℕ) → client_of m.holder ≡ h → slice_get ls j ≡ Some m → comes (suc k) ls h ≡ None → (comes k ls h ≡ None → ⊥) → Ways k → Way ls (suc k)
  held_way k j m None e f end first more = absurd (first (ended k))
    where
      ended : (k : ℕ) → comes k ls None ≡ None
      ended zero = refl
      ended (suc k) = refl
  held_way k j m (Some c) e f end first more = more j m c f e end first

  on_the_way : (k : ℕ) (d : ℕ) (x : Option Lock) → waits_for ls d ≡ x → comes (suc (suc k)) ls (Some d) ≡ None → (comes (suc k) ls (Some d) ≡ None → ⊥) → Ways k → Way ls (suc k)
  on_the_way k d None w end first more = absurd (first (ap (λ (y : Option Lock). comes k ls (holder_of y)) w ∙ ended k))
    where
      ended : (k : ℕ) → comes k ls None ≡ None
      ended zero = refl
      ended (suc k) = refl
  on_the_way k d (Some m) w end first more =
      let at = waits_at ls d m w in
      held_way k at.at m (client_of m.holder) refl at.lock (ap (λ (y : Option Lock). comes (suc k) ls (holder_of y)) (sym w) ∙ end)
      (λ q. first (ap (λ (y : Option Lock). comes k ls (holder_of y)) w ∙ q)) more

  pub way : (k : ℕ) (i : ℕ) (l : Lock) (d : ℕ) → slice_get ls i ≡ Some l → client_of l.holder ≡ Some d → comes (suc k) ls (Some d) ≡ None → (comes k ls (Some d) ≡ None → ⊥) → Way ls (suc k)
  way zero i l d e h end first = farther i l d 0 e h end first no_way
  way (suc k) i l d e h end first = farther i l d (suc k) e h end first (on_the_way k d (waits_for ls d) refl end first (λ j m c. way k j m c))

  pub record Least (d : ℕ) : Type 0 where
    pub before : ℕ
    pub end : comes (suc before) ls (Some d) ≡ None
    pub first : comes before ls (Some d) ≡ None → ⊥

  least_more : (d steps : ℕ) (x : Option ℕ) → comes steps ls (Some d) ≡ x → comes (suc steps) ls (Some d) ≡ None → (comes steps ls (Some d) ≡ None → Least d) → Least d
  least_more d steps None e end more = more e
  least_more d steps (Some c) e end more = record { before = steps; end = end; first = λ q. some_none c (sym e ∙ q) }

  least : (d steps : ℕ) → comes steps ls (Some d) ≡ None → Least d
  least d zero e = absurd (some_none d e)
  least d (suc steps) e = least_more d steps (comes steps ls (Some d)) refl e (least d steps)

  -- from who holds a lock one is at the end in as many steps as there are locks
  pub soon : (i : ℕ) (l : Lock) (d : ℕ) → slice_get ls i ≡ Some l → client_of l.holder ≡ Some d → ComesToAnEnd ls (Some d) → comes (length ls) ls (Some d) ≡ None
  soon i l d e h end =
      let f = least d end.0 end.1 in
      let w = way f.before i l d e h f.end f.first in
      let few : length w.places ≤ length ls = length-le_from_distinct_below w.places (length ls) w.apart w.below in
      let many : length w.places ≡ suc f.before = w.many in
      let n : (length ls - suc f.before) + suc f.before ≡ length ls = omega arith in
      subst (λ (x : ℕ). comes x ls (Some d) ≡ None) n (much_longer ls (length ls - suc f.before) (suc f.before) (Some d) f.end)

  found : (steps c : ℕ) (at : Option ℕ) → comes_to steps ls c at ≡ true → ((s : ℕ) × (comes s ls at ≡ Some c)) ⊎ ((x : ℕ) × (comes steps ls at ≡ Some x))
  found steps c None e = absurd (false≢true e)
  found zero c (Some x) e = inr (x, refl)
  found (suc steps) c (Some x) e = elim (or_cases (x == c) (comes_to steps ls c (whom ls x)) e) [
    | inl p ↦ inl (0, ap (λ (y : ℕ). Some y) (eqb-true x c p))
    | inr p ↦ elim (found steps c (whom ls x) p) [
      | inl q ↦ inl (suc q.0, q.1)
      | inr q ↦ inr (q.0, q.1)
    ]
  ]

  real : (i : ℕ) (l : Lock) (c : ℕ) (h : Option ℕ) → client_of l.holder ≡ h → ((d : ℕ) → ComesToAnEnd ls (Some d)) → slice_get ls i ≡ Some l → comes_to (length ls) ls c h ≡ true → (s : ℕ) × (comes s ls h ≡ Some c)
  real i l c None e ends at t = absurd (false≢true t)
  real i l c (Some d) e ends at t = elim (found (length ls) c (Some d) t) [
    | inl p ↦ p
    | inr p ↦ absurd (some_none p.0 (sym p.1 ∙ soon i l d at e (ends d)))
  ]

pub circles_are_real : CirclesAreReal
circles_are_real ls i l c r at t = real ls i l c (client_of l.holder) refl r.ends at t
