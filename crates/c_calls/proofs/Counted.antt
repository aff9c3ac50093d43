-- The number of locks stays the same, a leave reports each at most once, and what a test of the grants says.
use Rattle.std.proofs.Common.{◌≡◌, ◌≢◌, ◌==◌, Bool, true, false, ℕ, zero, suc, ◌+◌, ◌≤◌, List, [], ◌∷◌, ◌++◌, length, drop, get_or, inl, inr, refl, subst, add-one, drop-cons, append_assoc, ◌<◌, sym, ap, ◌∙◌, Option, Some, None, arith}
use Rattle.std.specs.Prelude.{slice_get}
use Rattle.std.proofs.lemmas.Bool.{eq-eqb, eqb-true}
use Rattle.std.proofs.lemmas.List.{length-map, length-set, length-append, nil_from_length}
use Rattle.held_locks.specs.declared.answers.Answers.{Answers}
use Rattle.held_locks.specs.declared.answers.HoldEnd.{HoldEnd}
use Rattle.held_locks.specs.declared.answers.Holder.{Holder}
use Rattle.held_locks.specs.declared.answers.Left.{Left}
use Rattle.c_calls.specs.declared.lock_answers.Grant.{Grant}
use Rattle.held_locks.specs.Queues.{Lock}
use Rattle.held_locks.specs.Locks.{Ask, Leave, Input, Asked, Restart, Turn, restarted, turn, step, step_at}
use Rattle.held_locks.specs.Promises.{locks_after, leaves}
use Rattle.held_locks.specs.Cuts.{AreNext}
use Rattle.c_calls.specs.Desks.{grant_at, grants_in}
use Rattle.held_locks.specs.Kept.{LockView, lock_of, locks_of, ended_in, left_by, left_at, left_of, IsAnswer, IsDone, IsLeft}

at_long : (ls : List Lock) (c i : ℕ) (ask : Ask) (o : Option Lock) → length (step_at ls c i ask o).locks ≡ length ls
at_long ls c i ask None = refl
at_long ls c i ask (Some l) = length-set ls i (turn ls l c ask).lock

input_long : (ls : List Lock) (i : Input) → length (step ls i).locks ≡ length ls
input_long ls (Asked c i ask) = at_long ls c i ask (slice_get ls i)
input_long ls Restart = length-map ls restarted

inputs_long : (ls : List Lock) (is : List Input) → length (locks_after ls is) ≡ length ls
inputs_long ls [] = refl
inputs_long ls (i ∷ is) = inputs_long (step ls i).locks is ∙ input_long ls i

-- as many views as locks
as_many : (old new : List LockView) (ls : List Lock) → locks_of new ≡ ls → length ls ≡ length (locks_of old) → length new ≡ length old
as_many old new ls e m = sym (length-map new lock_of) ∙ (ap length e ∙ (m ∙ length-map old lock_of))

pub done_long : (old new : List LockView) (c i : ℕ) (ask : Ask) (r : Answers) → IsDone old new c i ask r → length new ≡ length old
done_long old new c i ask r done = as_many old new (step (locks_of old) (Asked c i ask)).locks done.locks (input_long (locks_of old) (Asked c i ask))

pub answer_long : (old new : List LockView) (c i : ℕ) (ask : Ask) (r : Answers) → IsAnswer old new c i ask r → length new ≡ length old
answer_long old new c i ask r a = elim a [ inl done ↦ done_long old new c i ask r done | inr want ↦ ap (λ (vs : List LockView). length vs) want.same ]

pub left_long : (old new : List LockView) (c : ℕ) (said : List Left) → IsLeft old new c said → length new ≡ length old
left_long old new c said left = as_many old new (locks_after (locks_of old) (leaves c (length old))) left.locks (inputs_long (locks_of old) (leaves c (length old)))

by_few : (i : ℕ) (e : Option HoldEnd) (g : Option Holder) → length (left_by i e g) ≤ 1
by_few i None g = omega arith
by_few i (Some e) g = omega arith

at_few : (c i : ℕ) (o : Option LockView) → length (left_at c i o) ≤ 1
at_few c i None = omega arith
at_few c i (Some v) = let t : Turn = turn [] (lock_of v) c Leave in by_few i (ended_in v.ring t.marks) t.lock.holder

of_few : (c : ℕ) (vs : List LockView) (n : ℕ) → length (left_of c vs n) ≤ n
of_few c vs zero = omega arith
of_few c vs (suc n) =
    let before = of_few c vs n in
    let one = at_few c n (slice_get vs n) in
    let both : length (left_of c vs n ++ left_at c n (slice_get vs n)) ≡ length (left_of c vs n) + length (left_at c n (slice_get vs n)) = length-append (left_of c vs n) (left_at c n (slice_get vs n)) in
    omega arith

pub left_few : (old new : List LockView) (c : ℕ) (said : List Left) → IsLeft old new c said → length said ≤ length old
left_few old new c said left = let few = of_few c old (length old) in let same : length said ≡ length (left_of c old (length old)) = ap length left.told in omega arith

-- what is put so far, with what the rest reports, is what all report
pub put_more : (ls : List Left) (i : ℕ) (d : Left) (before now next : List Grant) → i < length ls → before ++ grants_in ls ≡ now ++ grants_in (drop i ls)
    → next ≡ now ++ grant_at (get_or ls i d).lock (get_or ls i d).granted → before ++ grants_in ls ≡ next ++ grants_in (drop (i + 1) ls)
put_more ls i d before now next h so put =
    let x : Left = get_or ls i d in
    let rest : grants_in (drop i ls) ≡ grant_at x.lock x.granted ++ grants_in (drop (i + 1) ls) =
    subst (λ (n : ℕ). grants_in (drop i ls) ≡ grant_at x.lock x.granted ++ grants_in (drop n ls)) (sym (add-one i)) (ap grants_in (drop-cons ls i d h)) in
    so ∙ (ap (λ (g : List Grant). now ++ g) rest ∙ (sym (append_assoc now (grant_at x.lock x.granted) (grants_in (drop (i + 1) ls))) ∙ ap (λ (g : List Grant). g ++ grants_in (drop (i + 1) ls)) (sym put)))

-- as many locks continue
pub next_long : (old new : List LockView) → AreNext old new → length new ≡ length old
next_long [] new a = ap length a
next_long (v ∷ vs) [] a = absurd a
next_long (v ∷ vs) (w ∷ ws) a = let e = next_long vs ws a.1 in omega (arith, e)

-- what a test of whether grants are left says
pub none_left : (n : ℕ) (gs : List Grant) (b : Bool) → n ≡ length gs → b ≡ (n == 0) → b ≡ true → gs ≡ []
none_left n gs b size is empty = nil_from_length gs (sym size ∙ eqb-true n 0 (sym is ∙ empty))

pub some_left : (n : ℕ) (gs : List Grant) (b : Bool) → n ≡ length gs → b ≡ (n == 0) → b ≡ false → gs ≢ []
some_left n gs b size is more e = let zero = eq-eqb n 0 (size ∙ ap length e) in absurd (cc (sym more ∙ (is ∙ zero)))

pub room_after : (n few room : ℕ) (gs : List Grant) → n ≡ length gs → gs ≡ [] → few < room → n < room
room_after n few room gs size none lt = let zero : n ≡ 0 = size ∙ ap length none in omega (arith, zero, lt)
