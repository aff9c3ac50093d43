-- A ring that is asked: what it answers, how many are granted or wait after it, and tokens of 64 bits.
use Rattle.std.proofs.Common.{◌≡◌, ℕ, zero, suc, ◌+◌, ◌-◌, ◌*◌, ◌^◌, ◌<◌, ◌≤◌, Bool, true, false, List, [], ◌∷◌, ◌++◌, length, Option, None, Some, ◌⊎◌, inl, inr, refl, sym, ◌∙◌, ap, subst, arith}
use Rattle.std.specs.Prelude.{slice_get, slice_set, filter, not, ◌==◌, ◌&&◌, option_map, nat_le, if◌then◌else◌}
use Rattle.std.proofs.Math.Nat.{mul-le-mul_right, suc-mul}
use Rattle.std.proofs.lemmas.List.{length-append}
use Rattle.std.proofs.lemmas.List.Filters.{length-filter_both}
use Rattle.std.proofs.lemmas.Option.{slice_get-map, slice_get_within}
use Rattle.ring_model.specs.Limits.{event_limit, machine_limit}
use Rattle.ring_model.specs.Ring.{IsRing}
use Rattle.ring_model.specs.History.{after}
use Rattle.ring_model.specs.Resources.{till}
use Rattle.ring_model.proofs.Histories.{grants-after}
use Rattle.held_locks.specs.Grants.{most_passes}
use Rattle.endless_ring.specs.Endless.{EndlessView}
use Rattle.held_locks.specs.declared.answers.Waiter.{Waiter}
use Rattle.held_locks.specs.declared.answers.Holder.{Holder}
use Rattle.held_locks.specs.declared.answers.Answer.{Answer}
use Rattle.held_locks.specs.declared.answers.Answer.TheVariants as answer
use Rattle.held_locks.specs.declared.answers.Answers.{Answers}
use Rattle.held_locks.specs.declared.answers.Refusal.{Refusal}
use Rattle.held_locks.specs.declared.answers.Refusal.TheVariants as refusal
use Rattle.held_locks.specs.declared.asks.OneAsk.{OneAsk}
use Rattle.held_locks.specs.declared.asks.OneAsk.TheVariants as asks
use Rattle.held_locks.specs.Queues.{Lock, stands, without, is_held_with}
use Rattle.held_locks.specs.Locks.{Ask, Acquire, Try, Release, Cancel, Leave, Corrupt, Stats, Asked, Step, Turn, told, granted, advanced, ended, joined, acquired, tried, tried_of, acquire_refusal, try_refusal, turn, fault, faulted, step, step_at}
use Rattle.held_locks.specs.Kept.{LockView, lock_of, locks_of, lock_limit, AreKept, IsKeptLock, AreMade, ended_at, own_answer, other_grant, answers_of, IsDone, IsLack}
use Rattle.held_locks.specs.Asked.{asked, IsAnswerTo}
use Rattle.held_locks.proofs.Asking.{as_answer, asked_long}
use Rattle.held_locks.proofs.Moves.{Move, Stays, Waits, Gets, Ends, Drops, Faults, IsAsking, Acquires, Tries, IsEnd, Released, Left, waiter, move_of}
use Rattle.held_locks.proofs.Rings.{grant_grants, fault_few}
use Rattle.held_locks.proofs.Standing.{get_set_same}
use Rattle.lock_names.specs.Names.{Bound, token_in, number_in, of_ring, grants_at}
use Rattle.lock_names.specs.Promises.{IsRightBound}
use Rattle.lock_names.specs.Kept.{waiting, top_limit, may_pass, own_number, with_number, IsReady, IsTellable}
use Rattle.name_bindings.proofs.Found.{some_same, none_some}
use Rattle.lock_names.proofs.Fitting.{moved}
use Rattle.lock_names.proofs.Twins.{same_token}

-- ---- how many wait

pub waiting_set : (ls : List Lock) (i : ℕ) (l m : Lock) → slice_get ls i ≡ Some l → waiting (slice_set ls i m) + length l.queue ≡ waiting ls + length m.queue
waiting_set [] i l m e = absurd (none_some l e)
waiting_set (k ∷ ls) zero l m e = let same : length k.queue ≡ length l.queue = ap (λ (x : Lock). length x.queue) (some_same k l e) in omega arith
waiting_set (k ∷ ls) (suc i) l m e = let rest : waiting (slice_set ls i m) + length l.queue ≡ waiting ls + length m.queue = waiting_set ls i l m e in omega arith

pub queue_in : (ls : List Lock) (i : ℕ) (l : Lock) → slice_get ls i ≡ Some l → length l.queue ≤ waiting ls
queue_in [] i l e = absurd (none_some l e)
queue_in (k ∷ ls) zero l e = let same : length k.queue ≡ length l.queue = ap (λ (x : Lock). length x.queue) (some_same k l e) in omega arith
queue_in (k ∷ ls) (suc i) l e = let le : length l.queue ≤ waiting ls = queue_in ls i l e in omega arith

queues_few : (vs : List LockView) (m : ℕ) → ((i : ℕ) (v : LockView) → slice_get vs i ≡ Some v → length v.queue ≤ m) → waiting (locks_of vs) ≤ length vs * m
queues_few [] m h = omega arith
queues_few (v ∷ vs) m h =
    let here : length v.queue ≤ m = h zero v refl in
    let rest : waiting (locks_of vs) ≤ length vs * m = queues_few vs m (λ i. h (suc i)) in
    let more : suc (length vs) * m ≡ length vs * m + m = suc-mul (length vs) m in
    omega arith

queue_few : (v : LockView) → IsKeptLock v → length v.queue ≤ event_limit
queue_few v k =
    let room : length v.queue ≤ v.ring.ring.book.room = k.room in
    let bounded : length v.ring.ring.book.history + v.ring.ring.book.room ≤ event_limit = k.ring.endless.ring.book.bounded in
    omega arith

pub few_waiting : (vs : List LockView) (entries : List (ℕ × ℕ)) → AreKept vs entries → waiting (locks_of vs) ≤ 4000000000000
few_waiting vs entries k =
    let lines : waiting (locks_of vs) ≤ length vs * event_limit = queues_few vs event_limit (λ i v e. queue_few v (k.each i v e)) in
    let many : length vs * event_limit ≤ lock_limit * event_limit = mul-le-mul_right event_limit k.few in
    omega arith

-- ---- how many are granted or wait after an ask

-- how many more it may be
abbrev pub grows : Lock → Ask → ℕ
grows l (Acquire label) = 1
grows l (Try label) = 1
grows l (Corrupt i v) = 1 + most_passes (length l.ring.ring.values)
grows l _ = 0

pub fewer : (c : ℕ) (queue : List Waiter) → length (without c queue) ≤ length queue
fewer c queue =
    let both : length (filter (λ (w : Waiter). w.client == c) queue) + length (without c queue) ≡ length queue =
    length-filter_both (λ (w : Waiter). w.client == c) (λ (w : Waiter). not (w.client == c)) (λ w. refl) queue in
    omega arith

grows_one : (l : Lock) (ask : Ask) (label : ℕ) → IsAsking ask label → grows l ask ≡ 1
grows_one l ask label (Acquires e) = ap (λ (a : Ask). grows l a) e
grows_one l ask label (Tries e) = ap (λ (a : Ask). grows l a) e

end_fewer : (l : Lock) (c : ℕ) (h : Holder) (ask : Ask) (seat : ℕ) (queue : List Waiter) (answers : List (ℕ × Answer)) → IsEnd l c h ask seat queue answers → length queue ≤ length l.queue
end_fewer l c h ask seat queue answers (Released a b e f) = let same : length queue ≡ length l.queue = ap (λ (x : List Waiter). length x) e in omega arith
end_fewer l c h ask seat queue answers (Left a b e f) =
    let same : length queue ≡ length (without c l.queue) = ap (λ (x : List Waiter). length x) e in
    let le : length (without c l.queue) ≤ length l.queue = fewer c l.queue in
    omega arith

-- no more than n
abbrev pub AreFew : ℕ → Lock → Type 0
AreFew n m = m.ring.grants + length m.queue ≤ n

one_more : (x g n high : ℕ) → x ≡ g + 1 → g + n + 1 ≤ high → x + n ≤ high
one_more x g n high e le = omega arith

few_advanced : (l : Lock) (queue : List Waiter) (n : ℕ) → IsRing l.ring.ring → l.ring.grants + length queue ≤ n → AreFew n (advanced l.ring queue).lock
few_advanced l [] n g le = le
few_advanced l (w ∷ queue) n g le = one_more (advanced l.ring (w ∷ queue)).lock.ring.grants l.ring.grants (length queue) n (grant_grants l.ring w.label g) (omega (arith, le))

pub few_move : (ls : List Lock) (l : Lock) (c : ℕ) (ask : Ask) (t : Turn) → IsRing l.ring.ring → Move ls l c ask t → AreFew (l.ring.grants + length l.queue + grows l ask) t.lock
few_move ls l c ask t g (Stays a q leave e) =
    let le : l.ring.grants + length l.queue ≤ l.ring.grants + length l.queue + grows l ask = omega arith in
    subst (λ (x : Turn). AreFew (l.ring.grants + length l.queue + grows l ask) x.lock) (sym e) le
few_move ls l c ask t g (Waits label h k held other free back e) =
    subst (λ (x : Turn). AreFew (l.ring.grants + length l.queue + grows l ask) x.lock) (sym e) (
    let one : grows l ask ≡ 1 = ap (λ (a : Ask). grows l a) k in
    let len : length (l.queue ++ waiter c label ∷ []) ≡ length l.queue + 1 = length-append l.queue (waiter c label ∷ []) in
    let le : l.ring.grants + length (l.queue ++ waiter c label ∷ []) ≤ l.ring.grants + length l.queue + grows l ask = omega arith in
    le
    )
few_move ls l c ask t g (Gets label asking a e) =
    subst (λ (x : Turn). AreFew (l.ring.grants + length l.queue + grows l ask) x.lock) (sym e) (
    let one : grows l ask ≡ 1 = grows_one l ask label asking in
    one_more (granted l.ring l.queue (waiter c label)).lock.ring.grants l.ring.grants (length l.queue) (l.ring.grants + length l.queue + grows l ask) (grant_grants l.ring label g) (omega arith)
    )
few_move ls l c ask t g (Ends h seat queue answers held own is e) =
    let le : length queue ≤ length l.queue = end_fewer l c h ask seat queue answers is in
    subst (λ (x : Turn). AreFew (l.ring.grants + length l.queue + grows l ask) x.lock) (sym e) (few_advanced l queue (l.ring.grants + length l.queue + grows l ask) g (omega arith))
few_move ls l c ask t g (Drops answers is e) =
    let le : length (without c l.queue) ≤ length l.queue = fewer c l.queue in
    let all : l.ring.grants + length (without c l.queue) ≤ l.ring.grants + length l.queue + grows l ask = omega arith in
    subst (λ (x : Turn). AreFew (l.ring.grants + length l.queue + grows l ask) x.lock) (sym e) all
few_move ls l c ask t g (Faults i v a lt lk e) =
    let more : grows l ask ≡ 1 + most_passes (length l.ring.ring.values) = ap (λ (a : Ask). grows l a) a in
    let passes : (after till l.ring (fault l.ring i v)).grants ≤ l.ring.grants + length (fault l.ring i v) = grants-after till l.ring (fault l.ring i v) in
    let few : length (fault l.ring i v) ≤ 1 + most_passes (length l.ring.ring.values) = fault_few l.ring i v in
    let all : (after till l.ring (fault l.ring i v)).grants + length l.queue ≤ l.ring.grants + length l.queue + grows l ask = omega arith in
    subst (λ (x : Turn). AreFew (l.ring.grants + length l.queue + grows l ask) x.lock) (sym e) all

-- ---- what a client asks of a name, as its ring understands it

-- the lock's ring has few machines
abbrev HasFew : Lock → Type 0
HasFew l = length l.ring.ring.values ≤ machine_limit

grown : (l : Lock) (b : Bound) (ask : OneAsk) (top more : ℕ) → HasFew l → (may_pass (asked ask) ≡ true → top < top_limit) → more ≤ 4000000000000 → top + more < 2 ^ 64 → top + more + grows l (of_ring b (asked ask)) < 2 ^ 64
grown l b (asks.Acquire label) top more small limit few le =
    let lt : top < 2 ^ 63 = limit refl in
    let all : top + more + 1 < 2 ^ 64 = omega arith in
    all
grown l b (asks.Try label) top more small limit few le =
    let lt : top < 2 ^ 63 = limit refl in
    let all : top + more + 1 < 2 ^ 64 = omega arith in
    all
grown l b (asks.Release token) top more small limit few le = let all : top + more + 0 < 2 ^ 64 = omega arith in all
grown l b asks.Cancel top more small limit few le = let all : top + more + 0 < 2 ^ 64 = omega arith in all
grown l b (asks.Corrupt i v) top more small limit few le =
    let lt : top < 2 ^ 63 = limit refl in
    let machines : length l.ring.ring.values ≤ 1024 = small in
    let all : top + more + (1 + (length l.ring.ring.values - 1)) < 2 ^ 64 = omega arith in
    all
grown l b asks.Stats top more small limit few le = let all : top + more + 0 < 2 ^ 64 = omega arith in all

-- ---- each token of an answer has 64 bits

abbrev AreTellable : Bound → List (ℕ × Answer) → Type 0
AreTellable b [] = Unit {0}
AreTellable b (a ∷ list) = IsTellable b a.1 × AreTellable b list

abbrev pub FitsNext : Bound → Lock → Type 0
FitsNext b l = token_in b (l.ring.grants + 1) < 2 ^ 64

join_tellable : (b : Bound) (l : Lock) (w : Waiter) (h : Option Holder) → FitsNext b l → AreTellable b (joined l w h).answers
join_tellable b l w None fit = (fit, tt)
join_tellable b l w (Some h) fit = (tt, tt)

acquire_tellable : (b : Bound) (l : Lock) (w : Waiter) (why : Option Refusal) → FitsNext b l → AreTellable b (acquired l w why).answers
acquire_tellable b l w None fit = join_tellable b l w l.holder fit
acquire_tellable b l w (Some why) fit = (tt, tt)

try_of_tellable : (b : Bound) (l : Lock) (w : Waiter) (h : Option Holder) → FitsNext b l → AreTellable b (tried_of l w h).answers
try_of_tellable b l w None fit = (fit, tt)
try_of_tellable b l w (Some h) fit = (tt, tt)

try_tellable : (b : Bound) (l : Lock) (w : Waiter) (why : Option Refusal) → FitsNext b l → AreTellable b (tried l w why).answers
try_tellable b l w None fit = try_of_tellable b l w l.holder fit
try_tellable b l w (Some why) fit = (tt, tt)

end_tellable : (b : Bound) (l : Lock) (c : ℕ) (queue : List Waiter) → (0 < length queue → FitsNext b l) → AreTellable b (ended l.ring queue 1 ((c, answer.Released) ∷ [])).answers
end_tellable b l c [] fit = (tt, tt)
end_tellable b l c (w ∷ queue) fit = (tt, (fit (omega arith), tt))

release_tellable : (b : Bound) (l : Lock) (c : ℕ) (is : Bool) → (0 < length l.queue → FitsNext b l) →
    AreTellable b (if is then ended l.ring l.queue 1 ((c, answer.Released) ∷ []) else told l c (answer.Refused refusal.Holder)).answers
release_tellable b l c true fit = end_tellable b l c l.queue fit
release_tellable b l c false fit = (tt, tt)

cancel_tellable : (b : Bound) (l m : Lock) (c : ℕ) (is : Bool) → AreTellable b (if is then told m c answer.Cancelled else told l c (answer.Refused refusal.Waiter)).answers
cancel_tellable b l m c true = (tt, tt)
cancel_tellable b l m c false = (tt, tt)

corrupt_tellable : (b : Bound) (l : Lock) (c i v : ℕ) (far great : Bool) →
    AreTellable b (if far then told l c (answer.Refused refusal.Machine) else if great then told l c (answer.Refused refusal.Value) else faulted l c i v).answers
corrupt_tellable b l c i v true great = (tt, tt)
corrupt_tellable b l c i v false true = (tt, tt)
corrupt_tellable b l c i v false false = (tt, tt)

turn_tellable : (ls : List Lock) (l : Lock) (c : ℕ) (b : Bound) (ask : OneAsk) → (may_pass (asked ask) ≡ true → FitsNext b l) → (0 < length l.queue → FitsNext b l) → ((h : Holder) → l.holder ≡ Some h → token_in b h.token < 2 ^ 64) →
    AreTellable b (turn ls l c (of_ring b (asked ask))).answers
turn_tellable ls l c b (asks.Acquire label) hold wait own = acquire_tellable b l (waiter c label) (acquire_refusal ls l c) (hold refl)
turn_tellable ls l c b (asks.Try label) hold wait own = try_tellable b l (waiter c label) (try_refusal l c) (hold refl)
turn_tellable ls l c b (asks.Release token) hold wait own = release_tellable b l c (is_held_with c (number_in b token) l.holder) wait
turn_tellable ls l c b asks.Cancel hold wait own = cancel_tellable b l (record l { queue = without c l.queue }) c (stands c l.queue)
turn_tellable ls l c b (asks.Corrupt i v) hold wait own = corrupt_tellable b l c i v (nat_le (length l.ring.ring.values) i) (nat_le l.ring.ring.k v)
turn_tellable ls l c b asks.Stats hold wait own = (own, tt)

own_part : (b : Bound) (c : ℕ) (o : Option Answer) (g : Option Holder) (a : Answer) → AreTellable b (own_answer c o ++ other_grant g) → o ≡ Some a → IsTellable b a
own_part b c None g a all e = absurd (none_some a e)
own_part b c (Some x) g a all e = subst (λ (z : Answer). IsTellable b z) (some_same x a e) all.0

grant_part : (b : Bound) (c : ℕ) (o : Option Answer) (g : Option Holder) (h : Holder) → AreTellable b (own_answer c o ++ other_grant g) → g ≡ Some h → token_in b h.token < 2 ^ 64
grant_part b c o None h all e = absurd (none_some h e)
grant_part b c None (Some k) h all e = subst (λ (z : Holder). token_in b z.token < 2 ^ 64) (some_same k h e) all.0
grant_part b c (Some x) (Some k) h all e = subst (λ (z : Holder). token_in b z.token < 2 ^ 64) (some_same k h e) all.1.0

-- ---- the step of a lock that is there

pub view_lock : (vs : List LockView) (i : ℕ) (v : LockView) → slice_get vs i ≡ Some v → slice_get (locks_of vs) i ≡ Some (lock_of v)
view_lock vs i v e = slice_get-map lock_of vs i ∙ ap (λ (o : Option LockView). option_map lock_of o) e

viewed : (o : Option LockView) (m : Lock) → option_map lock_of o ≡ Some m → (w : LockView) × (o ≡ Some w) × (lock_of w ≡ m)
viewed None m e = absurd (none_some m e)
viewed (Some w) m e = (w, refl, some_same (lock_of w) m e)

pub lock_view : (vs : List LockView) (i : ℕ) (m : Lock) → slice_get (locks_of vs) i ≡ Some m → (w : LockView) × (slice_get vs i ≡ Some w) × (lock_of w ≡ m)
lock_view vs i m e = viewed (slice_get vs i) m (sym (slice_get-map lock_of vs i) ∙ e)

pub done_locks : (vs ws : List LockView) (c i : ℕ) (a : Ask) (r : Answers) (l : Lock) → IsDone vs ws c i a r → slice_get (locks_of vs) i ≡ Some l → locks_of ws ≡ slice_set (locks_of vs) i (turn (locks_of vs) l c a).lock
done_locks vs ws c i a r l d e = d.locks ∙ ap (λ (o : Option Lock). (step_at (locks_of vs) c i a o).locks) e

pub done_answers : (vs ws : List LockView) (c i : ℕ) (a : Ask) (r : Answers) (l : Lock) → IsDone vs ws c i a r → slice_get (locks_of vs) i ≡ Some l → answers_of c r ≡ (turn (locks_of vs) l c a).answers
done_answers vs ws c i a r l d e = d.answers ∙ ap (λ (o : Option Lock). (step_at (locks_of vs) c i a o).answers) e

-- ---- what is so after an ask

pub record IsOutcome (vs ws : List LockView) (top i : ℕ) (b : Bound) (raw : Answers) : Type 0 where
  pub old : LockView
  pub there : slice_get vs i ≡ Some old
  pub new : LockView
  pub later : slice_get ws i ≡ Some new
  pub more : (lock_of old).ring.grants ≤ (lock_of new).ring.grants
  pub tokens : top + ((lock_of new).ring.grants - (lock_of old).ring.grants) + waiting (locks_of ws) < 2 ^ 64
  pub own : (a : Answer) → raw.own ≡ Some a → IsTellable b a
  pub granted : (h : Holder) → raw.granted ≡ Some h → token_in b h.token < 2 ^ 64

pub next_fits : (top more : ℕ) (l : Lock) (b : Bound) → IsRightBound top l b → top + 1 < 2 ^ 64 → FitsNext b l
next_fits top more l b r lt =
    let lo : b.before ≤ l.ring.grants = r.before in
    let hi : token_in b l.ring.grants ≤ top = r.token in
    omega arith

held_fits : (top : ℕ) (h : Holder) (l : Lock) (b : Bound) → IsRightBound top l b → l.holder ≡ Some h → top < 2 ^ 64 → token_in b h.token < 2 ^ 64
held_fits top h l b r e lt =
    let k = r.held h e in
    let lo : b.before < h.token = k.0 in
    let hi : h.token ≤ l.ring.grants = k.1 in
    let token : token_in b l.ring.grants ≤ top = r.token in
    omega arith

few_machines : (vs : List LockView) (entries : List (ℕ × ℕ)) (i : ℕ) (v : LockView) → AreKept vs entries → slice_get vs i ≡ Some v → HasFew (lock_of v)
few_machines vs entries i v k at = (k.each i v at).ring.endless.ring.book.now_ring.most_machines

done_outcome : (vs ws : List LockView) (entries : List (ℕ × ℕ)) (top c i : ℕ) (b : Bound) (ask : OneAsk) (raw : Answers) → AreKept vs entries → IsReady vs top i b (asked ask) →
    IsDone vs ws c i (of_ring b (asked ask)) raw → IsOutcome vs ws top i b raw
done_outcome vs ws entries top c i b ask raw k r d =
    let ls : List Lock = locks_of vs in
    let l : Lock = lock_of r.lock in
    let at : slice_get ls i ≡ Some l = view_lock vs i r.lock r.there in
    let t : Turn = turn ls l c (of_ring b (asked ask)) in
    let all : locks_of ws ≡ slice_set ls i t.lock = done_locks vs ws c i (of_ring b (asked ask)) raw l d at in
    let w = lock_view ws i t.lock (ap (λ (x : List Lock). slice_get x i) all ∙ get_set_same ls i t.lock l at) in
    let g : IsRing l.ring.ring = (r.right.each i l at).ring in
    let more : l.ring.grants ≤ t.lock.ring.grants = (moved ls l c (of_ring b (asked ask)) g).more in
    let few : t.lock.ring.grants + length t.lock.queue ≤ l.ring.grants + length l.queue + grows l (of_ring b (asked ask)) =
    few_move ls l c (of_ring b (asked ask)) t g (move_of ls l c (of_ring b (asked ask))) in
    let sum : waiting (slice_set ls i t.lock) + length l.queue ≡ waiting ls + length t.lock.queue = waiting_set ls i l t.lock at in
    let bounded : waiting ls ≤ 4000000000000 = few_waiting vs entries k in
    let limit : top + waiting ls + grows l (of_ring b (asked ask)) < 2 ^ 64 = grown l b ask top (waiting ls) (few_machines vs entries i r.lock k r.there) r.limit bounded r.tokens in
    let within : length l.queue ≤ waiting ls = queue_in ls i l at in
    let before : top + waiting ls < 2 ^ 64 = r.tokens in
    let tokens : top + (t.lock.ring.grants - l.ring.grants) + waiting (slice_set ls i t.lock) < 2 ^ 64 = omega arith in
    let told : AreTellable b (answers_of c raw) = subst (λ (x : List (ℕ × Answer)). AreTellable b x) (sym (done_answers vs ws c i (of_ring b (asked ask)) raw l d at))
    (turn_tellable ls l c b ask (λ h. next_fits top 0 l b r.bound (let lt : top < 2 ^ 63 = r.limit h in omega arith)) (λ lt. next_fits top 0 l b r.bound (omega (arith, lt))) (λ h e. held_fits top h l b r.bound e (omega arith))) in
    record {
      old = r.lock;
      there = r.there;
      new = w.0;
      later = w.1;
      more = subst (λ (x : Lock). l.ring.grants ≤ x.ring.grants) (sym w.2) more;
      tokens = subst (λ (x : List Lock). top + ((lock_of w.0).ring.grants - l.ring.grants) + waiting x < 2 ^ 64) (sym all)
          (subst (λ (x : Lock). top + (x.ring.grants - l.ring.grants) + waiting (slice_set ls i t.lock) < 2 ^ 64) (sym w.2) tokens);
      own = λ a e. own_part b c raw.own raw.granted a told e;
      granted = λ h e. grant_part b c raw.own raw.granted h told e;
    }

refused_tellable : (b : Bound) (o : Option Answer) (why : Refusal) (a : Answer) → o ≡ Some (answer.Refused why) → o ≡ Some a → IsTellable b a
refused_tellable b o why a e f = subst (λ (z : Answer). IsTellable b z) (some_same (answer.Refused why) a (sym e ∙ f)) tt

lack_own : (vs ws : List LockView) (i : ℕ) (b : Bound) (a : Ask) (raw : Answers) → IsLack vs ws i a raw → (x : Answer) → raw.own ≡ Some x → IsTellable b x
lack_own vs ws i b a raw w x e = elim w.why [
  | inl p ↦ refused_tellable b raw.own refusal.Full x p.0 e
  | inr p ↦ refused_tellable b raw.own refusal.Memory x p e
]

lack_outcome : (vs ws : List LockView) (top i : ℕ) (b : Bound) (ask : Ask) (raw : Answers) → IsReady vs top i b ask → IsLack vs ws i (of_ring b ask) raw → IsOutcome vs ws top i b raw
lack_outcome vs ws top i b ask raw r w =
    let g : ℕ = (lock_of r.lock).ring.grants in
    let before : top + waiting (locks_of vs) < 2 ^ 64 = r.tokens in
    let tokens : top + (g - g) + waiting (locks_of vs) < 2 ^ 64 = omega arith in
    record {
      old = r.lock;
      there = r.there;
      new = r.lock;
      later = ap (λ (x : List LockView). slice_get x i) w.same ∙ r.there;
      more = omega arith;
      tokens = subst (λ (x : List LockView). top + (g - g) + waiting (locks_of x) < 2 ^ 64) (sym w.same) tokens;
      own = lack_own vs ws i b (of_ring b ask) raw w;
      granted = λ h e. absurd (none_some h (sym w.none.1 ∙ e));
    }

pub outcome : (vs ws : List LockView) (entries : List (ℕ × ℕ)) (top c i : ℕ) (b : Bound) (ask : OneAsk) (raw : Answers) → AreKept vs entries → IsReady vs top i b (asked ask) →
    IsAnswerTo vs ws c i (of_ring b (asked ask)) raw → IsOutcome vs ws top i b raw
outcome vs ws entries top c i b ask raw k r a = elim (as_answer vs ws c i (of_ring b (asked ask)) raw a) [
  | inl d ↦ done_outcome vs ws entries top c i b ask raw k r d
  | inr w ↦ lack_outcome vs ws top i b (asked ask) raw r w
]

-- ---- a release

held_number : (c token : ℕ) (b : Bound) (o : Option Holder) → ((h : Holder) → o ≡ Some h → b.before < h.token) → is_held_with c (own_number b token o) o ≡ is_held_with c (number_in b token) o
held_number c token b None began = refl
held_number c token b (Some h) began =
    let lt : b.before < h.token = began h refl in
    ap (λ (q : Bool). (h.client == c) && q) (sym (same_token b token h.token h.token lt (omega arith)))

release_turn : (ls : List Lock) (l : Lock) (c n m : ℕ) → is_held_with c n l.holder ≡ is_held_with c m l.holder → turn ls l c (Release n) ≡ turn ls l c (Release m)
release_turn ls l c n m e = ap (λ (q : Bool). if q then ended l.ring l.queue 1 ((c, answer.Released) ∷ []) else told l c (answer.Refused refusal.Holder)) e

release_step : (ls : List Lock) (c i n m : ℕ) (l : Lock) → slice_get ls i ≡ Some l → is_held_with c n l.holder ≡ is_held_with c m l.holder → step ls (Asked c i (Release n)) ≡ step ls (Asked c i (Release m))
release_step ls c i n m l at e =
    ap (λ (o : Option Lock). step_at ls c i (Release n) o) at
    ∙ ap (λ (t : Turn). record { locks = slice_set ls i t.lock; marks = t.marks; answers = t.answers }) (release_turn ls l c n m e)
    ∙ sym (ap (λ (o : Option Lock). step_at ls c i (Release m) o) at)

done_as : (vs ws : List LockView) (c i : ℕ) (a d : Ask) (r : Answers) → step (locks_of vs) (Asked c i a) ≡ step (locks_of vs) (Asked c i d) → IsDone vs ws c i a r → IsDone vs ws c i d r
done_as vs ws c i a d r e k = record {
  locks = k.locks ∙ ap (λ (s : Step). s.locks) e;
  answers = k.answers ∙ ap (λ (s : Step). s.answers) e;
  ended = k.ended ∙ ap (λ (s : Step). ended_at (slice_get vs i) s.marks) e;
  marks = λ v w f g. subst (λ (s : Step). AreMade v.ring s.marks w.ring) e (k.marks v w f g);
  others = k.others;
}

-- a release with the ring's own number is one with the token of the name
released_as : (vs ws : List LockView) (c i token : ℕ) (b : Bound) (v : LockView) (r : Answers) → slice_get vs i ≡ Some v → ((h : Holder) → v.holder ≡ Some h → b.before < h.token) →
    IsDone vs ws c i (Release (own_number b token v.holder)) r → IsDone vs ws c i (Release (number_in b token)) r
released_as vs ws c i token b v r at began d =
    done_as vs ws c i (Release (own_number b token v.holder)) (Release (number_in b token)) r
    (release_step (locks_of vs) c i (own_number b token v.holder) (number_in b token) (lock_of v) (view_lock vs i v at) (held_number c token b v.holder began)) d

-- so what is answered to the ring's number is answered to the token
pub numbered : (vs ws : List LockView) (c i : ℕ) (b : Bound) (ask : OneAsk) (v : LockView) (r : Answers) → slice_get vs i ≡ Some v → ((h : Holder) → v.holder ≡ Some h → b.before < h.token) →
    IsAnswerTo vs ws c i (with_number b (asked ask) v.holder) r → IsAnswerTo vs ws c i (of_ring b (asked ask)) r
numbered vs ws c i b (asks.Acquire label) v r at began a = a
numbered vs ws c i b (asks.Try label) v r at began a = a
numbered vs ws c i b (asks.Release token) v r at began d = released_as vs ws c i token b v r at began d
numbered vs ws c i b asks.Cancel v r at began d = d
numbered vs ws c i b (asks.Corrupt machine value) v r at began a = a
numbered vs ws c i b asks.Stats v r at began d = d

-- only an ask that may make the ring pass is refused for lack of room or memory
pub done_or_lack : (vs ws : List LockView) (c i : ℕ) (b : Bound) (ask : Ask) (r : Answers) → IsAnswerTo vs ws c i (of_ring b ask) r →
    IsDone vs ws c i (of_ring b ask) r ⊎ ((may_pass ask ≡ true) × IsLack vs ws i (of_ring b ask) r)
done_or_lack vs ws c i b (Acquire label) r (inl d) = inl d
done_or_lack vs ws c i b (Acquire label) r (inr w) = inr (refl, w)
done_or_lack vs ws c i b (Try label) r (inl d) = inl d
done_or_lack vs ws c i b (Try label) r (inr w) = inr (refl, w)
done_or_lack vs ws c i b (Release token) r d = inl d
done_or_lack vs ws c i b Cancel r d = inl d
done_or_lack vs ws c i b Leave r d = inl d
done_or_lack vs ws c i b (Corrupt machine value) r (inl d) = inl d
done_or_lack vs ws c i b (Corrupt machine value) r (inr w) = inr (refl, w)
done_or_lack vs ws c i b Stats r d = inl d

-- ---- what a ring that may be asked is

pub ready_within : (vs : List LockView) (top i : ℕ) (b : Bound) (ask : Ask) → IsReady vs top i b ask → i < length vs
ready_within vs top i b ask r = slice_get_within vs i r.lock r.there

pub ready_held : (vs : List LockView) (top i : ℕ) (b : Bound) (ask : Ask) (v : LockView) (h : Holder) → IsReady vs top i b ask → slice_get vs i ≡ Some v → v.holder ≡ Some h →
    (b.before < h.token) × (token_in b h.token < 2 ^ 64)
ready_held vs top i b ask v h r at e =
    let same : v ≡ r.lock = some_same v r.lock (sym at ∙ r.there) in
    let held : r.lock.holder ≡ Some h = ap (λ (x : LockView). x.holder) (sym same) ∙ e in
    let lt : top + waiting (locks_of vs) < 2 ^ 64 = r.tokens in
    ((r.bound.held h held).0, held_fits top h (lock_of r.lock) b r.bound held (omega arith))

pub answer_within : (vs ws : List LockView) (c i : ℕ) (a : Ask) (r : Answers) → IsAnswerTo vs ws c i a r → i < length vs → i < length ws
answer_within vs ws c i a r all lt = let same : length ws ≡ length vs = asked_long vs ws c i a r all in omega (arith, lt)

-- ---- the grants that are counted

pub record IsCounted (vs ws : List LockView) (top i before after : ℕ) : Type 0 where
  pub more : before ≤ after
  pub tokens : top + (after - before) + waiting (locks_of ws) < 2 ^ 64
  pub old : grants_at (slice_get (locks_of vs) i) ≡ before
  pub new : grants_at (slice_get (locks_of ws) i) ≡ after

view_grants : (e : EndlessView) (v : LockView) (g : ℕ) → e ≡ v.ring → g ≡ e.base.grants + e.ring.book.now.grants → g ≡ (lock_of v).ring.grants
view_grants e v g same is = is ∙ ap (λ (x : EndlessView). x.base.grants + x.ring.book.now.grants) same

pub counted : (vs ws : List LockView) (top i before after : ℕ) (b : Bound) (raw : Answers) (e f : EndlessView) → IsOutcome vs ws top i b raw → ((v : LockView) → slice_get vs i ≡ Some v → e ≡ v.ring) →
    ((v : LockView) → slice_get ws i ≡ Some v → f ≡ v.ring) → before ≡ e.base.grants + e.ring.book.now.grants → after ≡ f.base.grants + f.ring.book.now.grants → IsCounted vs ws top i before after
counted vs ws top i before after b raw e f o old new g h =
    let was : before ≡ (lock_of o.old).ring.grants = view_grants e o.old before (old o.old o.there) g in
    let now : after ≡ (lock_of o.new).ring.grants = view_grants f o.new after (new o.new o.later) h in
    let more : (lock_of o.old).ring.grants ≤ (lock_of o.new).ring.grants = o.more in
    let tokens : top + ((lock_of o.new).ring.grants - (lock_of o.old).ring.grants) + waiting (locks_of ws) < 2 ^ 64 = o.tokens in
    record {
      more = omega arith;
      tokens = omega arith;
      old = ap (λ (x : Option Lock). grants_at x) (view_lock vs i o.old o.there) ∙ sym was;
      new = ap (λ (x : Option Lock). grants_at x) (view_lock ws i o.new o.later) ∙ sym now;
    }
