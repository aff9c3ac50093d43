-- The tickets of all seats' logs are the tickets of the history.
use Rattle.std.proofs.Common.{◌≡◌, ℕ, zero, suc, ◌+◌, ◌<◌, ◌≤◌, Bool, true, false, cond, List, [], ◌∷◌, All, Some, slice_get, length, eqb, leb, refl, sym, ◌∙◌, ap, subst, arith}
use Rattle.std.proofs.lemmas.List.Sums.{sum_by-cons}
use Rattle.std.proofs.lemmas.Bool.Decides.{nat_tests}
use Rattle.ring_model.specs.Numbers.{bit}
use Rattle.std.proofs.lemmas.Option.{slice_get_within, get_or_from_slice_get}
use Rattle.ring_model.specs.Ring.{Ring}
use Rattle.ring_model.specs.History.{State, opening, after, IsLegal}
use Rattle.ring_model.specs.Logs.{Fits, calls_of, receipts_of}
use Rattle.ring_model.specs.declared.events.Event.{Event}
use Rattle.ring_model.specs.declared.events.Entry.{Entry}
use Rattle.ring_model.specs.declared.events.Entry.TheVariants as entry
use Rattle.ring_model.proofs.QuietRuns.{bit_is}
use Rattle.ring_shared.specs.Log.{Log}
use Rattle.ring_shared.specs.Closing.{AreNumbered}
use Rattle.ring_shared.specs.Seats.{AreOfSeats}
use Rattle.ticket_desk.specs.Tickets.{roll, gives, hands_out, times_in, times_given, NoneTwice, JustThoseGone}
use Rattle.ticket_desk.proofs.Draws.{nothing_more, times_by, times_by-cons, handed_out_once}

-- the sum of f over n numbers from k on
abbrev sum_from : (ℕ → ℕ) → ℕ → ℕ → ℕ
sum_from f k zero = 0
sum_from f k (suc n) = f k + sum_from f (suc k) n

sum_from-zero : (k n : ℕ) → sum_from (λ i. 0) k n ≡ 0
sum_from-zero k zero = refl
sum_from-zero k (suc n) = nothing_more _ _ (sum_from-zero (suc k) n)

sum_from-add : (f g : ℕ → ℕ) (k n : ℕ) → sum_from (λ i. f i + g i) k n ≡ sum_from f k n + sum_from g k n
sum_from-add f g k zero = refl
sum_from-add f g k (suc n) = let more = sum_from-add f g (suc k) n in omega arith

sum_from-same : (f g : ℕ → ℕ) (k n : ℕ) → ((i : ℕ) → f i ≡ g i) → sum_from f k n ≡ sum_from g k n
sum_from-same f g k zero same = refl
sum_from-same f g k (suc n) same = let more = sum_from-same f g (suc k) n same in let here = same k in omega arith

at_other : (s i x : ℕ) → (s ≡ i → ⊥) → cond (eqb s i) x 0 ≡ 0
at_other s i x other = grind (arith, nat_tests)

at_own : (s x : ℕ) → cond (eqb s s) x 0 ≡ x
at_own s x = grind (arith, nat_tests)

-- a ticket of only one number is not met past it, and is met once up to it
sum_from-past : (s x k n : ℕ) → s < k → sum_from (λ i. cond (eqb s i) x 0) k n ≡ 0
sum_from-past s x k zero past = refl
sum_from-past s x k (suc n) past =
    let here = at_other s k x (λ e. omega arith) in
    let more = sum_from-past s x (suc k) n (omega arith) in
    omega arith

own_by : (s x k n : ℕ) → k ≤ s → s < k + suc n → (suc k ≤ s → s < suc k + n → sum_from (λ i. cond (eqb s i) x 0) (suc k) n ≡ x) →
    (b : Bool) → eqb s k ≡ b → sum_from (λ i. cond (eqb s i) x 0) k (suc n) ≡ x
own_by s x k n from within later true e =
    let same : s ≡ k = grind (arith, nat_tests) in
    let here : cond (eqb s k) x 0 ≡ x = ap (λ (b : Bool). cond b x 0) e in
    let more = sum_from-past s x (suc k) n (omega arith) in
    omega arith
own_by s x k n from within later false e =
    let here : cond (eqb s k) x 0 ≡ 0 = ap (λ (b : Bool). cond b x 0) e in
    let past : suc k ≤ s = grind (arith, nat_tests) in
    let more = later past (omega arith) in
    omega arith

sum_from-own : (s x k n : ℕ) → k ≤ s → s < k + n → sum_from (λ i. cond (eqb s i) x 0) k n ≡ x
sum_from-own s x k zero from within = absurd (omega arith)
sum_from-own s x k (suc n) from within = own_by s x k n from within (sum_from-own s x (suc k) n) (eqb s k) refl

-- the calls of a seat, one event at a time
calls-cons : (t i : ℕ) (e : Event) (h : List Event) → times_by t (calls_of i (e ∷ h)) ≡ cond (eqb e.seat i) (bit (gives t e.reply)) 0 + times_by t (calls_of i h)
calls-cons t i e h = by (eqb e.seat i) refl
  where
    by : (b : Bool) → eqb e.seat i ≡ b → times_by t (calls_of i (e ∷ h)) ≡ cond (eqb e.seat i) (bit (gives t e.reply)) 0 + times_by t (calls_of i h)
    by true is = rw is (times_by-cons t e (calls_of i h))
    by false is = rw is (sym (nothing_more _ _ refl))

-- the seats' calls hand out what the history does
seats_share : (t n : ℕ) (h : List Event) → AreOfSeats n h → sum_from (λ i. times_by t (calls_of i h)) 0 n ≡ times_by t h
seats_share t n [] of = sum_from-zero 0 n
seats_share t n (e ∷ h) of =
    let each = sum_from-same (λ i. times_by t (calls_of i (e ∷ h))) (λ i. cond (eqb e.seat i) (bit (gives t e.reply)) 0 + times_by t (calls_of i h)) 0 n (λ i. calls-cons t i e h) in
    let cut = sum_from-add (λ i. cond (eqb e.seat i) (bit (gives t e.reply)) 0) (λ i. times_by t (calls_of i h)) 0 n in
    let this : e.seat < n = of 0 e (omega arith) in
    let own = sum_from-own e.seat (bit (gives t e.reply)) 0 n (omega arith) (omega arith) in
    let rest : AreOfSeats n h = λ i d lt. of (suc i) d (omega arith) in
    let more = seats_share t n h rest in
    let c = times_by-cons t e h in
    omega arith

-- a log hands out what its receipts' events do
times_in-receipts : (t : ℕ) (log : List Entry) → times_in t log ≡ times_by t (receipts_of log)
times_in-receipts t [] = refl
times_in-receipts t (entry.Receipt r ∷ log) =
    let here = sum_by-cons (λ (x : Entry). cond {A = ℕ} (hands_out t x) 1 0) (entry.Receipt r) log in
    let one = bit_is (gives t r.event.reply) in
    let more = times_in-receipts t log in
    let c = times_by-cons t r.event (receipts_of log) in
    omega arith
times_in-receipts t (entry.Survey s ∷ log) =
    let here = sum_by-cons (λ (x : Entry). cond {A = ℕ} (hands_out t x) 1 0) (entry.Survey s) log in
    let more = times_in-receipts t log in
    omega arith

-- logs of seats from k on
logs_share : (t k : ℕ) (a : State ℕ) (h : List Event) (ls : List Log) → ((i : ℕ) (l : Log) → slice_get ls i ≡ Some l → (l.seat ≡ k + i) × Fits roll a h l.seat l.entries.items) →
    times_given t ls ≡ sum_from (λ i. times_by t (calls_of i h)) k (length ls)
logs_share t k a h [] each = refl
logs_share t k a h (l ∷ ls) each =
    let this = each 0 l refl in
    let number = this.0 in
    let seat : l.seat ≡ k = omega arith in
    let calls = this.1.calls in
    let own : times_in t l.entries.items ≡ times_by t (calls_of k h) =
    times_in-receipts t l.entries.items ∙ ap (times_by t) calls ∙ ap (λ (i : ℕ). times_by t (calls_of i h)) seat in
    let sum = sum_by-cons (λ (x : Log). times_in t x.entries.items) l ls in
    let more = logs_share t (suc k) a h ls (λ i m at. let e = each (suc i) m at in let n = e.0 in (omega arith, e.1)) in
    omega arith

-- the logs of a closed desk hand out each ticket once where it is gone, and else never
times_by_all : (t n : ℕ) (start : Ring) (h : List Event) (ls : List Log) (gone : ℕ) → 1 ≤ t → IsLegal roll (opening start 0) h → (after roll (opening start 0) h).content ≡ gone →
    AreOfSeats n h → length ls ≡ n → AreNumbered ls → All (λ (l : Log). Fits roll (opening start 0) h l.seat l.entries.items) ls → times_given t ls ≡ bit (leb t gone)
times_by_all t n start h ls gone one legal is of count numbered fits =
    logs_share t 0 (opening start 0) h ls
    (λ i l at. (sym (nothing_more _ _ (sym (numbered i l at))), subst (λ (x : Log). Fits roll (opening start 0) h x.seat x.entries.items) (get_or_from_slice_get ls i l l at) (fits i l (slice_get_within ls i l at))))
    ∙ ap (λ (k : ℕ). sum_from (λ i. times_by t (calls_of i h)) 0 k) count
    ∙ seats_share t n h of
    ∙ handed_out_once t (opening start 0) h one refl legal
    ∙ ap (λ (k : ℕ). bit (leb t k)) is

pub none_twice : (n : ℕ) (start : Ring) (h : List Event) (ls : List Log) (gone : ℕ) → IsLegal roll (opening start 0) h → (after roll (opening start 0) h).content ≡ gone →
    AreOfSeats n h → length ls ≡ n → AreNumbered ls → All (λ (l : Log). Fits roll (opening start 0) h l.seat l.entries.items) ls → NoneTwice ls
none_twice n start h ls gone legal is of count numbered fits t one =
    let all = times_by_all t n start h ls gone one legal is of count numbered fits in
    let small = bit_small (leb t gone) in
    omega arith
  where
    bit_small : (b : Bool) → bit b ≤ 1
    bit_small true = omega arith
    bit_small false = omega arith

pub just_those_gone : (n : ℕ) (start : Ring) (h : List Event) (ls : List Log) (gone : ℕ) → IsLegal roll (opening start 0) h → (after roll (opening start 0) h).content ≡ gone →
    AreOfSeats n h → length ls ≡ n → AreNumbered ls → All (λ (l : Log). Fits roll (opening start 0) h l.seat l.entries.items) ls → JustThoseGone gone ls
just_those_gone n start h ls gone legal is of count numbered fits t one =
    let all = times_by_all t n start h ls gone one legal is of count numbered fits in
    (λ given. is_gone t gone (let g = given in omega arith), λ le. let b = gone_is t gone le in omega arith)
  where
    is_gone : (t gone : ℕ) → 1 ≤ bit (leb t gone) → t ≤ gone
    is_gone t gone h = grind (arith, nat_tests)

    gone_is : (t gone : ℕ) → t ≤ gone → bit (leb t gone) ≡ 1
    gone_is t gone h = grind (arith, nat_tests)
