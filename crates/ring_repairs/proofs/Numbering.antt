-- The loops that write a numbered state, and that count the states.
use Rattle.std.proofs.Common.{◌≡◌, ℕ, zero, suc, ◌+◌, ◌-◌, ◌*◌, ◌/◌, ◌%◌, ◌^◌, ◌<◌, ◌≤◌, List, [], ◌∷◌, ◌++◌, length, take, get_or, refl, sym, ◌∙◌, ap, subst, arith, append_assoc}
use Rattle.std.proofs.Math.ListN.{set}
use Rattle.std.proofs.Math.Nat.{pow-le-pow_right, one-le-pow}
use Rattle.std.proofs.lemmas.Nat.{mul-le}
use Rattle.std.proofs.lemmas.List.{take_more_set, take_all, append-nil}
use Rattle.ring_model.specs.Ring.{Ring, moved}
use Rattle.ring_state.specs.Sizes.{Size}
use Rattle.ring_repairs.specs.Starts.{digits, states}
use Rattle.ring_repairs.specs.declared.starts.Start.{Start}
use Rattle.ring_repairs.specs.declared.starts.Start.TheVariants.{Any, Faults, All}

-- ---- digits

digits_next : (k left m more : ℕ) → m ≡ suc more → digits k left m ≡ left % k ∷ digits k (left / k) more
digits_next k left m more e = ap (digits k left) e

pub digits_long : (k number n : ℕ) → length (digits k number n) ≡ n
digits_long k number zero = refl
digits_long k number (suc n) = let ih = digits_long k (number / k) n in omega arith

-- machine 0 holds 0
pub numbering_starts : (vs : List ℕ) → 1 ≤ length vs → take 1 (set vs 0 0) ≡ 0 ∷ []
numbering_starts [] one = absurd (omega arith)
numbering_starts (x ∷ xs) one = refl

-- one digit more
pub numbering_goes_on : (k left i n d : ℕ) (vs vs' all : List ℕ) → d ≡ left % k → i < n → n ≡ length vs → vs' ≡ set vs i d →
    take i vs ++ digits k left (n - i) ≡ all → take (i + 1) vs' ++ digits k (left / k) (n - (i + 1)) ≡ all
numbering_goes_on k left i n d vs vs' all ed l en ev inv =
    let more : ℕ = n - (i + 1) in
    let one : n - i ≡ suc more = omega arith in
    ap (λ (x : List ℕ). take (i + 1) x ++ digits k (left / k) more) ev
    ∙ ap (λ (x : List ℕ). x ++ digits k (left / k) more) (take_more_set vs i d (omega arith))
    ∙ append_assoc (take i vs) (d ∷ []) (digits k (left / k) more)
    ∙ ap (λ (x : ℕ). take i vs ++ (x ∷ digits k (left / k) more)) ed
    ∙ ap (λ (x : List ℕ). take i vs ++ x) (sym (digits_next k left (n - i) more one))
    ∙ inv

-- all digits
pub numbering_ends : (k left i n : ℕ) (vs all : List ℕ) → n ≤ i → n ≡ length vs → take i vs ++ digits k left (n - i) ≡ all → vs ≡ all
numbering_ends k left i n vs all l en inv =
    let none : n - i ≡ 0 = omega arith in
    sym (append-nil vs) ∙ sym (ap (λ (x : List ℕ). x ++ []) (take_all i vs (omega arith)))
    ∙ sym (ap (λ (x : ℕ). take i vs ++ digits k left x) none) ∙ inv

-- ---- powers

pub power_over : (b i e limit : ℕ) → 1 ≤ b → i ≤ e → limit < b ^ i → limit < b ^ e
power_over b i e limit one l over = let more : b ^ i ≤ b ^ e = pow-le-pow_right {n = b} one {i = i} {j = e} l in omega arith

-- ---- how many states there are

pub other_states : (start : Start) (size : Size) → (start ≡ All → ⊥) → 1 ≡ states start size
unfolding states
other_states Any size ne = refl
other_states (Faults f) size ne = refl
other_states All size ne = absurd (ne refl)

some_states : (start : Start) (size : Size) → 0 < size.k → 1 ≤ states start size
unfolding states
some_states Any size some = omega arith
some_states (Faults f) size some = omega arith
some_states All size some = one-le-pow (size.n - 1) size.k some

-- of each state there is no more than all trials
pub trials_within : (trials limit : ℕ) (start : Start) (size : Size) → 0 < size.k → trials * states start size ≤ limit → trials ≤ limit
trials_within trials limit start size some l =
    let one = some_states start size some in
    let more : trials * 1 ≤ trials * states start size = mul-le trials 1 trials (states start size) (omega arith) one in
    omega arith

pub product_under : (a b la lb : ℕ) → a ≤ la → b ≤ lb → a * b ≤ la * lb
product_under a b la lb p q = mul-le a b la lb p q

-- ---- a write that is taken back

set_back : (s : List ℕ) (i v w : ℕ) → i < length s → w ≡ get_or s i 0 → set (set s i v) i w ≡ s
set_back [] i v w l e = absurd (omega arith)
set_back (x ∷ xs) zero v w l e = ap (λ (y : ℕ). y ∷ xs) e
set_back (x ∷ xs) (suc i) v w l e = ap (λ (ys : List ℕ). x ∷ ys) (set_back xs i v w (omega arith) e)

pub move_back : (r : Ring) (i v w : ℕ) → i < length r.values → w ≡ get_or r.values i 0 → set (set r.values i v) i w ≡ r.values
move_back r i v w l e = set_back r.values i v w l e
