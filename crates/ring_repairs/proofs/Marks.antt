-- The privileged machines in a set: which is the k-th, the next, the last.
use Rattle.std.proofs.Common.{◌≡◌, ◌≢◌, ℕ, zero, suc, ◌+◌, ◌-◌, ◌<◌, ◌≤◌, Bool, true, false, cond, List, length, refl, sym, ◌∙◌, ap, inl, inr, arith}
use Rattle.std.specs.Prelude.{nat_lt}
use Rattle.std.proofs.lemmas.Bool.{cases_lt, cases_eq, cases_Bool, cond-true, cond-false, both_ways, le-leb, lt-leb}
use Rattle.ring_model.specs.Numbers.{bit, count_below, least}
use Rattle.ring_model.specs.Limits.{machine_limit}
use Rattle.ring_model.specs.Ring.{is_privileged, first_privileged}
use Rattle.ring_model.proofs.Settled.{first_is}
use Rattle.machine_masks.specs.Members.{is_in, members_below}
use Rattle.machine_masks.specs.Privileges.{AreMarked}
use Rattle.machine_masks.proofs.Marks.{marked_in, marked_out, below_marked}
use Rattle.ring_repairs.specs.Daemons.{greatest_below, nth, last_privileged, privileged_at, privileged_from, next_privileged}
use Rattle.ring_repairs.proofs.Counting.{sum_prefix}
use Rattle.ring_repairs.proofs.Searching.{nth_here, nth_over, nth_past}

-- ---- the k-th

nth_from : (p : ℕ → Bool) (from turns j x : ℕ) → from ≤ x → x < from + turns → p x ≡ true → count_below p from + j ≡ count_below p x → nth p from turns j ≡ x
nth_from p from zero j x low high on e = absurd (omega arith)
nth_from p from (suc turns) j x low high on e = elim (cases_eq from x) [
  | inl here ↦
      let same : count_below p from ≡ count_below p x = ap (count_below p) here in
      nth_here p from (suc turns) turns j (ap p here ∙ on) refl (omega arith) ∙ here
  | inr other ↦
      let above : suc from ≤ x = above_it from x low other in
      elim (cases_Bool (p from)) [
        | inl one ↦
            let counts : bit (p from) ≡ 1 = ap bit one in
            let more : count_below p (suc from) ≤ count_below p x = sum_prefix (λ i. bit (p i)) (suc from) x above in
            let less : j ≡ suc (j - 1) = omega arith in
            nth_over p from (suc turns) turns j (j - 1) one refl less ∙ nth_from p (suc from) turns (j - 1) x above (omega arith) on (omega arith)
        | inr none ↦
            let counts : bit (p from) ≡ 0 = ap bit none in
            nth_past p from (suc turns) turns j none refl ∙ nth_from p (suc from) turns j x above (omega arith) on (omega arith)
      ]
]
  where
    above_it : (a b : ℕ) → a ≤ b → a ≢ b → suc a ≤ b
    above_it a b l ne = elim (cases_lt a b) [ inl less ↦ omega arith | inr more ↦ absurd (ne (omega arith)) ]

-- a privileged machine that is a machine of the set is one of the ring
member_within : (s words : List ℕ) (x : ℕ) → AreMarked s words → x < machine_limit → is_in words x ≡ true → x < length s
member_within s words x all l on = elim (cases_lt x (length s)) [
  | inl less ↦ less
  | inr more ↦ absurd (both_ways (is_in words x) (marked_out s words x all more l) on)
]

pub nth_marked : (s words : List ℕ) (j x : ℕ) → AreMarked s words → length s ≤ machine_limit → x < machine_limit → is_in words x ≡ true → members_below words x ≡ j →
    x ≡ privileged_at s j
nth_marked s words j x all few l on e =
    let less : x < length s = member_within s words x all l on in
    let place : count_below (is_privileged s) x ≡ j = sym (below_marked s words x all few (omega arith)) ∙ e in
    sym (nth_from (is_privileged s) 0 (length s) j x (omega arith) (omega arith) (sym (marked_in s words x all few less) ∙ on) (omega arith))

-- ---- the next

least_as : (p q : ℕ → Bool) (from turns n : ℕ) → from + turns ≡ n → ((i : ℕ) → i < n → p i ≡ q i) → least p from turns ≡ least q from turns
least_as p q from zero n e same = refl
least_as p q from (suc turns) n e same =
    ap (λ (b : Bool). cond b from (least p (suc from) turns)) (same from (omega arith))
    ∙ ap (λ (x : ℕ). cond (q from) from x) (least_as p q (suc from) turns n (omega arith) same)

pub from_marked : (s words : List ℕ) (i : ℕ) → AreMarked s words → length s ≤ machine_limit → i ≤ length s → least (is_in words) i (length s - i) ≡ privileged_from s i
from_marked s words i all few l =
    least_as (is_in words) (is_privileged s) i (length s - i) (length s) (omega arith) (λ j lj. marked_in s words j all few lj)

pub first_marked : (s words : List ℕ) → AreMarked s words → length s ≤ machine_limit → least (is_in words) 0 (length s - 0) ≡ first_privileged s
first_marked s words all few =
    from_marked s words 0 all few (omega arith) ∙ ap (λ (x : ℕ). least (is_privileged s) 0 x) (none (length s))
  where
    none : (n : ℕ) → n - 0 ≡ n
    none n = omega arith

pub next_here : (s : List ℕ) (i x : ℕ) → x ≡ privileged_from s i → x < length s → x ≡ next_privileged s i
next_here s i x is l =
    let on : nat_lt (privileged_from s i) (length s) ≡ true = le-leb (suc (privileged_from s i)) (length s) (omega arith) in
    is ∙ sym (cond-true (nat_lt (privileged_from s i) (length s)) (privileged_from s i) (first_privileged s) on)

pub next_over : (s : List ℕ) (i x : ℕ) → x ≡ privileged_from s i → length s ≤ x → first_privileged s ≡ next_privileged s i
next_over s i x is l =
    let off : nat_lt (privileged_from s i) (length s) ≡ false = lt-leb (suc (privileged_from s i)) (length s) (omega arith) in
    sym (cond-false (nat_lt (privileged_from s i) (length s)) (privileged_from s i) (first_privileged s) off)

-- ---- the last

greatest_is : (p : ℕ → Bool) (n x : ℕ) → x < n → p x ≡ true → ((i : ℕ) → x < i → i < n → p i ≡ false) → greatest_below p n ≡ x
greatest_is p zero x l on none = absurd (omega arith)
greatest_is p (suc n) x l on none = elim (cases_eq x n) [
  | inl here ↦ cond-true (p n) n (greatest_below p n) (ap p (sym here) ∙ on) ∙ sym here
  | inr other ↦
      let less : x < n = below_it x n (omega arith) other in
      cond-false (p n) n (greatest_below p n) (none n less (omega arith)) ∙ greatest_is p n x less on (λ i li ln. none i li (omega arith))
]
  where
    below_it : (a b : ℕ) → a < suc b → a ≢ b → a < b
    below_it a b l ne = elim (cases_lt a b) [ inl less ↦ less | inr more ↦ absurd (ne (omega arith)) ]

pub last_marked : (s words : List ℕ) (x : ℕ) → AreMarked s words → length s ≤ machine_limit → x < length s → is_in words x ≡ true →
    ((i : ℕ) → x < i → i < length s → is_in words i ≡ false) → x ≡ last_privileged s
last_marked s words x all few l on none =
    sym (greatest_is (is_privileged s) (length s) x l (sym (marked_in s words x all few l) ∙ on) (λ i li ln. sym (marked_in s words i all few ln) ∙ none i li ln))

-- some machine is in the set
pub some_marked : (s words : List ℕ) → AreMarked s words → length s ≤ machine_limit → 2 ≤ length s → (i : ℕ) × (i < length s) × (is_in words i ≡ true)
some_marked s words all few two =
    let first = first_is s (omega arith) in
    (first_privileged s, first.0, marked_in s words (first_privileged s) all few first.0 ∙ first.1)
