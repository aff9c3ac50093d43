-- The rounds of trials.
use Rattle.std.proofs.Common.{◌≡◌, ℕ, zero, suc, ◌+◌, ◌-◌, ◌<◌, ◌≤◌, ◌==◌, Bool, true, false, cond, List, [], ◌∷◌, length, get_or, refl, sym, ◌∙◌, ap, subst, inl, inr, arith}
use Rattle.std.proofs.lemmas.Bool.{cases_eq, cases_lt, cond-true, cond-false, eq-eqb, ne_eqb, both_ways}
use Rattle.ring_model.specs.Numbers.{bit, count_below}
use Rattle.ring_model.specs.Ring.{Ring, is_settled}
use Rattle.ring_model.specs.Runs.{after_passes, granted_passes}
use Rattle.ring_model.specs.RepairLaws.{longest_repair}
use Rattle.ring_repairs.specs.Daemons.{choices, daemon_choices}
use Rattle.ring_repairs.specs.Rounds.{memory_after, asked_from, rounds_of}
use Rattle.ring_repairs.specs.Studies.{StudyData, IsStudy, trial_ring, trial_memory, trial_choices, trial_passes, trial_turns, trial_rounds, IsCounted}
use Rattle.ring_repairs.specs.TrialLaws.{TurnsAreAsked, OneRoundIsEnough, RoundsAreBounded}
use Rattle.ring_repairs.specs.declared.daemons.Daemon.{Daemon}
use Rattle.ring_repairs.specs.declared.daemons.Daemon.TheVariants.{Turn}
use Rattle.ring_repairs.specs.declared.daemons.Memory.{Memory}
use Rattle.ring_repairs.proofs.Turns.{AreTurns, turns_from_first, nobody_asked, rounds_none, rounds_one, is_turn}
use Rattle.ring_repairs.proofs.Counting.{counted_two}
use Rattle.ring_repairs.proofs.TrialFacts.{trials_start, trials_settle, trials_are_granted}

asked_first : (s : StudyData) (t : ℕ) → (trial_memory s t).asked ≡ 0
unfolding trial_memory
asked_first s t = refl

-- the turns of a trial
trial_turns_are : (s : StudyData) (t : ℕ) → IsStudy s → s.daemon ≡ Turn → AreTurns (longest_repair s.size.n) (trial_memory s t) (trial_ring s t) (trial_turns s t)
unfolding trial_turns
trial_turns_are s t is e =
    let most : ℕ = longest_repair s.size.n in
    let m : Memory = trial_memory s t in
    let r : Ring = trial_ring s t in
    subst (λ (d : Daemon). AreTurns most m r (memory_after d most m r).asked) (sym e) (turns_from_first most m r (trials_start s t is).0 (asked_first s t))

choices_are : (s : StudyData) (t : ℕ) → s.daemon ≡ Turn → choices Turn (longest_repair s.size.n) (trial_memory s t) (trial_ring s t) ≡ trial_choices s t
unfolding trial_choices
choices_are s t e = ap (λ (d : Daemon). daemon_choices d (longest_repair s.size.n) (trial_memory s t) (trial_ring s t)) (sym e)

pub turns_asked : TurnsAreAsked
turns_asked s t is e =
    let all = trial_turns_are s t is e in
    let n : length (trial_ring s t).values ≡ s.size.n = (trials_start s t is).2 in
    let r : Ring = trial_ring s t in (
      ap (λ (x : ℕ). granted_passes r (asked_from x 0 (trial_turns s t))) (sym n) ∙ all.granted ∙ choices_are s t e,
      λ p l. ap (λ (x : ℕ). is_settled (after_passes r (asked_from x 0 p)).values) (sym n) ∙ all.unsettled p l,
    )

trial_rounds_is : (s : StudyData) (t : ℕ) → trial_rounds s t ≡ rounds_of s.size.n (trial_turns s t)
unfolding trial_rounds
trial_rounds_is s t = refl

none_in_turn : (s : StudyData) (t : ℕ) → (s.daemon ≡ Turn → ⊥) → trial_turns s t ≡ 0
unfolding trial_turns
none_in_turn s t other = nobody_asked s.daemon (longest_repair s.size.n) (trial_memory s t) (trial_ring s t) other ∙ asked_first s t

-- no turn is needed exactly where no pass is
no_turn : (s : StudyData) (t : ℕ) → IsStudy s → s.daemon ≡ Turn → trial_turns s t ≡ 0 → trial_passes s t ≡ 0
no_turn s t is e none =
    let granted = (trials_are_granted s t is).1 in
    let all : granted_passes (trial_ring s t) (asked_from s.size.n 0 (trial_turns s t)) ≡ trial_choices s t = (turns_asked s t is e).0 in
    let no : [] ≡ trial_choices s t = ap (λ (x : ℕ). granted_passes (trial_ring s t) (asked_from s.size.n 0 x)) (sym none) ∙ all in
    let long : 0 ≡ length (trial_choices s t) = ap (λ (x : List ℕ). length x) no in
    omega arith

nothing_long : (xs : List ℕ) → length xs ≡ 0 → xs ≡ []
nothing_long [] e = refl
nothing_long (x ∷ xs) e = absurd (omega arith)

some_turn : (s : StudyData) (t : ℕ) → IsStudy s → s.daemon ≡ Turn → 1 ≤ trial_turns s t → trial_passes s t ≡ 0 → ⊥
some_turn s t is e some none =
    let r : Ring = trial_ring s t in
    let granted = (trials_are_granted s t is).1 in
    let off : is_settled r.values ≡ false = (turns_asked s t is e).1 0 (omega arith) in
    let no : trial_choices s t ≡ [] = nothing_long (trial_choices s t) (omega arith) in
    let on : is_settled r.values ≡ true = ap (λ (x : List ℕ). is_settled (after_passes r x).values) (sym no) ∙ trials_settle s t is in
    both_ways (is_settled r.values) off on

one_round_in_turn : (s : StudyData) (t : ℕ) → IsStudy s → s.daemon ≡ Turn → trial_rounds s t ≡ cond (trial_passes s t == 0) 0 1
one_round_in_turn s t is e =
    let two = is.size.machines in
    let n : length (trial_ring s t).values ≡ s.size.n = (trials_start s t is).2 in
    let few = (trial_turns_are s t is e).few in
    elim (cases_eq (trial_passes s t) 0) [
      | inl none ↦
          let turns : trial_turns s t ≡ 0 = elim (cases_lt 0 (trial_turns s t)) [
            | inr le ↦ omega arith
            | inl some ↦ absurd (some_turn s t is e some none)
          ] in
          trial_rounds_is s t ∙ rounds_none s.size.n (trial_turns s t) (omega arith) turns
          ∙ sym (cond-true (trial_passes s t == 0) 0 1 (eq-eqb (trial_passes s t) 0 none))
      | inr some ↦
          let turns : 1 ≤ trial_turns s t = elim (cases_lt 0 (trial_turns s t)) [
            | inl l ↦ l
            | inr le ↦ absurd (some (no_turn s t is e (omega arith)))
          ] in
          trial_rounds_is s t ∙ rounds_one s.size.n (trial_turns s t) (omega arith) turns (omega arith)
          ∙ sym (cond-false (trial_passes s t == 0) 0 1 (ne_eqb (trial_passes s t) 0 some))
    ]

no_round : (s : StudyData) (t : ℕ) → IsStudy s → (s.daemon ≡ Turn → ⊥) → trial_rounds s t ≡ 0
no_round s t is other =
    let two = is.size.machines in
    trial_rounds_is s t ∙ rounds_none s.size.n (trial_turns s t) (omega arith) (none_in_turn s t other)

pub one_round : OneRoundIsEnough
one_round s t is = (one_round_in_turn s t is, no_round s t is)

at_most_one : (b : Bool) → cond {A = ℕ} b 0 1 ≤ 1
at_most_one true = omega arith
at_most_one false = omega arith

pub rounds_are_bounded : RoundsAreBounded
rounds_are_bounded s t is = elim (is_turn s.daemon) [
  | inl e ↦
      let two = is.size.machines in
      let one = one_round_in_turn s t is e in
      let most = at_most_one (trial_passes s t == 0) in
      omega arith
  | inr other ↦ let none = no_round s t is other in omega arith
]

-- ---- each is counted once

count_same : (p q : ℕ → Bool) (n : ℕ) → ((t : ℕ) → p t ≡ q t) → count_below p n ≡ count_below q n
count_same p q zero same = refl
count_same p q (suc n) same =
    let ih : count_below p n ≡ count_below q n = count_same p q n same in
    let one : bit (p n) ≡ bit (q n) = ap bit (same n) in
    omega arith

count_all : (p : ℕ → Bool) (n : ℕ) → ((t : ℕ) → p t ≡ true) → count_below p n ≡ n
count_all p zero all = refl
count_all p (suc n) all =
    let ih : count_below p n ≡ n = count_all p n all in
    let one : bit (p n) ≡ 1 = ap bit (all n) in
    omega arith

-- of numbers that are 0 or 1 each is one of the two
two_counts : (f : ℕ → ℕ) (n : ℕ) → ((t : ℕ) → f t ≤ 1) → count_below (λ t. f t == 0) n + count_below (λ t. f t == 1) n ≡ n
two_counts f zero few = refl
two_counts f (suc n) few =
    let ih : count_below (λ t. f t == 0) n + count_below (λ t. f t == 1) n ≡ n = two_counts f n few in
    let most = few n in
    let one : bit (f n == 0) + bit (f n == 1) ≡ 1 = elim (cases_eq (f n) 0) [
      | inl none ↦
          let a : bit (f n == 0) ≡ 1 = ap bit (eq-eqb (f n) 0 none) in
          let b : bit (f n == 1) ≡ 0 = ap bit (ne_eqb (f n) 1 (λ q. absurd (omega arith))) in
          omega arith
      | inr some ↦
          let a : bit (f n == 0) ≡ 0 = ap bit (ne_eqb (f n) 0 some) in
          let b : bit (f n == 1) ≡ 1 = ap bit (eq-eqb (f n) 1 (let q : 1 ≤ f n = elim (cases_lt 0 (f n)) [ inl l ↦ l | inr le ↦ absurd (some (omega arith)) ] in omega arith)) in
          omega arith
    ] in
    omega arith

round_few : (s : StudyData) (t : ℕ) → IsStudy s → trial_rounds s t ≤ 1
round_few s t is = elim (is_turn s.daemon) [
  | inl e ↦ let one = one_round_in_turn s t is e in let most = at_most_one (trial_passes s t == 0) in omega arith
  | inr other ↦ let none = no_round s t is other in omega arith
]

is_none : (b : Bool) → (cond {A = ℕ} b 0 1 == 0) ≡ b
is_none true = refl
is_none false = refl

pub no_rounds_in_turn : (s : StudyData) (done : ℕ) → IsStudy s → s.daemon ≡ Turn →
    count_below (λ t. trial_rounds s t == 0) done ≡ count_below (λ t. trial_passes s t == 0) done
no_rounds_in_turn s done is e =
    count_same (λ t. trial_rounds s t == 0) (λ t. trial_passes s t == 0) done
    (λ t. ap (λ (x : ℕ). x == 0) (one_round_in_turn s t is e) ∙ is_none (trial_passes s t == 0))

pub no_rounds_else : (s : StudyData) (done : ℕ) → IsStudy s → (s.daemon ≡ Turn → ⊥) → count_below (λ t. trial_rounds s t == 0) done ≡ done
no_rounds_else s done is other =
    count_all (λ t. trial_rounds s t == 0) done (λ t. eq-eqb (trial_rounds s t) 0 (no_round s t is other))

pub few_none : (s : StudyData) (done : ℕ) → IsStudy s → count_below (λ t. trial_rounds s t == 0) done ≤ done
few_none s done is = let all = two_counts (trial_rounds s) done (λ t. round_few s t is) in omega arith

pub rounds_counted : (s : StudyData) (done none : ℕ) (h : List ℕ) → IsStudy s → none ≡ count_below (λ t. trial_rounds s t == 0) done →
    h ≡ none ∷ (done - none) ∷ [] → IsCounted (trial_rounds s) done h
rounds_counted s done none h is e eh =
    let all : count_below (λ t. trial_rounds s t == 0) done + count_below (λ t. trial_rounds s t == 1) done ≡ done =
    two_counts (trial_rounds s) done (λ t. round_few s t is) in
    let total = counted_two none (done - none) in
    subst (λ (x : List ℕ). IsCounted (trial_rounds s) done x) (sym eh) (record {
      each = λ v. elim v as (λ v. v < 2 → get_or (none ∷ (done - none) ∷ []) v 0 ≡ count_below (λ t. trial_rounds s t == v) done) [
        | zero ↦ λ l. e
        | suc v ↦ elim v as (λ v. suc v < 2 → get_or (none ∷ (done - none) ∷ []) (suc v) 0 ≡ count_below (λ t. trial_rounds s t == suc v) done) [
          | zero ↦ λ l. omega arith
          | suc v ↦ λ l. absurd (omega arith)
        ]
      ];
      all = omega arith;
    })
