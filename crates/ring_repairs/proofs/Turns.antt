-- The daemon `Turn` as machines that are asked in turn, and how many rounds that takes.
use Rattle.std.proofs.Common.{◌≡◌, ℕ, zero, suc, ◌+◌, ◌-◌, ◌*◌, ◌/◌, ◌%◌, ◌<◌, ◌≤◌, ◌==◌, Bool, true, false, List, [], ◌∷◌, ◌++◌, length, get_or, refl, sym, ◌∙◌, ap, subst, inl, inr, arith}
use Rattle.std.specs.Prelude.{nat_lt, nat_le, ◌⊎◌}
use Rattle.std.proofs.lemmas.Bool.{cases_Bool, cases_lt, cases_eq, cond-true, cond-false, both_ways, le-leb, lt-leb, eq-eqb, eqb-true, not-false}
use Rattle.std.proofs.lemmas.Nat.{mod_below, mod-mul-add, div-add-mod', div_below, le-div}
use Rattle.std.proofs.lemmas.List.{get_or-set_same, get_or-set_other}
use Rattle.std.proofs.Math.ListN.{set}
use Rattle.ring_model.specs.Numbers.{least}
use Rattle.ring_model.specs.Ring.{Ring, IsRing, is_privileged, first_privileged, moved, is_settled}
use Rattle.ring_model.specs.Runs.{passed, after_passes, granted_passes}
use Rattle.ring_model.proofs.Runs.{pass_granted, pass_idle, length_pass, length_after}
use Rattle.ring_model.proofs.Rounds.{after_passes-append}
use Rattle.ring_model.proofs.Lead.{all_settled}
use Rattle.ring_model.proofs.Settled.{first_is}
use Rattle.ring_repairs.specs.Daemons.{privileged_from, next_privileged, asked_until, choice, remembered, choices}
use Rattle.ring_repairs.specs.Rounds.{memory_after, asked_from, rounds_of}
use Rattle.ring_repairs.specs.declared.daemons.Daemon.{Daemon}
use Rattle.ring_repairs.specs.declared.daemons.Daemon.TheVariants.{First, Last, Random, Turn, Slow, Groups}
use Rattle.ring_repairs.specs.declared.daemons.Memory.{Memory}
use Rattle.ring_repairs.proofs.Remembering.{memory_none, memory_settled, memory_goes_on}
use Rattle.ring_repairs.proofs.Choices.{choice_privileged, choice_ring, choices_none, choices_settled, choices_go_on, granted_next}

-- ---- what is remembered

-- each other daemon asks nobody in turn
asks_nobody : (d : Daemon) → (d ≡ Turn → ⊥) → (m : Memory) (r : Ring) → (remembered d m r).asked ≡ m.asked
unfolding remembered
asks_nobody First other m r = refl
asks_nobody Last other m r = refl
asks_nobody Random other m r = refl
asks_nobody Turn other m r = absurd (other refl)
asks_nobody Slow other m r = refl
asks_nobody Groups other m r = refl

pub nobody_asked : (d : Daemon) (most : ℕ) (m : Memory) (r : Ring) → (d ≡ Turn → ⊥) → (memory_after d most m r).asked ≡ m.asked
nobody_asked d zero m r other = ap (λ (x : Memory). x.asked) (memory_none d m r)
nobody_asked d (suc most) m r other = elim (cases_Bool (is_settled r.values)) [
  | inl e ↦ ap (λ (x : Memory). x.asked) (memory_settled d (suc most) m r e)
  | inr e ↦
      ap (λ (x : Memory). x.asked) (memory_goes_on d most m r e)
      ∙ nobody_asked d most (remembered d m r) (passed r (choice d m r)) other ∙ asks_nobody d other m r
]

-- ---- the machine of a turn

turn_split : (a n k : ℕ) → a + k ≡ a / n * n + (a % n + k)
turn_split a n k = let is = div-add-mod' a n in omega arith

turn_before : (a n k : ℕ) → a % n + k < n → (a + k) % n ≡ a % n + k
turn_before a n k l = ap (λ (x : ℕ). x % n) (turn_split a n k) ∙ mod-mul-add (a / n) n (a % n + k) l

turn_after : (a n k : ℕ) → n ≤ a % n + k → a % n + k < n + n → (a + k) % n ≡ a % n + k - n
turn_after a n k le l =
    let is = turn_split a n k in
    let split : a + k ≡ (a / n + 1) * n + (a % n + k - n) = omega arith in
    ap (λ (x : ℕ). x % n) split ∙ mod-mul-add (a / n + 1) n (a % n + k - n) (omega arith)

-- ---- nobody else is privileged on the way to the next one

least_from : (p : ℕ → Bool) (from turns : ℕ) → from ≤ least p from turns
least_from p from zero = omega arith
least_from p from (suc turns) = elim (cases_Bool (p from)) [
  | inl on ↦ let is : least p from (suc turns) ≡ from = cond-true (p from) from (least p (suc from) turns) on in omega arith
  | inr off ↦
      let is : least p from (suc turns) ≡ least p (suc from) turns = cond-false (p from) from (least p (suc from) turns) off in
      let ih = least_from p (suc from) turns in
      omega arith
]

none_before : (p : ℕ → Bool) (from turns k : ℕ) → from ≤ k → k < least p from turns → p k ≡ false
none_before p from zero k le l = absurd (omega arith)
none_before p from (suc turns) k le l = elim (cases_Bool (p from)) [
  | inl on ↦ let is : least p from (suc turns) ≡ from = cond-true (p from) from (least p (suc from) turns) on in absurd (omega arith)
  | inr off ↦
      let is : least p from (suc turns) ≡ least p (suc from) turns = cond-false (p from) from (least p (suc from) turns) off in
      elim (cases_eq k from) [
        | inl same ↦ ap p same ∙ off
        | inr other ↦ none_before p (suc from) turns k (omega arith) (omega arith)
      ]
]

-- of the turns from a on, the first `idle` ones ask machines that are not privileged, and the next one asks machine j
record IsNext (s : List ℕ) (a idle j : ℕ) : Type 0 where
  off : (t : ℕ) → a ≤ t → t < a + idle → is_privileged s (t % length s) ≡ false
  there : (a + idle) % length s ≡ j
  asked : asked_until (length s) (a % length s) j ≡ suc idle

next_before : (s : List ℕ) (a : ℕ) → 0 < length s → privileged_from s (a % length s) < length s →
    (idle : ℕ) × IsNext s a idle (next_privileged s (a % length s))
next_before s a some l =
    let n : ℕ = length s in
    let i : ℕ = a % n in
    let from : i < n = mod_below a n some in
    let j : ℕ = privileged_from s i in
    let low : i ≤ j = least_from (is_privileged s) i (n - i) in
    let on : nat_lt j n ≡ true = le-leb (suc j) n (omega arith) in
    let is : next_privileged s i ≡ j = cond-true (nat_lt j n) j (first_privileged s) on in
    let up : nat_le i j ≡ true = le-leb i j low in
    let turns : asked_until n i j ≡ j + 1 - i = cond-true (nat_le i j) (j + 1 - i) (n + j + 1 - i) up in (
      j - i,
      subst (λ (x : ℕ). IsNext s a (j - i) x) (sym is) (record {
        off = λ t le lt.
            let k : ℕ = t - a in
            let at : t ≡ a + k = omega arith in
            let place : t % n ≡ i + k = ap (λ (x : ℕ). x % n) at ∙ turn_before a n k (omega arith) in
            ap (is_privileged s) place ∙ none_before (is_privileged s) i (n - i) (i + k) (omega arith) (omega arith);
        there = let is' = turn_before a n (j - i) (omega arith) in omega arith;
        asked = omega arith;
      }),
    )

next_after : (s : List ℕ) (a : ℕ) → 0 < length s → is_privileged s (first_privileged s) ≡ true → first_privileged s < length s → length s ≤ privileged_from s (a % length s) →
    (idle : ℕ) × IsNext s a idle (next_privileged s (a % length s))
next_after s a some on first l =
    let n : ℕ = length s in
    let i : ℕ = a % n in
    let from : i < n = mod_below a n some in
    let j : ℕ = first_privileged s in
    let off : nat_lt (privileged_from s i) n ≡ false = lt-leb (suc (privileged_from s i)) n (omega arith) in
    let is : next_privileged s i ≡ j = cond-false (nat_lt (privileged_from s i) n) (privileged_from s i) j off in
    let under : j < i = elim (cases_lt j i) [
      | inl less ↦ less
      | inr more ↦ absurd (both_ways (is_privileged s j) (none_before (is_privileged s) i (n - i) j more (omega arith)) on)
    ] in
    let up : nat_le i j ≡ false = lt-leb i j under in
    let turns : asked_until n i j ≡ n + j + 1 - i = cond-false (nat_le i j) (j + 1 - i) (n + j + 1 - i) up in (
      n + j - i,
      subst (λ (x : ℕ). IsNext s a (n + j - i) x) (sym is) (record {
        off = λ t le lt.
            let k : ℕ = t - a in
            let at : t ≡ a + k = omega arith in
            elim (cases_lt (i + k) n) [
              | inl less ↦
                  ap (is_privileged s) (ap (λ (x : ℕ). x % n) at ∙ turn_before a n k less)
                  ∙ none_before (is_privileged s) i (n - i) (i + k) (omega arith) (omega arith)
              | inr more ↦
                  ap (is_privileged s) (ap (λ (x : ℕ). x % n) at ∙ turn_after a n k more (omega arith))
                  ∙ none_before (is_privileged s) 0 n (i + k - n) (omega arith) (omega arith)
            ];
        there = let is' = turn_after a n (n + j - i) (omega arith) (omega arith) in omega arith;
        asked = omega arith;
      }),
    )

next_there : (s : List ℕ) (a : ℕ) → 0 < length s →
    (idle : ℕ) × IsNext s a idle (next_privileged s (a % length s))
next_there s a some = elim (cases_lt (privileged_from s (a % length s)) (length s)) [
  | inl less ↦ next_before s a some less
  | inr more ↦ let first = first_is s some in next_after s a some first.1 first.0 more
]

-- ---- turns in which nobody moves

idle_state : (r : Ring) (n a idle : ℕ) → ((t : ℕ) → a ≤ t → t < a + idle → is_privileged r.values (t % n) ≡ false) →
    after_passes r (asked_from n a idle) ≡ r
idle_state r n a zero off = refl
idle_state r n a (suc idle) off =
    ap (λ (x : Ring). after_passes x (asked_from n (suc a) idle)) (pass_idle r (a % n) (off a (omega arith) (omega arith)))
    ∙ idle_state r n (suc a) idle (λ t le l. off t (omega arith) (omega arith))

turn_next : (r : Ring) (n a turns : ℕ) → is_privileged r.values (a % n) ≡ false →
    granted_passes r (asked_from n a (suc turns)) ≡ granted_passes r (asked_from n (suc a) turns)
turn_next r n a turns off =
    cond-false (is_privileged r.values (a % n)) (a % n ∷ granted_passes (passed r (a % n)) (asked_from n (suc a) turns))
    (granted_passes (passed r (a % n)) (asked_from n (suc a) turns)) off
    ∙ ap (λ (x : Ring). granted_passes x (asked_from n (suc a) turns)) (pass_idle r (a % n) off)

idle_granted : (r : Ring) (n a idle more : ℕ) → ((t : ℕ) → a ≤ t → t < a + idle → is_privileged r.values (t % n) ≡ false) →
    granted_passes r (asked_from n a (idle + more)) ≡ granted_passes r (asked_from n (a + idle) more)
idle_granted r n a zero more off =
    let e : a ≡ a + 0 = omega arith in
    let z : 0 + more ≡ more = omega arith in
    ap (λ (x : ℕ). granted_passes r (asked_from n a x)) z ∙ ap (λ (x : ℕ). granted_passes r (asked_from n x more)) e
idle_granted r n a (suc idle) more off =
    let z : suc idle + more ≡ suc (idle + more) = omega arith in
    let e : suc a + idle ≡ a + suc idle = omega arith in
    ap (λ (x : ℕ). granted_passes r (asked_from n a x)) z
    ∙ turn_next r n a (idle + more) (off a (omega arith) (omega arith))
    ∙ idle_granted r n (suc a) idle more (λ t le l. off t (omega arith) (omega arith))
    ∙ ap (λ (x : ℕ). granted_passes r (asked_from n x more)) e

idle_after : (r : Ring) (n a idle more : ℕ) → ((t : ℕ) → a ≤ t → t < a + idle → is_privileged r.values (t % n) ≡ false) →
    after_passes r (asked_from n a (idle + more)) ≡ after_passes r (asked_from n (a + idle) more)
idle_after r n a zero more off =
    let e : a ≡ a + 0 = omega arith in
    let z : 0 + more ≡ more = omega arith in
    ap (λ (x : ℕ). after_passes r (asked_from n a x)) z ∙ ap (λ (x : ℕ). after_passes r (asked_from n x more)) e
idle_after r n a (suc idle) more off =
    let z : suc idle + more ≡ suc (idle + more) = omega arith in
    let e : suc a + idle ≡ a + suc idle = omega arith in
    ap (λ (x : ℕ). after_passes r (asked_from n a x)) z
    ∙ ap (λ (x : Ring). after_passes x (asked_from n (suc a) (idle + more))) (pass_idle r (a % n) (off a (omega arith) (omega arith)))
    ∙ idle_after r n (suc a) idle more (λ t le l. off t (omega arith) (omega arith))
    ∙ ap (λ (x : ℕ). after_passes r (asked_from n x more)) e

-- ---- the choices are the passes that are granted in turn

-- turns from turn a on: in fewer of them the ring is not settled, and these are granted
pub record InTurn (n a turns : ℕ) (r : Ring) (cs : List ℕ) : Type 0 where
  pub granted : granted_passes r (asked_from n a turns) ≡ cs
  pub unsettled : (p : ℕ) → p < turns → is_settled (after_passes r (asked_from n a p)).values ≡ false

-- the turns until the next machine moves, and those after them
turns_joined : (n idle turns : ℕ) (m : Memory) (r : Ring) (cs : List ℕ) → length r.values ≡ n → is_settled r.values ≡ false →
    is_privileged r.values (choice Turn m r) ≡ true → IsNext r.values m.asked idle (choice Turn m r) →
    InTurn n (m.asked + suc idle) turns (passed r (choice Turn m r)) cs → InTurn n m.asked (idle + suc turns) r (choice Turn m r ∷ cs)
turns_joined n idle turns m r cs size going on next rest =
    let a : ℕ = m.asked in
    let j : ℕ = choice Turn m r in
    let off : (t : ℕ) → a ≤ t → t < a + idle → is_privileged r.values (t % n) ≡ false =
    subst (λ (x : ℕ). (t : ℕ) → a ≤ t → t < a + idle → is_privileged r.values (t % x) ≡ false) size next.off in
    let there : (a + idle) % n ≡ j = subst (λ (x : ℕ). (a + idle) % x ≡ j) size next.there in
    let later : suc (a + idle) ≡ a + suc idle = omega arith in
    record {
      granted =
          idle_granted r n a idle (suc turns) off
          ∙ ap (λ (x : ℕ). granted_passes r (x ∷ asked_from n (suc (a + idle)) turns)) there
          ∙ granted_next r j (asked_from n (suc (a + idle)) turns) on
          ∙ ap (λ (x : ℕ). j ∷ granted_passes (passed r j) (asked_from n x turns)) later
          ∙ ap (λ (x : List ℕ). j ∷ x) rest.granted;
      unsettled = λ p l. elim (cases_lt idle p) [
        | inr few ↦
            ap (λ (x : Ring). is_settled x.values) (idle_state r n a p (λ t le lt. off t le (omega arith))) ∙ going
        | inl more ↦
            let q : ℕ = p - suc idle in
            let all : p ≡ idle + suc q = omega arith in
            ap (λ (x : ℕ). is_settled (after_passes r (asked_from n a x)).values) all
            ∙ ap (λ (x : Ring). is_settled x.values) (idle_after r n a idle (suc q) off)
            ∙ ap (λ (x : ℕ). is_settled (after_passes (passed r x) (asked_from n (suc (a + idle)) q)).values) there
            ∙ ap (λ (x : ℕ). is_settled (after_passes (passed r j) (asked_from n x q)).values) later
            ∙ rest.unsettled q (omega arith)
      ];
    }

turn_choice : (m : Memory) (r : Ring) → choice Turn m r ≡ next_privileged r.values (m.asked % length r.values)
unfolding choice
turn_choice m r = refl

turn_remembered : (m : Memory) (r : Ring) →
    (remembered Turn m r).asked ≡ m.asked + asked_until (length r.values) (m.asked % length r.values) (choice Turn m r)
unfolding remembered choice
turn_remembered m r = refl

-- the turns of a repair
abbrev pub Turns : ℕ → ℕ → Memory → Ring → Type 0
Turns n most m r =
    (turns : ℕ) × ((memory_after Turn most m r).asked ≡ m.asked + turns) × InTurn n m.asked turns r (choices Turn most m r)

no_turns : (n most : ℕ) (m : Memory) (r : Ring) → memory_after Turn most m r ≡ m → choices Turn most m r ≡ [] → Turns n most m r
no_turns n most m r same none = (
  0,
  (let is = ap (λ (x : Memory). x.asked) same in omega arith),
  record { granted = sym none; unsettled = λ p l. absurd (omega arith) },
)

turns_more : (n most : ℕ) (m : Memory) (r : Ring) → IsRing r → length r.values ≡ n → is_settled r.values ≡ false →
    Turns n most (remembered Turn m r) (passed r (choice Turn m r)) → Turns n (suc most) m r
turns_more n most m r g size e rest =
    let two = g.two in
    let next = next_there r.values m.asked (omega arith) in
    let idle : ℕ = next.0 in
    let j : ℕ = choice Turn m r in
    let is_next : IsNext r.values m.asked idle j = subst (λ (x : ℕ). IsNext r.values m.asked idle x) (sym (turn_choice m r)) next.1 in
    let asked : (remembered Turn m r).asked ≡ m.asked + suc idle = let is = turn_remembered m r in let more = is_next.asked in omega arith in
    let in_turn : InTurn n (m.asked + suc idle) rest.0 (passed r j) (choices Turn most (remembered Turn m r) (passed r j)) =
    subst (λ (x : ℕ). InTurn n x rest.0 (passed r j) (choices Turn most (remembered Turn m r) (passed r j))) asked rest.2 in
    let all = ap (λ (x : Memory). x.asked) (memory_goes_on Turn most m r e) in
    let later = rest.1 in (
      idle + suc rest.0,
      omega arith,
      subst (λ (x : List ℕ). InTurn n m.asked (idle + suc rest.0) r x) (sym (choices_go_on Turn most m r e))
          (turns_joined n idle rest.0 m r (choices Turn most (remembered Turn m r) (passed r j)) size e (choice_privileged Turn m r g) is_next in_turn),
    )

pub turns_are_asked : (n most : ℕ) (m : Memory) (r : Ring) → IsRing r → length r.values ≡ n → Turns n most m r
turns_are_asked n zero m r g size = no_turns n 0 m r (memory_none Turn m r) (choices_none Turn m r)
turns_are_asked n (suc most) m r g size = elim (cases_Bool (is_settled r.values)) [
  | inl e ↦ no_turns n (suc most) m r (memory_settled Turn (suc most) m r e) (choices_settled Turn (suc most) m r e)
  | inr e ↦
      turns_more n most m r g size e
      (turns_are_asked n most (remembered Turn m r) (passed r (choice Turn m r)) (choice_ring Turn m r g) (length_pass r (choice Turn m r) ∙ size))
]

-- ---- after a round all machines have one value

asked_more : (n t turns : ℕ) → asked_from n t (turns + 1) ≡ asked_from n t turns ++ (t + turns) % n ∷ []
asked_more n t zero =
    let e : t ≡ t + 0 = omega arith in
    ap (λ (x : ℕ). x % n ∷ []) e
asked_more n t (suc turns) =
    let z : suc turns + 1 ≡ suc (turns + 1) = omega arith in
    let e : suc t + turns ≡ t + suc turns = omega arith in
    ap (asked_from n t) z
    ∙ ap (λ (x : List ℕ). t % n ∷ x) (asked_more n (suc t) turns)
    ∙ ap (λ (x : ℕ). t % n ∷ (asked_from n (suc t) turns ++ x % n ∷ [])) e

-- machines 0 to i have one value
abbrev IsLevel : ℕ → List ℕ → Type 0
IsLevel i s = (k : ℕ) → k ≤ i → get_or s k 0 ≡ get_or s 0 0

level_more : (r : Ring) (i : ℕ) → suc i < length r.values → IsLevel i r.values → IsLevel (suc i) (passed r (suc i)).values
level_more r i l level k le = elim (cases_Bool (is_privileged r.values (suc i))) [
  | inl on ↦
      let s : List ℕ = r.values in
      let is : passed r (suc i) ≡ moved r (suc i) = pass_granted r (suc i) on in
      let first : get_or (set s (suc i) (get_or s i 0)) 0 0 ≡ get_or s 0 0 = get_or-set_other s (suc i) 0 (get_or s i 0) 0 (λ q. absurd (omega arith)) in
      let here : get_or (set s (suc i) (get_or s i 0)) k 0 ≡ get_or s 0 0 = elim (cases_eq k (suc i)) [
        | inl same ↦
            ap (λ (x : ℕ). get_or (set s (suc i) (get_or s i 0)) x 0) same ∙ get_or-set_same s (suc i) (get_or s i 0) 0 l ∙ level i (omega arith)
        | inr other ↦ get_or-set_other s (suc i) k (get_or s i 0) 0 other ∙ level k (omega arith)
      ] in
      ap (λ (x : Ring). get_or x.values k 0) is ∙ here ∙ sym first ∙ ap (λ (x : Ring). get_or x.values 0 0) (sym is)
  | inr off ↦
      let s : List ℕ = r.values in
      let is : passed r (suc i) ≡ r = pass_idle r (suc i) off in
      let same : get_or s i 0 ≡ get_or s (suc i) 0 = eqb-true (get_or s i 0) (get_or s (suc i) 0) (not-false (get_or s i 0 == get_or s (suc i) 0) off) in
      let here : get_or s k 0 ≡ get_or s 0 0 = elim (cases_eq k (suc i)) [
        | inl at ↦ ap (λ (x : ℕ). get_or s x 0) at ∙ sym same ∙ level i (omega arith)
        | inr other ↦ level k (omega arith)
      ] in
      ap (λ (x : Ring). get_or x.values k 0) is ∙ here ∙ ap (λ (x : Ring). get_or x.values 0 0) (sym is)
]

turn_before' : (n k : ℕ) → k < n → (0 + k) % n ≡ k
turn_before' n k l =
    let z : 0 + k ≡ 0 * n + k = omega arith in
    ap (λ (x : ℕ). x % n) z ∙ mod-mul-add 0 n k l

level_asked : (n : ℕ) (r : Ring) (i : ℕ) → length r.values ≡ n → i < n → IsLevel i (after_passes r (asked_from n 0 (i + 1))).values
level_asked n r zero size l = λ k le.
    let e : k ≡ 0 = omega arith in
    ap (λ (x : ℕ). get_or (after_passes r (asked_from n 0 (0 + 1))).values x 0) e
level_asked n r (suc i) size l =
    let t : Ring = after_passes r (asked_from n 0 (i + 1)) in
    let z : suc i + 1 ≡ i + 1 + 1 = omega arith in
    let at : (0 + (i + 1)) % n ≡ suc i = turn_before' n (i + 1) (omega arith) ∙ (let q : i + 1 ≡ suc i = omega arith in q) in
    let is : after_passes r (asked_from n 0 (suc i + 1)) ≡ passed t (suc i) =
    ap (λ (x : ℕ). after_passes r (asked_from n 0 x)) z
    ∙ ap (after_passes r) (asked_more n 0 (i + 1))
    ∙ after_passes-append r (asked_from n 0 (i + 1)) ((0 + (i + 1)) % n ∷ [])
    ∙ ap (passed t) at in
    let long : length t.values ≡ n = length_after r (asked_from n 0 (i + 1)) ∙ size in
    subst (λ (x : Ring). IsLevel (suc i) x.values) (sym is) (level_more t i (omega arith) (level_asked n r i size (omega arith)))

-- so a round settles every ring
round_settles : (n : ℕ) (r : Ring) → 2 ≤ n → length r.values ≡ n → is_settled (after_passes r (asked_from n 0 n)).values ≡ true
round_settles n r two size =
    let s : List ℕ = (after_passes r (asked_from n 0 n)).values in
    let all : n - 1 + 1 ≡ n = omega arith in
    let level : IsLevel (n - 1) s = subst (λ (x : ℕ). IsLevel (n - 1) (after_passes r (asked_from n 0 x)).values) all (level_asked n r (n - 1) size (omega arith)) in
    let long : length s ≡ n = length_after r (asked_from n 0 n) ∙ size in
    let last : get_or s (length s - 1) 0 ≡ get_or s 0 0 = level (length s - 1) (omega arith) in
    all_settled s (omega arith) (eq-eqb (get_or s (length s - 1) 0) (get_or s 0 0) last) (λ k l. level k (omega arith))

-- ---- the rounds of a repair, where nobody was asked before

pub record AreTurns (most : ℕ) (m : Memory) (r : Ring) (turns : ℕ) : Type 0 where
  pub granted : granted_passes r (asked_from (length r.values) 0 turns) ≡ choices Turn most m r
  pub unsettled : (p : ℕ) → p < turns → is_settled (after_passes r (asked_from (length r.values) 0 p)).values ≡ false
  pub few : turns ≤ length r.values

pub turns_from_first : (most : ℕ) (m : Memory) (r : Ring) → IsRing r → m.asked ≡ 0 → AreTurns most m r (memory_after Turn most m r).asked
turns_from_first most m r g none =
    let n : ℕ = length r.values in
    let two = g.two in
    let all = turns_are_asked n most m r g refl in
    let in_turn : InTurn n 0 all.0 r (choices Turn most m r) = subst (λ (x : ℕ). InTurn n x all.0 r (choices Turn most m r)) none all.2 in
    let long : all.0 ≡ (memory_after Turn most m r).asked = let is = all.1 in omega arith in
    let few : all.0 ≤ n = elim (cases_lt n all.0) [
      | inr l ↦ l
      | inl more ↦ absurd (both_ways (is_settled (after_passes r (asked_from n 0 n)).values) (in_turn.unsettled n more) (round_settles n r two refl))
    ] in
    subst (λ (x : ℕ). AreTurns most m r x) long (record { granted = in_turn.granted; unsettled = in_turn.unsettled; few = few })

pub rounds_none : (n turns : ℕ) → 2 ≤ n → turns ≡ 0 → rounds_of n turns ≡ 0
unfolding rounds_of
rounds_none n turns two none = let is = div_below (turns + (n - 1)) n 1 (omega arith) (omega arith) in omega arith

pub rounds_one : (n turns : ℕ) → 2 ≤ n → 1 ≤ turns → turns ≤ n → rounds_of n turns ≡ 1
unfolding rounds_of
rounds_one n turns two some few =
    let less = div_below (turns + (n - 1)) n 2 (omega arith) (omega arith) in
    let more = le-div 1 (turns + (n - 1)) n (omega arith) (omega arith) in
    omega arith

pub is_turn : (d : Daemon) → (d ≡ Turn) ⊎ (d ≡ Turn → ⊥)
is_turn First = inr (λ e. cc e)
is_turn Last = inr (λ e. cc e)
is_turn Random = inr (λ e. cc e)
is_turn Turn = inl refl
is_turn Slow = inr (λ e. cc e)
is_turn Groups = inr (λ e. cc e)
