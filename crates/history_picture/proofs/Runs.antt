-- The runs of columns cover what they shall, and no more.
use Rattle.std.proofs.Common.{◌≡◌, ℕ, zero, suc, ◌+◌, ◌<◌, ◌≤◌, Bool, true, false, cond, List, [], ◌∷◌, ◌++◌, refl, sym, ap, ◌∙◌, inl, inr, arith}
use Rattle.std.specs.Prelude.{nat_lt, nat_le, ◌&&◌, ◌||◌}
use Rattle.std.specs.List.{list_any}
use Rattle.std.proofs.lemmas.Bool.{cases_Bool}
use Rattle.std.proofs.lemmas.Bool.Decides.{nat_tests}
use Rattle.std.proofs.lemmas.List.Folds.{list_any-append}
use Rattle.history_picture.specs.Stretches.{Stretch, begin_after, ended_from, run_begin, run_before, run_ended, runs_ended, stretches, covers, StretchesCover}

or_false : (a b : Bool) → b ≡ false → (a || b) ≡ a
or_false true b e = refl
or_false false b e = e

or_true : (a b : Bool) → b ≡ true → (a || b) ≡ true
or_true true b e = refl
or_true false b e = e

begin_le : (p : ℕ → Bool) (m : ℕ) → run_begin p m ≤ m
begin_le p zero = omega arith
begin_le p (suc m) = let h = begin_le p m in elim (p m) as (λ q. begin_after (run_begin p m) m q ≤ suc m) [ true ↦ omega arith | false ↦ omega arith ]

-- the test holds from the start of a run on
runs : (p : ℕ → Bool) (m c : ℕ) → run_begin p m ≤ c → c < m → p c ≡ true
runs p zero c l h = absurd (omega arith)
runs p (suc m) c l h = elim (cases_Bool (p m)) [
  | inl t ↦
      let b : run_begin p (suc m) ≡ run_begin p m = rw t refl in
      let before : c < m → p c ≡ true = λ less. runs p m c (omega arith) less in
      let here : (c ≡ m) → p c ≡ true = λ e. ap p e ∙ t in
      elim (cases_Bool (nat_lt c m)) [
        | inl y ↦ before (grind (arith, nat_tests))
        | inr n ↦ here (grind (arith, nat_tests))
      ]
  | inr f ↦
      let b : run_begin p (suc m) ≡ m + 1 = rw f refl in
      absurd (omega arith)
]

covered_in : (c b e : ℕ) → b ≤ c → c < e → covers c (record { begin = b; end = e }) ≡ true
covered_in c b e l h = let x : nat_le b c ≡ true = grind (arith, nat_tests) in let y : nat_lt c e ≡ true = grind (arith, nat_tests) in rw (x, y) refl

not_before : (c b e : ℕ) → c < b → covers c (record { begin = b; end = e }) ≡ false
not_before c b e h = let x : nat_le b c ≡ false = grind (arith, nat_tests) in rw x refl

and_false : (a : Bool) → (a && false) ≡ false
and_false true = refl
and_false false = refl

not_after : (c b e : ℕ) → e ≤ c → covers c (record { begin = b; end = e }) ≡ false
not_after c b e h = let y : nat_lt c e ≡ false = grind (arith, nat_tests) in rw y (and_false (nat_le b c))

-- whether the run that ends before a column covers another column
before_in : (p : ℕ → Bool) (m c : ℕ) → run_begin p m ≤ c → c < m → list_any (covers c) (run_before p m) ≡ true
before_in p m c l h =
    let t : nat_lt (run_begin p m) m ≡ true = (let q : run_begin p m < m = omega arith in grind (arith, nat_tests)) in
    let k = covered_in c (run_begin p m) m l h in
    rw (t, k) refl

single_off : (c : ℕ) (x : Stretch) (q : Bool) → covers c x ≡ false → list_any (covers c) (cond q (x ∷ []) []) ≡ false
single_off c x true e = rw e refl
single_off c x false e = refl

before_off : (p : ℕ → Bool) (m c : ℕ) → c < run_begin p m → list_any (covers c) (run_before p m) ≡ false
before_off p m c h = single_off c (record { begin = run_begin p m; end = m }) (nat_lt (run_begin p m) m) (not_before c (run_begin p m) m h)

before_past : (p : ℕ → Bool) (m c : ℕ) → m ≤ c → list_any (covers c) (run_before p m) ≡ false
before_past p m c h = single_off c (record { begin = run_begin p m; end = m }) (nat_lt (run_begin p m) m) (not_after c (run_begin p m) m h)

-- the runs that have ended cover no column past them
ended_past : (p : ℕ → Bool) (m c : ℕ) → m ≤ c → list_any (covers c) (runs_ended p m) ≡ false
ended_past p zero c h = refl
ended_past p (suc m) c h =
    let one : list_any (covers c) (run_ended p m) ≡ false = elim (p m) as (λ q. list_any (covers c) (ended_from (run_begin p m) m q) ≡ false) [ true ↦ refl | false ↦ before_past p m c (omega arith) ] in
    list_any-append (covers c) (runs_ended p m) (run_ended p m) ∙ (or_false (list_any (covers c) (runs_ended p m)) (list_any (covers c) (run_ended p m)) one ∙ ended_past p m c (omega arith))

-- all runs, where those that have ended cover the columns before the last
whole : (p : ℕ → Bool) (m c : ℕ) → (c < run_begin p m → list_any (covers c) (runs_ended p m) ≡ p c) → c < m → list_any (covers c) (stretches p m) ≡ p c
whole p m c h lt =
    let cut = list_any-append (covers c) (runs_ended p m) (run_before p m) in
    elim (cases_Bool (nat_lt c (run_begin p m))) [
      | inl y ↦
          let less : c < run_begin p m = grind (arith, nat_tests) in
          cut ∙ (or_false (list_any (covers c) (runs_ended p m)) (list_any (covers c) (run_before p m)) (before_off p m c less) ∙ h less)
      | inr n ↦
          let le : run_begin p m ≤ c = grind (arith, nat_tests) in
          cut ∙ (or_true (list_any (covers c) (runs_ended p m)) (list_any (covers c) (run_before p m)) (before_in p m c le lt) ∙ sym (runs p m c le lt))
    ]

ended_front : (p : ℕ → Bool) (m c : ℕ) → c < run_begin p m → list_any (covers c) (runs_ended p m) ≡ p c
ended_front p zero c h = absurd (omega arith)
ended_front p (suc m) c h = elim (cases_Bool (p m)) [
  | inl t ↦
      let b : run_begin p (suc m) ≡ run_begin p m = rw t refl in
      let none : run_ended p m ≡ [] = rw t refl in
      let off : list_any (covers c) (run_ended p m) ≡ false = ap (list_any (covers c)) none in
      list_any-append (covers c) (runs_ended p m) (run_ended p m) ∙ (or_false (list_any (covers c) (runs_ended p m)) (list_any (covers c) (run_ended p m)) off ∙ ended_front p m c (omega arith))
  | inr f ↦
      let b : run_begin p (suc m) ≡ m + 1 = rw f refl in
      let last : run_ended p m ≡ run_before p m = rw f refl in
      let all : list_any (covers c) (runs_ended p (suc m)) ≡ list_any (covers c) (stretches p m) = ap (λ (xs : List Stretch). list_any (covers c) (runs_ended p m ++ xs)) last in
      let earlier : c < m → list_any (covers c) (runs_ended p (suc m)) ≡ p c = λ less. all ∙ whole p m c (ended_front p m c) less in
      let here : c ≡ m → list_any (covers c) (runs_ended p (suc m)) ≡ p c = λ e.
      let off : p c ≡ false = ap p e ∙ f in
      all ∙ list_any-append (covers c) (runs_ended p m) (run_before p m) ∙ or_false (list_any (covers c) (runs_ended p m)) (list_any (covers c) (run_before p m)) (before_past p m c (omega arith)) ∙ ended_past p m c (omega arith) ∙ sym off in
      elim (cases_Bool (nat_lt c m)) [
        | inl y ↦ earlier (grind (arith, nat_tests))
        | inr n ↦ here (grind (arith, nat_tests))
      ]
]

pub stretches_cover : StretchesCover
stretches_cover p columns c lt = whole p columns c (ended_front p columns c) lt
