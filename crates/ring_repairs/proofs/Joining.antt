-- Histograms of parts of the trials, and their sums.
use Rattle.std.proofs.Common.{◌≡◌, ◌≢◌, ℕ, zero, suc, ◌+◌, ◌<◌, ◌≤◌, ◌==◌, Bool, true, false, List, length, get_or, refl, sym, ◌∙◌, ap, subst, inl, inr, arith}
use Rattle.std.proofs.lemmas.Bool.{cases_eq, eq-eqb, ne_eqb}
use Rattle.std.proofs.lemmas.List.{get_or-set_same, get_or-set_other, length-set}
use Rattle.std.proofs.Math.ListN.{set}
use Rattle.ring_model.specs.Numbers.{sum_below, bit, count_below}
use Rattle.ring_model.specs.RepairLaws.{longest_repair}
use Rattle.ring_model.proofs.Below.{sum_same, sum_add, sum_one_le}
use Rattle.ring_repairs.specs.Histograms.{counted, IsEmpty}
use Rattle.ring_repairs.specs.Studies.{StudyData, trial_count, trial_passes, IsCounted, AreRepairs, repairs_with}
use Rattle.ring_repairs.specs.Parts.{IsCountedOn, IsJoined, IsPart}
use Rattle.ring_repairs.proofs.Counting.{entry, counted_is, counted_none, counted_set}

-- ---- more trials

pub none_on : (number : ℕ → ℕ) (first : ℕ) (h : List ℕ) → IsCountedOn number first 0 h h
none_on number first h = record { numbers = refl; each = λ v l. omega arith; all = omega arith }

-- one trial more
pub one_on : (number : ℕ → ℕ) (first t i : ℕ) (old h h' : List ℕ) → IsCountedOn number first t old h → i ≡ number (first + t) → i < length h →
    h' ≡ set h i (get_or h i 0 + 1) → IsCountedOn number first (t + 1) old h'
one_on number first t i old h h' on is l e =
    let next : t + 1 ≡ suc t = omega arith in
    let sum = counted_set h i (get_or h i 0 + 1) l in
    let all' = on.all in
    let long : length (set h i (get_or h i 0 + 1)) ≡ length h = length-set h i (get_or h i 0 + 1) in
    let numbers' = on.numbers in
    let new : IsCountedOn number first (suc t) old (set h i (get_or h i 0 + 1)) = record {
      numbers = omega arith;
      each = λ v lv. elim (cases_eq v i) [
        | inl same ↦
            let here : (number (first + t) == v) ≡ true = eq-eqb (number (first + t)) v (sym is ∙ sym same) in
            let one : bit (number (first + t) == v) ≡ 1 = ap bit here in
            let before : get_or h v 0 ≡ get_or old v 0 + count_below (λ (u : ℕ). number (first + u) == v) t = on.each v lv in
            let there : get_or h i 0 ≡ get_or h v 0 = ap (λ (x : ℕ). get_or h x 0) (sym same) in
            let now : get_or (set h i (get_or h i 0 + 1)) v 0 ≡ get_or h i 0 + 1 =
            ap (λ (x : ℕ). get_or (set h i (get_or h i 0 + 1)) x 0) same ∙ get_or-set_same h i (get_or h i 0 + 1) 0 l in
            omega arith
        | inr other ↦
            let off : (number (first + t) == v) ≡ false = ne_eqb (number (first + t)) v (λ q. other (sym q ∙ sym is)) in
            let none : bit (number (first + t) == v) ≡ 0 = ap bit off in
            let before : get_or h v 0 ≡ get_or old v 0 + count_below (λ (u : ℕ). number (first + u) == v) t = on.each v lv in
            let now : get_or (set h i (get_or h i 0 + 1)) v 0 ≡ get_or h v 0 = get_or-set_other h i v (get_or h i 0 + 1) 0 other in
            omega arith
      ];
      all = omega arith;
    } in
    subst (λ (x : List ℕ). IsCountedOn number first (t + 1) old x) (sym e)
    (subst (λ (x : ℕ). IsCountedOn number first x old (set h i (get_or h i 0 + 1))) (sym next) new)

-- numbers below a, and the next b ones
count_split : (p : ℕ → Bool) (a b : ℕ) → count_below p (a + b) ≡ count_below p a + count_below (λ t. p (a + t)) b
count_split p a zero = let e : a + 0 ≡ a = omega arith in let is : count_below p (a + 0) ≡ count_below p a = ap (count_below p) e in omega arith
count_split p a (suc b) =
    let e : a + suc b ≡ suc (a + b) = omega arith in
    let is : count_below p (a + suc b) ≡ count_below p (a + b) + bit (p (a + b)) = ap (count_below p) e in
    let ih : count_below p (a + b) ≡ count_below p a + count_below (λ t. p (a + t)) b = count_split p a b in
    omega arith

-- those of the first trials, and n more
pub counted_on : (number : ℕ → ℕ) (first n : ℕ) (old new : List ℕ) → IsCounted number first old → IsCountedOn number first n old new →
    IsCounted number (first + n) new
counted_on number first n old new was on =
    let all' = was.all in
    let more = on.all in
    let numbers' = on.numbers in
    record {
      each = λ v l.
          let before : get_or old v 0 ≡ count_below (λ (t : ℕ). number t == v) first = was.each v (omega arith) in
          let after : get_or new v 0 ≡ get_or old v 0 + count_below (λ (t : ℕ). number (first + t) == v) n = on.each v (omega arith) in
          let split = count_split (λ (t : ℕ). number t == v) first n in
          omega arith;
      all = omega arith;
    }

-- only those of trials from `first` on
pub counted_alone : (number : ℕ → ℕ) (first n m : ℕ) (old new : List ℕ) → IsEmpty m old → IsCountedOn number first n old new →
    IsCounted (λ t. number (first + t)) n new
counted_alone number first n m old new none on =
    let more = on.all in
    let nothing = counted_none old (λ v l. none.none v) in
    let numbers' = on.numbers in
    record {
      each = λ v l.
          let before : get_or old v 0 ≡ 0 = none.none v in
          let after : get_or new v 0 ≡ get_or old v 0 + count_below (λ (t : ℕ). number (first + t) == v) n = on.each v (omega arith) in
          omega arith;
      all = omega arith;
    }

-- ---- sums

-- a part that is joined is counted
pub joined_on : (number : ℕ → ℕ) (first n : ℕ) (a b h : List ℕ) → IsCounted (λ t. number (first + t)) n b → IsJoined a b h → length b ≡ length a →
    counted h ≡ counted a + counted b → IsCountedOn number first n a h
joined_on number first n a b h part joined same sum =
    let all' = part.all in
    record {
      numbers = joined.numbers;
      each = λ v l.
          let more : get_or b v 0 ≡ count_below (λ (t : ℕ). number (first + t) == v) n = part.each v (omega arith) in
          let is : get_or h v 0 ≡ get_or a v 0 + get_or b v 0 = joined.each v l in
          omega arith;
      all = omega arith;
    }

-- what a sum counts
pub joined_counted : (a b h : List ℕ) → IsJoined a b h → length b ≡ length a → counted h ≡ counted a + counted b
joined_counted a b h joined same =
    let ca = counted_is a in
    let cb : counted b ≡ sum_below (entry b) (length a) = counted_is b ∙ ap (sum_below (entry b)) same in
    let ch : counted h ≡ sum_below (entry h) (length a) = counted_is h ∙ ap (sum_below (entry h)) joined.numbers in
    let each : sum_below (entry h) (length a) ≡ sum_below (λ k. entry a k + entry b k) (length a) =
    sum_same (entry h) (λ k. entry a k + entry b k) (length a) (λ k l. joined.each k l) in
    let add' = sum_add (entry a) (entry b) (length a) in
    omega arith

-- ---- the trials of a study

pub advanced_are : (s : StudyData) (done n : ℕ) (passes new : List ℕ) → AreRepairs (repairs_with s done passes) →
    IsCountedOn (trial_passes s) done n passes new → done + n ≤ trial_count s → AreRepairs (repairs_with s (done + n) new)
advanced_are s done n passes new was on within =
    let long = on.numbers in
    let numbers' = was.numbers in
    record {
      study = was.study;
      within = within;
      numbers = omega arith;
      counted = counted_on (trial_passes s) done n passes new was.counted on;
    }

pub joined_are : (s : StudyData) (done n : ℕ) (passes part new : List ℕ) → AreRepairs (repairs_with s done passes) → IsPart s done n part →
    IsJoined passes part new → AreRepairs (repairs_with s (done + n) new)
joined_are s done n passes part new was is joined =
    let numbers' = was.numbers in
    let long = is.numbers in
    let same : length part ≡ length passes = omega arith in
    advanced_are s done n passes new was
    (joined_on (trial_passes s) done n passes part new is.counted joined same (joined_counted passes part new joined same)) is.within

pub entry_le : (h : List ℕ) (v : ℕ) → v < length h → get_or h v 0 ≤ counted h
entry_le h v l = let one = sum_one_le (entry h) v (length h) l in let total = counted_is h in omega arith
