-- A segment whose locks have not changed has not changed.
use Rattle.std.proofs.Common.{◌≡◌, ℕ, Bool, true, false, ◌||◌, List, Option, None, refl, ap, ◌∙◌, subst, arith}
use Rattle.held_locks.specs.declared.answers.HoldEnd.{HoldEnd}
use Rattle.held_locks.specs.declared.answers.Left.{Left}
use Rattle.held_locks.specs.Kept.{LockView}
use Rattle.lock_protocol.specs.Names.{Names}
use Rattle.lock_journal.specs.Due.{has_short}
use Rattle.lock_journal.specs.Counting.{SegmentView, IsWatched, IsCounted, count_about}

parts_same : (names : Names) (locks : List LockView) (left : List Left) (m n : ℕ) (a b : Bool) → m ≡ n → a ≡ b →
    ◌≡◌ {A = SegmentView} (record { locks = locks; names = names; left = left; remaining = m; short = a }) (record { locks = locks; names = names; left = left; remaining = n; short = b })
parts_same names locks left m n a b e f = ap (λ (x : ℕ). record { locks = locks; names = names; left = left; remaining = x; short = a }) e ∙ ap (λ (x : Bool). record { locks = locks; names = names; left = left; remaining = n; short = x }) f

none_counted : (lock : ℕ) (locks : List LockView) (ended : Option HoldEnd) → ended ≡ None → count_about lock locks locks ended ≡ 0
none_counted lock locks ended e = ap (λ (x : Option HoldEnd). count_about lock locks locks x) e ∙ omega arith

still_short : (locks : List LockView) (short : Bool) → IsWatched locks short → (short || has_short locks) ≡ short
still_short locks true w = refl
still_short locks false w = w refl

-- the same locks, with what is left of the same segment
counted_same : (names : Names) (locks : List LockView) (left : List Left) (m n : ℕ) (a b : Bool) (lock : ℕ) (ended : Option HoldEnd) → IsWatched locks a → ended ≡ None →
    IsCounted (record { locks = locks; names = names; left = left; remaining = m; short = a }) (record { locks = locks; names = names; left = left; remaining = n; short = b }) (count_about lock locks locks ended) →
    ◌≡◌ {A = SegmentView} (record { locks = locks; names = names; left = left; remaining = n; short = b }) (record { locks = locks; names = names; left = left; remaining = m; short = a })
counted_same names locks left m n a b lock ended w e k =
    let none = none_counted lock locks ended e in
    let rest : n ≡ m = let r = k.remaining in omega (arith, r, none) in
    parts_same names locks left n m b a rest (k.short ∙ still_short locks a w)

pub unchanged : (names : Names) (old new : List LockView) (left : List Left) (m n : ℕ) (a b : Bool) (lock : ℕ) (ended : Option HoldEnd) → IsWatched old a → new ≡ old → ended ≡ None →
    IsCounted (record { locks = old; names = names; left = left; remaining = m; short = a }) (record { locks = new; names = names; left = left; remaining = n; short = b }) (count_about lock old new ended) →
    ◌≡◌ {A = SegmentView} (record { locks = new; names = names; left = left; remaining = n; short = b }) (record { locks = old; names = names; left = left; remaining = m; short = a })
unchanged names old new left m n a b lock ended w s e k =
    ap (λ (x : List LockView). record { locks = x; names = names; left = left; remaining = n; short = b }) s
    ∙ counted_same names old left m n a b lock ended w e (subst (λ (x : List LockView). IsCounted (record { locks = old; names = names; left = left; remaining = m; short = a }) (record { locks = x; names = names; left = left; remaining = n; short = b }) (count_about lock old x ended)) s k)
