-- A segment whose locks and names have not changed has not changed.
use Rattle.std.proofs.Common.{◌≡◌, ℕ, ◌-◌, Bool, true, false, ◌||◌, List, refl, ap, ◌∙◌, arith}
use Rattle.held_locks.specs.declared.answers.Left.{Left}
use Rattle.held_locks.specs.Kept.{LockView}
use Rattle.lock_names.specs.Kept.{NamedView}
use Rattle.lock_journal.specs.Due.{has_short}
use Rattle.lock_journal.specs.Counting.{IsWatched}
use Rattle.name_service.specs.Naming.{NamingView, IsNameCounted}

parts_same : (old new : NamedView) (left : List Left) (m n : ℕ) (a b : Bool) → new ≡ old → n ≡ m → b ≡ a →
    ◌≡◌ {A = NamingView} (record { named = new; left = left; remaining = n; short = b }) (record { named = old; left = left; remaining = m; short = a })
parts_same old new left m n a b e f g =
    ap (λ (x : NamedView). record { named = x; left = left; remaining = n; short = b }) e
    ∙ ap (λ (x : ℕ). record { named = old; left = left; remaining = x; short = b }) f
    ∙ ap (λ (x : Bool). record { named = old; left = left; remaining = m; short = x }) g

still_short : (locks : List LockView) (short : Bool) → IsWatched locks short → (short || has_short locks) ≡ short
still_short locks true w = refl
still_short locks false w = w refl

pub unchanged : (old new : NamedView) (left : List Left) (m n : ℕ) (a b : Bool) (lines : ℕ) → IsWatched old.locks a → new ≡ old → lines ≡ 0 →
    IsNameCounted (record { named = old; left = left; remaining = m; short = a }) (record { named = new; left = left; remaining = n; short = b }) lines →
    ◌≡◌ {A = NamingView} (record { named = new; left = left; remaining = n; short = b }) (record { named = old; left = left; remaining = m; short = a })
unchanged old new left m n a b lines w same none k =
    let r : n ≡ m - lines = k.remaining in
    let rest : n ≡ m = omega (arith, r, none) in
    parts_same old new left m n a b same rest (k.short ∙ ap (λ (v : NamedView). a || has_short v.locks) same ∙ still_short old.locks a w)
