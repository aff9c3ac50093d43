-- A text has one first bad line.
use Rattle.std.proofs.Common.{◌≡◌, ℕ, Bool, true, false, refl, sym, ap}
use Rattle.saved_history.specs.Content.{Content}
use Rattle.ring_check.specs.declared.answers.Kind.{Kind}
use Rattle.ring_check.specs.Legal.{IsFirstBad}
use Rattle.ring_check.specs.Lines.{lines}
use Rattle.ring_check.proofs.Scans.{bad_found}

same_fault : (s : Content) (l m : ℕ) (j k : Kind) → IsFirstBad s.version (lines s) l j → IsFirstBad s.version (lines s) m k → ◌≡◌ {A = ℕ × Kind} (l, j) (m, k)
same_fault s l m j k f g =
    let a = bad_found s.version (lines s) l j f in
    let b = bad_found s.version (lines s) m k g in
    let e : ◌≡◌ {A = ℕ × Kind} (l, j) (m, k) = cc in
    e

pub one_line : (s : Content) (l m : ℕ) (j k : Kind) → IsFirstBad s.version (lines s) l j → IsFirstBad s.version (lines s) m k → l ≡ m
one_line s l m j k f g = ap (λ (x : ℕ × Kind). x.0) (same_fault s l m j k f g)

pub one_kind : (s : Content) (l m : ℕ) (j k : Kind) → IsFirstBad s.version (lines s) l j → IsFirstBad s.version (lines s) m k → j ≡ k
one_kind s l m j k f g = ap (λ (x : ℕ × Kind). x.1) (same_fault s l m j k f g)

-- tests that pass together are the same
pub same_test : (a b : Bool) → (a ≡ true → b ≡ true) → (b ≡ true → a ≡ true) → a ≡ b
same_test true b f g = sym (f refl)
same_test false true f g = g refl
same_test false false f g = refl
