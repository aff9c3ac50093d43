-- What the keys have at one of them after a change at another.
use Rattle.std.proofs.Common.{◌≡◌, ◌≢◌, ℕ, Bool, false, cond, [], ◌∷◌, Option, Some, None, refl, ap, sym, subst, ◌∙◌}
use Rattle.std.specs.declared.cmp.Ordering.TheVariants.{Less, Equal, Greater}
use Rattle.std.specs.Ordering.{nat_cmp, match_ordering, is_eq}
use Rattle.std.specs.Cmp.{ranked, nat_cmp_is}
use Rattle.std.specs.BTreeMap.{insert_entry}
use Rattle.line_replica.specs.Keys.{ToldView, Table, told_of, without}

apart : (q k : ℕ) → q ≢ k → is_eq (nat_cmp q k) ≡ false
apart q k ne =
    elim (nat_cmp q k) as (λ r. r ≡ nat_cmp q k → is_eq r ≡ false) [
      | Less ↦ λ e. refl
      | Equal ↦ λ e. absurd (ne (ranked q k Equal e))
      | Greater ↦ λ e. refl
    ] refl

same : (k : ℕ) → nat_cmp k k ≡ Equal
same k = sym (nat_cmp_is k k Equal refl)

skips : (b : Bool) (x y : Option ToldView) → b ≡ false → cond b x y ≡ y
skips b x y e = ap (λ c. cond c x y) e

pub told_other : (es : Table) (k : ℕ) (v : ToldView) (q : ℕ) → q ≢ k → told_of (insert_entry nat_cmp es k v) q ≡ told_of es q
told_other [] k v q ne = skips (is_eq (nat_cmp q k)) (Some v) None (apart q k ne)
told_other (e ∷ es) k v q ne =
    elim (nat_cmp k e.0) as (λ r. r ≡ nat_cmp k e.0 → told_of (match_ordering r ((k, v) ∷ e ∷ es) ((e.0, v) ∷ es) (e ∷ insert_entry nat_cmp es k v)) q ≡ told_of (e ∷ es) q) [
      | Less ↦ λ p. skips (is_eq (nat_cmp q k)) (Some v) (told_of (e ∷ es) q) (apart q k ne)
      | Equal ↦ λ p.
          let at : is_eq (nat_cmp q e.0) ≡ false = subst (λ (n : ℕ). is_eq (nat_cmp q n) ≡ false) (ranked k e.0 Equal p) (apart q k ne) in
          skips (is_eq (nat_cmp q e.0)) (Some v) (told_of es q) at ∙ sym (skips (is_eq (nat_cmp q e.0)) (Some e.1) (told_of es q) at)
      | Greater ↦ λ p. ap (λ (o : Option ToldView). cond (is_eq (nat_cmp q e.0)) (Some e.1) o) (told_other es k v q ne)
    ] refl

pub told_same : (es : Table) (k : ℕ) (v : ToldView) → told_of (insert_entry nat_cmp es k v) k ≡ Some v
told_same [] k v = ap (λ r. cond (is_eq r) (Some v) None) (same k)
told_same (e ∷ es) k v =
    elim (nat_cmp k e.0) as (λ r. r ≡ nat_cmp k e.0 → told_of (match_ordering r ((k, v) ∷ e ∷ es) ((e.0, v) ∷ es) (e ∷ insert_entry nat_cmp es k v)) k ≡ Some v) [
      | Less ↦ λ p. ap (λ r. cond (is_eq r) (Some v) (told_of (e ∷ es) k)) (same k)
      | Equal ↦ λ p. ap (λ r. cond (is_eq r) (Some v) (told_of es k)) (sym p)
      | Greater ↦ λ p. ap (λ r. cond (is_eq r) (Some e.1) (told_of (insert_entry nat_cmp es k v) k)) (sym p) ∙ told_same es k v
    ] refl

pub told_without : (es : Table) (k q : ℕ) → q ≢ k → told_of (without es k) q ≡ told_of es q
told_without [] k q ne = refl
told_without (e ∷ es) k q ne =
    elim (nat_cmp k e.0) as (λ r. r ≡ nat_cmp k e.0 → told_of (cond (is_eq r) es (e ∷ without es k)) q ≡ told_of (e ∷ es) q) [
      | Less ↦ λ p. ap (λ (o : Option ToldView). cond (is_eq (nat_cmp q e.0)) (Some e.1) o) (told_without es k q ne)
      | Equal ↦ λ p.
          let at : is_eq (nat_cmp q e.0) ≡ false = subst (λ (n : ℕ). is_eq (nat_cmp q n) ≡ false) (ranked k e.0 Equal p) (apart q k ne) in
          sym (skips (is_eq (nat_cmp q e.0)) (Some e.1) (told_of es q) at)
      | Greater ↦ λ p. ap (λ (o : Option ToldView). cond (is_eq (nat_cmp q e.0)) (Some e.1) o) (told_without es k q ne)
    ] refl
