-- What a hasher has taken in, and the writer beside it.
use Rattle.std.proofs.Common.{◌≡◌, ℕ, ◌*◌, ◌/◌, ◌%◌, ◌^◌, ◌==◌, ◌&&◌, Bool, true, if◌then◌else◌, List, ◌++◌, length, take, drop, Option, None, Some, sym, ap, subst, ◌∙◌, inl, inr}
use Rattle.std.specs.Io.KnownBytes.{Appends, Keeps}
use Rattle.std.specs.Str.{bytes_eq}
use Rattle.std.proofs.lemmas.Bool.{eq-eqb, eqb-true, and_from, and_parts, cases_Bool}
use Rattle.std.proofs.lemmas.Slice.Eq.{bytes_eq-Decides}
use Rattle.sha2.specs.Sha256.{initial_hash_256, hash_after, Holds}
use Rattle.sha2.specs.Hashers.{Holds256}
use Rattle.sha2.specs.declared.Sha256.{Sha256}
use Rattle.line_service.specs.Digested.{has_hashed, hashed}

pub has_taken : (s : Sha256) (m : List ℕ) → Holds256 s m → has_hashed s m ≡ true
unfolding has_hashed Holds
has_taken s m h =
    and_from (s.core.total == length m % 2 ^ 64) _ (eq-eqb s.core.total (length m % 2 ^ 64) h.0)
    (and_from (bytes_eq s.core.h (hash_after initial_hash_256 m (length m / 64))) _ ((bytes_eq-Decides s.core.h (hash_after initial_hash_256 m (length m / 64))).1 h.1.0)
    ((bytes_eq-Decides (take (length m % 64) s.core.buffer) (drop (length m / 64 * 64) m)).1 h.1.1))

pub taken_in : (s : Sha256) (m : List ℕ) → has_hashed s m ≡ true → Holds256 s m
unfolding has_hashed Holds
taken_in s m e =
    let a = and_parts (s.core.total == length m % 2 ^ 64) (bytes_eq s.core.h (hash_after initial_hash_256 m (length m / 64)) && bytes_eq (take (length m % 64) s.core.buffer) (drop (length m / 64 * 64) m)) e in
    let b = and_parts (bytes_eq s.core.h (hash_after initial_hash_256 m (length m / 64))) (bytes_eq (take (length m % 64) s.core.buffer) (drop (length m / 64 * 64) m)) a.1 in (
      eqb-true s.core.total (length m % 2 ^ 64) a.0,
      ((bytes_eq-Decides s.core.h (hash_after initial_hash_256 m (length m / 64))).0 b.0, (bytes_eq-Decides (take (length m % 64) s.core.buffer) (drop (length m / 64 * 64) m)).0 b.1),
    )

-- ---- the writer's content

pub hashed_is : (w : Option (List ℕ)) (s : Sha256) (m : List ℕ) → w ≡ Some m → Holds256 s m → hashed w s ≡ Some m
hashed_is w s m e h = ap (λ (x : Option (List ℕ)). hashed x s) e ∙ ap (λ (b : Bool). if b then Some m else None) (has_taken s m h)

none_some : (m : List ℕ) → None ≡ Some m → ⊥
none_some m e = cc

some_one : (n m : List ℕ) → Some n ≡ Some m → n ≡ m
some_one n m e = cc

pub is_hashed : (w : Option (List ℕ)) (s : Sha256) (m : List ℕ) → hashed w s ≡ Some m → (w ≡ Some m) × Holds256 s m
is_hashed None s m e = absurd (none_some m e)
is_hashed (Some n) s m e = elim (cases_Bool (has_hashed s n)) [
  | inl t ↦
      let same : n ≡ m = some_one n m (ap (λ (b : Bool). if b then Some n else None) (sym t) ∙ e) in
      (ap (λ (x : List ℕ). Some x) same, subst (λ (x : List ℕ). Holds256 s x) same (taken_in s n t))
  | inr f ↦ absurd (none_some m (ap (λ (b : Bool). if b then Some n else None) (sym f) ∙ e))
]

-- ---- a write

pub write_hashed : (old new : Option (List ℕ)) (s u : Sha256) (b : List ℕ) → Appends old new b → ((m : List ℕ) → Holds256 s m → Holds256 u (m ++ b)) → Appends (hashed old s) (hashed new u) b
write_hashed None new s u b a g = tt
write_hashed (Some m) None s u b a g = absurd a
write_hashed (Some m) (Some n) s u b a g = elim (cases_Bool (has_hashed s m)) [
  | inl t ↦
      let now : has_hashed u n ≡ true = has_taken u n (subst (λ (x : List ℕ). Holds256 u x) (sym a) (g m (taken_in s m t))) in
      subst (λ (v : Bool). Appends (if v then Some m else None) (hashed (Some n) u) b) (sym t)
      (subst (λ (v : Bool). Appends (Some m) (if v then Some n else None) b) (sym now) a)
  | inr f ↦ subst (λ (v : Bool). Appends (if v then Some m else None) (hashed (Some n) u) b) (sym f) tt
]

pub keep_hashed : (old new : Option (List ℕ)) (s : Sha256) → Keeps old new → Keeps (hashed old s) (hashed new s)
keep_hashed None new s k = tt
keep_hashed (Some m) None s k = absurd k
keep_hashed (Some m) (Some n) s k = elim (cases_Bool (has_hashed s m)) [
  | inl t ↦
      let now : has_hashed s n ≡ true = ap (λ (x : List ℕ). has_hashed s x) k ∙ t in
      subst (λ (v : Bool). Keeps (if v then Some m else None) (hashed (Some n) s)) (sym t)
      (subst (λ (v : Bool). Keeps (Some m) (if v then Some n else None)) (sym now) k)
  | inr f ↦ subst (λ (v : Bool). Keeps (if v then Some m else None) (hashed (Some n) s)) (sym f) tt
]
