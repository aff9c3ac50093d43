-- The size of a pool, after its star.
use Rattle.std.proofs.Common.{◌≡◌, ◌∙◌, inl, inr, ℕ, ◌<◌, ◌^◌, List, [], ◌∷◌, ◌++◌, Option, None, Some, sym, ap, subst}
use Rattle.std.specs.Prelude.{MatchOption}
use Rattle.ring_state.specs.Sizes.{Size}
use Rattle.folder_of_locks.specs.Lists.{IsSizeText}
use Rattle.folder_of_locks.specs.ListSteps.{IsPlain, IsCut, AreMarks}
use Rattle.folder_of_locks.specs.Pools.{IsPoolSize, IsPoolText}
use Rattle.folder_of_locks.proofs.Cuts.{plain_nil, size_plain}

pub not_nil : (a : List ℕ) (x : ℕ) (b : List ℕ) → a ++ x ∷ b ≡ [] → ⊥
not_nil [] x b e = absurd cc
not_nil (y ∷ a) x b e = absurd cc

-- after a mark the size is said, as that of a lock
as_lock : (m : ℕ) (text after : List ℕ) (n k : ℕ) → text ≡ m ∷ after → IsPoolSize m text n k → IsSizeText m text n k
as_lock m text after n k is (inl z) = absurd (not_nil [] m after (sym is ∙ z.0))
as_lock m text after n k is (inr z) = inr z

as_pool : (m : ℕ) (text after : List ℕ) (n k : ℕ) → text ≡ m ∷ after → IsSizeText m text n k → IsPoolSize m text n k
as_pool m text after n k is (inl z) = absurd (not_nil [] m after (sym is ∙ z.0))
as_pool m text after n k is (inr z) = inr z

marked_text : (m : ℕ) (text before after : List ℕ) → IsCut m text before (Some after) → before ≡ [] → text ≡ m ∷ after
marked_text m text before after cut none = cut.0 ∙ ap (λ (b : List ℕ). b ++ m ∷ after) none

pub marked : (m : ℕ) (text before after : List ℕ) (r : Option (ℕ × ℕ)) → IsCut m text before (Some after) → before ≡ [] →
    MatchOption r ((n k : ℕ) → n < 2 ^ 32 → k < 2 ^ 32 → (t : List ℕ) → t ≡ m ∷ after → ¬ IsSizeText m t n k) (λ x. (t : List ℕ) → t ≡ m ∷ after → IsSizeText m t x.0 x.1) →
    MatchOption r ((n k : ℕ) → n < 2 ^ 32 → k < 2 ^ 32 → ¬ IsPoolSize m text n k) (λ x. IsPoolSize m text x.0 x.1)
marked m text before after None cut none h = λ n k low high size.
    let is = marked_text m text before after cut none in
    h n k low high text is (as_lock m text after n k is size)
marked m text before after (Some x) cut none h =
    let is = marked_text m text before after cut none in
    as_pool m text after x.0 x.1 is (h text is)

-- the size of a pool has no end of a lock
pub pool_plain : (end mark : ℕ) (text : List ℕ) (s : Size) → AreMarks end mark → IsPoolText mark text s → IsPlain end text
pool_plain end mark text s marks p = by p.sized
  where
    by : IsPoolSize mark text s.n s.k → IsPlain end text
    by (inl z) = subst (IsPlain end) (sym z.0) (plain_nil end)
    by (inr z) = size_plain end mark text s.n s.k marks p.machines p.values (inr z)
