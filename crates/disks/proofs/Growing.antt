-- Bytes that are added at the end of a file.
use Rattle.std.proofs.Common.{◌≤◌, ℕ, ◌+◌, ◌-◌, List, [], ◌++◌, length, take, drop, Option, Some, None, sym, ap, subst, ◌∙◌, append_assoc}
use Rattle.std.proofs.lemmas.List.{append-nil, take_rest, take_all}
use Rattle.std.proofs.Math.Seq.{take-add}
use Rattle.std.specs.Io.KnownBytes.{Appends, Keeps}

pub appends_none : (old : Option (List ℕ)) → Appends old old []
appends_none None = tt
appends_none (Some xs) = sym (append-nil xs)

pub appends_then : (a b c : Option (List ℕ)) (x y : List ℕ) → Appends a b x → Appends b c y → Appends a c (x ++ y)
appends_then None b c x y p q = tt
appends_then (Some xs) None c x y p q = absurd p
appends_then (Some xs) (Some ys) None x y p q = absurd q
appends_then (Some xs) (Some ys) (Some zs) x y p q = q ∙ ap (λ (u : List ℕ). u ++ y) p ∙ append_assoc xs x y

pub appends_kept : (a b c : Option (List ℕ)) (x : List ℕ) → Appends a b x → Keeps b c → Appends a c x
appends_kept None b c x p q = tt
appends_kept (Some xs) None c x p q = absurd p
appends_kept (Some xs) (Some ys) None x p q = absurd q
appends_kept (Some xs) (Some ys) (Some zs) x p q = q ∙ p

-- n bytes more of them
pub appends_more : (a b c : Option (List ℕ)) (bytes : List ℕ) (done n : ℕ) → Appends a b (take done bytes) → Appends b c (take n (take (length bytes - done) (drop done bytes))) → Appends a c (take (done + n) bytes)
appends_more a b c bytes done n p q =
    subst (λ (x : List ℕ). Appends a c x) (sym (take-add done n bytes))
    (appends_then a b c (take done bytes) (take n (drop done bytes)) p (subst (λ (x : List ℕ). Appends b c (take n x)) (take_rest bytes done) q))

pub appends_all : (a b : Option (List ℕ)) (bytes : List ℕ) (done : ℕ) → length bytes ≤ done → Appends a b (take done bytes) → Appends a b bytes
appends_all a b bytes done all p = subst (λ (x : List ℕ). Appends a b x) (take_all done bytes all) p
