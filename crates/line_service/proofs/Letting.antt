-- A segment's file that is let go.
use Rattle.std.proofs.Common.{◌≡◌, ℕ, Bool, if◌then◌else◌, List, Option, None, Some, sym, ap, subst, ◌∙◌, ◌⊎◌, inl, inr}
use Rattle.std.proofs.lemmas.Bool.{cases_Bool}
use Rattle.disks.specs.Held.{Held, Replaces, LetsGo}
use Rattle.sha2.specs.declared.Sha256.{Sha256}
use Rattle.line_service.specs.Digested.{has_hashed, hashed}

-- less is known of the writer's bytes where they are not those that the hasher took in
replaces_hashed : (was is : Option Held) (name : List ℕ) (w : Option (List ℕ)) (s : Sha256) → Replaces was is name w → Replaces was is name (hashed w s)
replaces_hashed None is name w s r = tt
replaces_hashed (Some was) None name w s r = r
replaces_hashed (Some was) (Some is) name None s r = tt
replaces_hashed (Some was) (Some is) name (Some m) s r = elim (cases_Bool (has_hashed s m)) [
  | inl t ↦ subst (λ (b : Bool). Replaces (Some was) (Some is) name (if b then Some m else None)) (sym t) r
  | inr f ↦ subst (λ (b : Bool). Replaces (Some was) (Some is) name (if b then Some m else None)) (sym f) tt
]

pub lets_go_hashed : (was is : Option Held) (name : List ℕ) (w : Option (List ℕ)) (s : Sha256) → LetsGo was is name w → LetsGo was is name (hashed w s)
lets_go_hashed None is name w s gone = gone
lets_go_hashed (Some was) is name w s (inl same) = inl same
lets_go_hashed (Some was) is name w s (inr put) = inr (replaces_hashed (Some was) is name w s put)

-- of a writer that was given back as it was
pub given_back : (was mid is : Option Held) (name : List ℕ) (w given : Option (List ℕ)) (s : Sha256) → mid ≡ was → given ≡ w → LetsGo mid is name given → LetsGo was is name (hashed w s)
given_back was mid is name w given s same back gone =
    lets_go_hashed was is name w s (subst (λ (f : Option Held). LetsGo f is name w) same (subst (λ (x : Option (List ℕ)). LetsGo mid is name x) back gone))

-- the files are as they were, or its file holds what its writer had
pub left_let_go : (was is : Option Held) (name file : List ℕ) (journal : Option (List ℕ)) (Other : Type 0) → name ≡ file → LetsGo was is name journal → (is ≡ was) ⊎ (Replaces was is file journal ⊎ Other)
left_let_go None is name file journal Other named gone = inl gone
left_let_go (Some was) is name file journal Other named (inl same) = inl same
left_let_go (Some was) is name file journal Other named (inr put) = inr (inl (subst (λ (n : List ℕ). Replaces (Some was) is n journal) named put))
