-- The result of a step of reading, and that something has a spelling.
use Rattle.std.proofs.Common.{◌≡◌, ℕ, Bool, true, false, cond, eqb, List, [], ◌∷◌, ◌++◌, Result, Ok, Err, refl, ◌⊎◌, inl, inr, arith}
use Rattle.text_lines.specs.declared.fault.Fault.{Fault}
use Rattle.text_lines.specs.declared.fault.Fault.TheVariants.{Short, Bad}
use Rattle.text_lines.specs.Reading.{Reader, ◌>>=◌}
use Rattle.text_lines.specs.Grammar.{Reads, ShortOf}

pub bind_ok : {A B : Type 0} (r : Result A Fault) (f : A → Result B Fault) (y : B) → (r >>= f) ≡ Ok y → (x : A) × (r ≡ Ok x) × (f x ≡ Ok y)
bind_ok (Ok x) f y e = (x, refl, e)
bind_ok (Err d) f y e = absurd cc

-- where a step and what follows it fails
pub bind_err : {A B : Type 0} (r : Result A Fault) (f : A → Result B Fault) (d : Fault) → (r >>= f) ≡ Err d → (r ≡ Err d) ⊎ ((x : A) × (r ≡ Ok x) × (f x ≡ Err d))
bind_err (Ok x) f d e = inr (x, refl, e)
bind_err (Err c) f d e = inl cc

abbrev done : {A : Type 0} → A → Result A Fault
done x = Ok x

pub ok_is : {A : Type 0} (x y : A) → done x ≡ done y → x ≡ y
ok_is x y e = cc

-- which side a test took
pub chosen : {X : Type 0} (b : Bool) (x y z : X) → cond b x y ≡ z → ((b ≡ true) × (x ≡ z)) ⊎ ((b ≡ false) × (y ≡ z))
chosen true x y z e = inl (refl, e)
chosen false x y z e = inr (refl, e)

pub same_eqb : (c : ℕ) → eqb c c ≡ true
same_eqb c = grind arith

no_parts : (front : List ℕ) (byte : ℕ) (back : List ℕ) → [] ≡ front ++ byte ∷ back → ⊥
no_parts [] byte back e = cc
no_parts (c ∷ front) byte back e = cc

-- two lists that agree after a prefix begin alike
pub same_head : (front : List ℕ) (byte : ℕ) (back : List ℕ) (b : ℕ) (bs w : List ℕ) → b ∷ bs ≡ front ++ byte ∷ back → (u : List ℕ) × (front ++ byte ∷ w ≡ b ∷ u)
same_head [] byte back b bs w e = (w, cc)
same_head (c ∷ front) byte back b bs w e = (front ++ byte ∷ w, cc)

-- a reader with the law has something to read
pub some_by : {A : Type 0} (F : A → Type 0) (s : A → List ℕ) (at : Reader A) → Reads F s at → (r : Result (A × List ℕ) Fault) → at [] ≡ r → ShortOf F s []
some_by F s at reads (Ok x) e = record { value = x.0; more = s x.0; fits = (reads.takes [] x.0 x.1 e).0; viable = refl }
some_by F s at reads (Err Short) e = reads.short [] e
some_by F s at reads (Err (Bad n)) e = let b = reads.bad [] n e in absurd (no_parts b.front b.byte b.back b.parts)
