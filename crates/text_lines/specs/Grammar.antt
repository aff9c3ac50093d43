-- The law that ties a reader to a spelling (this project's own).
use Rattle.std.specs.Prelude.{◌≡◌, ◌≢◌, ℕ, suc, ◌<◌, List, [], ◌∷◌, ◌++◌, length, Ok, Err, ◌⊎◌}
use Rattle.std.specs.List.{flat_map, AllByRecursion}
use Rattle.text_lines.specs.declared.fault.Fault.TheVariants.{Short, Bad}
use Rattle.text_lines.specs.Reading.{Reader, Either, Branch}
use Rattle.text_lines.specs.Spelling.{OfEither, of_either}

-- The bytes are a prefix of the spelling of something that fits.
pub record ShortOf {A : Type 0} (Fits : A → Type 0) (spell : A → List ℕ) (bytes : List ℕ) : Type 0
  where
    pub value : A
    pub more : List ℕ
    pub fits : Fits value
    pub viable : bytes ++ more ≡ spell value

-- Some spelling begins with the bytes up to a byte, and none with that byte too, whatever follows.
pub record BadAt {A : Type 0} (Fits : A → Type 0) (spell : A → List ℕ) (at : Reader A)
    (bytes : List ℕ) : Type 0 where
  pub front : List ℕ
  pub byte : ℕ
  pub back : List ℕ
  pub value : A
  pub more : List ℕ
  pub parts : bytes ≡ front ++ byte ∷ back
  pub fits : Fits value
  pub viable : front ++ more ≡ spell value
  pub dead : (w : List ℕ) → at (front ++ byte ∷ w) ≡ Err (Bad (suc (length w)))

-- The reader reads just the spellings of the values that fit: a value that it takes is spelled so;
-- a value that is spelled so it takes, whatever follows; where it finds the bytes short, they begin
-- a spelling; where it finds a bad byte, no spelling has it there.
pub record Reads {A : Type 0} (Fits : A → Type 0) (spell : A → List ℕ) (at : Reader A) : Type 0
  where
    pub takes : (bytes : List ℕ) (a : A) (rest : List ℕ) → at bytes ≡ Ok (a, rest)
        → Fits a × (bytes ≡ spell a ++ rest)
    pub again : (a : A) (rest : List ℕ) → Fits a → at (spell a ++ rest) ≡ Ok (a, rest)
    pub short : (bytes : List ℕ) → at bytes ≡ Err Short → ShortOf Fits spell bytes
    pub bad : (bytes : List ℕ) (left : ℕ) → at bytes ≡ Err (Bad left) → BadAt Fits spell at bytes

-- the text begins with the byte
abbrev pub StartsWith : ℕ → List ℕ → Type 0
StartsWith c text = (rest : List ℕ) × (text ≡ c ∷ rest)

-- the text begins with the byte of one of the branches
abbrev pub IsOfBranch : {A : Type 0} → List (Branch A) → List ℕ → Type 0
IsOfBranch [] text = ⊥
IsOfBranch (r ∷ rs) text = StartsWith r.byte text ⊎ IsOfBranch rs text

-- The part that the branch reads, of all that fits: the values whose spelling begins with its byte.
abbrev pub ReadsBranch : {A : Type 0} → (A → Type 0) → (A → List ℕ) → Branch A → Type 0
ReadsBranch Fits spell r = Reads (λ a. Fits a × StartsWith r.byte (spell a)) spell r.at

-- no two branches have one byte
abbrev pub AreApart : {A : Type 0} → List (Branch A) → Type 0
AreApart [] = Unit {0}
AreApart (r ∷ rs) = AllByRecursion (λ q. q.byte ≢ r.byte) rs × AreApart rs

-- Each item fits at the state where it is, and so does the one that ends them.
abbrev pub RunFits : {S A E : Type 0} → (S → A → Type 0) → (S → E → Type 0) → (A → S) → S → List A
    → E → Type 0
RunFits F G next st [] e = G st e
RunFits F G next st (a ∷ xs) e = F st a × RunFits F G next (next a) xs e

-- the items, one after the other, and then what ends them
abbrev pub many : {A E : Type 0} → (A → List ℕ) → (E → List ℕ) → List A × E → List ℕ
many s t p = flat_map s p.0 ++ t p.1

-- The needs of a repetition: at each valid state the reader of an item or of the end has the law,
-- each item leads to a valid state and has a byte, and something can end the items.
pub record Repeats {S A E : Type 0} (Valid : S → Type 0) (F : S → A → Type 0) (s : A → List ℕ)
    (G : S → E → Type 0) (t : E → List ℕ) (item : S → Reader (Either A E)) (next : A → S) : Type 0
  where
    pub reads : (st : S) → Valid st → Reads (OfEither (F st) (G st)) (of_either s t) (item st)
    pub keeps : (st : S) (a : A) → F st a → Valid (next a)
    pub some : (st : S) (a : A) → F st a → 0 < length (s a)
    pub final : (st : S) → Valid st → (e : E) × G st e
