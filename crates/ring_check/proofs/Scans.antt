-- Lines one after the other.
use Rattle.std.proofs.Common.{◌≡◌, ℕ, ◌+◌, List, [], ◌∷◌, ◌++◌, length, Option, Some, None, Ok, Err, refl, ◌∙◌, ap, arith}
use Rattle.ring_check.specs.declared.answers.Kind.{Kind}
use Rattle.ring_check.specs.declared.answers.CheckError.TheVariants.{Bad, OutOfMemory}
use Rattle.ring_check.specs.Lines.{Line, RingLine, StartLine, EventLine, EndLine, SurveyLine, DoneLine, lines}
use Rattle.ring_check.specs.Table.{Before, nothing, after_line, fault, after_lines}
use Rattle.ring_check.specs.Scan.{or_behind, first_fault}
use Rattle.ring_check.specs.Legal.{IsGood, IsFirstBad, AtMostOneIsRight}

-- the first fault of two lists of lines
abbrev pub or_else : Option (ℕ × Kind) → Option (ℕ × Kind) → Option (ℕ × Kind)
or_else None b = b
or_else (Some a) b = Some a

pub after_append : (b : Before) (xs ys : List Line) → after_lines b (xs ++ ys) ≡ after_lines (after_lines b xs) ys
after_append b [] ys = refl
after_append b (x ∷ xs) ys = after_append (after_line b x) xs ys

pub fault_append : (b : Before) (xs ys : List Line) → first_fault b (xs ++ ys) ≡ or_else (first_fault b xs) (first_fault (after_lines b xs) ys)
fault_append b [] ys = refl
fault_append b (x ∷ xs) ys = go (fault b x) (first_fault (after_line b x) (xs ++ ys)) (first_fault (after_line b x) xs) (first_fault (after_lines (after_line b x) xs) ys) (fault_append (after_line b x) xs ys)
  where
    go : (f : Option Kind) (all front back : Option (ℕ × Kind)) → all ≡ or_else front back → or_behind f b.line all ≡ or_else (or_behind f b.line front) back
    go None all front back e = e
    go (Some kind) all front back e = refl

pub good_nil : (b : Before) → IsGood b []
good_nil b [] l back e = absurd (cc)
good_nil b (x ∷ front) l back e = absurd (cc)

pub good_cons : (b : Before) (x : Line) (ls : List Line) → fault b x ≡ None → IsGood (after_line b x) ls → IsGood b (x ∷ ls)
good_cons b x ls h g [] l back e = let p : l ≡ x = cc in rw p h
good_cons b x ls h g (y ∷ front) l back e = let p : y ≡ x = cc in let q : ls ≡ front ++ l ∷ back = cc in rw p (g front l back q)

pub good_head : (b : Before) (x : Line) (ls : List Line) → IsGood b (x ∷ ls) → fault b x ≡ None
good_head b x ls g = g [] x ls refl

pub good_tail : (b : Before) (x : Line) (ls : List Line) → IsGood b (x ∷ ls) → IsGood (after_line b x) ls
good_tail b x ls g front l back e = g (x ∷ front) l back (ap (λ (u : List Line). x ∷ u) e)

-- nothing is found exactly where all is good
pub good_none : (b : Before) (ls : List Line) → first_fault b ls ≡ None → IsGood b ls
good_none b [] h = good_nil b
good_none b (x ∷ ls) h = go (fault b x) refl (λ q. good_none (after_line b x) ls q) h
  where
    go : (f : Option Kind) → fault b x ≡ f → (first_fault (after_line b x) ls ≡ None → IsGood (after_line b x) ls) → or_behind f b.line (first_fault (after_line b x) ls) ≡ None → IsGood b (x ∷ ls)
    go None e more h = good_cons b x ls e (more h)
    go (Some kind) e more h = absurd (cc)

pub none_good : (b : Before) (ls : List Line) → IsGood b ls → first_fault b ls ≡ None
none_good b [] g = refl
none_good b (x ∷ ls) g = rw (good_head b x ls g) (none_good (after_line b x) ls (good_tail b x ls g))

pub line_next : (b : Before) (l : Line) → (after_line b l).line ≡ b.line + 1
line_next b (RingLine index n k) = refl
line_next b (StartLine s) = refl
line_next b (EventLine e) = refl
line_next b (EndLine m) = refl
line_next b (SurveyLine s) = refl
line_next b (DoneLine m) = refl

-- no line changes the version
pub version_next : (b : Before) (l : Line) → (after_line b l).version ≡ b.version
version_next b (RingLine index n k) = refl
version_next b (StartLine s) = refl
version_next b (EventLine e) = refl
version_next b (EndLine m) = refl
version_next b (SurveyLine s) = refl
version_next b (DoneLine m) = refl

pub version_kept : (b : Before) (ls : List Line) → (after_lines b ls).version ≡ b.version
version_kept b [] = refl
version_kept b (l ∷ ls) = version_kept (after_line b l) ls ∙ version_next b l

-- the line that is found is the first bad one
abbrev pub FoundAt : Before → List Line → ℕ → Kind → Type 0
FoundAt b ls line kind = (front : List Line) × (l : Line) × (back : List Line) × (ls ≡ front ++ l ∷ back) × (line ≡ length front + b.line + 1) × IsGood b front × (fault (after_lines b front) l ≡ Some kind)

found_cons : (b : Before) (x : Line) (ls : List Line) (line : ℕ) (kind : Kind) → fault b x ≡ None → FoundAt (after_line b x) ls line kind → FoundAt b (x ∷ ls) line kind
found_cons b x ls line kind h (front, l, back, cut, at, good, bad) =
    let more : (after_line b x).line ≡ b.line + 1 = line_next b x in
    (x ∷ front, l, back, ap (λ (u : List Line). x ∷ u) cut, omega arith, good_cons b x front h good, bad)

pub found : (b : Before) (ls : List Line) (bad : ℕ × Kind) → first_fault b ls ≡ Some bad → FoundAt b ls bad.0 bad.1
found b [] bad h = absurd (cc)
found b (x ∷ ls) bad h = go (fault b x) refl (λ q. found (after_line b x) ls bad q) h
  where
    go : (f : Option Kind) → fault b x ≡ f → (first_fault (after_line b x) ls ≡ Some bad → FoundAt (after_line b x) ls bad.0 bad.1) → or_behind f b.line (first_fault (after_line b x) ls) ≡ Some bad → FoundAt b (x ∷ ls) bad.0 bad.1
    go None e more h = found_cons b x ls bad.0 bad.1 e (more h)
    go (Some kind) e more h = let q : (b.line + 1, kind) ≡ bad = cc in rw (← q) ([], x, ls, refl, omega arith, good_nil b, e)

-- the first bad line is found
pub foundback : (b : Before) (front : List Line) (l : Line) (back : List Line) (kind : Kind) → IsGood b front → fault (after_lines b front) l ≡ Some kind →
    first_fault b (front ++ l ∷ back) ≡ Some (length front + b.line + 1, kind)
foundback b [] l back kind g h =
    let e : b.line + 1 ≡ 0 + b.line + 1 = omega arith in
    rw h (ap (λ (x : ℕ). Some (x, kind)) e)
foundback b (x ∷ front) l back kind g h =
    let more = foundback (after_line b x) front l back kind (good_tail b x front g) h in
    let e : length front + (after_line b x).line + 1 ≡ length (x ∷ front) + b.line + 1 = let n = line_next b x in omega arith in
    ap (λ (f : Option Kind). or_behind f b.line (first_fault (after_line b x) (front ++ l ∷ back))) (good_head b x front g) ∙ more ∙ ap (λ (y : ℕ). Some (y, kind)) e

pub bad_found : (version : ℕ) (ls : List Line) (line : ℕ) (kind : Kind) → IsFirstBad version ls line kind → first_fault (nothing version) ls ≡ Some (line, kind)
bad_found version ls line kind (front, l, back, cut, at, good, bad) =
    let e : length front + 1 + 1 ≡ line = omega arith in
    ap (λ (x : List Line). first_fault (nothing version) x) cut ∙ foundback (nothing version) front l back kind good bad ∙ ap (λ (x : ℕ). Some (x, kind)) e

legal_apart : (version : ℕ) (ls : List Line) (line : ℕ) (kind : Kind) → IsGood (nothing version) ls → IsFirstBad version ls line kind → ⊥
legal_apart version ls line kind g f = let a = none_good (nothing version) ls g in let b = bad_found version ls line kind f in cc

bad_apart : (version : ℕ) (ls : List Line) (l m : ℕ) (j k : Kind) → IsFirstBad version ls l j → IsFirstBad version ls m k → (l ≡ m) × (j ≡ k)
bad_apart version ls l m j k f g =
    let a = bad_found version ls l j f in
    let b = bad_found version ls m k g in
    let e : (l, j) ≡ (m, k) = cc in
    (ap (λ (x : ℕ × Kind). x.0) e, ap (λ (x : ℕ × Kind). x.1) e)

pub at_most_one : AtMostOneIsRight
at_most_one s (Ok x) (Ok y) f g n m = let p = f.1 in let q = g.1 in cc
at_most_one s (Ok x) (Err (Bad l j)) f g n m = absurd (legal_apart s.version (lines s) l j f.0 g)
at_most_one s (Ok x) (Err OutOfMemory) f g n m = absurd (m refl)
at_most_one s (Err (Bad l j)) (Ok y) f g n m = absurd (legal_apart s.version (lines s) l j g.0 f)
at_most_one s (Err (Bad l j)) (Err (Bad k i)) f g n m = let e = bad_apart s.version (lines s) l k j i f g in let p = e.0 in let q = e.1 in cc
at_most_one s (Err (Bad l j)) (Err OutOfMemory) f g n m = absurd (m refl)
at_most_one s (Err OutOfMemory) y f g n m = absurd (n refl)
