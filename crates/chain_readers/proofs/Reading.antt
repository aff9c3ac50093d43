-- Signs are read one after the other.
use Rattle.std.proofs.Common.{◌≡◌, ℕ, ◌+◌, ◌<◌, List, [], ◌∷◌, ◌++◌, drop, length, get_or, sym, ◌∙◌, ap, Option, Some, None, Result, Ok, Err}
use Rattle.std.proofs.lemmas.List.{drop_more}
use Rattle.saved_history.specs.declared.saved.SavedEvent.{SavedEvent}
use Rattle.saved_history.specs.declared.saved.SavedSurvey.{SavedSurvey}
use Rattle.ring_model.specs.declared.bases.Base.{Base}
use Rattle.chain_readers.specs.declared.hold_errors.HoldError.{HoldError}
use Rattle.chain_readers.specs.declared.hold_errors.HoldError.TheVariants.{NoHold, OutOfMemory}
use Rattle.chain_readers.specs.declared.signs.Sign.{Sign}
use Rattle.chain_readers.specs.Signs.{sign_of, ends_at, place, ended, signs_from}
use Rattle.chain_readers.specs.Known.{Known, on, step, read, IsRead}

ok_is : (k m : Known) → ◌≡◌ {A = Result Known ℕ} (Ok k) (Ok m) → k ≡ m
ok_is k m e = cc

ok_no : (k : Known) (p : ℕ) → ◌≡◌ {A = Result Known ℕ} (Ok k) (Err p) → ⊥
ok_no k p e = cc

no_ok : (k : Known) (p : ℕ) → ◌≡◌ {A = Result Known ℕ} (Err p) (Ok k) → ⊥
no_ok k p e = cc

pub read_ok : (k : Known) (xs ys : List (ℕ × Sign)) (m : Known) → read k xs ≡ Ok m → read k (xs ++ ys) ≡ read m ys
read_ok k [] ys m e = ap (λ (x : Known). read x ys) (ok_is k m e)
read_ok k (x ∷ xs) ys m e = go (λ (n : Known). read_ok n xs ys m) (step k x.0 x.1) e
  where
    go : ((n : Known) → read n xs ≡ Ok m → read n (xs ++ ys) ≡ read m ys) → (o : Option Known) → on o x.0 (λ (n : Known). read n xs) ≡ Ok m →
        on o x.0 (λ (n : Known). read n (xs ++ ys)) ≡ read m ys
    go more None e = absurd (no_ok m x.0 e)
    go more (Some n) e = more n e

pub read_err : (k : Known) (xs ys : List (ℕ × Sign)) (p : ℕ) → read k xs ≡ Err p → read k (xs ++ ys) ≡ Err p
read_err k [] ys p e = absurd (ok_no k p e)
read_err k (x ∷ xs) ys p e = go (λ (n : Known). read_err n xs ys p) (step k x.0 x.1) e
  where
    go : ((n : Known) → read n xs ≡ Err p → read n (xs ++ ys) ≡ Err p) → (o : Option Known) → on o x.0 (λ (n : Known). read n xs) ≡ Err p →
        on o x.0 (λ (n : Known). read n (xs ++ ys)) ≡ Err p
    go more None e = e
    go more (Some n) e = more n e

-- one sign
pub read_one : (k : Known) (at : ℕ) (s : Sign) (ys : List (ℕ × Sign)) (m : Known) → step k at s ≡ Some m → read k ((at, s) ∷ ys) ≡ read m ys
read_one k at s ys m e = ap (λ (o : Option Known). on o at (λ (n : Known). read n ys)) e

-- ---- a segment

pub segment_err : (start k : Known) (b : Base) (ss : List SavedSurvey) (i : ℕ) (es : List SavedEvent) (all : List (ℕ × Sign)) (d : SavedEvent) (e : HoldError) (m n : Known) → i < length es →
    read k (signs_from b ss i (drop i es)) ≡ read start all → IsRead k (ended (place b i) (ends_at i ss)) (Err e) m → IsRead start all (Err e) n
segment_err start k b ss i es all d (NoHold p) m n lt inv r =
    sym inv ∙ ap (λ (x : List SavedEvent). read k (signs_from b ss i x)) (drop_more es i d lt)
    ∙ read_err k (ended (place b i) (ends_at i ss)) ((place b i, sign_of b (get_or es i d)) ∷ signs_from b ss (i + 1) (drop (i + 1) es)) p r
segment_err start k b ss i es all d OutOfMemory m n lt inv r = tt
