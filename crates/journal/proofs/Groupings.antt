-- The calls without the open members at their end, with one call more.
use Rattle.std.proofs.Common.{◌≡◌, ℕ, ◌+◌, ◌<◌, Bool, true, false, cond, List, [], ◌∷◌, ◌++◌, length, get_or, take, refl, sym, ap, ◌∙◌}
use Rattle.std.specs.Prelude.{◌&&◌}
use Rattle.std.proofs.lemmas.List.{take_more}
use Rattle.std.proofs.lemmas.List.Folds.{list_all-append}
use Rattle.journal.specs.declared.calls.JournalLine.{JournalLine}
use Rattle.journal.specs.ContentAfter.{is_open, are_open, whole}

last_open : (a b : Bool) → b ≡ true → (a && (b && true)) ≡ a
last_open true b e = rw e refl
last_open false b e = refl

last_closed : (a b : Bool) → b ≡ false → (a && (b && true)) ≡ false
last_closed true b e = rw e refl
last_closed false b e = refl

open_more : (rs : List JournalLine) (r : JournalLine) → is_open r.call ≡ true → are_open (rs ++ r ∷ []) ≡ are_open rs
open_more rs r e = list_all-append (λ (x : JournalLine). is_open x.call) rs (r ∷ []) ∙ last_open (are_open rs) (is_open r.call) e

closed_more : (rs : List JournalLine) (r : JournalLine) → is_open r.call ≡ false → are_open (rs ++ r ∷ []) ≡ false
closed_more rs r e = list_all-append (λ (x : JournalLine). is_open x.call) rs (r ∷ []) ∙ last_closed (are_open rs) (is_open r.call) e

one_open : (b : Bool) (r : JournalLine) → b ≡ true → cond (b && true) [] (r ∷ []) ≡ []
one_open b r e = rw e refl

one_closed : (b : Bool) (r : JournalLine) → b ≡ false → cond (b && true) [] (r ∷ []) ≡ r ∷ []
one_closed b r e = rw e refl

-- an open member more changes nothing
whole_open : (rs : List JournalLine) (r : JournalLine) → is_open r.call ≡ true → whole (rs ++ r ∷ []) ≡ whole rs
whole_open [] r e = one_open (is_open r.call) r e
whole_open (x ∷ xs) r e =
    ap (λ (b : Bool). cond b [] (x ∷ whole (xs ++ r ∷ []))) (open_more (x ∷ xs) r e)
    ∙ ap (λ (ys : List JournalLine). cond (are_open (x ∷ xs)) [] (x ∷ ys)) (whole_open xs r e)

-- any other call makes all of them whole
whole_closed : (rs : List JournalLine) (r : JournalLine) → is_open r.call ≡ false → whole (rs ++ r ∷ []) ≡ rs ++ r ∷ []
whole_closed [] r e = one_closed (is_open r.call) r e
whole_closed (x ∷ xs) r e =
    ap (λ (b : Bool). cond b [] (x ∷ whole (xs ++ r ∷ []))) (closed_more (x ∷ xs) r e)
    ∙ ap (λ (ys : List JournalLine). x ∷ ys) (whole_closed xs r e)

-- the same of one more of the first calls
pub whole_more_open : (rs : List JournalLine) (i : ℕ) (d : JournalLine) → i < length rs → is_open (get_or rs i d).call ≡ true → whole (take (i + 1) rs) ≡ whole (take i rs)
whole_more_open rs i d lt e = rw (take_more rs i d lt) (whole_open (take i rs) (get_or rs i d) e)

pub whole_more_closed : (rs : List JournalLine) (i : ℕ) (d : JournalLine) → i < length rs → is_open (get_or rs i d).call ≡ false → take (i + 1) rs ≡ whole (take (i + 1) rs)
whole_more_closed rs i d lt e = rw (take_more rs i d lt) (sym (whole_closed (take i rs) (get_or rs i d) e))
