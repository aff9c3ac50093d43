-- Small steps of what is answered and noted.
use Rattle.std.proofs.Common.{◌≡◌, ℕ, ◌+◌, List, [], ◌∷◌, ◌++◌, length, get_or, sym, ◌∙◌, ap, subst, ◌<◌, append_assoc, take, Result, Ok, Err}
use Rattle.std.specs.Prelude.{OnOk, OnErr}
use Rattle.std.specs.List.{flat_map}
use Rattle.std.proofs.lemmas.List.{append-nil, take_more}
use Rattle.line_service.specs.declared.pending.Pending.{Pending}
use Rattle.line_replica.specs.Replies.{IsAdded}
use Rattle.lock_journal.specs.declared.untold.Untold.{Untold}
use Rattle.lock_journal.specs.Answering.{Leaves, put}
use Rattle.lock_journal.specs.declared.untold.Untold.TheVariants as untold

pub on_ok : {T E : Type 0} (r : Result T E) (A B : Type 0) → OnOk r A → (A → B) → OnOk r B
on_ok (Ok u) A B a f = f a
on_ok (Err e) A B a f = tt

pub on_err : {E : Type 0} (r : Result (Unit {0}) E) (A B : Type 0) → OnErr r A → (A → B) → OnErr r B
on_err (Ok u) A B a f = tt
on_err (Err e) A B a f = f a

pub err_of : {E : Type 0} (r : Result (Unit {0}) E) (A : Type 0) → A → OnErr r A
err_of (Ok u) A a = tt
err_of (Err e) A a = a

flat_then : {X : Type 0} (f : X → List ℕ) (xs : List X) (x : X) → flat_map f (xs ++ x ∷ []) ≡ flat_map f xs ++ f x
flat_then f [] x = append-nil (f x)
flat_then f (y ∷ ys) x = ap (λ (u : List ℕ). f y ++ u) (flat_then f ys x) ∙ sym (append_assoc (f y) (flat_map f ys) (f x))

-- a piece more of a text
pub piece_more : {X : Type 0} (f : X → List ℕ) (xs : List X) (i : ℕ) (d : X) (was now then : List ℕ) → i < length xs → now ≡ was ++ flat_map f (take i xs) → then ≡ now ++ f (get_or xs i d) → then ≡ was ++ flat_map f (take (i + 1) xs)
piece_more f xs i d was now then lt p q =
    let more : flat_map f (take (i + 1) xs) ≡ flat_map f (take i xs) ++ f (get_or xs i d) = ap (flat_map f) (take_more xs i d lt) ∙ flat_then f (take i xs) (get_or xs i d) in
    q ∙ (ap (λ (u : List ℕ). u ++ f (get_or xs i d)) p ∙ (append_assoc was (flat_map f (take i xs)) (f (get_or xs i d)) ∙ ap (λ (u : List ℕ). was ++ u) (sym more)))

-- the answer is pending, if there was memory for it; the line is answered in any case
pub put_leaves : {E : Type 0} (r : Result (Unit {0}) E) (IsSo : List ℕ → List ℕ → Type 0) (same : Type 0) (old new : Pending) (said noted : List ℕ) → IsSo said noted → OnOk r (IsAdded old new said noted) → Leaves (put r) IsSo same old new
put_leaves (Ok u) IsSo same old new said noted so added = (said, noted, so, added)
put_leaves (Err e) IsSo same old new said noted so added = (said, noted, so)

pub answered_leaves : (e : Untold) (IsSo : List ℕ → List ℕ → Type 0) (same : Type 0) (old new : Pending) → e ≡ untold.Answered → Leaves (Err e) IsSo same old new → (said : List ℕ) × (noted : List ℕ) × IsSo said noted
answered_leaves e IsSo same old new q l = subst (λ (x : Untold). Leaves (Err x) IsSo same old new) q l

-- it is only said, and nothing is noted
pub said_leaves : {E : Type 0} (r : Result (Unit {0}) E) (result : Result (Unit {0}) Untold) (IsSo : List ℕ → List ℕ → Type 0) (same : Type 0) (old new : Pending) (said : List ℕ) → result ≡ put r → IsSo said [] → OnOk r (new.answers.items ≡ old.answers.items ++ said) → new.notes.items ≡ old.notes.items → Leaves result IsSo same old new
said_leaves r result IsSo same old new said e so told notes =
    subst (λ (x : Result (Unit {0}) Untold). Leaves x IsSo same old new) (sym e)
    (put_leaves r IsSo same old new said [] so (on_ok r _ _ told (λ t. (t, notes ∙ sym (append-nil old.notes.items)))))

pub leaves_weaker : (r : Result (Unit {0}) Untold) (P Q : List ℕ → List ℕ → Type 0) (same : Type 0) (old new : Pending) → ((said noted : List ℕ) → P said noted → Q said noted) → Leaves r P same old new → Leaves r Q same old new
leaves_weaker (Ok u) P Q same old new f l = (l.0, l.1, f l.0 l.1 l.2, l.3)
leaves_weaker (Err untold.Answered) P Q same old new f l = (l.0, l.1, f l.0 l.1 l.2)
leaves_weaker (Err untold.Unanswered) P Q same old new f l = l
