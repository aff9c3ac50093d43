-- A hold that is open at a start, and is dropped.
use Rattle.std.proofs.Common.{◌≡◌, ◌∙◌, ℕ, ◌+◌, true, false, List, [], ◌∷◌, ◌++◌, length, refl, sym, ap, arith, Option, Some, slice_get}
use Rattle.std.specs.Prelude.{option_map}
use Rattle.std.proofs.lemmas.List.{length-append, length-map}
use Rattle.std.proofs.lemmas.Option.{slice_get-map}
use Rattle.endless_ring.specs.Endless.{EndlessView}
use Rattle.held_locks.specs.declared.answers.Left.{Left}
use Rattle.held_locks.specs.Queues.{Lock, is_held_by}
use Rattle.held_locks.specs.Promises.{LeaversAreGone, locks_after, leaves}
use Rattle.held_locks.specs.Kept.{LockView, lock_of, locks_of, IsLeft}
use Rattle.held_locks.specs.Opened.{open_in, holder_after, IsAdded}

split : true ≡ false → ⊥
split e = cc

last_there : {X : Type 0} (xs : List X) (y : X) → slice_get (xs ++ y ∷ []) (length xs) ≡ Some y
last_there [] y = refl
last_there (x ∷ xs) y = last_there xs y

-- client 0 holds nothing when it has left, and the lock that was added is held by it
pub dropped : (old mid new : List LockView) (e : EndlessView) (t : ℕ) (said : List Left) → LeaversAreGone → open_in e ≡ Some t → IsAdded old mid e → IsLeft mid new 0 said → IsAdded old new e → ⊥
dropped old mid new e t said gone found real left fake =
    let v : LockView = record { ring = fake.ring; queue = []; holder = holder_after (open_in e) } in
    let w : LockView = record { ring = real.ring; queue = []; holder = holder_after (open_in e) } in
    let at : slice_get new (length old) ≡ Some v = ap (λ (x : List LockView). slice_get x (length old)) fake.added ∙ last_there old v in
    let there : slice_get (locks_of new) (length old) ≡ Some (lock_of v) = slice_get-map lock_of new (length old) ∙ ap (λ (x : Option LockView). option_map lock_of x) at in
    let many : length mid ≡ length old + 1 = ap (λ (x : List LockView). length x) real.added ∙ length-append old (w ∷ []) in
    let count : length (locks_of mid) ≡ length mid = length-map mid lock_of in
    let behind : List Lock = locks_after (locks_of mid) (leaves 0 (length (locks_of mid))) in
    let after : locks_of new ≡ behind = left.locks ∙ ap (λ (n : ℕ). locks_after (locks_of mid) (leaves 0 n)) (sym count) in
    let here : slice_get behind (length old) ≡ Some (lock_of v) = ap (λ (x : List Lock). slice_get x (length old)) (sym after) ∙ there in
    let none = gone (locks_of mid) 0 (length old) (lock_of v) (omega (arith, many, count)) here in
    let held : is_held_by 0 (holder_after (open_in e)) ≡ true = ap (λ (o : Option ℕ). is_held_by 0 (holder_after o)) found in
    split (sym held ∙ none.0)
