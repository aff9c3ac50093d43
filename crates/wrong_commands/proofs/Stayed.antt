-- Locks of which nothing has changed.
use Rattle.std.proofs.Common.{◌≡◌, ◌∙◌, ℕ, Bool, true, false, List, [], ◌∷◌, sym, ap, Option, Some, slice_get}
use Rattle.std.specs.Prelude.{slice_set, option_map, if◌then◌else◌}
use Rattle.std.proofs.lemmas.Option.{slice_get-map}
use Rattle.held_locks.specs.Queues.{Lock, stands, without}
use Rattle.held_locks.specs.Locks.{Cancel, Turn, step_at, told, dropped, turn}
use Rattle.held_locks.specs.declared.answers.Answer.TheVariants as answer
use Rattle.held_locks.specs.declared.answers.Refusal.TheVariants as refusal
use Rattle.held_locks.specs.declared.answers.Answers.{Answers}
use Rattle.held_locks.specs.Kept.{LockView, lock_of, locks_of, IsDone}
use Rattle.held_locks.proofs.Standing.{get_set_same, stands_without}

some_same : {A : Type 0} (a b : A) → Some a ≡ Some b → a ≡ b
some_same a b e = cc

split : true ≡ false → ⊥
split e = cc

-- after a cancel a client that was in the line is not in it any more
pub stands_on : (vs : List LockView) (v : LockView) (c i : ℕ) (r : Answers) → slice_get vs i ≡ Some v → stands c v.queue ≡ true → IsDone vs vs c i Cancel r → ⊥
stands_on vs v c i r at there d =
    let ls : List Lock = locks_of vs in
    let l : Lock = lock_of v in
    let get : slice_get ls i ≡ Some l = slice_get-map lock_of vs i ∙ ap (λ (x : Option LockView). option_map lock_of x) at in
    let out : Lock = record l { queue = without c l.queue } in
    let cancelled : Turn = dropped l c ((c, answer.Cancelled) ∷ []) in
    let refused_so : Turn = told l c (answer.Refused refusal.Waiter) in
    let went : (turn ls l c Cancel).lock ≡ out = ap (λ (t : Turn). t.lock) (ap (λ (b : Bool). if b then cancelled else refused_so) there) in
    let all : ls ≡ slice_set ls i (turn ls l c Cancel).lock = d.locks ∙ ap (λ (x : Option Lock). (step_at ls c i Cancel x).locks) get in
    let now : slice_get ls i ≡ Some (turn ls l c Cancel).lock = ap (λ (x : List Lock). slice_get x i) all ∙ get_set_same ls i (turn ls l c Cancel).lock l get in
    let same : l ≡ (turn ls l c Cancel).lock = some_same l (turn ls l c Cancel).lock (sym get ∙ now) in
    split (sym there ∙ (ap (λ (x : Lock). stands c x.queue) (same ∙ went) ∙ stands_without c l.queue))
