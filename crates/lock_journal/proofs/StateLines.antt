-- The lines of a state, one lock or one client more.
use Rattle.std.proofs.Common.{◌≡◌, ℕ, ◌+◌, List, ◌∷◌, ◌++◌, length, Option, Some, sym, ◌∙◌, ap, arith, slice_get, ◌<◌, append_assoc, drop}
use Rattle.std.proofs.lemmas.List.{drop_more, length-append}
use Rattle.std.proofs.lemmas.Option.{slice_get_within, get_or_from_slice_get}
use Rattle.line_service.specs.Answering.{joined_lines}
use Rattle.line_replica.proofs.JoinedLines.{joined_append}
use Rattle.held_locks.proofs.AllLeft.{there_is}
use Rattle.held_locks.specs.declared.answers.Holder.{Holder}
use Rattle.held_locks.specs.declared.answers.Waiter.{Waiter}
use Rattle.held_locks.specs.Kept.{LockView}
use Rattle.lock_protocol.specs.Names.{Names, name_of}
use Rattle.lock_journal.specs.State.{hold_lines, wait_line, wait_lines, holds_from, waits_from}

pub drop_there : {X : Type 0} (xs : List X) (i : ℕ) (x : X) → slice_get xs i ≡ Some x → drop i xs ≡ x ∷ drop (i + 1) xs
drop_there xs i x at = drop_more xs i x (slice_get_within xs i x at) ∙ ap (λ y. y ∷ drop (i + 1) xs) (get_or_from_slice_get xs i x x at)

pub holds_there : (names : Names) (vs : List LockView) (i : ℕ) (name : List ℕ) (h : Option Holder) → i < length vs → name ≡ name_of names i → ((v : LockView) → slice_get vs i ≡ Some v → h ≡ v.holder) → holds_from names i (drop i vs) ≡ hold_lines name h ++ holds_from names (i + 1) (drop (i + 1) vs)
holds_there names vs i name h l named is =
    let v = there_is vs i l in
    ap (λ (xs : List LockView). holds_from names i xs) (drop_there vs i v.0 v.1)
    ∙ ap (λ (x : Option Holder). hold_lines (name_of names i) x ++ holds_from names (i + 1) (drop (i + 1) vs)) (sym (is v.0 v.1))
    ∙ ap (λ (x : List ℕ). hold_lines x h ++ holds_from names (i + 1) (drop (i + 1) vs)) (sym named)

pub waits_there : (names : Names) (vs : List LockView) (i : ℕ) (name : List ℕ) (v : LockView) → name ≡ name_of names i → slice_get vs i ≡ Some v → waits_from names i (drop i vs) ≡ wait_lines name v.queue ++ waits_from names (i + 1) (drop (i + 1) vs)
waits_there names vs i name v named at =
    ap (λ (xs : List LockView). waits_from names i xs) (drop_there vs i v at)
    ∙ ap (λ (x : List ℕ). wait_lines x v.queue ++ waits_from names (i + 1) (drop (i + 1) vs)) (sym named)

pub wait_there : (name : List ℕ) (ws : List Waiter) (i : ℕ) (w : Waiter) → slice_get ws i ≡ Some w → wait_lines name (drop i ws) ≡ wait_line name w ∷ wait_lines name (drop (i + 1) ws)
wait_there name ws i w at = ap (λ (xs : List Waiter). wait_lines name xs) (drop_there ws i w at)

-- these lines are added, and the rest is still to be
pub lines_more : (was now goal : List ℕ) (part rest all : List (List ℕ)) → all ≡ part ++ rest → was ++ joined_lines all ≡ goal → now ≡ was ++ joined_lines part → now ++ joined_lines rest ≡ goal
lines_more was now goal part rest all p inv q =
    ap (λ (u : List ℕ). u ++ joined_lines rest) q
    ∙ (append_assoc was (joined_lines part) (joined_lines rest)
    ∙ (ap (λ (u : List ℕ). was ++ u) (sym (joined_append part rest)) ∙ (ap (λ (u : List (List ℕ)). was ++ joined_lines u) (sym p) ∙ inv)))

pub line_more : (was now goal line : List ℕ) (rest all : List (List ℕ)) → all ≡ line ∷ rest → was ++ joined_lines all ≡ goal → now ≡ was ++ line → now ++ joined_lines rest ≡ goal
line_more was now goal line rest all p inv q =
    ap (λ (u : List ℕ). u ++ joined_lines rest) q
    ∙ (append_assoc was line (joined_lines rest) ∙ (ap (λ (u : List (List ℕ)). was ++ joined_lines u) (sym p) ∙ inv))

pub count_more : (was now goal : ℕ) (part rest all : List (List ℕ)) → all ≡ part ++ rest → was + length all ≡ goal → now ≡ was + length part → now + length rest ≡ goal
count_more was now goal part rest all p inv q =
    let n : length all ≡ length part + length rest = ap (λ (u : List (List ℕ)). length u) p ∙ length-append part rest in
    omega (arith, n, inv, q)

-- these lines are added after those
pub lines_behind : (old mid new : List ℕ) (front back : List (List ℕ)) → mid ≡ old ++ joined_lines front → new ≡ mid ++ joined_lines back → new ≡ old ++ joined_lines (front ++ back)
lines_behind old mid new front back p q =
    q
    ∙ (ap (λ (u : List ℕ). u ++ joined_lines back) p
    ∙ (append_assoc old (joined_lines front) (joined_lines back) ∙ ap (λ (u : List ℕ). old ++ u) (sym (joined_append front back))))
