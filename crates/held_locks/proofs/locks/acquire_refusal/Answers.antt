use Rattle.std.proofs.Common.{◌≡◌, ℕ, true, false, length, Option, is_some, sym, ◌∙◌, ap}
use Rattle.held_locks.specs.declared.parts.LockParts.{LockParts}
use Rattle.held_locks.specs.Queues.{is_held_by, waits_for, client_of, comes_to}
use Rattle.held_locks.specs.Kept.{lock_of, locks_of}
use Rattle.held_locks.specs.Parts.{view_of, views_of}
use Rattle.held_locks.proofs.Finding.{part_is, waits_is, refused_waits, refused_circle, refused_not, many_locks}
use Rattle.held_locks.proofs.locks.acquire_refusal.Goals as goal

pub returns-then-is_some-clause-is : goal.returns-then-is_some-clause-is
returns-then-is_some-clause-is c = λ p at.
    let e = sym c.index-locks-lock.is ∙ part_is c.args.locks.now c.args.lock p c.index-locks-lock.result at c.requires.lock c.index-locks-lock.is in
    let h : is_held_by c.args.client p.holder ≡ false = ap (λ (x : LockParts). is_held_by c.args.client x.holder) (sym e) ∙ sym c.is_held_by.ensures ∙ c.if-is_held_by.false in
    let w : is_some (waits_for (locks_of (views_of c.args.locks.now)) c.args.client) ≡ true =
    sym (waits_is (locks_of (views_of c.args.locks.now)) c.args.waits.now c.args.client c.get.result c.requires.kept.right c.requires.kept.waits c.get.ensures) ∙ sym c.is_some.ensures ∙ c.if-is_some.true in
    refused_waits (locks_of (views_of c.args.locks.now)) (lock_of (view_of p)) c.args.client h w

pub returns-then-comes_back-clause-is : goal.returns-then-comes_back-clause-is
returns-then-comes_back-clause-is c = λ p at.
    let e = sym c.index-locks-lock.is ∙ part_is c.args.locks.now c.args.lock p c.index-locks-lock.result at c.requires.lock c.index-locks-lock.is in
    let h : is_held_by c.args.client p.holder ≡ false = ap (λ (x : LockParts). is_held_by c.args.client x.holder) (sym e) ∙ sym c.is_held_by.ensures ∙ c.if-is_held_by.false in
    let w : is_some (waits_for (locks_of (views_of c.args.locks.now)) c.args.client) ≡ false =
    sym (waits_is (locks_of (views_of c.args.locks.now)) c.args.waits.now c.args.client c.get.result c.requires.kept.right c.requires.kept.waits c.get.ensures) ∙ sym c.is_some.ensures ∙ c.if-is_some.false in
    let b : comes_to (length (locks_of (views_of c.args.locks.now))) (locks_of (views_of c.args.locks.now)) c.args.client (client_of p.holder) ≡ true =
    ap (λ (n : ℕ). comes_to n (locks_of (views_of c.args.locks.now)) c.args.client (client_of p.holder)) (many_locks c.args.locks.now)
    ∙ ap (λ (x : Option ℕ). comes_to (length c.args.locks.now) (locks_of (views_of c.args.locks.now)) c.args.client x) (ap (λ (x : LockParts). client_of x.holder) (sym e) ∙ sym c.client_of.ensures)
    ∙ sym c.comes_back.ensures ∙ c.if-comes_back.true in
    refused_circle (locks_of (views_of c.args.locks.now)) (lock_of (view_of p)) c.args.client h w b

pub returns-clause-is : goal.returns-clause-is
returns-clause-is c = λ p at.
    let e = sym c.index-locks-lock.is ∙ part_is c.args.locks.now c.args.lock p c.index-locks-lock.result at c.requires.lock c.index-locks-lock.is in
    let h : is_held_by c.args.client p.holder ≡ false = ap (λ (x : LockParts). is_held_by c.args.client x.holder) (sym e) ∙ sym c.is_held_by.ensures ∙ c.if-is_held_by.false in
    let w : is_some (waits_for (locks_of (views_of c.args.locks.now)) c.args.client) ≡ false =
    sym (waits_is (locks_of (views_of c.args.locks.now)) c.args.waits.now c.args.client c.get.result c.requires.kept.right c.requires.kept.waits c.get.ensures) ∙ sym c.is_some.ensures ∙ c.if-is_some.false in
    let b : comes_to (length (locks_of (views_of c.args.locks.now))) (locks_of (views_of c.args.locks.now)) c.args.client (client_of p.holder) ≡ false =
    ap (λ (n : ℕ). comes_to n (locks_of (views_of c.args.locks.now)) c.args.client (client_of p.holder)) (many_locks c.args.locks.now)
    ∙ ap (λ (x : Option ℕ). comes_to (length c.args.locks.now) (locks_of (views_of c.args.locks.now)) c.args.client x) (ap (λ (x : LockParts). client_of x.holder) (sym e) ∙ sym c.client_of.ensures)
    ∙ sym c.comes_back.ensures ∙ c.if-comes_back.false in
    refused_not (locks_of (views_of c.args.locks.now)) (lock_of (view_of p)) c.args.client h w b
