use Rattle.std.proofs.Common.{◌≡◌, ℕ, ◌+◌, ◌<◌, List, Option, Some, length, refl, sym, subst, arith}
use Rattle.std.specs.Prelude.{slice_get, slice_set, slice_index_or, ◌%◌}
use Rattle.std.proofs.lemmas.Option.{slice_get_read}
use Rattle.held_locks.specs.Holding.{chain_count, AreChained, IsSpliced}
use Rattle.held_locks.proofs.Linking.{before_within}
use Rattle.held_locks.proofs.Chaining.{put_nobody, put_client}
use Rattle.held_locks.proofs.chains.put.Goals as goal

before_at : (N P : List ℕ) (clients : List (Option ℕ)) (lock before : ℕ) → AreChained chain_count N P clients → lock < length clients → before ≡ slice_index_or P (chain_count + lock) before → slice_get P (chain_count + lock) ≡ Some before
before_at N P clients lock before a l e =
    let many = a.many in
    let same = a.linked.same in
    slice_get_read P (length P) (chain_count + lock) before refl (omega (arith, l, many, same)) e

pub splice-requires-clause-first : goal.splice-requires-clause-first
splice-requires-clause-first c =
    let at = before_at c.args.next.now.items c.args.previous.now.items c.args.clients.now.items c.args.lock c.index-before.result.now c.requires.chained c.requires.lock c.index-before.ensures in
    before_within c.args.next.now.items c.args.previous.now.items (chain_count + c.args.lock) c.index-before.result.now c.requires.chained.linked at

pub returns-in-Some-clause-chained : goal.returns-in-Some-clause-chained
returns-in-Some-clause-chained c =
    let n = c.args.next.now.items in
    let p = c.args.previous.now.items in
    let at = before_at n p c.args.clients.now.items c.args.lock c.index-before.result.now c.requires.chained c.requires.lock c.index-before.ensures in
    let chain = c.in-Some.client % chain_count in
    let small : chain < chain_count = subst (λ (x : ℕ). x < chain_count) c.chain_of.ensures.is c.chain_of.ensures.small in
    let spliced : IsSpliced c.splice.new.next.items c.splice-in-Some.new.next.items chain (chain_count + c.args.lock) = subst (λ (x : ℕ). IsSpliced c.splice.new.next.items c.splice-in-Some.new.next.items x (chain_count + c.args.lock)) c.chain_of.ensures.is c.splice-in-Some.ensures.spliced in
    subst (λ (x : Option ℕ). AreChained chain_count c.splice-in-Some.new.next.items c.splice-in-Some.new.previous.items (slice_set c.args.clients.now.items c.args.lock x)) (sym c.in-Some.is)
    (put_client chain_count n p c.splice.new.next.items c.splice.new.previous.items c.splice-in-Some.new.next.items c.splice-in-Some.new.previous.items c.args.clients.now.items c.args.lock c.index-before.result.now c.in-Some.client
    c.requires.chained c.requires.lock at c.splice.ensures.spliced c.splice.ensures.linked small spliced c.splice-in-Some.ensures.linked)

pub returns-in-None-clause-chained : goal.returns-in-None-clause-chained
returns-in-None-clause-chained c =
    let n = c.args.next.now.items in
    let p = c.args.previous.now.items in
    let at = before_at n p c.args.clients.now.items c.args.lock c.index-before.result.now c.requires.chained c.requires.lock c.index-before.ensures in
    subst (λ (x : Option ℕ). AreChained chain_count c.splice.new.next.items c.splice.new.previous.items (slice_set c.args.clients.now.items c.args.lock x)) (sym c.in-None.is)
    (put_nobody chain_count n p c.splice.new.next.items c.splice.new.previous.items c.args.clients.now.items c.args.lock c.index-before.result.now c.requires.chained c.requires.lock at c.splice.ensures.spliced c.splice.ensures.linked)
