use Rattle.std.proofs.Common.{◌≡◌, ℕ, ◌+◌, ◌-◌, ◌<◌, ◌≤◌, List, [], Some, length, refl, sym, ap, subst, ◌∙◌, inl, inr, arith}
use Rattle.std.specs.Prelude.{slice_get}
use Rattle.std.proofs.lemmas.Option.{slice_get_read}
use Rattle.held_locks.specs.Holding.{chain_count, AreFound}
use Rattle.held_locks.proofs.Gathering.{IsGathered, gather_none, found_none, gather_more, gathered, link_within}
use Rattle.held_locks.proofs.chains.find.Goals as goal

pub returns-then-chain-len-clause-found : goal.returns-then-chain-len-clause-found
returns-then-chain-len-clause-found c =
    let a = c.requires.chained in
    let past : length c.args.next.now.items ≤ c.chain_of-chain.result = let n = c.len.ensures in let k = c.args.next.now.ok.0 in let f = c.if-chain-len.true in omega arith in
    subst (λ (x : List ℕ). AreFound c.args.clients.now.items c.args.client x) (sym c.requires.empty) (found_none chain_count c.args.next.now.items a.0 c.args.clients.now.items c.args.client c.chain_of-chain.result a.1 c.chain_of-chain.ensures.small past)

pub loop-more-init : goal.loop-more-init
loop-more-init c =
    let a = c.requires.chained in
    let within : c.chain_of-chain.result < length c.args.next.now.items = let n = c.len.ensures in let k = c.args.next.now.ok.0 in let f = c.if-chain-len.false in omega arith in
    let there : slice_get c.args.next.now.items c.chain_of-chain.result ≡ Some c.index-link.result.now = slice_get_read c.args.next.now.items (length c.args.next.now.items) c.chain_of-chain.result c.index-link.result.now refl within c.index-link.ensures in
    let many : c.len-more.result ≡ length c.args.clients.now.items = c.len-more.ensures ∙ c.args.clients.now.ok.0 in
    let g : IsGathered chain_count c.args.next.now.items c.args.clients.now.items c.args.client c.index-link.result.now (length c.args.clients.now.items) [] = gather_none chain_count c.args.next.now.items a.0 c.args.clients.now.items c.args.client c.chain_of-chain.result c.index-link.result.now a.1 c.chain_of-chain.ensures.is c.chain_of-chain.ensures.small there in
    let few : length c.args.found.now.items ≡ 0 = ap (λ (x : List ℕ). length x) c.requires.empty in
    let len = c.args.found.now.ok.0 in
    let room = c.requires.room in record {
      gathered = subst (λ (x : List ℕ). IsGathered chain_count c.args.next.now.items c.args.clients.now.items c.args.client c.index-link.result.now c.len-more.result x) (sym c.requires.empty)
          (subst (λ (x : ℕ). IsGathered chain_count c.args.next.now.items c.args.clients.now.items c.args.client c.index-link.result.now x []) (sym many) g);
      room = omega (arith, few, len, room, many);
      capacity = refl;
    }

pub returns-then-link-lt-CHAINS-clause-found : goal.returns-then-link-lt-CHAINS-clause-found
returns-then-link-lt-CHAINS-clause-found c =
    gathered chain_count c.args.next.now.items c.args.clients.now.items c.args.client c.loop-more.link c.loop-more.more c.loop-more.found.items (inl c.if-link-lt-CHAINS.true) c.loop-more.invariant.gathered

pub returns-clause-found : goal.returns-clause-found
returns-clause-found c =
    gathered chain_count c.args.next.now.items c.args.clients.now.items c.args.client c.loop-more.link c.loop-more.more c.loop-more.found.items (inr (let t = c.loop-more-test.false in omega arith)) c.loop-more.invariant.gathered

pub index-holder-requires : goal.index-holder-requires
index-holder-requires c =
    let a = c.requires.chained in
    let within : c.loop-more.link < length c.args.next.now.items = link_within chain_count c.args.next.now.items c.args.clients.now.items c.args.client c.loop-more.link c.loop-more.more c.loop-more.found.items c.loop-more.invariant.gathered c.if-link-lt-CHAINS.false in
    let many = a.1.many in
    let len = c.args.clients.now.ok.0 in
    let high = c.if-link-lt-CHAINS.false in
    omega (arith, within, many, len, high)

pub index-after-requires : goal.index-after-requires
index-after-requires c =
    let within : c.loop-more.link < length c.args.next.now.items = link_within chain_count c.args.next.now.items c.args.clients.now.items c.args.client c.loop-more.link c.loop-more.more c.loop-more.found.items c.loop-more.invariant.gathered c.if-link-lt-CHAINS.false in
    let len = c.args.next.now.ok.0 in
    omega (arith, within, len)

pub loop-more-preserved : goal.loop-more-preserved
loop-more-preserved c =
    let a = c.requires.chained in
    let n = c.args.next.now.items in
    let clients = c.args.clients.now.items in
    let link = c.loop-more.link in
    let high = c.if-link-lt-CHAINS.false in
    let within : link < length n = link_within chain_count n clients c.args.client link c.loop-more.more c.loop-more.found.items c.loop-more.invariant.gathered high in
    let many = a.1.many in
    let less : 0 < c.loop-more.more = c.loop-more-test.true in
    let is : link ≡ chain_count + (link - chain_count) = omega (arith, high) in
    let next : slice_get n link ≡ Some c.index-after.result.now = slice_get_read n (length n) link c.index-after.result.now refl within c.index-after.ensures in
    let there : slice_get clients (link - chain_count) ≡ Some c.index-holder.result.now = slice_get_read clients (length clients) (link - chain_count) c.index-holder.result.now refl (omega (arith, within, many, high)) c.index-holder.ensures in
    let len = c.note.ensures.len in
    let cap = c.note.ensures.capacity in
    let room = c.loop-more.invariant.room in record {
      gathered = subst (λ (x : List ℕ). IsGathered chain_count n clients c.args.client c.index-after.result.now (c.loop-more.more - 1) x) (sym c.note.ensures.items)
          (gather_more chain_count n clients c.args.client link c.loop-more.more (link - chain_count) c.index-after.result.now c.index-holder.result.now c.loop-more.found.items less is next there c.loop-more.invariant.gathered);
      room = omega (arith, len, cap, room, less);
      capacity = cap ∙ c.loop-more.invariant.capacity;
    }
