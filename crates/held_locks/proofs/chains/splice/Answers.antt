use Rattle.std.proofs.Common.{◌≡◌, ◌<◌, length, refl, arith, Some}
use Rattle.std.specs.Prelude.{slice_get}
use Rattle.std.proofs.lemmas.Option.{slice_get_read, slice_get_within}
use Rattle.held_locks.proofs.Linking.{set_spliced, spliced_linked}
use Rattle.held_locks.proofs.chains.splice.Goals as goal

pub index_mut-requires-3 : goal.index_mut-requires-3
index_mut-requires-3 c =
    let at : slice_get c.args.next.now.items c.args.b ≡ Some c.index-after_b.result.now = slice_get_read c.args.next.now.items (length c.args.next.now.items) c.args.b c.index-after_b.result.now refl c.requires.second c.index-after_b.ensures in
    let within : c.index-after_b.result.now < length c.args.previous.now.items = slice_get_within c.args.previous.now.items c.index-after_b.result.now c.args.b (c.requires.linked.ahead c.args.b c.index-after_b.result.now at) in
    let many = c.args.previous.now.ok.0 in
    omega (arith, within, many)

pub index_mut-requires-4 : goal.index_mut-requires-4
index_mut-requires-4 c =
    let at : slice_get c.args.next.now.items c.args.a ≡ Some c.index-after_a.result.now = slice_get_read c.args.next.now.items (length c.args.next.now.items) c.args.a c.index-after_a.result.now refl c.requires.first c.index-after_a.ensures in
    let within : c.index-after_a.result.now < length c.args.previous.now.items = slice_get_within c.args.previous.now.items c.index-after_a.result.now c.args.a (c.requires.linked.ahead c.args.a c.index-after_a.result.now at) in
    let many = c.args.previous.now.ok.0 in
    omega (arith, within, many)

pub returns-clause-spliced : goal.returns-clause-spliced
returns-clause-spliced c =
    let first = slice_get_read c.args.next.now.items (length c.args.next.now.items) c.args.a c.index-after_a.result.now refl c.requires.first c.index-after_a.ensures in
    let second = slice_get_read c.args.next.now.items (length c.args.next.now.items) c.args.b c.index-after_b.result.now refl c.requires.second c.index-after_b.ensures in
    set_spliced c.args.next.now.items c.args.a c.args.b c.index-after_a.result.now c.index-after_b.result.now first second

pub returns-clause-linked : goal.returns-clause-linked
returns-clause-linked c =
    let n = c.args.next.now.items in
    let p = c.args.previous.now.items in
    let x = c.index-after_a.result.now in
    let y = c.index-after_b.result.now in
    let first : slice_get n c.args.a ≡ Some x = slice_get_read n (length n) c.args.a x refl c.requires.first c.index-after_a.ensures in
    let second : slice_get n c.args.b ≡ Some y = slice_get_read n (length n) c.args.b y refl c.requires.second c.index-after_b.ensures in
    spliced_linked n p _ _ c.args.a c.args.b x y c.requires.linked first second (set_spliced n c.args.a c.args.b x y first second)
    (set_spliced p y x c.args.b c.args.a (c.requires.linked.ahead c.args.b y second) (c.requires.linked.ahead c.args.a x first))
