use Rattle.std.proofs.Common.{◌≡◌, length, refl, ◌∙◌, ap, arith}
use Rattle.std.proofs.lemmas.Nat.{and_le_r}
use Rattle.ring_state.specs.Sizes.{Size}
use Rattle.drawn_groups.proofs.Blocks.{drawn_none, drawn_more, drawn_all}
use Rattle.drawn_groups.proofs.drawing.draw_members.Goals as goal

pub put_members-count-requires-clause-block : goal.put_members-count-requires-clause-block
put_members-count-requires-clause-block c = let small = and_le_r c.block.result c.next_word.result in omega arith

pub put_members-count-requires-clause-room : goal.put_members-count-requires-clause-room
put_members-count-requires-clause-room c =
    let n : c.n-n.result ≡ length c.args.ring.now.values = c.n-n.ensures.is ∙ ap (λ (x : Size). x.n) c.params.ensures.is in
    let few = c.loop-block.invariant.drawn.few in
    let same = c.loop-block.invariant.same in
    let room = c.requires.room in
    omega arith

pub loop-block-init : goal.loop-block-init
loop-block-init c = record { drawn = drawn_none c.args.ring.now.values c.args.words.now c.args.machines.now; same = refl }

pub loop-block-preserved : goal.loop-block-preserved
loop-block-preserved c =
    let n : c.n-n.result ≡ length c.args.ring.now.values = c.n-n.ensures.is ∙ ap (λ (x : Size). x.n) c.params.ensures.is in
    let most = c.params.ensures.ring.most_machines in
    let inv = c.loop-block.invariant in
    record {
      drawn =
          drawn_more c.args.ring.now.values c.args.privileged.now c.args.words.now c.loop-block.block c.loop-block.count c.put_members-count.result
          c.block.result c.next_word.result _ c.loop-block.words c.next_word.new.words c.loop-block.machines c.put_members-count.new.machines
          inv.drawn c.requires.marked most (omega arith) c.block.ensures.bits c.next_word.ensures refl c.put_members-count.ensures.members
          c.put_members-count.ensures.few;
      same = c.put_members-count.ensures.same ∙ inv.same;
    }

pub returns-clause-members : goal.returns-clause-members
returns-clause-members c =
    let n : c.n-n.result ≡ length c.args.ring.now.values = c.n-n.ensures.is ∙ ap (λ (x : Size). x.n) c.params.ensures.is in
    (drawn_all c.args.ring.now.values c.args.words.now c.loop-block.block c.loop-block.count c.loop-block.words c.loop-block.machines
    c.loop-block.invariant.drawn (omega arith)).0

pub returns-clause-words : goal.returns-clause-words
returns-clause-words c =
    let n : c.n-n.result ≡ length c.args.ring.now.values = c.n-n.ensures.is ∙ ap (λ (x : Size). x.n) c.params.ensures.is in
    (drawn_all c.args.ring.now.values c.args.words.now c.loop-block.block c.loop-block.count c.loop-block.words c.loop-block.machines
    c.loop-block.invariant.drawn (omega arith)).1

pub returns-clause-few : goal.returns-clause-few
returns-clause-few c =
    let n : c.n-n.result ≡ length c.args.ring.now.values = c.n-n.ensures.is ∙ ap (λ (x : Size). x.n) c.params.ensures.is in
    let few = c.loop-block.invariant.drawn.few in
    let room = c.requires.room in
    omega arith
