use Rattle.std.proofs.Common.{◌≡◌, ◌+◌, ◌-◌, true, false, ℕ, List, [], ◌∷◌, length, sym, ◌∙◌, ap, arith}
use Rattle.std.specs.Prelude.{suc}
use Rattle.std.proofs.lemmas.List.{take_more_set}
use Rattle.rand_pcg.specs.Lcg.{Lcg}
use Rattle.ring_state.specs.Sizes.{Size}
use Rattle.drawn_groups.specs.Drawn.{drawn, is_group, group_within, set_limit}
use Rattle.drawn_groups.proofs.Drawings.{within_none, within_here, within_later, group_is, group_tested}
use Rattle.drawn_groups.proofs.drawing.draw_group.Goals as goal

pub returns-then-is_group-clause-group : goal.returns-then-is_group-clause-group
returns-then-is_group-clause-group c =
    let s : List ℕ = c.args.ring.now.values in
    let g : Lcg = c.loop.words in
    let n : c.n-n.result ≡ length s = c.n-n.ensures.is ∙ ap (λ (x : Size). x.n) c.params.ensures.is in
    let more : ℕ = set_limit - (c.loop.counter + 1) in
    let at : set_limit - c.loop.counter ≡ suc more = omega arith in
    let few = c.draw_members-count.ensures.few in
    let room = c.requires.room in
    let same = c.draw_members-count.ensures.same in
    let same' = c.loop.invariant.same in
    let on : is_group s (drawn s g).members ≡ true =
    sym (group_tested s c.draw_members-count.result c.n-n.result c.draw_members-count.new.machines (drawn s g).members (omega arith) n c.draw_members-count.ensures.members)
    ∙ sym c.is_group.ensures ∙ c.if-is_group.true in
    c.draw_members-count.ensures.members
    ∙ sym (ap (λ (x : List ℕ × Lcg). x.0) (group_is s c.args.words.now ∙ sym c.loop.invariant.left
    ∙ ap (λ (x : ℕ). group_within x s g) at ∙ within_here more s g on))

pub returns-then-is_group-clause-words : goal.returns-then-is_group-clause-words
returns-then-is_group-clause-words c =
    let s : List ℕ = c.args.ring.now.values in
    let g : Lcg = c.loop.words in
    let n : c.n-n.result ≡ length s = c.n-n.ensures.is ∙ ap (λ (x : Size). x.n) c.params.ensures.is in
    let more : ℕ = set_limit - (c.loop.counter + 1) in
    let at : set_limit - c.loop.counter ≡ suc more = omega arith in
    let few = c.draw_members-count.ensures.few in
    let room = c.requires.room in
    let same = c.draw_members-count.ensures.same in
    let same' = c.loop.invariant.same in
    let on : is_group s (drawn s g).members ≡ true =
    sym (group_tested s c.draw_members-count.result c.n-n.result c.draw_members-count.new.machines (drawn s g).members (omega arith) n c.draw_members-count.ensures.members)
    ∙ sym c.is_group.ensures ∙ c.if-is_group.true in
    c.draw_members-count.ensures.words
    ∙ sym (ap (λ (x : List ℕ × Lcg). x.1) (group_is s c.args.words.now ∙ sym c.loop.invariant.left
    ∙ ap (λ (x : ℕ). group_within x s g) at ∙ within_here more s g on))

pub loop-preserved : goal.loop-preserved
loop-preserved c =
    let s : List ℕ = c.args.ring.now.values in
    let g : Lcg = c.loop.words in
    let n : c.n-n.result ≡ length s = c.n-n.ensures.is ∙ ap (λ (x : Size). x.n) c.params.ensures.is in
    let more : ℕ = set_limit - (c.loop.counter + 1) in
    let at : set_limit - c.loop.counter ≡ suc more = omega arith in
    let few = c.draw_members-count.ensures.few in
    let room = c.requires.room in
    let same = c.draw_members-count.ensures.same in
    let same' = c.loop.invariant.same in
    let off : is_group s (drawn s g).members ≡ false =
    sym (group_tested s c.draw_members-count.result c.n-n.result c.draw_members-count.new.machines (drawn s g).members (omega arith) n c.draw_members-count.ensures.members)
    ∙ sym c.is_group.ensures ∙ c.if-is_group.false in
    record {
      left =
          ap (group_within more s) c.draw_members-count.ensures.words ∙ sym (within_later more s g off)
          ∙ ap (λ (x : ℕ). group_within x s g) (sym at) ∙ c.loop.invariant.left;
      same = same ∙ same';
    }

pub returns-clause-group : goal.returns-clause-group
returns-clause-group c =
    let s : List ℕ = c.args.ring.now.values in
    let g : Lcg = c.loop.words in
    let out : set_limit - c.loop.counter ≡ 0 = omega arith in
    let room = c.requires.room in
    let two = c.params.ensures.ring.ring.two in
    let same' = c.loop.invariant.same in
    take_more_set c.loop.machines 0 c.first.result (omega arith)
    ∙ ap (λ (x : ℕ). x ∷ []) c.first.ensures.is
    ∙ sym (ap (λ (x : List ℕ × Lcg). x.0) (group_is s c.args.words.now ∙ sym c.loop.invariant.left
    ∙ ap (λ (x : ℕ). group_within x s g) out ∙ within_none s g))

pub returns-clause-words : goal.returns-clause-words
returns-clause-words c =
    let s : List ℕ = c.args.ring.now.values in
    let g : Lcg = c.loop.words in
    let out : set_limit - c.loop.counter ≡ 0 = omega arith in
    sym (ap (λ (x : List ℕ × Lcg). x.1) (group_is s c.args.words.now ∙ sym c.loop.invariant.left
    ∙ ap (λ (x : ℕ). group_within x s g) out ∙ within_none s g))
