use Rattle.std.proofs.Common.{◌≡◌, ℕ, ◌-◌, ◌^◌, ◌<◌, ◌≤◌, MatchOption, sym, ◌∙◌, ap, subst, arith}
use Rattle.ring_state.specs.Sizes.{Size}
use Rattle.ring_repairs.specs.Limits.{state_limit}
use Rattle.ring_repairs.specs.Starts.{states}
use Rattle.ring_repairs.specs.declared.starts.Start.{Start}
use Rattle.ring_repairs.proofs.Numbering.{other_states}
use Rattle.ring_repairs.proofs.starts.states.Goals as goal

pub returns-in-All : goal.returns-in-All
unfolding states
returns-in-All c =
    let size : Size = c.args.size.now in
    let same : c.k.result ^ (c.n-n.result - 1) ≡ states c.args.start size =
    ap (λ (x : ℕ). x ^ (c.n-n.result - 1)) c.k.ensures.is ∙ ap (λ (x : ℕ). size.k ^ (x - 1)) c.n-n.ensures.is
    ∙ ap (λ (s : Start). states s size) (sym c.in-All.is) in
    subst (λ (x : ℕ). MatchOption c.power_within.result (state_limit < x) (λ count. (count ≡ x) × (count ≤ state_limit))) same c.power_within.ensures

pub returns-in_default : goal.returns-in_default
returns-in_default c = (other_states c.args.start c.args.size.now c.in_default.not-All, omega arith)
