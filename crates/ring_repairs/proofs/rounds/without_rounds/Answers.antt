use Rattle.std.proofs.Common.{◌≡◌, ℕ, ◌==◌, List, get_or, ap, ◌∙◌, sym, arith}
use Rattle.ring_model.specs.Numbers.{count_below}
use Rattle.ring_repairs.specs.Studies.{StudyData, trial_passes, trial_rounds}
use Rattle.ring_repairs.specs.declared.daemons.Daemon.TheVariants.{Turn}
use Rattle.ring_repairs.proofs.RoundFacts.{no_rounds_in_turn, no_rounds_else, few_none}
use Rattle.ring_repairs.proofs.rounds.without_rounds.Goals as goal

pub returns-in-Turn-clause-is : goal.returns-in-Turn-clause-is
returns-in-Turn-clause-is c =
    let s : StudyData = c.args.repairs.now.study in
    let done : ℕ = c.args.repairs.now.done in
    let are = c.passes.ensures.counted in
    let numbers' = are.numbers in
    let turn : s.daemon ≡ Turn = sym (c.daemon.ensures ∙ ap (λ (x : StudyData). x.daemon) c.study.ensures) ∙ c.in-Turn.is in
    let first : get_or c.args.repairs.now.passes 0 0 ≡ count_below (λ t. trial_passes s t == 0) done = are.counted.each 0 (omega arith) in
    ap (λ (x : List ℕ). get_or x 0 0) (c.counts-passes.ensures ∙ c.passes.ensures.is) ∙ first ∙ sym (no_rounds_in_turn s done are.study turn)

pub returns-in-Turn-clause-few : goal.returns-in-Turn-clause-few
returns-in-Turn-clause-few c =
    let s : StudyData = c.args.repairs.now.study in
    let done : ℕ = c.args.repairs.now.done in
    let are = c.passes.ensures.counted in
    let numbers' = are.numbers in
    let turn : s.daemon ≡ Turn = sym (c.daemon.ensures ∙ ap (λ (x : StudyData). x.daemon) c.study.ensures) ∙ c.in-Turn.is in
    let first : get_or c.args.repairs.now.passes 0 0 ≡ count_below (λ t. trial_passes s t == 0) done = are.counted.each 0 (omega arith) in
    let is : get_or c.counts-passes.result.now 0 0 ≡ count_below (λ t. trial_rounds s t == 0) done =
    ap (λ (x : List ℕ). get_or x 0 0) (c.counts-passes.ensures ∙ c.passes.ensures.is) ∙ first ∙ sym (no_rounds_in_turn s done are.study turn) in
    let few = few_none s done are.study in
    omega arith

pub returns-in_default : goal.returns-in_default
returns-in_default c =
    let s : StudyData = c.args.repairs.now.study in
    let are = c.passes.ensures.counted in
    let daemon : c.daemon.result ≡ s.daemon = c.daemon.ensures ∙ ap (λ (x : StudyData). x.daemon) c.study.ensures in
    record {
      is = c.done.ensures.is ∙ sym (no_rounds_else s c.args.repairs.now.done are.study (λ e. c.in_default.not-Turn (daemon ∙ e)));
      few = let is = c.done.ensures.is in omega arith;
    }
