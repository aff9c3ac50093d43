use Rattle.std.proofs.Common.{◌≡◌, length, ap}
use Rattle.std.proofs.lemmas.Result.{err_from_is_err_and}
use Rattle.ring_state.specs.Sizes.{Size}
use Rattle.ring_state.specs.StateFault.{IsFaultOf}
use Rattle.run_commands.proofs.FirstFaults.{start_refused, start_allowed}
use Rattle.run_commands.proofs.step.state_of.Goals as goal

pub returns-in_err-from_values-clause-err : goal.returns-in_err-from_values-clause-err
returns-in_err-from_values-clause-err c =
    let p = err_from_is_err_and c.from_residual-in_err-from_values.result c.from_residual-in_err-from_values.ensures.1 in
    let what : IsFaultOf (record { n = c.args.n; k = c.args.k }) c.args.states.now c.in_err-from_values.field-0.0 = rw c.in_ok-params.ensures.ok.0 at c.in_err-from_values.ensures.err in
    rw (p.1, p.2) (start_refused c.args.n c.args.k c.args.states.now c.in_err-from_values.field-0.0 c.in_ok-params.ensures.ok.1 what)

pub returns-clause-ok : goal.returns-clause-ok
returns-clause-ok c =
    let n : c.in_ok-params.params.n ≡ c.args.n = ap (λ (s : Size). s.n) c.in_ok-params.ensures.ok.0 in
    let k : c.in_ok-params.params.k ≡ c.args.k = ap (λ (s : Size). s.k) c.in_ok-params.ensures.ok.0 in
    let is : c.in_ok-from_values.field-0 ≡ record { k = c.args.k; values = c.args.states.now } = rw (← k) c.in_ok-from_values.ensures.ok.0 in
    let long : length c.args.states.now ≡ c.args.n = rw (← n) c.in_ok-from_values.ensures.ok.1 in
    (is, long, start_allowed c.args.n c.args.k c.args.states.now c.in_ok-from_values.field-0 c.in_ok-params.ensures.ok.1 long is c.in_ok-from_values.ensures.ok.2)
