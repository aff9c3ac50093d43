use Rattle.std.proofs.Common.{rules, ◌≡◌, ◌∙◌, sym, ap, arith, map, List, [], ◌∷◌, ◌++◌, length, vec_len}
use Rattle.std.specs.List.{range_with_len}
use Rattle.std.proofs.lemmas.Grind.{common_steps}
use Rattle.std.proofs.lemmas.List.{map-append}
use Rattle.std.proofs.lemmas.List.FromFn.{map-range_with_len_more}
use Rattle.ring_settings.specs.Contents.{plan_of, plans_of, seat_at}
use Rattle.ring_settings.specs.Views.{plan_actions, seat_data}
use Rattle.ring_settings.specs.declared.actions.Action.{Action}
use Rattle.ring_settings.proofs.PlanLaws.{plans_of-count, plans_of-plan, plans_of-fits, plans_of-few}
use Rattle.ring_settings.proofs.seat_plans.plans.Goals as goal

pub loop-seat-preserved : goal.loop-seat-preserved
loop-seat-preserved c =
    let settings = c.args.settings.now in
    let seat = c.loop-seat.seat in
    let setting : seat_at settings seat ≡ seat_data c.seat.result.now = rw c.seat.ensures (search rules) in
    let own : plan_actions c.in_ok-plan.plan ≡ plan_of settings seat = grind (arith, common_steps, setting, c.in_ok-plan.ensures, c.in_ok-sizes.ensures.is) in
    let grown : c.push.new.self.items ≡ c.loop-seat.plans.items ++ c.in_ok-plan.plan ∷ [] = search rules in
    rw grown (map-append plan_actions c.loop-seat.plans.items (c.in_ok-plan.plan ∷ [])
    ∙ ap (λ (as' : List (List Action)). as' ++ plan_actions c.in_ok-plan.plan ∷ []) c.loop-seat.invariant
    ∙ ap (λ (a : List Action). map (plan_of settings) (range_with_len 0 seat) ++ a ∷ []) own
    ∙ sym (map-range_with_len_more (plan_of settings) 0 seat seat (omega arith)))

pub returns-clause-count : goal.returns-clause-count
returns-clause-count c =
    let at_end : c.loop-seat.seat ≡ length c.args.settings.now.seats = omega arith in
    let all : map plan_actions c.loop-seat.plans.items ≡ plans_of c.args.settings.now = rw at_end at c.loop-seat.invariant in
    let len : vec_len c.loop-seat.plans ≡ length c.loop-seat.plans.items = search rules in
    len ∙ plans_of-count c.args.settings.now c.loop-seat.plans.items all

pub returns-clause-plan : goal.returns-clause-plan
returns-clause-plan c =
    let at_end : c.loop-seat.seat ≡ length c.args.settings.now.seats = omega arith in
    let all : map plan_actions c.loop-seat.plans.items ≡ plans_of c.args.settings.now = rw at_end at c.loop-seat.invariant in
    let len : vec_len c.loop-seat.plans ≡ length c.loop-seat.plans.items = search rules in
    λ seat d there. plans_of-plan c.args.settings.now c.loop-seat.plans.items all seat d (rw len at there)

pub returns-clause-fits : goal.returns-clause-fits
returns-clause-fits c =
    let at_end : c.loop-seat.seat ≡ length c.args.settings.now.seats = omega arith in
    let all : map plan_actions c.loop-seat.plans.items ≡ plans_of c.args.settings.now = rw at_end at c.loop-seat.invariant in
    plans_of-fits c.args.settings.now c.loop-seat.plans.items c.in_ok-sizes.ensures.settings all

pub returns-clause-few : goal.returns-clause-few
returns-clause-few c =
    let at_end : c.loop-seat.seat ≡ length c.args.settings.now.seats = omega arith in
    let all : map plan_actions c.loop-seat.plans.items ≡ plans_of c.args.settings.now = rw at_end at c.loop-seat.invariant in
    plans_of-few c.args.settings.now c.loop-seat.plans.items c.in_ok-sizes.ensures.settings all

pub returns-clause-some : goal.returns-clause-some
returns-clause-some c =
    let count = returns-clause-count c in
    let some = c.in_ok-sizes.ensures.settings.some_seats in
    omega arith

pub returns-clause-most : goal.returns-clause-most
returns-clause-most c =
    let count = returns-clause-count c in
    let most = c.in_ok-sizes.ensures.settings.most_seats in
    omega arith
