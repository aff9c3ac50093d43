-- Which actions can be made on a ring of the settings.
use Rattle.std.proofs.Common.{◌≡◌, ℕ, List, length, ap, sym, ◌∙◌, arith}
use Rattle.std.specs.Prelude.{All}
use Rattle.ring_model.specs.Ring.{Ring}
use Rattle.ring_state.specs.Sizes.{Size, size_of}
use Rattle.ring_settings.specs.Actions.{IsActionFor, size_at}
use Rattle.ring_settings.specs.declared.actions.Action.{Action}
use Rattle.ring_settings.specs.declared.actions.Action.TheVariants as action
use Rattle.ring_settings.specs.declared.actions.Plan.{Plan}
use Rattle.ring_farm.specs.Plans.{ring_of, IsActionOn, IsPlanFor, IsPlanOn}

action_possible : (sizes : List Size) (start : Ring) (ring : ℕ) (a : Action) → size_of start ≡ size_at sizes ring → IsActionFor sizes a → ring_of a ≡ ring → IsActionOn start a
action_possible sizes start ring (action.Pass r machine order) size h e =
    let n : (size_at sizes r).n ≡ length start.values = ap (λ (k : ℕ). (size_at sizes k).n) e ∙ sym (ap (λ (s : Size). s.n) size) in
    let below = h.1 in omega arith
action_possible sizes start ring (action.Corrupt r machine value) size h e =
    let n : (size_at sizes r).n ≡ length start.values = ap (λ (k : ℕ). (size_at sizes k).n) e ∙ sym (ap (λ (s : Size). s.n) size) in
    let k : (size_at sizes r).k ≡ start.k = ap (λ (k : ℕ). (size_at sizes k).k) e ∙ sym (ap (λ (s : Size). s.k) size) in
    let below = h.1 in let small = h.2 in (omega arith, omega arith)
action_possible sizes start ring (action.Survey r) size h e = tt

-- the actions of all plans for a ring can be made there
pub all_possible : (sizes : List Size) (start : Ring) (ring : ℕ) (plans : List Plan) → size_of start ≡ size_at sizes ring →
    All (IsPlanFor sizes) plans → All (IsPlanOn ring start) plans
all_possible sizes start ring plans size fits i p there j a within e = action_possible sizes start ring _ size (fits i p there j a within) e
