use Rattle.std.proofs.Common.{◌≡◌, ◌∙◌, ap, refl}
use Rattle.ring_model.specs.Ring.{Ring, privileged_count, first_privileged, rest}
use Rattle.ring_check.specs.Replays.{state_of}
use Rattle.ring_check.proofs.replay.Replay.survey.Goals as goal

pub returns : goal.returns
returns c =
    let same = c.requires.measured.same in
    let a : c.privileged_count.result ≡ privileged_count c.args.self.now.values.items = c.privileged_count.ensures ∙ ap (λ (r : Ring). privileged_count r.values) same in
    let b : c.first_privileged.result ≡ first_privileged c.args.self.now.values.items = c.first_privileged.ensures ∙ ap (λ (r : Ring). first_privileged r.values) same in
    let d : c.rest.result ≡ rest (state_of c.args.self.now).ring = c.rest.ensures ∙ ap (λ (r : Ring). rest r) same in
    rw (a, b, d) refl
