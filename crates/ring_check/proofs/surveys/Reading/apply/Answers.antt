use Rattle.std.proofs.Common.{◌≡◌, refl, sym, subst}
use Rattle.ring_check.specs.declared.replay.Replay.{Replay}
use Rattle.ring_check.specs.Replays.{state_of, Tells}
use Rattle.ring_check.proofs.surveys.Reading.apply.Goals as goal

pub returns-in_default-clause-tells : goal.returns-in_default-clause-tells
returns-in_default-clause-tells c = λ told same.
    let stays : c.apply.new.self ≡ c.args.self.now.replay = c.apply.ensures.stays (c.in_default.ensures.none refl) in
    subst (λ (r : Replay). Tells c.args.self.now.survey (state_of r).ring) (sym stays) (told same)
