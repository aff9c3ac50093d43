use Rattle.std.proofs.Common.{refl}
use Rattle.ring_text.specs.SavedOf.{saved_of}
use Rattle.ring_text.proofs.Promised.{outcome_is_legal, outcome_is_right}
use Rattle.run_commands.proofs.run.write_legal_outcome.Goals as goal

pub returns-in-Ok-clause-legal : goal.returns-in-Ok-clause-legal
returns-in-Ok-clause-legal g c = λ settings farm.
    record {
      legal = record {
        content = saved_of c.args.outcome.now;
        fits = c.in-Ok.ensures.fits;
        spelled = refl;
        right = outcome_is_right settings c.args.outcome.now farm;
        sums_right = refl;
      };
      table = outcome_is_legal settings c.args.outcome.now farm;
      alone = λ answer right. c.texts_read_back.ensures (saved_of c.args.outcome.now) answer c.in-Ok.ensures.fits right;
    }
