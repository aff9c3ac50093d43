use Rattle.lock_life.proofs.Lawful.{told_grants_are_grants, told_tokens_rise, told_holds_exclude, told_grants_are_kept}
use Rattle.lock_life.proofs.laws.lives_are_lawful.Goals as goal

pub returns : goal.returns
returns c = record { grants = told_grants_are_grants; rise = told_tokens_rise; exclude = told_holds_exclude; kept = told_grants_are_kept }
