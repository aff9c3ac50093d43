use Rattle.held_locks.proofs.Tokens.{tokens_rise, tokens_are_counted}
use Rattle.held_locks.proofs.Foreseen.{tokens_are_foreseen}
use Rattle.held_locks.proofs.laws.tokens_rise.Goals as goal

pub returns-clause-rise : goal.returns-clause-rise
returns-clause-rise c = tokens_rise

pub returns-clause-counted : goal.returns-clause-counted
returns-clause-counted c = tokens_are_counted

pub returns-clause-foreseen : goal.returns-clause-foreseen
returns-clause-foreseen c = tokens_are_foreseen
