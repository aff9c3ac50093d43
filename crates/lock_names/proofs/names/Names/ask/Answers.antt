use Rattle.std.proofs.Common.{subst}
use Rattle.held_locks.specs.Asked.{asked}
use Rattle.lock_names.specs.Kept.{NamedView, seen, IsAsked, HasEvents}
use Rattle.lock_names.proofs.names.Names.ask.Goals as goal

pub returns-clause-answer : goal.returns-clause-answer
returns-clause-answer c = subst (λ (v : NamedView). IsAsked v (seen c.ask_among.new.rings c.ask_among.new.table) c.args.client c.args.name.now (asked c.args.ask) c.ask_among.result.answers) c.self.view_is c.ask_among.ensures.asked

pub returns-clause-events : goal.returns-clause-events
returns-clause-events c = subst (λ (v : NamedView). HasEvents v.locks c.ask_among.new.rings.locks c.ask_among.result) c.self.view_is c.ask_among.ensures.events
