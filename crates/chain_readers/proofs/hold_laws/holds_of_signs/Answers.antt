use Rattle.chain_readers.proofs.Told.{read_first, read_later}
use Rattle.chain_readers.specs.Known.{nobody_holds, nothing_known}
use Rattle.chain_readers.proofs.Refusing.{known_first, known_later, not_refused, one_list}
use Rattle.chain_readers.proofs.hold_laws.holds_of_signs.Goals as goal

pub returns-clause-read : goal.returns-clause-read
returns-clause-read c = λ signs k. (read_first signs k, read_later signs k)

pub returns-clause-refused : goal.returns-clause-refused
returns-clause-refused c = λ signs at holds. (
  λ e a. not_refused nobody_holds signs holds at (known_first holds signs a) e,
  λ e a. not_refused nothing_known signs holds at (known_later holds signs a) e,
)

pub returns-clause-one : goal.returns-clause-one
returns-clause-one c = λ signs holds others. (
  λ a b. one_list nobody_holds signs holds others (known_first holds signs a) (known_first others signs b),
  λ a b. one_list nothing_known signs holds others (known_later holds signs a) (known_later others signs b),
)
