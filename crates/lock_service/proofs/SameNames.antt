-- Lines change no name.
use Rattle.std.proofs.Common.{◌≡◌, ℕ, Bool, true, false, List, [], ◌∷◌, Option, Some, None, ap, ◌∙◌}
use Rattle.held_locks.specs.Locks.{Ask}
use Rattle.lock_protocol.specs.Names.{lock_named}
use Rattle.lock_protocol.specs.Views.{Input}
use Rattle.lock_protocol.specs.Views as input
use Rattle.lock_protocol.specs.Asks as asks
use Rattle.line_service.specs.Answering.{Answers}
use Rattle.lock_journal.specs.declared.terms.Terms.{Terms}
use Rattle.lock_journal.specs.Asking.{one_ask, is_off}
use Rattle.lock_journal.specs.Counting.{SegmentView}
use Rattle.lock_journal.specs.Answering.{IsToldOfNamed, IsTold, IsAnsweredIf, IsInputAnswered, IsLineAnswered}

module _ (old new : SegmentView) (said noted : List ℕ) where
  kept : new ≡ old → new.names ≡ old.names
  kept e = ap (λ (s : SegmentView). s.names) e

  named : (o : Option ℕ) (strict noting : Bool) (client : ℕ) (name : List ℕ) (ask : Ask) → IsToldOfNamed o strict noting client name ask old said noted new → new.names ≡ old.names
  named None strict noting client name ask t = kept t.leaves
  named (Some i) strict noting client name ask t = t.counted.names

  told : (strict noting : Bool) (client : ℕ) (x : Option (List ℕ × Ask)) → IsTold strict noting client x old said noted new → new.names ≡ old.names
  told strict noting client None t = t.counted.names
  told strict noting client (Some (name, ask)) t = named (lock_named old.names name) strict noting client name ask t

  answered : (off : Bool) (terms : Terms) (client : ℕ) (ask : asks.Ask) → IsAnsweredIf off terms client ask old said noted new → new.names ≡ old.names
  answered true terms client ask t = kept t.leaves
  answered false terms client ask t = told terms.strict terms.noting client (one_ask ask) t

  by_input : (terms : Terms) (i : Input) → IsInputAnswered terms i old said noted new → new.names ≡ old.names
  by_input terms (input.Asked client ask) t = answered (is_off terms.faults ask) terms client ask t
  by_input terms (input.Refused client why) t = kept t.leaves
  by_input terms input.Nobody t = kept t.leaves

pub names_stay : (terms : Terms) (old new : SegmentView) (line said noted : List ℕ) → IsLineAnswered terms old line said noted new → new.names ≡ old.names
names_stay terms old new line said noted a = by_input old new said noted terms a.0 a.2

pub all_names_stay : (terms : Terms) (old new : SegmentView) (lines : List (List ℕ)) (said noted : List ℕ) → Answers (IsLineAnswered terms) old lines said noted new → new.names ≡ old.names
all_names_stay terms old new [] said noted a = ap (λ (s : SegmentView). s.names) a.2
all_names_stay terms old new (line ∷ lines) said noted a = all_names_stay terms a.0 new lines a.2 a.4 a.8 ∙ names_stay terms old a.0 line a.1 a.3 a.5
