use Rattle.std.proofs.Common.{ℕ, subst, sym}
use Rattle.std.specs.List.{AllByRecursion, flat_map}
use Rattle.saved_history.specs.Versions.{latest_version}
use Rattle.journal.specs.Spelling.{JournalLineFits}
use Rattle.ring_service.specs.Recording.{calls_of}
use Rattle.ring_service.proofs.Legality.{content_legal, as_many}
use Rattle.ring_service.proofs.Journaling.{journals_right}
use Rattle.ring_service.proofs.RecordedFits.{turns_fit}
use Rattle.ring_service.proofs.laws.journals_are_right.Goals as goal

pub returns : goal.returns
returns c = λ faults old new lines records all fits t. journals_right content_legal faults old new lines records all t (record {
  began = fits;
  calls = subst (λ (n : ℕ). AllByRecursion (JournalLineFits latest_version n) (flat_map calls_of records)) (sym (as_many 0 old)) (turns_fit faults old lines records new all fits.rings_said t);
})
