use Rattle.lock_journal.proofs.KeysBack.{keys_come_back}
use Rattle.lock_journal.proofs.SoundKeys.{fresh_is_sound, own_lines_are_lines, sound_stays, places_are_last}
use Rattle.lock_journal.proofs.laws.keys_come_back.Goals as goal

pub returns-clause-fresh : goal.returns-clause-fresh
returns-clause-fresh g c = fresh_is_sound g.S.AnswersLines.is_answered

pub returns-clause-lines : goal.returns-clause-lines
returns-clause-lines g c = own_lines_are_lines g.S.AnswersLines.is_answered

pub returns-clause-sound : goal.returns-clause-sound
returns-clause-sound g c = sound_stays g.S.AnswersLines.is_answered

pub returns-clause-back : goal.returns-clause-back
returns-clause-back g c = keys_come_back g.S.AnswersLines.is_answered

pub returns-clause-last : goal.returns-clause-last
returns-clause-last g c = places_are_last g.S.AnswersLines.is_answered
