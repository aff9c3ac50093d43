-- The surveys of several logs.
use Rattle.std.specs.Prelude.{List, [], ◌∷◌, ◌++◌}
use Rattle.ring_model.specs.declared.events.Survey.{Survey}
use Rattle.ring_logs.specs.LogView.{LogView}
use Rattle.ring_logs.specs.Fronts.{surveys_of}

-- the surveys of the clients' logs, one log after another
abbrev pub all_surveys : List LogView → List Survey
all_surveys [] = []
all_surveys (s ∷ ss) = surveys_of s.log ++ all_surveys ss
