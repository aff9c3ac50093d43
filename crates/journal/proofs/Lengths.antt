-- How long the line of a call is at most.
use Rattle.std.proofs.Common.{ℕ, ◌+◌, ◌<◌, ◌≤◌, ◌^◌, List, [], ◌∷◌, ◌++◌, length, length-append, codes, arith}
use Rattle.std.specs.Fmt.{decimal}
use Rattle.std.proofs.lemmas.Fmt.{length-decimal-le}
use Rattle.text_lines.specs.Spelling.{spaced, ended}
use Rattle.saved_history.specs.declared.saved.SavedEvent.{SavedEvent}
use Rattle.saved_history.specs.declared.saved.SavedEvent.TheVariants.{Granted, Refused, Member, Corrupted}
use Rattle.saved_history.specs.declared.saved.SavedSurvey.{SavedSurvey}
use Rattle.saved_history.specs.Spelling.{event_line, survey_line, EventFits, SurveyFits}

record IsShort (bytes : List ℕ) (k : ℕ) : Type 0 where
  pub most : length bytes ≤ k

-- ---- a piece, and what follows it

narrow : {k : ℕ} {rest : List ℕ} (n : ℕ) → n < 2 ^ 32 → IsShort rest k → IsShort (spaced n ++ rest) (11 + k)
narrow {k} {rest} n small more =
    let digits : length (decimal n) ≤ 10 = length-decimal-le 10 n (omega arith) (omega arith) (omega arith) in
    let most = more.most in
    record { most = omega (arith, digits, most, length-append (spaced n) rest, length-append (decimal n) (32 ∷ [])) }

wide : {k : ℕ} {rest : List ℕ} (n : ℕ) → n < 2 ^ 64 → IsShort rest k → IsShort (spaced n ++ rest) (21 + k)
wide {k} {rest} n small more =
    let digits : length (decimal n) ≤ 20 = length-decimal-le 20 n (omega arith) (omega arith) small in
    let most = more.most in
    record { most = omega (arith, digits, most, length-append (spaced n) rest, length-append (decimal n) (32 ∷ [])) }

last : (n : ℕ) → n < 2 ^ 64 → IsShort (ended n) 21
last n small =
    let digits : length (decimal n) ≤ 20 = length-decimal-le 20 n (omega arith) (omega arith) small in
    record { most = omega (arith, digits, length-append (decimal n) (10 ∷ [])) }

letter : {k : ℕ} {rest : List ℕ} (x : ℕ) → IsShort rest k → IsShort (x ∷ 32 ∷ rest) (2 + k)
letter {k} {rest} x more =
    let most = more.most in
    record { most = omega (arith, most) }

small_is_wide : (n : ℕ) → n < 2 ^ 32 → n < 2 ^ 64
small_is_wide n small = omega arith

-- ---- the lines

pub event_short : (version : ℕ) (e : SavedEvent) → EventFits version e → length (event_line e) ≤ 98
event_short version (Granted seat machine order number answer) f =
    let all : length (event_line (Granted seat machine order number answer)) ≤ 89 = (letter 112 (narrow seat f.0 (narrow machine f.1 (wide order f.2 (letter 103 (wide number f.3 (last answer f.4))))))).most in
    omega (arith, all)
event_short version (Refused seat machine order) f =
    let two : IsShort (codes "n\n") 2 = record { most = omega arith } in
    let all : length (event_line (Refused seat machine order)) ≤ 47 = (letter 112 (narrow seat f.0 (narrow machine f.1 (wide order f.2 two)))).most in
    omega (arith, all)
event_short version (Member seat machine order left number answer) f =
    (letter 109 (narrow seat f.1 (narrow machine f.2 (wide order f.3 (narrow left f.4 (wide number f.5 (last answer f.6))))))).most
event_short version (Corrupted seat machine value old) f =
    let all : length (event_line (Corrupted seat machine value old)) ≤ 56 = (letter 99 (narrow seat f.0 (narrow machine f.1 (narrow value f.2 (last old (small_is_wide old f.3)))))).most in
    omega (arith, all)

pub survey_short : (v : SavedSurvey) → SurveyFits v → length (survey_line v) ≤ 98
survey_short v f = (letter 115 (narrow v.seat f.seat (wide v.position f.position (narrow v.privileged f.privileged (narrow v.first f.first (wide v.calm f.calm (last v.rest f.rest))))))).most
