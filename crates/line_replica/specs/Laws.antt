-- The laws of replicas (this project's own).
use Rattle.std.specs.Prelude.{◌≡◌, ◌≢◌, ℕ, true, false, List, [], ◌∷◌, ◌++◌, Option, None, Some}
use Rattle.std.specs.List.{AllByRecursion}
use Rattle.disks.specs.Held.{Held}
use Rattle.line_service.specs.Answering.{Answers}
use Rattle.line_service.specs.Stands.{AnsweringWith, by_stand, stand}
use Rattle.line_replica.specs.declared.keys.Turn.TheVariants as turn
use Rattle.line_replica.specs.declared.reading.Tag.{Tag}
use Rattle.line_replica.specs.declared.replica.Replica.{Replica}
use Rattle.line_replica.specs.Keys.{told_of, line_to_asker}
use Rattle.line_replica.specs.Log.{given, numbers_of}
use Rattle.line_replica.specs.Noted.{IsOwn, AreGiven}
use Rattle.line_replica.specs.Reading.{Tagged, heard, did_at, is_forget}
use Rattle.line_replica.specs.Replies.{IsReplied, turn_of}

-- A log with lines that were sent again has the history of the log without them: the service inside
-- has answered those lines that it got, one after the other. The notes of each are noted, and after
-- them nothing but remarks.
abbrev pub HasTheHistoryWithoutThem : {S : Type 0} → AnsweringWith S → Type 0
HasTheHistoryWithoutThem A =
    (old new : Replica _) (was is : Option Held) (lines : List (List ℕ)) (said noted : List ℕ)
    → Answers (by_stand (IsReplied A)) (stand old was) lines said noted (stand new is)
    → new.lost ≡ false
    → (told : List ℕ)
    × (inside : List ℕ)
    × Answers (by_stand A) (stand old.numbered.inner was)
    (given (numbers_of old.numbered.keys) lines) told inside (stand new.numbered.inner is)
    × AreGiven A IsOwn (numbers_of old.numbered.keys) (stand old.numbered.inner was) lines inside
    noted (stand new.numbered.inner is)

-- the lines are some and a last one, whose answer was lost: nothing of it is said
abbrev pub LosesLast : {S : Type 0} → AnsweringWith S → Replica S → Option Held
    → List (List ℕ) → List ℕ → List ℕ → Type 0
LosesLast A old was lines said noted =
    (front : List (List ℕ))
    × (last : List ℕ)
    × (mid : Replica _)
    × (between : Option Held)
    × (note : List ℕ)
    × (more : List ℕ)
    × (lines ≡ front ++ last ∷ [])
    × (noted ≡ note ++ more)
    × (mid.lost ≡ false)
    × Answers (by_stand (IsReplied A)) (stand old was) front said note (stand mid between)

-- Where an answer was lost for lack of memory, it was the last line's, and nothing of it is said.
abbrev pub IsLostAtTheEnd : {S : Type 0} → AnsweringWith S → Type 0
IsLostAtTheEnd A =
    (old new : Replica _) (was is : Option Held) (lines : List (List ℕ)) (said noted : List ℕ)
    → Answers (by_stand (IsReplied A)) (stand old was) lines said noted (stand new is)
    → old.lost ≡ false → new.lost ≡ true → LosesLast A old was lines said noted

-- it is a line to be answered, with this key and number
pub record IsTagged (tag : Tag) (line : List ℕ) : Type 0 where
  pub rest : List ℕ
  pub tagged : heard line ≡ Tagged tag rest
  pub no_word : did_at rest ≡ None
  pub kept : is_forget rest ≡ false

-- it is of another key, or of none
abbrev pub IsNotOf : ℕ → List ℕ → Type 0
IsNotOf key line = (tag : Tag) (rest : List ℕ) → heard line ≡ Tagged tag rest → tag.key ≢ key

-- A line whose number was done last gets again what is kept of its answer, and neither the service
-- inside nor what is kept of keys changes.
abbrev pub IsToldAgain : {S : Type 0} → AnsweringWith S → Type 0
IsToldAgain A =
    (old new : Replica _) (was is : Option Held) (tag : Tag) (line said noted first : List ℕ)
    → IsTagged tag line
    → told_of old.numbered.keys tag.key ≡ Some (record { number = tag.number; first = first })
    → IsReplied A old was line said noted new is → new.lost ≡ false
    → (said ≡ first) × (noted ≡ []) × (new.numbered ≡ old.numbered) × (is ≡ was)

-- So a line with a new number that is sent again, after lines of other keys, gets the first line of
-- its first answer, if that is for the client that asked, and else nothing.
abbrev pub IsAnsweredAsBefore : {S : Type 0} → AnsweringWith S → Type 0
IsAnsweredAsBefore A =
    (old mid late new : Replica _) (was then by is : Option Held) (tag : Tag)
    (line said noted : List ℕ) (between : List (List ℕ)) (meanwhile notes again more : List ℕ)
    → (t : IsTagged tag line) → turn_of old.numbered.keys tag ≡ turn.Fresh
    → IsReplied A old was line said noted mid then → mid.lost ≡ false
    → AllByRecursion (IsNotOf tag.key) between
    → Answers (by_stand (IsReplied A)) (stand mid then) between meanwhile notes (stand late by)
    → IsReplied A late by line again more new is → new.lost ≡ false
    → (again ≡ line_to_asker t.rest said) × (more ≡ []) × (new.numbered ≡ late.numbered) × (is ≡ by)

-- equal lines in equal states are answered alike
abbrev pub IsDetermined : {S : Type 0} → AnsweringWith S → Type 0
IsDetermined A =
    (old new other : _) (was is its : Option Held) (line said noted text notes : List ℕ)
    → A old was line said noted new is → A old was line text notes other its
    → (said ≡ text) × (noted ≡ notes) × (new ≡ other) × (is ≡ its)

-- If the service inside does so, so does the replica, unless memory was short.
abbrev pub IsDeterminedSo : {S : Type 0} → AnsweringWith S → Type 0
IsDeterminedSo A =
    IsDetermined A → (old new other : Replica _) (was is its : Option Held)
    (line said noted text notes : List ℕ) → IsReplied A old was line said noted new is
    → IsReplied A old was line text notes other its → new.lost ≡ false → other.lost ≡ false
    → (said ≡ text) × (noted ≡ notes) × (new ≡ other) × (is ≡ its)
