-- Legal texts in the subject's words: what a text describes (this project's own).
use Rattle.std.specs.Prelude.{◌≡◌, ℕ, ◌+◌, ◌<◌, ◌≤◌, List, [], ◌∷◌, length, true, ◌⊎◌}
use Rattle.std.specs.List.{All}
use Rattle.ring_model.specs.Ring.{ring_with}
use Rattle.ring_model.specs.Limits.{seat_limit}
use Rattle.ring_model.specs.declared.events.Event.{Event}
use Rattle.ring_model.specs.declared.events.Survey.{Survey}
use Rattle.ring_model.specs.Groups.{IsHistory}
use Rattle.ring_model.specs.Scanning.{MayCome}
use Rattle.ring_model.specs.Resources.{till}
use Rattle.ring_model.specs.Logs.{IsSurvey}
use Rattle.saved_history.specs.declared.saved.SavedSurvey.{SavedSurvey}
use Rattle.saved_history.specs.Content.{Content, Block}
use Rattle.ring_check.specs.Limits.{machine_limit_of, value_limit_of}
use Rattle.ring_check.specs.Members.{run_of, may_come}
use Rattle.ring_check.specs.Table.{first_state}
use Rattle.ring_check.specs.Legal.{IsLegalText, history}

-- the survey that a survey line describes
abbrev pub survey_of : SavedSurvey → Survey
survey_of s = record {
  position = s.position;
  privileged = s.privileged;
  first = s.first;
  calm = s.calm;
  rest = s.rest;
}

-- none is earlier than the one before: each is of a later seat, or of the same and at no lower
-- position
abbrev pub AreOnward : ℕ → ℕ → List SavedSurvey → Type 0
AreOnward seat position [] = Unit {0}
AreOnward seat position (s ∷ ss) =
    ((seat < s.seat) ⊎ ((seat ≡ s.seat) × (position ≤ s.position))) × AreOnward s.seat s.position ss

-- the surveys are ordered seat by seat, and each seat's in the order of the history
abbrev pub AreInOrder : List SavedSurvey → Type 0
AreInOrder [] = Unit {0}
AreInOrder (s ∷ ss) = AreOnward s.seat s.position ss

-- a survey by one of the seats, which is the one-thread ring's at its place of the history
pub record IsRightSurvey (b : Block) (s : SavedSurvey) : Type 0 where
  pub seat : s.seat < seat_limit
  pub right : IsSurvey till (first_state (ring_with b.k b.start)) (history b) (survey_of s)

-- in a text of this version the block describes a ring, of one history of it on one thread over the
-- till, legal and whole, and of surveys of that history
pub record IsRightBlock (version place : ℕ) (b : Block) : Type 0 where
  pub index : b.index ≡ place
  pub two : 2 ≤ b.n
  pub enough : b.n ≤ b.k
  pub most_machines : b.n ≤ machine_limit_of version
  pub most : b.k ≤ value_limit_of version
  pub below : All (λ v. v < b.k) b.start
  pub seats : All (λ (e : Event). e.seat < seat_limit) (history b)
  pub legal_and_whole : IsHistory till (first_state (ring_with b.k b.start)) (history b)
  pub events_said : b.events_said ≡ length b.events
  pub surveys : All (IsRightSurvey b) b.surveys
  pub order : AreInOrder b.surveys

-- each block does, at its place
abbrev pub AreRightBlocks : ℕ → ℕ → List Block → Type 0
AreRightBlocks version place [] = Unit {0}
AreRightBlocks version place (b ∷ bs) =
    IsRightBlock version place b × AreRightBlocks version (place + 1) bs

-- each block does, and their number is right
pub record IsRightText (s : Content) : Type 0 where
  pub blocks : AreRightBlocks s.version 0 s.rings
  pub rings_said : s.rings_said ≡ length s.rings

-- each start has n values, as in every text of the grammar
abbrev pub HasItsStarts : Content → Type 0
HasItsStarts s = All (λ (b : Block). length b.start ≡ b.n) s.rings

-- a text is legal by the table exactly where it is right in these words
abbrev pub LegalMeans : Type 0
LegalMeans =
    (s : Content) → HasItsStarts s
    → (IsLegalText s → IsRightText s) × (IsRightText s → IsLegalText s)

-- the table's test of groups is the definition: it lets an event come after a history exactly
-- if it may come there
abbrev pub MembersMean : Type 0
MembersMean =
    (n : ℕ) (h : List Event) (e : Event)
    → (may_come n (run_of h) e ≡ true → MayCome n (run_of h) e.seat e.op)
    × (MayCome n (run_of h) e.seat e.op → may_come n (run_of h) e ≡ true)
