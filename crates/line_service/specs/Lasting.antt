-- What a loss of power, or an end of the process, leaves of a run's segments (this project's own).
use Rattle.std.specs.Prelude.{◌≡◌, ℕ, ◌+◌, ◌<◌, ◌⊎◌, Bool, true, List, [], ◌∷◌, Option, None, Some, IfSome, IsSome, Result, MatchResult, string_bytes, ⊤}
use Rattle.disks.specs.Held.{Held, IsOneFile, bytes_of}
use Rattle.disks.specs.Lasting.{BeginsWith, Changes, HasFront, LeavesFront, outlives}
use Rattle.line_service.specs.SegmentNames.{segment_file}
use Rattle.segment_files.specs.Spelling.{digest_of}
use Rattle.line_service.specs.Stands.{AnsweringWith}
use Rattle.line_service.specs.Segmenting.{Segmenting}
use Rattle.line_service.specs.Segments.{Moment, moment_at, segment_holds, segment_lasts, AllLastsIn}
use Rattle.line_service.specs.declared.segments.OpenSegment.{OpenSegment}
use Rattle.line_service.specs.Service.{Part}
use Rattle.line_service.specs.Notes.{ToldLinesAreNoted}

-- the file of the next segment is there, with the whole text with which it begins after a file of
-- these bytes
abbrev pub HasNext : {S : Type 0} → Segmenting S → List ℕ → Moment S → List ℕ → Held → Type 0
HasNext {S} G folder a bytes held =
    (next : S)
    × G.IsNext a.service next
    × (bytes_of held (segment_file folder (a.number + 1))
    ≡ Some (G.text next (a.number + 1) (digest_of bytes)))

-- Where it is known what is left: the segment's file begins with these bytes, or the next segment is
-- there, after just them.
abbrev pub LeavesSegment : {S : Type 0} → Segmenting S → List ℕ → Moment S → List ℕ → Option Held
    → Type 0
LeavesSegment G folder a bytes left =
    IfSome left
    (λ held. HasFront held (segment_file folder a.number) (Some bytes)
    ⊎ HasNext G folder a bytes held)

-- Wherever serving ended, and whenever the power fails or the process ends then: the file of the
-- last segment begins with these bytes, which have the notes of all lines that were delivered in it;
-- or that of the next one is there, which the service begins after them.
pub record ToldLinesLast {S : Type 0} (A : AnsweringWith S) (G : Segmenting S) (folder : List ℕ)
    (a : Moment S) (new : S) (input rest out after : Option (List ℕ)) (left : Option Held) : Type 0
  where
    pub journal : List ℕ
    pub noted : ToldLinesAreNoted A G folder a new input rest out after (Some journal)
    pub left_is : LeavesSegment G folder noted.mid journal left

-- ---- each segment of the run

-- each segment of the folder has a file of its own: no two of their names lead to one place
abbrev pub AreApart : List ℕ → Held → Type 0
AreApart folder held =
    (m n : ℕ) → IsOneFile held (segment_file folder m) (segment_file folder n) → m ≡ n

-- Where the next part is in the next segment, that of the moment before has ended: its file is left
-- whole, with all that was written to it.
abbrev pub AreWhole : {S : Type 0} → List ℕ → Moment S → List (Part S) → Held → Type 0
AreWhole folder a [] held = Unit {0}
AreWhole folder a (p ∷ ps) held =
    (p.from.number ≡ a.number + 1 → bytes_of held (segment_file folder a.number) ≡ a.journal)
    × AreWhole folder p.to ps held

-- What was delivered in the last segment lasts; and if each segment has a file of its own, those
-- that have ended are left whole, and that of the last one begins with these bytes.
pub record EachSegmentLasts {S : Type 0} (A : AnsweringWith S) (G : Segmenting S) (folder : List ℕ)
    (a : Moment S) (new : S) (input rest out after : Option (List ℕ)) (left : Option Held) : Type 0
  where
    pub told : ToldLinesLast A G folder a new input rest out after left
    pub each : IfSome left
        (λ held. AreApart folder held
        → AreWhole folder a told.noted.parts held
        × HasFront held (segment_file folder told.noted.mid.number) (Some told.journal))

-- the two of a run by an input and a writer, each before and after it
abbrev pub ToldLinesLastBy : {S I W : Type 0} → AnsweringWith S → Segmenting S → List ℕ
    → (I → Option (List ℕ)) → (W → Option (List ℕ)) → I → W → S → I → W → Moment S → Option Held
    → Type 0
ToldLinesLastBy A G folder remaining outs input out new rest after a left =
    ToldLinesLast A G folder a new (remaining input) (remaining rest) (outs out) (outs after) left

abbrev pub EachSegmentLastsBy : {S I W : Type 0} → AnsweringWith S → Segmenting S → List ℕ
    → (I → Option (List ℕ)) → (W → Option (List ℕ)) → I → W → S → I → W → Moment S → Option Held
    → Type 0
EachSegmentLastsBy A G folder remaining outs input out new rest after a left =
    EachSegmentLasts A G folder a new (remaining input) (remaining rest) (outs out) (outs after) left

-- ---- from one call to the next

-- The file of the segment of this number is left with such bytes, if each has one of its own.
abbrev pub LeavesFile : List ℕ → ℕ → Option Held → (Option (List ℕ) → Type 0) → Type 0
LeavesFile folder number left Such =
    IfSome left
    (λ held. AreApart folder held → Such (bytes_of held (segment_file folder number)))

-- Names lead where they led; and the files of the segments before this one are left as they were, if
-- each has one of its own.
pub record KeepsEarlier (folder : List ℕ) (number : ℕ) (was is : Held) : Type 0 where
  pub places : (other : List ℕ) → is.place other ≡ was.place other
  pub files : AreApart folder was → (m : ℕ) → m < number
      → bytes_of is (segment_file folder m) ≡ bytes_of was (segment_file folder m)

-- the same where it is known what is left
abbrev pub LeavesEarlier : List ℕ → ℕ → Option Held → Option Held → Type 0
LeavesEarlier folder number None is = is ≡ None
LeavesEarlier folder number (Some was) None = ⊥
LeavesEarlier folder number (Some was) (Some is) = KeepsEarlier folder number was is

-- So it is of the bytes of a segment, where the content of files is known and all of it lasts.
abbrev pub ForLasting : {V : Type 0} → Option Held → (V → Option (List ℕ))
    → (V → Option (List ℕ)) → OpenSegment V → (List ℕ → Type 0) → Type 0
ForLasting files contents lasting segment So =
    IsSome files
    → (bytes : List ℕ)
    → segment_holds contents segment ≡ Some bytes → lasting segment.writer.inner ≡ Some bytes
    → So bytes

-- The segment's file is left with its bytes at its beginning, or the next one is there, after just
-- them.
abbrev pub IsSpared : {S V D : Type 0} → Segmenting S → List ℕ → (V → Option (List ℕ))
    → (V → Option (List ℕ)) → (D → Option Held) → S → D → OpenSegment V → Option Held → Type 0
IsSpared G folder contents lasting holds service disk segment left =
    ForLasting (holds disk) contents lasting segment
    (λ bytes.
    LeavesSegment G folder (moment_at contents service (holds disk) segment) bytes left)

-- The segment's file is left with its bytes at its beginning, if each has one of its own.
abbrev pub KeepsFront : {V : Type 0} → List ℕ → Option Held → (V → Option (List ℕ))
    → (V → Option (List ℕ)) → OpenSegment V → Option Held → Type 0
KeepsFront folder files contents lasting segment left =
    ForLasting files contents lasting segment
    (λ bytes. LeavesFile folder segment.number left (λ has. BeginsWith has (Some bytes)))

-- The file of a segment after which the next one has begun is left whole, if each has one of its
-- own.
abbrev pub Remains : {V : Type 0} → List ℕ → Option Held → (V → Option (List ℕ)) → OpenSegment V
    → OpenSegment V → Option Held → Type 0
Remains folder files contents segment next left =
    IsSome files
    → (bytes : List ℕ)
    → segment_holds contents segment ≡ Some bytes → next.number ≡ segment.number + 1
    → LeavesFile folder segment.number left (λ has. has ≡ Some bytes)

-- So it is of each content that may be left after a result; or, where there is none, of this one.
abbrev pub ForLeft : {R E : Type 0} → Result R E → (R → Option Held → Type 0) → Option Held
    → (Option Held → Type 0) → Type 0
ForLeft result MayLeave gone So =
    MatchResult result (λ r. (left : Option Held) → MayLeave r left → So left) (λ _. So gone)

-- ---- what is so of a run

-- So it is where files outlive it, the content of files is known, and all of this segment lasts.
abbrev pub WhereLasting : {V : Type 0} → Bool → Bool → Option Held → (V → Option (List ℕ))
    → (V → Option (List ℕ)) → OpenSegment V → Type 0 → Type 0
WhereLasting keeps_written synced files contents lasting segment So =
    outlives keeps_written synced ≡ true → IsSome files → AllLastsIn contents lasting segment → So

-- So it is there of the moment in that segment, and of whatever a run from it leaves, by what may be
-- left of the segment that is open in the end.
abbrev pub LastsAfter : {S V D E : Type 0} → Result (OpenSegment V) E → Bool → Bool
    → (V → Option (List ℕ)) → (V → Option (List ℕ)) → (D → Option Held) → (D → Option Held) → S → D
    → OpenSegment V → D → (Option Held → OpenSegment V → Option Held → Type 0)
    → (Moment S → Option Held → Type 0) → Type 0
LastsAfter result keeps_written synced contents lasting holds leaves service disk first later
    MayLeave So =
    WhereLasting keeps_written synced (holds disk) contents lasting first
    (ForLeft result (MayLeave (leaves later)) (leaves later)
    (So (moment_at contents service (holds disk) first)))

-- all of another segment lasts there too
abbrev pub StaysWhole : {V : Type 0} → Bool → Bool → Option Held → (V → Option (List ℕ))
    → (V → Option (List ℕ)) → OpenSegment V → OpenSegment V → Type 0
StaysWhole keeps_written synced files contents lasting first end =
    WhereLasting keeps_written synced files contents lasting first
    (AllLastsIn contents lasting end)

-- where it is known what is left, the file of a segment begins with these bytes
abbrev pub LeavesBytes : {V : Type 0} → OpenSegment V → Option Held → Option (List ℕ) → Type 0
LeavesBytes segment left bytes =
    IfSome left (λ held. HasFront held (string_bytes segment.name) bytes)

-- it then begins with what lasts of its writer
abbrev pub LeavesLasting : {V : Type 0} → (V → Option (List ℕ)) → OpenSegment V → Option Held
    → Type 0
LeavesLasting lasting segment left = LeavesBytes segment left (segment_lasts lasting segment)

-- of what was left only the file of a segment is another, which begins with what lasts of its writer
abbrev pub LeavesOpen : {V : Type 0} → (V → Option (List ℕ)) → Option Held → OpenSegment V
    → Option Held → Type 0
LeavesOpen lasting was segment left =
    LeavesFront was left (string_bytes segment.name) (segment_lasts lasting segment)

-- of what was left only the file of this name is another
abbrev pub ChangesOneFile : {D : Type 0} → (D → Option Held) → D → D → List ℕ → Type 0
ChangesOneFile leaves was is name = Changes (leaves was) (leaves is) name (λ _. ⊤)
