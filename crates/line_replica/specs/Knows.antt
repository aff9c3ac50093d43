-- What each line of the service inside does to files, each line of a replica does; so where their
-- content is known before a line it is known after it.
use Rattle.std.proofs.Common.{◌≡◌, ℕ, Bool, true, false, cond, List, [], Option, Some, None, inl, inr, ◌⊎◌, subst, sym}
use Rattle.std.specs.Prelude.{IsSome}
use Rattle.disks.specs.Held.{Held}
use Rattle.line_service.specs.Stands.{AnsweringWith}
use Rattle.line_service.specs.Segmenting.{KeepsKnown}
use Rattle.line_replica.specs.declared.keys.Turn.{Turn}
use Rattle.line_replica.specs.declared.keys.Turn.TheVariants as turn
use Rattle.line_replica.specs.declared.reading.Tag.{Tag}
use Rattle.line_replica.specs.declared.numbered.Numbered.{Numbered}
use Rattle.line_replica.specs.declared.replica.Replica.{Replica}
use Rattle.line_replica.specs.Keys.{forgotten_if}
use Rattle.line_replica.specs.Reading.{Heard, Tagged, Place, Digest, Plain, heard, did_at, is_forget}
use Rattle.line_replica.specs.Replies.{IsTold, IsLost, IsReplied, IsHeard, IsWhole, IsAnsweredOnce, IsAnsweredOrNot, IsTagTaken, input_of, turn_of, forget_note}

-- the files before a line and after it are so
abbrev pub Leads : {S : Type 0} → AnsweringWith S → (Option Held → Option Held → Type 0) → Type 0
Leads A Such =
    (old new : _) (was is : Option Held) (line said noted : List ℕ)
    → A old was line said noted new is → Such was is

module _ {S : Type 0} (A : AnsweringWith S) (Such : Option Held → Option Held → Type 0) (as_before : (was is : Option Held) → is ≡ was → Such was is) (leads : Leads A Such) (was is : Option Held) (said noted : List ℕ) where
  same : is ≡ was → Such was is
  same e = as_before was is e

  or_not : (old new : S) (line : List ℕ) → IsAnsweredOrNot A old was line noted new is → Such was is
  or_not old new line (inl s) = same s.2
  or_not old new line (inr a) = leads old new was is line a.0 noted a.1

  module _ (old new : Numbered S) where
    at_turn : (r : Turn) (tag : Tag) (input : List ℕ) → IsAnsweredOnce A r tag old was input said noted new is → Such was is
    at_turn turn.Fresh tag input p = leads old.inner new.inner was is input said p.inside p.answered
    at_turn turn.Again tag input t = same t.files
    at_turn (turn.Past last) tag input t = same t.files

    at_word : (b : Bool) (tag : Tag) (rest : List ℕ) → cond b (IsTold [] (forgotten_if (turn_of old.keys tag) old.keys tag.key) (forget_note (turn_of old.keys tag) tag) old was said noted new is) (IsAnsweredOnce A (turn_of old.keys tag) tag old was rest said noted new is) → Such was is
    at_word true tag rest t = same t.files
    at_word false tag rest a = at_turn (turn_of old.keys tag) tag rest a

    behind : (d : Option (List ℕ)) (tag : Tag) (rest : List ℕ) → IsTagTaken A d tag old was rest said noted new is → Such was is
    behind (Some text) tag rest t = same t.files
    behind None tag rest a = at_word (is_forget rest) tag rest a

  by_heard : (h : Heard) (line : List ℕ) (old new : Replica S) → IsHeard A h old was line said noted new is → Such was is
  by_heard (Tagged tag rest) line old new t = behind old.numbered new.numbered (did_at rest) tag rest t.numbered
  by_heard (Place place) line old new t = same t.files
  by_heard (Digest place digest) line old new t = same t.files
  by_heard Plain line old new t = leads old.numbered.inner new.numbered.inner was is line said noted t.numbered.answered

  by_answer : (line : List ℕ) (old new : Replica S) → IsWhole A old was line said noted new is ⊎ IsLost A old was (input_of (heard line) line) said noted new is → Such was is
  by_answer line old new (inl w) = by_heard (heard line) line old new w.heard_as
  by_answer line old new (inr l) = or_not old.numbered.inner new.numbered.inner (input_of (heard line) line) l.answered

pub replied_leads : {S : Type 0} (A : AnsweringWith S) (Such : Option Held → Option Held → Type 0) → ((was is : Option Held) → is ≡ was → Such was is) → Leads A Such → Leads (IsReplied A) Such
replied_leads A Such as_before leads old new was is line said noted a = by_answer A Such as_before leads was is said noted line old new a.answered

-- known files stay known
abbrev pub StayKnown : Option Held → Option Held → Type 0
StayKnown was is = IsSome was → IsSome is

pub known_as_before : (was is : Option Held) → is ≡ was → StayKnown was is
known_as_before was is e some = subst (λ (f : Option Held). IsSome f) (sym e) some

pub knows : {S : Type 0} (A : AnsweringWith S) → KeepsKnown A → KeepsKnown (IsReplied A)
knows A keeps old new was is line said noted a some = replied_leads A StayKnown known_as_before keeps old new was is line said noted a some
