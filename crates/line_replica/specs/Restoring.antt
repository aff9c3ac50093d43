-- How a service that answers with its state lives in segments; and a line that is too long asks for
-- no state (this project's own).
use Rattle.std.proofs.Common.{◌≡◌, ℕ, ◌<◌, Bool, true, false, cond, List, Option, length, subst, sym, ap}
use Rattle.std.proofs.lemmas.Bool.{lt-ltb}
use Rattle.std.specs.Prelude.{codes}
use Rattle.text_lines.specs.Reading.{word_at}
use Rattle.text_lines.specs.Limits.{line_limit}
use Rattle.line_service.specs.Answering.{cut, IsByStart}
use Rattle.line_service.specs.Stands.{AnsweringWith, by_stand, stand}
use Rattle.disks.specs.Held.{Held}
use Rattle.line_service.specs.Segmenting.{Segmenting, KeepsKnown}
use Rattle.line_replica.specs.declared.restorable.Restorable.{Restorable}
use Rattle.line_replica.specs.Reading.{on_read, is_none_left}
use Rattle.line_replica.specs.Starts.{long_cut}
use Rattle.line_replica.specs.State.{is_state, IsStateTold, IsRestorable}
use Rattle.line_replica.specs.Knows.{Leads, StayKnown, known_as_before}

no_state : (line : List ℕ) → line_limit < length line → is_state line ≡ false
unfolding is_state
no_state line lt = ap (λ b. cond b false (on_read (word_at (codes "state\n") line) false is_none_left)) (lt-ltb line_limit (length line) lt)

pub by_start : {S : Type 0} (A : AnsweringWith S) (lines : S → List (List ℕ)) → IsByStart (by_stand A) → IsByStart (by_stand (IsRestorable A lines))
by_start A lines inner old new full said noted long a =
    let short : A old.service.inner old.files (cut full) said noted new.service.inner new.files =
    subst (λ (b : Bool). cond b (IsStateTold (lines old.service.inner) old.service old.files said noted new.service new.files) (A old.service.inner old.files (cut full) said noted new.service.inner new.files)) (no_state (cut full) (long_cut full long)) a in
    subst (λ (b : Bool). cond b (IsStateTold (lines old.service.inner) old.service old.files said noted new.service new.files) (A old.service.inner old.files full said noted new.service.inner new.files)) (sym (no_state full long))
    (inner (stand old.service.inner old.files) (stand new.service.inner new.files) full said noted long short)

-- the segments are those of the service inside
abbrev pub segmenting : {S : Type 0} → Segmenting S → Segmenting (Restorable S)
segmenting G = record {
  text = λ r number behind. G.text r.inner number behind;
  is_due = λ r. G.is_due r.inner;
  IsNext = λ old new. G.IsNext old.inner new.inner;
  HasNoNext = λ r why. G.HasNoNext r.inner why;
  HasNoText = λ r why. G.HasNoText r.inner why;
  IsKept = λ old why new. G.IsKept old.inner why new.inner;
  HasText = λ r number behind. G.HasText r.inner number behind;
}

-- What each line of the service inside does to files, each line does; so where their content is known
-- before a line it is known after it.
pub restored_leads : {S : Type 0} (A : AnsweringWith S) (lines : S → List (List ℕ)) (Such : Option Held → Option Held → Type 0) → ((was is : Option Held) → is ≡ was → Such was is) → Leads A Such → Leads (IsRestorable A lines) Such
restored_leads A lines Such as_before leads old new was is line said noted a = by_word (is_state line) a
  where
    by_word : (b : Bool) → cond b (IsStateTold (lines old.inner) old was said noted new is) (A old.inner was line said noted new.inner is) → Such was is
    by_word true t = as_before was is t.files
    by_word false t = leads old.inner new.inner was is line said noted t

pub knows : {S : Type 0} (A : AnsweringWith S) (lines : S → List (List ℕ)) → KeepsKnown A → KeepsKnown (IsRestorable A lines)
knows A lines keeps old new was is line said noted a some = restored_leads A lines StayKnown known_as_before keeps old new was is line said noted a some
