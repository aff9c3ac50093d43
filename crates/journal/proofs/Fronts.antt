-- The values at the front of some bytes, from the laws of the readers.
use Rattle.std.proofs.Common.{◌≡◌, ℕ, ◌^◌, ◌<◌, ◌≤◌, List, ◌++◌, Result, Ok, Err, refl, sym, ap, ◌∙◌, subst, append_assoc, arith}
use Rattle.text_lines.specs.declared.fault.Fault.{Fault}
use Rattle.text_lines.specs.Reading.{Reader, Either, this, that, number_at}
use Rattle.text_lines.specs.Spelling.{spaced, Below, OfEither, of_either}
use Rattle.text_lines.specs.Grammar.{Reads}
use Rattle.text_lines.proofs.Decimals.{number_reads}
use Rattle.saved_history.specs.Spelling.{event_line, survey_line, EventFits, SurveyFits}
use Rattle.journal.specs.declared.calls.Call.{Call}
use Rattle.journal.specs.declared.calls.Call.TheVariants.{Event, Survey}
use Rattle.journal.specs.declared.calls.JournalLine.{JournalLine}
use Rattle.journal.specs.Spelling.{call_line, journal_line, CallFits, JournalLineFits}
use Rattle.journal.specs.Reading.{BeginsNone}

-- ---- a reader of one of two kinds, where only the first is wanted

module _ {A E : Type 0} {F : A → Type 0} {G : E → Type 0} {s : A → List ℕ} {t : E → List ℕ} {at : Reader (Either A E)} (reads : Reads (OfEither F G) (of_either s t) at) (bytes : List ℕ) where
  abbrev IsFirst : Result (Either A E × List ℕ) Fault → Type 0
  IsFirst (Ok (this a, rest)) = Unit {0}
  IsFirst (Ok (that e, rest)) = ⊥
  IsFirst (Err d) = ⊥

  pub first_found : (a : A) (rest : List ℕ) → at bytes ≡ Ok (this a, rest) → F a × (bytes ≡ s a ++ rest)
  first_found a rest k = reads.takes bytes (this a) rest k

  first_read : (a : A) (more : List ℕ) → F a → bytes ≡ s a ++ more → IsFirst (at bytes)
  first_read a more f e = subst IsFirst (sym (ap at e ∙ reads.again (this a) more f)) tt

  pub second_found : (e : E) (rest : List ℕ) → at bytes ≡ Ok (that e, rest) → BeginsNone F s bytes
  second_found e rest k a more f spelled = subst IsFirst k (first_read a more f spelled)

  pub none_found : (d : Fault) → at bytes ≡ Err d → BeginsNone F s bytes
  none_found d k a more f spelled = subst IsFirst k (first_read a more f spelled)

-- ---- a call

pub no_call : (version : ℕ) (bytes : List ℕ) → BeginsNone (EventFits version) event_line bytes → BeginsNone SurveyFits survey_line bytes → BeginsNone (CallFits version) call_line bytes
no_call version bytes event survey (Event e) more f spelled = event e more f spelled
no_call version bytes event survey (Survey v) more f spelled = survey v more f spelled

-- ---- the ring's number, and a call after it

ring_reads : Reads (Below (2 ^ 32)) spaced (number_at (2 ^ 32) 32)
ring_reads = number_reads (2 ^ 32) 32 (omega arith) (omega arith) (omega arith)

pub ring_read : (version rings : ℕ) (bytes : List ℕ) (r : JournalLine) (more : List ℕ) → JournalLineFits version rings r → bytes ≡ journal_line r ++ more → number_at (2 ^ 32) 32 bytes ≡ Ok (r.ring, call_line r.call ++ more)
ring_read version rings bytes r more f e =
    ap (number_at (2 ^ 32) 32) (e ∙ append_assoc (spaced r.ring) (call_line r.call) more) ∙ ring_reads.again r.ring (call_line r.call ++ more) f.small

abbrev IsRead : ℕ → List ℕ → Result (ℕ × List ℕ) Fault → Type 0
IsRead ring rest (Ok x) = (x.0 ≡ ring) × (x.1 ≡ rest)
IsRead ring rest (Err d) = ⊥

is_read : (version rings : ℕ) (bytes : List ℕ) (r : JournalLine) (more : List ℕ) → JournalLineFits version rings r → bytes ≡ journal_line r ++ more → IsRead r.ring (call_line r.call ++ more) (number_at (2 ^ 32) 32 bytes)
is_read version rings bytes r more f e = subst (IsRead r.ring (call_line r.call ++ more)) (sym (ring_read version rings bytes r more f e)) (refl, refl)

pub no_number : (version rings : ℕ) (bytes : List ℕ) (d : Fault) → number_at (2 ^ 32) 32 bytes ≡ Err d → BeginsNone (JournalLineFits version rings) journal_line bytes
no_number version rings bytes d k r more f spelled = subst (IsRead r.ring (call_line r.call ++ more)) k (is_read version rings bytes r more f spelled)

pub no_ring : (version rings : ℕ) (bytes : List ℕ) (ring : ℕ) (after : List ℕ) → number_at (2 ^ 32) 32 bytes ≡ Ok (ring, after) → rings ≤ ring → BeginsNone (JournalLineFits version rings) journal_line bytes
no_ring version rings bytes ring after k high r more f spelled =
    let same = (subst (IsRead r.ring (call_line r.call ++ more)) k (is_read version rings bytes r more f spelled)).0 in
    let low = f.ring in
    absurd (omega (arith, same, low, high))

pub no_call_after : (version rings : ℕ) (bytes : List ℕ) (ring : ℕ) (after : List ℕ) → number_at (2 ^ 32) 32 bytes ≡ Ok (ring, after) → BeginsNone (CallFits version) call_line after → BeginsNone (JournalLineFits version rings) journal_line bytes
no_call_after version rings bytes ring after k none r more f spelled =
    none r.call more f.call (subst (IsRead r.ring (call_line r.call ++ more)) k (is_read version rings bytes r more f spelled)).1

pub ring_then_call : (version rings : ℕ) (bytes : List ℕ) (ring : ℕ) (after : List ℕ) (call : Call) (rest : List ℕ) → number_at (2 ^ 32) 32 bytes ≡ Ok (ring, after) → ring < rings → CallFits version call → after ≡ call_line call ++ rest
    → JournalLineFits version rings (record { ring = ring; call = call }) × (bytes ≡ journal_line (record { ring = ring; call = call }) ++ rest)
ring_then_call version rings bytes ring after call rest k low f e =
    let t = ring_reads.takes bytes ring after k in
    (record { small = t.0; ring = low; call = f }, t.1 ∙ ap (λ (u : List ℕ). spaced ring ++ u) e ∙ sym (append_assoc (spaced ring) (call_line call) rest))
