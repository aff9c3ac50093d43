-- A line that is too long is answered as its start is: inside.
use Rattle.std.proofs.Common.{◌≡◌, ℕ, ◌+◌, ◌<◌, List, length, take, cond, inl, inr, ◌⊎◌, subst, sym, ap, arith}
use Rattle.std.proofs.lemmas.Bool.{lt-ltb}
use Rattle.std.proofs.lemmas.List.{length-take}
use Rattle.text_lines.specs.Limits.{line_limit}
use Rattle.line_service.specs.Answering.{cut, IsByStart}
use Rattle.line_service.specs.Stands.{Stand, AnsweringWith, by_stand, stand}
use Rattle.line_replica.specs.declared.replica.Replica.{Replica}
use Rattle.line_replica.specs.Reading.{Heard, Plain, heard, of_tagged, tagged_at}
use Rattle.line_replica.specs.Replies.{IsReplied, IsHeard, IsWhole, IsLost, IsAnsweredOrNot, input_of}

longer : (n : ℕ) (xs : List ℕ) → n < length xs → n < length (take (n + 1) xs)
longer n xs lt = let e = length-take (n + 1) xs in omega (arith, lt, e)

pub long_cut : (full : List ℕ) → line_limit < length full → line_limit < length (cut full)
unfolding cut
long_cut full lt = longer line_limit full lt

-- a long line is a plain one
pub plain : (line : List ℕ) → line_limit < length line → heard line ≡ Plain
unfolding heard
plain line lt = ap (λ b. cond b Plain (of_tagged (tagged_at line) line)) (lt-ltb line_limit (length line) lt)

module _ {S : Type 0} (A : AnsweringWith S) (inner : IsByStart (by_stand A)) (old new : Stand (Replica S)) (full said noted : List ℕ) (long : line_limit < length full) where
  given : (text : List ℕ) → A old.service.numbered.inner old.files (cut full) text noted new.service.numbered.inner new.files → A old.service.numbered.inner old.files full text noted new.service.numbered.inner new.files
  given text a = inner (stand old.service.numbered.inner old.files) (stand new.service.numbered.inner new.files) full text noted long a

  hears : IsHeard A Plain old.service old.files (cut full) said noted new.service new.files → IsHeard A Plain old.service old.files full said noted new.service new.files
  hears h = record {
    numbered = record { answered = given said h.numbered.answered; keys_are = h.numbered.keys_are };
    running = h.running;
  }

  or_not : IsAnsweredOrNot A old.service.numbered.inner old.files (cut full) noted new.service.numbered.inner new.files → IsAnsweredOrNot A old.service.numbered.inner old.files full noted new.service.numbered.inner new.files
  or_not (inl same) = inl same
  or_not (inr a) = inr (a.0, given a.0 a.1)

  both : IsWhole A old.service old.files (cut full) said noted new.service new.files ⊎ IsLost A old.service old.files (input_of (heard (cut full)) (cut full)) said noted new.service new.files →
      IsWhole A old.service old.files full said noted new.service new.files ⊎ IsLost A old.service old.files (input_of (heard full) full) said noted new.service new.files
  both (inl w) = inl (record {
    heard_as = subst (λ (h : Heard). IsHeard A h old.service old.files full said noted new.service new.files) (sym (plain full long))
        (hears (subst (λ (h : Heard). IsHeard A h old.service old.files (cut full) said noted new.service new.files) (plain (cut full) (long_cut full long)) w.heard_as));
    whole = w.whole;
  })
  both (inr l) = inr (record {
    answered = subst (λ (h : Heard). IsAnsweredOrNot A old.service.numbered.inner old.files (input_of h full) noted new.service.numbered.inner new.files) (sym (plain full long))
        (or_not (subst (λ (h : Heard). IsAnsweredOrNot A old.service.numbered.inner old.files (input_of h (cut full)) noted new.service.numbered.inner new.files) (plain (cut full) (long_cut full long)) l.answered));
    says = l.says;
    lost = l.lost;
  })

pub by_start : {S : Type 0} (A : AnsweringWith S) → IsByStart (by_stand A) → IsByStart (by_stand (IsReplied A))
by_start A inner old new full said noted long a = record {
  before = a.before;
  answered = both A inner old new full said noted long a.answered;
}
