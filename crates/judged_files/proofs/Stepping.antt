-- Lines are judged one after the other.
use Rattle.std.proofs.Common.{◌≡◌, ℕ, ◌+◌, Bool, true, false, List, [], ◌∷◌, ◌++◌, length, Option, None, refl, sym, ap, subst, ◌∙◌, append_assoc, length-append, arith}
use Rattle.std.specs.Prelude.{◌||◌}
use Rattle.std.specs.List.{list_any}
use Rattle.std.proofs.lemmas.List.{append-nil}
use Rattle.name_check.specs.Entries.{Entry, Judged}
use Rattle.name_check.specs.Judged.{refusal, noted, noted_all, AreRight, AreSaid}
use Rattle.name_check.specs.Kept.{IsNoted}
use Rattle.judged_files.specs.declared.faults.Cause.{Cause}
use Rattle.judged_files.specs.Lines.{is_done, LineSays, AreSaidBy}
use Rattle.judged_files.specs.declared.faults.JudgeError.{JudgeError}
use Rattle.judged_files.specs.Judging.{is_passed, IsRefusedLine, IsRefusedAt, IsRefusedFile, IsAccepted, IsUnaccepted, AreAccepted}

-- ---- a line more

or_none : (v : Bool) → (v || false) ≡ v
or_none true = refl
or_none false = refl

or_assoc : (u v w : Bool) → ((u || v) || w) ≡ (u || (v || w))
or_assoc true v w = refl
or_assoc false v w = refl

said_more : (done : Bool) (lines : List (List ℕ)) (es : List Entry) (line : List ℕ) (e : Entry) → AreSaidBy done lines es → LineSays (done || list_any is_done lines) line e → AreSaidBy done (lines ++ line ∷ []) (es ++ e ∷ [])
said_more done [] [] line e each says = (subst (λ (v : Bool). LineSays v line e) (or_none done) says, refl)
said_more done [] (f ∷ es) line e each says = absurd (grind (arith, ap (λ (u : List Entry). length u) each))
said_more done (l ∷ lines) [] line e each says = absurd each
said_more done (l ∷ lines) (f ∷ es) line e each says =
    (each.0, said_more (done || is_done l) lines es line e each.1 (subst (λ (v : Bool). LineSays v line e) (sym (or_assoc done (is_done l) (list_any is_done lines))) says))

right_more : (s : Judged) (es : List Entry) (e : Entry) → AreRight s es → refusal (noted_all s es) e ≡ None → AreRight s (es ++ e ∷ [])
right_more s [] e right ok = (ok, tt)
right_more s (f ∷ es) e right ok = (right.0, right_more (noted s f) es e right.1 ok)

noted_more : (s : Judged) (es : List Entry) (e : Entry) → noted_all s (es ++ e ∷ []) ≡ noted (noted_all s es) e
noted_more s [] e = refl
noted_more s (f ∷ es) e = noted_more (noted s f) es e

any_more : (lines : List (List ℕ)) (line : List ℕ) → list_any is_done (lines ++ line ∷ []) ≡ (list_any is_done lines || is_done line)
any_more [] line = or_none (is_done line)
any_more (l ∷ lines) line = ap (λ (v : Bool). is_done l || v) (any_more lines line) ∙ sym (or_assoc (is_done l) (list_any is_done lines) (is_done line))

-- ---- how far lines were judged

pub record Reached (start : Judged) (lines : List (List ℕ)) (now : Judged) (done : Bool) (count : ℕ) (rest : List (List ℕ)) : Type 0 where
  pub before : List (List ℕ)
  pub parts : lines ≡ before ++ rest
  pub number : count ≡ length before
  pub said : List Entry
  pub each : AreSaidBy false before said
  pub right : AreSaid start said now
  pub ended : done ≡ list_any is_done before

pub reached_none : (start : Judged) (lines : List (List ℕ)) → Reached start lines start false 0 lines
reached_none start lines = record {
  before = [];
  parts = refl;
  number = refl;
  said = [];
  each = refl;
  right = record { right = tt; now = refl };
  ended = refl;
}

module _ (start : Judged) (lines : List (List ℕ)) (now : Judged) (done : Bool) (count : ℕ) where
  pub reached_more : (line : List ℕ) (rest : List (List ℕ)) (e : Entry) (next : Judged) → Reached start lines now done count (line ∷ rest) → LineSays done line e → IsNoted now e next → Reached start lines next (done || is_done line) (count + 1) rest
  reached_more line rest e next r says is = record {
    before = r.before ++ line ∷ [];
    parts = r.parts ∙ sym (append_assoc r.before (line ∷ []) rest);
    number = let n : length (r.before ++ line ∷ []) ≡ length r.before + 1 = length-append r.before (line ∷ []) in let m = r.number in omega arith;
    said = r.said ++ e ∷ [];
    each = said_more false r.before r.said line e r.each (subst (λ (v : Bool). LineSays v line e) r.ended says);
    right = record {
      right = right_more start r.said e r.right.right (ap (λ (s : Judged). refusal s e) r.right.now ∙ is.right);
      now = noted_more start r.said e ∙ ap (λ (s : Judged). noted s e) r.right.now ∙ sym is.now;
    };
    ended = ap (λ (v : Bool). v || is_done line) r.ended ∙ sym (any_more r.before line);
  }

  pub reached_all : (rest : List (List ℕ)) → rest ≡ [] → Reached start lines now done count rest → (count ≡ length lines) × ((said : List Entry) × AreSaidBy false lines said × AreSaid start said now)
  reached_all rest none r =
      let all : lines ≡ r.before = r.parts ∙ ap (λ (u : List (List ℕ)). r.before ++ u) none ∙ append-nil r.before in (
        r.number ∙ ap (λ (u : List (List ℕ)). length u) (sym all),
        (r.said, subst (λ (u : List (List ℕ)). AreSaidBy false u r.said) (sym all) r.each, r.right),
      )

  pub reached_wrong : (line : List ℕ) (rest : List (List ℕ)) (c : Cause) → Reached start lines now done count (line ∷ rest) → IsRefusedLine now done line c → IsRefusedAt start lines (count + 1) c
  reached_wrong line rest c r why = record {
    before = r.before;
    line = line;
    behind = rest;
    parts = r.parts;
    count = ap (λ (n : ℕ). n + 1) r.number;
    said = r.said;
    each = r.each;
    right = r.right.right;
    why = subst (λ (v : Bool). IsRefusedLine (noted_all start r.said) v line c) r.ended (subst (λ (s : Judged). IsRefusedLine s done line c) (sym r.right.now) why);
  }

  pub reached_same : (rest left : List (List ℕ)) → rest ≡ left → Reached start lines now done count rest → Reached start lines now done count left
  reached_same rest left e r = subst (λ (u : List (List ℕ)). Reached start lines now done count u) e r

-- ---- files

pub accepted_more : (fixed : List (List ℕ)) (old : Option Judged) (fs : List (List ℕ)) (mid : Option Judged) (f : List ℕ) (new : Option Judged) → AreAccepted fixed old fs mid → IsAccepted fixed mid f new → AreAccepted fixed old (fs ++ f ∷ []) new
accepted_more fixed old [] mid f new are is = (new, subst (λ (o : Option Judged). IsAccepted fixed o f new) (sym are) is, refl)
accepted_more fixed old (g ∷ fs) mid f new are is = (are.0, are.1, accepted_more fixed are.0 fs mid f new are.2 is)

pub refused_of : (fixed : List (List ℕ)) (o p : Option Judged) (bytes : List ℕ) (last : Bool) (e : JudgeError) → o ≡ p → is_passed (length fixed) o bytes ≡ false → IsRefusedFile fixed o bytes last e → IsUnaccepted fixed p bytes last e
refused_of fixed o p bytes last e same passed why = subst (λ (q : Option Judged). IsUnaccepted fixed q bytes last e) same (passed, why)
