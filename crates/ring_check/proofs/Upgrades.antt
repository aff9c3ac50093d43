-- A text of the latest version may have whatever one of an earlier version has.
use Rattle.std.proofs.Common.{◌≡◌, ℕ, List, [], ◌∷◌, Bool, true, false, cond, Option, Some, None, refl, ◌∙◌, ap, arith, eqb}
use Rattle.saved_history.specs.Versions.{latest_version}
use Rattle.ring_check.specs.declared.answers.Kind.{Kind}
use Rattle.ring_check.specs.declared.answers.Kind.TheVariants.{Parameter, Count}
use Rattle.ring_check.specs.Lines.{Line, RingLine, StartLine, EventLine, EndLine, SurveyLine, DoneLine}
use Rattle.ring_check.specs.Table.{Before, nothing, are_parameters, fault, after_line, after_lines}
use Rattle.ring_check.specs.Legal.{UpgradeIsLegal}
use Rattle.ring_check.proofs.Blocks.{parameters_mean, parameters_true, machine_limit_most, value_limit_most}

-- the same lines before, in the latest version
abbrev later : Before → Before
later b = record b { version = latest_version }

parameters_later : (version n k : ℕ) → are_parameters version n k ≡ true → are_parameters latest_version n k ≡ true
parameters_later version n k e =
    let p = parameters_mean version n k e in
    let few = p.1 in
    let most = p.3 in
    parameters_true latest_version n k p.0 (omega (arith, few, machine_limit_most version)) p.2 (omega (arith, most, value_limit_most version))

head_later : (b : Before) (index n k : ℕ) → fault b (RingLine index n k) ≡ None → fault (later b) (RingLine index n k) ≡ None
head_later b index n k h = go (are_parameters b.version n k) refl h
  where
    go : (p : Bool) → are_parameters b.version n k ≡ p → cond {A = Option Kind} p (cond (eqb index b.rings) None (Some Count)) (Some Parameter) ≡ None → fault (later b) (RingLine index n k) ≡ None
    go true e h = rw (parameters_later b.version n k e) h
    go false e h = absurd cc

fault_later : (b : Before) (l : Line) → fault b l ≡ None → fault (later b) l ≡ None
fault_later b (RingLine index n k) h = head_later b index n k h
fault_later b (StartLine s) h = h
fault_later b (EventLine e) h = h
fault_later b (EndLine m) h = h
fault_later b (SurveyLine s) h = h
fault_later b (DoneLine m) h = h

line_later : (b : Before) (l : Line) → after_line (later b) l ≡ later (after_line b l)
line_later b (RingLine index n k) = refl
line_later b (StartLine s) = refl
line_later b (EventLine e) = refl
line_later b (EndLine m) = refl
line_later b (SurveyLine s) = refl
line_later b (DoneLine m) = refl

lines_later : (b : Before) (ls : List Line) → after_lines (later b) ls ≡ later (after_lines b ls)
lines_later b [] = refl
lines_later b (l ∷ ls) = ap (λ (x : Before). after_lines x ls) (line_later b l) ∙ lines_later (after_line b l) ls

pub upgrade_is_legal : UpgradeIsLegal
upgrade_is_legal s good = (
  (λ front l back cut. ap (λ (x : Before). fault x l) (lines_later (nothing s.version) front) ∙ fault_later (after_lines (nothing s.version) front) l (good front l back cut)),
  refl,
)
