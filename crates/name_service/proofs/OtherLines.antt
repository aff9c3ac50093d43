-- Of lines some ask for the state: the others are answered inside.
use Rattle.std.proofs.Common.{◌≡◌, ℕ, Bool, true, false, cond, List, [], ◌∷◌, ◌++◌, Option, ◌⊎◌, inl, inr, refl, ap, sym, subst, ◌∙◌}
use Rattle.std.specs.Prelude.{not}
use Rattle.disks.specs.Held.{Held}
use Rattle.line_service.specs.Answering.{Answers}
use Rattle.line_service.specs.Stands.{Stand, AnsweringWith, by_stand, stand}
use Rattle.line_replica.specs.declared.restorable.Restorable.{Restorable}
use Rattle.line_replica.specs.State.{is_state, IsStateTold, IsRestorable}
use Rattle.lock_journal.specs.Replicas.{AreToldAfter, others_of}

abbrev Inside : {S : Type 0} → Stand (Restorable S) → Stand S
Inside s = stand s.service.inner s.files

-- what is answered inside of a line and others after it
record AreOthers {S : Type 0} (A : AnsweringWith S) (b : Bool) (old : Stand S) (line : List ℕ) (all : List (List ℕ)) (said noted : List ℕ) (new : Stand S) : Type 0 where
  pub told : List ℕ
  pub answered : Answers (by_stand A) old (cond (not b) (line ∷ others_of all) (others_of all)) told noted new
  pub behind : (first inner later more : List ℕ) × (said ≡ first ++ later) × (told ≡ inner ++ more) × (((b ≡ true) × (inner ≡ [])) ⊎ (inner ≡ first)) × AreToldAfter all later more

other_line : {S : Type 0} (A : AnsweringWith S) (state : S → List (List ℕ)) (b : Bool) (old mid : Stand (Restorable S)) (new : Stand S) (line : List ℕ) (all : List (List ℕ)) (said noted first later note notes told : List ℕ) →
    cond b (IsStateTold (state old.service.inner) old.service old.files first note mid.service mid.files) (A old.service.inner old.files line first note mid.service.inner mid.files) →
    said ≡ first ++ later → noted ≡ note ++ notes → Answers (by_stand A) (Inside mid) (others_of all) told notes new → AreToldAfter all later told → AreOthers A b (Inside old) line all said noted new
other_line {S} A state true old mid new line all said noted first later note notes told t s n rest behind =
    let same : Inside mid ≡ Inside old = ap (λ (x : Restorable S). stand x.inner mid.files) t.same ∙ ap (λ (x : Option Held). stand old.service.inner x) t.files in
    let whole : noted ≡ notes = n ∙ ap (λ (u : List ℕ). u ++ notes) t.notes in record {
      told = told;
      answered = subst (λ (u : List ℕ). Answers (by_stand A) (Inside old) (others_of all) told u new) (sym whole) (subst (λ (x : Stand S). Answers (by_stand A) x (others_of all) told notes new) same rest);
      behind = (first, [], later, told, s, refl, inl (refl, refl), behind);
    }
other_line A state false old mid new line all said noted first later note notes told t s n rest behind = record {
  told = first ++ told;
  answered = (Inside mid, first, told, note, notes, t, refl, n, rest);
  behind = (first, first, later, told, s, refl, inr refl, behind);
}

-- what is answered inside of lines, and what is said of that
pub record AreOtherLines {S : Type 0} (A : AnsweringWith S) (old : Stand (Restorable S)) (all : List (List ℕ)) (said noted : List ℕ) (new : Stand (Restorable S)) : Type 0 where
  pub told : List ℕ
  pub answered : Answers (by_stand A) (Inside old) (others_of all) told noted (Inside new)
  pub after : AreToldAfter all said told

pub other_lines : {S : Type 0} (A : AnsweringWith S) (state : S → List (List ℕ)) (old new : Stand (Restorable S)) (all : List (List ℕ)) (said noted : List ℕ) → Answers (by_stand (IsRestorable A state)) old all said noted new → AreOtherLines A old all said noted new
other_lines {S} A state old new [] said noted a = record { told = []; answered = (refl, a.1, ap (λ (s : Stand (Restorable S)). Inside s) a.2); after = (a.0, refl) }
other_lines A state old new (line ∷ all) said noted a =
    let rest = other_lines A state a.0 new all a.2 a.4 a.8 in
    let o = other_line A state (is_state line) old a.0 (Inside new) line all said noted a.1 a.2 a.3 a.4 rest.told a.5 a.6 a.7 rest.answered rest.after in record {
      told = o.told;
      answered = o.answered;
      after = o.behind;
    }
