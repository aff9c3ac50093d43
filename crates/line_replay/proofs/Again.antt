-- Of the same bytes the same lines are done again; and what lines leave is never refused.
use Rattle.std.proofs.Common.{◌≡◌, ◌≢◌, ◌⊎◌, ℕ, suc, ◌+◌, List, [], ◌∷◌, ◌++◌, length, refl, sym, ap, subst, ◌∙◌, append_assoc, arith, inl, inr}
use Rattle.std.proofs.lemmas.List.{append_cancel_left}
use Rattle.line_replay.specs.Machines.{Machine}
use Rattle.line_replay.specs.Following.{BeginsWithNote, CanFollow, BeginApart}
use Rattle.line_replay.specs.Redone.{AreRedone}
use Rattle.line_replay.proofs.Starting.{same_note, next_follows}
use Rattle.line_replay.proofs.Redoing.{same_counts, not_there}

module _ (M : Machine) where
  abbrev NoneLeft : ℕ → List (List ℕ) → List ℕ → Type 0
  NoneLeft n lines torn = ¬ CanFollow (n + length lines) torn

  plus : (k : ℕ) → k ≡ k + 0
  plus k = omega arith

  -- nothing was done again of what begins with the next note
  undone : (n : ℕ) (line rest bytes torn : List ℕ) → BeginsWithNote (suc n) line rest bytes → bytes ≡ torn → NoneLeft n [] torn → ⊥
  undone n line rest bytes torn note is none =
      none (subst (λ (k : ℕ). CanFollow k torn) (plus n) (next_follows n line rest torn (subst (λ (x : List ℕ). BeginsWithNote (suc n) line rest x) is note)))

  abbrev Ones : List (List ℕ) → List (List ℕ) → Type 0
  Ones lines others =
      (n : ℕ) (s : M.State) (bytes missing torn lost over : List ℕ)
      → AreRedone M n s bytes lines missing torn → BeginApart missing torn → NoneLeft n lines torn
      → AreRedone M n s bytes others lost over → BeginApart lost over → NoneLeft n others over
      → lines ≡ others

  one_step : (line o : List ℕ) (lines others : List (List ℕ)) → Ones lines others → Ones (line ∷ lines) (o ∷ others)
  one_step line o lines others ih n s bytes missing torn lost over (rest, note, changed, how) apart none (tail, mark, moved, way) distinct nobody =
      go how way
    where
      same : (suc n ≡ suc n) × (line ≡ o) × (rest ≡ tail)
      same = same_note (suc n) (suc n) line o rest tail bytes note mark

      go : ((more : List ℕ) × (rest ≡ M.notes s line ++ more) × AreRedone M (suc n) (M.does s line) more lines missing torn)
          ⊎ ((lines ≡ []) × (missing ≢ []) × (part : List ℕ) × (rest ≡ part ++ torn) × (M.notes s line ≡ part ++ missing))
          → ((more : List ℕ) × (tail ≡ M.notes s o ++ more) × AreRedone M (suc n) (M.does s o) more others lost over)
          ⊎ ((others ≡ []) × (lost ≢ []) × (part : List ℕ) × (tail ≡ part ++ over) × (M.notes s o ≡ part ++ lost))
          → line ∷ lines ≡ o ∷ others
      go (inl (more, all, then)) (inl (more2, all2, then2)) =
          let as_one : more ≡ more2 = append_cancel_left (M.notes s o) more more2 (ap (λ (x : List ℕ). M.notes s x ++ more) (sym same.1) ∙ sym all ∙ same.2 ∙ all2) in
          let there : AreRedone M (suc n) (M.does s o) more2 lines missing torn =
          subst (λ (x : List ℕ). AreRedone M (suc n) (M.does s o) x lines missing torn) as_one (subst (λ (x : List ℕ). AreRedone M (suc n) (M.does s x) more lines missing torn) same.1 then) in
          let these = ih (suc n) (M.does s o) more2 missing torn lost over there apart
          (subst (λ (k : ℕ). ¬ CanFollow k torn) (sym (same_counts n (length lines))) none) then2 distinct
          (subst (λ (k : ℕ). ¬ CanFollow k over) (sym (same_counts n (length others))) nobody) in
          ap (λ (x : List ℕ). x ∷ lines) same.1 ∙ ap (λ (ls : List (List ℕ)). o ∷ ls) these
      go (inl (more, all, then)) (inr (empty, some, part, here, whole)) =
          absurd (not_there lost over more distinct some
          (append_cancel_left part over (lost ++ more) (sym here ∙ sym same.2 ∙ all ∙ ap (λ (x : List ℕ). M.notes s x ++ more) same.1 ∙ ap (λ (x : List ℕ). x ++ more) whole ∙ append_assoc part lost more)))
      go (inr (empty, some, part, here, whole)) (inl (more, all, then)) =
          absurd (not_there missing torn more apart some
          (append_cancel_left part torn (missing ++ more) (sym here ∙ same.2 ∙ all ∙ ap (λ (x : List ℕ). M.notes s x ++ more) (sym same.1) ∙ ap (λ (x : List ℕ). x ++ more) whole ∙ append_assoc part missing more)))
      go (inr (empty, some, part, here, whole)) (inr (empty2, some2, part2, here2, whole2)) =
          ap (λ (x : List ℕ). x ∷ lines) same.1 ∙ ap (λ (ls : List (List ℕ)). o ∷ ls) (empty ∙ sym empty2)

  pub one_redone : (lines others : List (List ℕ)) → Ones lines others
  one_redone [] [] n s bytes missing torn lost over r apart none q distinct nobody = refl
  one_redone [] (o ∷ others) n s bytes missing torn lost over r apart none q distinct nobody = absurd (undone n o q.0 bytes torn q.1 r.1 none)
  one_redone (line ∷ lines) [] n s bytes missing torn lost over r apart none q distinct nobody = absurd (undone n line r.0 bytes over r.1 q.1 nobody)
  one_redone (line ∷ lines) (o ∷ others) n s bytes missing torn lost over r apart none q distinct nobody =
      one_step line o lines others (λ m t bs mi to lo le re ap ne qe di nb. one_redone lines others m t bs mi to lo le re ap ne qe di nb) n s bytes missing torn lost over r apart none q distinct nobody
