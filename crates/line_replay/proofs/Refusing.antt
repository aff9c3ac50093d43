-- What lines leave is never refused, wherever it is cut.
use Rattle.std.proofs.Common.{◌≡◌, ◌≢◌, ◌⊎◌, ℕ, suc, ◌+◌, ◌<◌, ◌^◌, Bool, true, false, List, [], ◌∷◌, ◌++◌, length, refl, sym, ap, subst, ◌∙◌, append_assoc, arith, inl, inr}
use Rattle.std.specs.List.{AllByRecursion}
use Rattle.std.proofs.lemmas.List.{append_cancel_left}
use Rattle.std.proofs.lemmas.Bool.{true≢false}
use Rattle.line_service.specs.Answering.{IsLine}
use Rattle.noted_lines.specs.Notes.{note_text}
use Rattle.noted_lines.proofs.NotedEnds.{notes_are_lines}
use Rattle.line_replay.specs.Machines.{Machine, StaysUnchanged, after, counted, trace}
use Rattle.line_replay.specs.Following.{BeginsWithNote, CanFollow, BeginApart}
use Rattle.line_replay.specs.Redone.{AreRedone}
use Rattle.line_replay.specs.Replays.{IsFirstOf}
use Rattle.line_replay.proofs.Starting.{none_is_some, cut_line, same_note, note_more, no_note, nothing_follows, none_follows}
use Rattle.line_replay.proofs.Redoing.{same_counts}
use Rattle.line_replay.proofs.Coming.{counts_quiet, trace_quiet, counts_one, trace_one, small}

module _ (M : Machine) (quiet : StaysUnchanged M) where
  -- a line more was done again, of the same lines
  record Behind (n : ℕ) (s : M.State) (o line : List ℕ) (others : List (List ℕ)) (rest w : List ℕ) : Type 0 where
    same : o ≡ line
    tail : rest ++ w ≡ M.notes s line ++ trace M (suc n) (M.does s line) others
    counts : counted M (suc n) (M.does s line) others < 2 ^ 64

  behind : (n : ℕ) (s : M.State) (o line : List ℕ) (others : List (List ℕ)) (bytes rest : List ℕ) → IsLine o → M.changes s o ≡ true → counted M n s (o ∷ others) < 2 ^ 64
      → (f : IsFirstOf bytes (trace M n s (o ∷ others))) → BeginsWithNote (suc n) line rest bytes → Behind n s o line others rest f.0
  behind n s o line others bytes rest whole e lt f note =
      let notes : List ℕ = M.notes s o ++ trace M (suc n) (M.does s o) others in
      let all : note_text (suc n) o ++ notes ≡ bytes ++ f.0 = sym (trace_one M quiet n s o others e) ∙ f.1 in
      let there : BeginsWithNote (suc n) o notes (bytes ++ f.0) = record { fits = small M quiet n s o others e lt; whole = whole; is = sym all } in
      let same = same_note (suc n) (suc n) o line notes (rest ++ f.0) (bytes ++ f.0) there (note_more (suc n) line rest bytes f.0 note) in
      record {
        same = same.1;
        tail = sym same.2 ∙ ap (λ (x : List ℕ). M.notes s x ++ trace M (suc n) (M.does s x) others) same.1;
        counts = subst (λ (x : List ℕ). counted M (suc n) (M.does s x) others < 2 ^ 64) same.1 (subst (λ (k : ℕ). k < 2 ^ 64) (counts_one M quiet n s o others e) lt);
      }

  -- what can follow is in a whole line, and so the next note is whole
  abbrev Nexts : List (List ℕ) → Type 0
  Nexts lines =
      (n : ℕ) (s : M.State) (torn : List ℕ) → AllByRecursion IsLine lines → counted M n s lines < 2 ^ 64 → IsFirstOf torn (trace M n s lines)
      → ((line rest : List ℕ) → ¬ BeginsWithNote (suc n) line rest torn) → CanFollow n torn → ⊥

  next_step : (o : List ℕ) (lines : List (List ℕ)) → Nexts lines → Nexts (o ∷ lines)
  next_step o lines ih n s torn each lt f other some = go (M.changes s o) refl
    where
      notes : List ℕ
      notes = M.notes s o ++ trace M (suc n) (M.does s o) lines

      go : (b : Bool) → M.changes s o ≡ b → ⊥
      go true e =
          let fits = small M quiet n s o lines e lt in
          elim (cut_line (note_text (suc n) o) torn notes f.0 (notes_are_lines (suc n) o fits each.0) (sym f.1 ∙ trace_one M quiet n s o lines e)) [
            | inl (more, is, tail) ↦ other o more (record { fits = fits; whole = each.0; is = is })
            | inr none ↦ none_follows n torn none some
          ]
      go false e = ih n s torn each.1 (subst (λ (k : ℕ). k < 2 ^ 64) (counts_quiet M quiet n s o lines e) lt) (f.0, sym (trace_quiet M quiet n s o lines e) ∙ f.1) other some

  next_is : (lines : List (List ℕ)) → Nexts lines
  next_is [] n s [] each lt f other some = nothing_follows n some
  next_is [] n s (b ∷ torn) each lt f other some = none_is_some b (torn ++ f.0) f.1
  next_is (o ∷ lines) n s torn each lt f other some = next_step o lines (λ m t to ea lo fi ot so. next_is lines m t to ea lo fi ot so) n s torn each lt f other some

  -- what is missing is there, or nothing is
  missing_is : (missing torn more w : List ℕ) (n : ℕ) → BeginApart missing torn → missing ≢ [] → torn ++ w ≡ missing ++ more → CanFollow n torn → ⊥
  missing_is [] torn more w n apart some e can = some refl
  missing_is (a ∷ missing) [] more w n apart some e can = nothing_follows n can
  missing_is (a ∷ missing) (b ∷ torn) more w n apart some e can = apart (sym (heads e))
    where
      heads : ◌≡◌ {A = List ℕ} (b ∷ (torn ++ w)) (a ∷ (missing ++ more)) → b ≡ a
      heads e = cc

  abbrev Damages : List (List ℕ) → List (List ℕ) → Type 0
  Damages given lines =
      (n : ℕ) (s : M.State) (bytes missing torn : List ℕ) → AllByRecursion IsLine given → counted M n s given < 2 ^ 64 → IsFirstOf bytes (trace M n s given)
      → AreRedone M n s bytes lines missing torn → BeginApart missing torn
      → (missing ≡ [] → (line rest : List ℕ) → ¬ BeginsWithNote (suc (n + length lines)) line rest torn) → CanFollow (n + length lines) torn → ⊥

  damage_step : (o : List ℕ) (given : List (List ℕ)) → ((ls : List (List ℕ)) → Damages given ls) → (line : List ℕ) (lines : List (List ℕ)) → Damages (o ∷ given) (line ∷ lines)
  damage_step o given ih line lines n s bytes missing torn each lt f (rest, note, changed, how) apart other some = go (M.changes s o) refl
    where
      by : Behind n s o line given rest f.0
          → ((more : List ℕ) × (rest ≡ M.notes s line ++ more) × AreRedone M (suc n) (M.does s line) more lines missing torn)
          ⊎ ((lines ≡ []) × (missing ≢ []) × (part : List ℕ) × (rest ≡ part ++ torn) × (M.notes s line ≡ part ++ missing)) → ⊥
      by b (inl (more, all, then)) =
          let behind : more ++ f.0 ≡ trace M (suc n) (M.does s line) given =
          append_cancel_left (M.notes s line) (more ++ f.0) (trace M (suc n) (M.does s line) given) (sym (append_assoc (M.notes s line) more f.0) ∙ ap (λ (x : List ℕ). x ++ f.0) (sym all) ∙ b.tail) in
          ih lines (suc n) (M.does s line) more missing torn each.1 b.counts (f.0, sym behind) then apart
          (λ e l u c. other e l u (subst (λ (k : ℕ). BeginsWithNote (suc k) l u torn) (same_counts n (length lines)) c))
          (subst (λ (k : ℕ). CanFollow k torn) (sym (same_counts n (length lines))) some)
      by b (inr (none, lost, part, here, all)) =
          missing_is missing torn (trace M (suc n) (M.does s line) given) f.0 (n + suc (length lines)) apart lost
          (append_cancel_left part (torn ++ f.0) (missing ++ trace M (suc n) (M.does s line) given)
          (sym (append_assoc part torn f.0) ∙ ap (λ (x : List ℕ). x ++ f.0) (sym here) ∙ b.tail ∙ ap (λ (x : List ℕ). x ++ trace M (suc n) (M.does s line) given) all ∙ append_assoc part missing (trace M (suc n) (M.does s line) given)))
          some

      go : (b : Bool) → M.changes s o ≡ b → ⊥
      go true e = by (behind n s o line given bytes rest each.0 e lt f note) how
      go false e =
          ih (line ∷ lines) n s bytes missing torn each.1 (subst (λ (k : ℕ). k < 2 ^ 64) (counts_quiet M quiet n s o given e) lt)
          (f.0, sym (trace_quiet M quiet n s o given e) ∙ f.1) (rest, note, changed, how) apart other some

  pub no_damage : (given lines : List (List ℕ)) → Damages given lines
  no_damage given [] n s bytes missing torn each lt f r apart other some =
      next_is given n s torn each lt (subst (λ (x : List ℕ). IsFirstOf x (trace M n s given)) r.1 f)
      (λ line rest b. other r.0 line rest (subst (λ (k : ℕ). BeginsWithNote (suc k) line rest torn) (plus n) b))
      (subst (λ (k : ℕ). CanFollow k torn) (sym (plus n)) some)
    where
      plus : (k : ℕ) → k ≡ k + 0
      plus k = omega arith
  no_damage [] (line ∷ lines) n s [] missing torn each lt f r apart other some = no_note (suc n) line r.0 r.1
  no_damage [] (line ∷ lines) n s (b ∷ bytes) missing torn each lt f r apart other some = none_is_some b (bytes ++ f.0) f.1
  no_damage (o ∷ given) (line ∷ lines) n s bytes missing torn each lt f r apart other some =
      damage_step o given (λ ls m t bs mi to ea lo fi re ap ot so. no_damage given ls m t bs mi to ea lo fi re ap ot so) line lines n s bytes missing torn each lt f r apart other some

  abbrev Idles : List (List ℕ) → List (List ℕ) → Type 0
  Idles given lines =
      (n : ℕ) (s : M.State) (bytes torn idle tail : List ℕ) → AllByRecursion IsLine given → counted M n s given < 2 ^ 64 → IsFirstOf bytes (trace M n s given)
      → AreRedone M n s bytes lines [] torn → BeginsWithNote (suc (n + length lines)) idle tail torn → M.changes (after M s lines) idle ≡ false → ⊥

  idle_first : (o : List ℕ) (given : List (List ℕ)) → Idles given [] → Idles (o ∷ given) []
  idle_first o given ih n s bytes torn idle tail each lt f r note still = go (M.changes s o) refl
    where
      plus : (k : ℕ) → k + 0 ≡ k
      plus k = omega arith

      here : BeginsWithNote (suc n) idle tail bytes
      here = subst (λ (x : List ℕ). BeginsWithNote (suc n) idle tail x) (sym r.1) (subst (λ (k : ℕ). BeginsWithNote (suc k) idle tail torn) (plus n) note)

      go : (b : Bool) → M.changes s o ≡ b → ⊥
      go true e = let b = behind n s o idle given bytes tail each.0 e lt f here in true≢false (sym e ∙ ap (λ (x : List ℕ). M.changes s x) b.same ∙ still)
      go false e =
          ih n s bytes torn idle tail each.1 (subst (λ (k : ℕ). k < 2 ^ 64) (counts_quiet M quiet n s o given e) lt)
          (f.0, sym (trace_quiet M quiet n s o given e) ∙ f.1) r note still

  idle_step : (o : List ℕ) (given : List (List ℕ)) → ((ls : List (List ℕ)) → Idles given ls) → (line : List ℕ) (lines : List (List ℕ)) → Idles (o ∷ given) (line ∷ lines)
  idle_step o given ih line lines n s bytes torn idle tail each lt f (rest, first, changed, how) note still = go (M.changes s o) refl
    where
      by : Behind n s o line given rest f.0
          → ((more : List ℕ) × (rest ≡ M.notes s line ++ more) × AreRedone M (suc n) (M.does s line) more lines [] torn)
          ⊎ ((lines ≡ []) × (◌≢◌ {A = List ℕ} [] []) × (part : List ℕ) × (rest ≡ part ++ torn) × (M.notes s line ≡ part ++ [])) → ⊥
      by b (inl (more, all, then)) =
          let behind : more ++ f.0 ≡ trace M (suc n) (M.does s line) given =
          append_cancel_left (M.notes s line) (more ++ f.0) (trace M (suc n) (M.does s line) given) (sym (append_assoc (M.notes s line) more f.0) ∙ ap (λ (x : List ℕ). x ++ f.0) (sym all) ∙ b.tail) in
          ih lines (suc n) (M.does s line) more torn idle tail each.1 b.counts (f.0, sym behind) then
          (subst (λ (k : ℕ). BeginsWithNote (suc k) idle tail torn) (sym (same_counts n (length lines))) note) still
      by b (inr (none, lost, part, here, all)) = lost refl

      go : (b : Bool) → M.changes s o ≡ b → ⊥
      go true e = by (behind n s o line given bytes rest each.0 e lt f first) how
      go false e =
          ih (line ∷ lines) n s bytes torn idle tail each.1 (subst (λ (k : ℕ). k < 2 ^ 64) (counts_quiet M quiet n s o given e) lt)
          (f.0, sym (trace_quiet M quiet n s o given e) ∙ f.1) (rest, first, changed, how) note still

  pub no_idle : (given lines : List (List ℕ)) → Idles given lines
  no_idle [] [] n s [] torn idle tail each lt f r note still = no_note (suc (n + 0)) idle tail (subst (λ (x : List ℕ). BeginsWithNote (suc (n + 0)) idle tail x) (sym r.1) note)
  no_idle [] [] n s (b ∷ bytes) torn idle tail each lt f r note still = none_is_some b (bytes ++ f.0) f.1
  no_idle [] (line ∷ lines) n s [] torn idle tail each lt f r note still = no_note (suc n) line r.0 r.1
  no_idle [] (line ∷ lines) n s (b ∷ bytes) torn idle tail each lt f r note still = none_is_some b (bytes ++ f.0) f.1
  no_idle (o ∷ given) [] n s bytes torn idle tail each lt f r note still =
      idle_first o given (λ m t bs to id ta ea lo fi re ne st. no_idle given [] m t bs to id ta ea lo fi re ne st) n s bytes torn idle tail each lt f r note still
  no_idle (o ∷ given) (line ∷ lines) n s bytes torn idle tail each lt f r note still =
      idle_step o given (λ ls m t bs to id ta ea lo fi re ne st. no_idle given ls m t bs to id ta ea lo fi re ne st) line lines n s bytes torn idle tail each lt f r note still
