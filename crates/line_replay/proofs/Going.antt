-- Lines that are done again, one after the other.
use Rattle.std.proofs.Common.{◌≡◌, ◌≢◌, ℕ, suc, ◌+◌, ◌-◌, ◌≤◌, true, false, List, [], ◌∷◌, ◌++◌, length, drop, refl, sym, ap, subst, ◌∙◌, append_assoc, arith}
use Rattle.std.proofs.lemmas.List.{append-nil, length-append}
use Rattle.std.proofs.Math.Seq.{drop-append_seam}
use Rattle.noted_lines.specs.Notes.{note_text}
use Rattle.line_replay.specs.declared.replaying.Replay.{Replay}
use Rattle.line_replay.specs.declared.replaying.ReplayError.{ReplayError}
use Rattle.line_replay.specs.declared.replaying.ReplayError.TheVariants as error
use Rattle.line_replay.specs.Machines.{Machine, after}
use Rattle.line_replay.specs.Following.{BeginsWithNote, CanFollow, BeginApart}
use Rattle.line_replay.specs.Redone.{AreRedone, IsReplayed, IsIdle, IsRefused, EndsSo, EndIsRefused}
use Rattle.line_replay.proofs.Redoing.{after_more, one_more, last_one}

plus : (k : ℕ) → k ≡ k + 0
plus k = omega arith

length_both : (these those : List (List ℕ)) → length (these ++ those) ≡ length these + length those
length_both [] those = omega arith
length_both (x ∷ these) those = let e = length_both these those in omega (arith, e)

module _ (M : Machine) where
  -- these lines were done again, and the rest of the bytes comes after them
  pub record Reached (n : ℕ) (s : M.State) (bytes : List ℕ) (count : ℕ) (now : M.State) (rest : List ℕ) : Type 0 where
    pub done : List (List ℕ)
    pub front : List ℕ
    pub split : bytes ≡ front ++ rest
    pub state : now ≡ after M s done
    pub counts : count ≡ n + length done
    pub goes : (lines : List (List ℕ)) (missing torn : List ℕ) → AreRedone M count now rest lines missing torn → AreRedone M n s bytes (done ++ lines) missing torn

  pub begun : (n : ℕ) (s : M.State) (bytes : List ℕ) → Reached n s bytes n s bytes
  begun n s bytes = record { done = []; front = []; split = refl; state = refl; counts = plus n; goes = λ lines missing torn r. r }

  module _ (n : ℕ) (s : M.State) (bytes : List ℕ) (count : ℕ) (now : M.State) (rest : List ℕ) (h : Reached n s bytes count now rest) where
    -- a line more
    pub goes_on : (line tail more : List ℕ) → BeginsWithNote (suc count) line tail rest → M.changes now line ≡ true → tail ≡ M.notes now line ++ more → (next : M.State) → next ≡ M.does now line → Reached n s bytes (suc count) next more
    goes_on line tail more note changed all next is =
        record {
          done = h.done ++ line ∷ [];
          front = h.front ++ (note_text (suc count) line ++ M.notes now line);
          split = h.split ∙ ap (λ (x : List ℕ). h.front ++ x) (note.is ∙ ap (λ (x : List ℕ). note_text (suc count) line ++ x) all ∙ sym (append_assoc (note_text (suc count) line) (M.notes now line) more))
              ∙ sym (append_assoc h.front (note_text (suc count) line ++ M.notes now line) more);
          state = is ∙ ap (λ (t : M.State). M.does t line) h.state ∙ sym (after_more M s h.done line);
          counts = counted;
          goes = λ lines missing torn r.
              subst (λ (ls : List (List ℕ)). AreRedone M n s bytes ls missing torn) (sym (append_assoc h.done (line ∷ []) lines))
              (h.goes (line ∷ lines) missing torn (one_more M count now rest line tail more lines missing torn note changed all
              (subst (λ (t : M.State). AreRedone M (suc count) t more lines missing torn) is r)));
        }
      where
        counted : suc count ≡ n + length (h.done ++ line ∷ [])
        counted = let e = h.counts in let l = length_both h.done (line ∷ []) in omega (arith, e, l)

    ends : (r : Replay) (lines : List (List ℕ)) (missing torn : List ℕ) (final : ℕ) → AreRedone M n s bytes lines missing torn → final ≡ n + length lines → BeginApart missing torn → EndsSo final bytes torn missing r → IsReplayed M n s bytes r (after M s lines)
    ends r lines missing torn final redone counts apart e =
        record {
          lines = lines;
          redone = subst (λ (x : List ℕ). AreRedone M n s bytes lines x (drop r.kept bytes)) (sym e.misses) (subst (λ (x : List ℕ). AreRedone M n s bytes lines missing x) (sym e.keeps) redone);
          state = refl;
          count = e.counts ∙ counts;
          within = e.within;
          apart = subst (λ (x : List ℕ). BeginApart x (drop r.kept bytes)) (sym e.misses) (subst (λ (x : List ℕ). BeginApart missing x) (sym e.keeps) apart);
          none = subst (λ (k : ℕ). ¬ CanFollow k (drop r.kept bytes)) (sym e.counts) (subst (λ (x : List ℕ). ¬ CanFollow final x) (sym e.keeps) e.none);
        }

    -- no line more
    pub ends_here : (r : Replay) → EndsSo count bytes rest [] r → IsReplayed M n s bytes r now
    ends_here r e =
        subst (λ (t : M.State). IsReplayed M n s bytes r t) (sym h.state)
        (ends r h.done [] rest count (subst (λ (ls : List (List ℕ)). AreRedone M n s bytes ls [] rest) (append-nil h.done) (h.goes [] [] rest (refl, refl))) h.counts tt e)

    pub refused_here : (e : ReplayError) → EndIsRefused count bytes rest e → ((line tail : List ℕ) → ¬ BeginsWithNote (suc count) line tail rest) → IsRefused M n s bytes e
    refused_here (error.Damaged place) e other =
        record {
          lines = h.done;
          missing = [];
          redone = subst (λ (x : List ℕ). AreRedone M n s bytes h.done [] x) (sym e.0) (subst (λ (ls : List (List ℕ)). AreRedone M n s bytes ls [] rest) (append-nil h.done) (h.goes [] [] rest (refl, refl)));
          apart = tt;
          other = λ none line tail b. other line tail (subst (λ (k : ℕ). BeginsWithNote (suc k) line tail rest) (sym h.counts) (subst (λ (x : List ℕ). BeginsWithNote (suc (n + length h.done)) line tail x) e.0 b));
          some = subst (λ (k : ℕ). CanFollow k (drop place bytes)) h.counts (subst (λ (x : List ℕ). CanFollow count x) (sym e.0) e.1);
        }
    refused_here (error.Idle place) e other = absurd e
    refused_here error.OutOfMemory e other = tt

    -- the last line, with a part of what it notes
    module _ (line tail part missing torn : List ℕ) (note : BeginsWithNote (suc count) line tail rest) (changed : M.changes now line ≡ true) (some : missing ≢ []) (here : tail ≡ part ++ torn) (all : M.notes now line ≡ part ++ missing) (apart : BeginApart missing torn) where
      lasts : AreRedone M n s bytes (h.done ++ line ∷ []) missing torn
      lasts = h.goes (line ∷ []) missing torn (last_one M count now rest line tail part missing torn note changed some here all)

      counted : suc count ≡ n + length (h.done ++ line ∷ [])
      counted = let e = h.counts in let l = length_both h.done (line ∷ []) in omega (arith, e, l)

      pub ends_amid : (r : Replay) (next : M.State) → next ≡ M.does now line → EndsSo (suc count) bytes torn missing r → IsReplayed M n s bytes r next
      ends_amid r next is e =
          subst (λ (t : M.State). IsReplayed M n s bytes r t) (after_more M s h.done line ∙ sym (is ∙ ap (λ (t : M.State). M.does t line) h.state))
          (ends r (h.done ++ line ∷ []) missing torn (suc count) lasts counted apart e)

      pub refused_amid : (e : ReplayError) → EndIsRefused (suc count) bytes torn e → IsRefused M n s bytes e
      refused_amid (error.Damaged place) e =
          record {
            lines = h.done ++ line ∷ [];
            missing = missing;
            redone = subst (λ (x : List ℕ). AreRedone M n s bytes (h.done ++ line ∷ []) missing x) (sym e.0) lasts;
            apart = subst (λ (x : List ℕ). BeginApart missing x) (sym e.0) apart;
            other = λ none. absurd (some none);
            some = subst (λ (k : ℕ). CanFollow k (drop place bytes)) counted (subst (λ (x : List ℕ). CanFollow (suc count) x) (sym e.0) e.1);
          }
      refused_amid (error.Idle place) e = absurd e
      refused_amid error.OutOfMemory e = tt

    -- a line that changes nothing
    pub idle_here : (line tail : List ℕ) (place : ℕ) → BeginsWithNote (suc count) line tail rest → M.changes now line ≡ false → drop place bytes ≡ rest → IsIdle M n s bytes place
    idle_here line tail place note still is =
        record {
          lines = h.done;
          line = line;
          rest = tail;
          redone = subst (λ (x : List ℕ). AreRedone M n s bytes h.done [] x) (sym is) (subst (λ (ls : List (List ℕ)). AreRedone M n s bytes ls [] rest) (append-nil h.done) (h.goes [] [] rest (refl, refl)));
          note = subst (λ (k : ℕ). BeginsWithNote (suc k) line tail (drop place bytes)) h.counts (subst (λ (x : List ℕ). BeginsWithNote (suc count) line tail x) (sym is) note);
          idle = subst (λ (t : M.State). M.changes t line ≡ false) h.state still;
        }

-- ---- the place where the bytes at the end begin

pub not_more : (bytes torn : List ℕ) → ((front : List ℕ) × (bytes ≡ front ++ torn)) → length torn ≤ length bytes
not_more bytes torn p =
    let l = length-append p.0 torn in
    let e : length bytes ≡ length (p.0 ++ torn) = ap (λ (x : List ℕ). length x) p.1 in
    omega (arith, l, e)

pub at_place : (bytes torn : List ℕ) → ((front : List ℕ) × (bytes ≡ front ++ torn)) → drop (length bytes - length torn) bytes ≡ torn
at_place bytes torn p =
    ap (λ (x : List ℕ). drop (length x - length torn) x) p.1 ∙ ap (λ (k : ℕ). drop k (p.0 ++ torn)) less ∙ drop-append_seam p.0 torn
  where
    less : length (p.0 ++ torn) - length torn ≡ length p.0
    less = let l = length-append p.0 torn in omega (arith, l)
