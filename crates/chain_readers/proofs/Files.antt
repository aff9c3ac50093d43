-- The file that is read again is the one that was added.
use Rattle.std.proofs.Common.{◌≡◌, ℕ, Bool, List, [], ◌∷◌, ◌++◌, map, refl, sym, ap, ◌∙◌, subst, Option, Some, None, Result, Ok, Err}
use Rattle.saved_history.specs.declared.saved.SavedRing.{SavedRing}
use Rattle.ring_model.specs.declared.bases.Base.{Base}
use Rattle.saved_history.specs.Content.{block_of}
use Rattle.segment_files.specs.declared.segments.Segment.{Segment}
use Rattle.segment_files.specs.Files.{File, IsFile}
use Rattle.segment_files.specs.Chain.{State, file_in, IsAdded}
use Rattle.segment_files.specs.Chain as segments
use Rattle.segment_files.proofs.OneFiles.{one_file}
use Rattle.segment_files.proofs.Adding.{chained, led_on}
use Rattle.chain_readers.specs.declared.hold_errors.ChainHoldError.{ChainHoldError}
use Rattle.chain_readers.specs.declared.hold_errors.ChainHoldError.TheVariants.{Segment as Segment_, NoHold, OutOfMemory}
use Rattle.chain_readers.specs.Known.{Known}
use Rattle.chain_readers.specs.Chains.{Part, parts_of, locks_opened, with_parts, holds_with_file, LeadTo, HoldsSoFar, IsHoldRefusal}
use Rattle.chain_readers.specs.ChainLaws.{ReadFilesTell}
use Rattle.chain_readers.specs.ChainSteps.{ArePartsRead}

-- its segments
abbrev pub of_segment : Segment → List Part
of_segment s = parts_of s.head.bases.items (map block_of s.saved.rings.items)

module _ (old : HoldsSoFar) (bytes : List ℕ) (last : Bool) (s : State) (a : IsAdded old.state bytes last s) (segment : Segment) (is : IsFile (file_in bytes segment)) where
  same : file_in bytes segment ≡ a.file
  same = sym (one_file a.file (file_in bytes segment) a.same a.follows.file is)

  pub files_read : (r : Result (List Known) (ℕ × ℕ)) → with_parts 0 (locks_opened old.locks (of_segment segment)) (of_segment segment) ≡ r → holds_with_file old.locks a.file ≡ r
  files_read r e = ap (λ (f : File). holds_with_file old.locks f) (sym same) ∙ e

  pub files_refused : (e : ChainHoldError) (ms : List Known) → ArePartsRead (locks_opened old.locks (of_segment segment)) (of_segment segment) (Err e) ms → IsHoldRefusal old bytes last e
  files_refused (Segment_ e) ms r = absurd r
  files_refused (NoHold lock at) ms r = (s, a, files_read (Err (lock, at)) r)
  files_refused OutOfMemory ms r = tt

-- ---- the lists that the calls are given are those of the file

module _ (ks : List Known) (bs bs1 bs2 : List Base) (rs rs1 rs2 : List SavedRing) (opened_ks : List Known) where
  pub parts_read : (r : Result (List Known) (ℕ × ℕ)) → bs1 ≡ bs → bs2 ≡ bs → rs1 ≡ rs → rs2 ≡ rs → opened_ks ≡ locks_opened ks (parts_of bs1 (map block_of rs1)) →
      with_parts 0 opened_ks (parts_of bs2 (map block_of rs2)) ≡ r → with_parts 0 (locks_opened ks (parts_of bs (map block_of rs))) (parts_of bs (map block_of rs)) ≡ r
  parts_read r b1 b2 r1 r2 o e =
      let opens : opened_ks ≡ locks_opened ks (parts_of bs (map block_of rs)) =
      o ∙ ap (λ (u : List Base). locks_opened ks (parts_of u (map block_of rs1))) b1 ∙ ap (λ (u : List SavedRing). locks_opened ks (parts_of bs (map block_of u))) r1 in
      ap (λ (u : List Known). with_parts 0 u (parts_of bs (map block_of rs))) (sym opens)
      ∙ ap (λ (u : List Base). with_parts 0 opened_ks (parts_of u (map block_of rs))) (sym b2)
      ∙ ap (λ (u : List SavedRing). with_parts 0 opened_ks (parts_of bs2 (map block_of u))) (sym r2) ∙ e

  pub parts_refused : (e : ChainHoldError) (ms : List Known) → bs1 ≡ bs → bs2 ≡ bs → rs1 ≡ rs → rs2 ≡ rs → opened_ks ≡ locks_opened ks (parts_of bs1 (map block_of rs1)) →
      ArePartsRead opened_ks (parts_of bs2 (map block_of rs2)) (Err e) ms → ArePartsRead (locks_opened ks (parts_of bs (map block_of rs))) (parts_of bs (map block_of rs)) (Err e) ms
  parts_refused (Segment_ e) ms b1 b2 r1 r2 o r = r
  parts_refused (NoHold lock at) ms b1 b2 r1 r2 o r = parts_read (Err (lock, at)) b1 b2 r1 r2 o r
  parts_refused OutOfMemory ms b1 b2 r1 r2 o r = tt

-- ---- files that were read one after the other

pub told_on : (ks : List Known) (fs : List File) (ms ns : List Known) (f : File) → LeadTo ks fs ms → holds_with_file ms f ≡ Ok ns → LeadTo ks (fs ++ f ∷ []) ns
told_on ks [] ms ns f t e = (ns, ap (λ (u : List Known). holds_with_file u f) t ∙ e, refl)
told_on ks (g ∷ fs) ms ns f t e = (t.0, t.1, told_on t.0 fs ms ns f t.2 e)

pub read_files_tell : ReadFilesTell
read_files_tell fs old new bytes last lead told h = record {
  file = h.added.file;
  same = h.added.same;
  chain = chained h.added.file fs old.state lead h.added.follows;
  told = told_on [] fs old.locks new.locks h.added.file told h.locks;
  on = λ e. subst (λ (x : Option State). segments.LeadTo None (fs ++ h.added.file ∷ []) x) (ap (λ (x : State). Some x) (sym h.added.next) ∙ sym h.next) (led_on h.added.file None fs old.state lead h.added.follows (h.added.whole e));
}
