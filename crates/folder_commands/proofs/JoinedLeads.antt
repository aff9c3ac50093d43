-- The files of a folder that are joined, one after the other.
use Rattle.std.proofs.Common.{◌≡◌, ℕ, ◌+◌, ◌<◌, List, [], ◌∷◌, ◌++◌, length, Bool, true, false, eqb, Option, Some, None, refl, sym, ap, subst, ◌∙◌, arith, length-append, eqb-true, eq-eqb}
use Rattle.std.proofs.lemmas.Bool.{false_from_ne_true}
use Rattle.disks.specs.Held.{Held, IsHeld}
use Rattle.line_service.specs.declared.segment_numbers.SegmentNumbers.{SegmentNumbers}
use Rattle.line_service.specs.SegmentNames.{segment_file}
use Rattle.saved_history.specs.Content.{Block}
use Rattle.segment_files.specs.declared.sums.ChainSums.{ChainSums}
use Rattle.segment_files.specs.Files.{File, AreChained}
use Rattle.segment_files.specs.Sums.{no_sums, sums_after}
use Rattle.segment_files.specs.Chain.{State, LeadTo, sums_at}
use Rattle.segment_files.proofs.Adding.{chained, led_on}
use Rattle.chain_readers.specs.Joining.{with_file, with_files}
use Rattle.chain_readers.specs.Joins.{Joined, IsJoinedWith, IsCount}
use Rattle.chain_readers.proofs.RingCounts.{files_more, joined_have_rings}
use Rattle.tool_parts.specs.declared.faults.ToolError.{ToolError}
use Rattle.folder_commands.specs.JoinedFolder.{IsUnjoined, IsJoinRefused}
use Rattle.folder_commands.specs.JoinSteps.{JoinLeads, JoinEnds}
use Rattle.tool_parts.proofs.Leads.{led_sums, sums_more, held_more, held_at}

pub none_joined : (files : Option Held) (name : List ℕ) (first : ℕ) (l : Joined) → l ≡ record { state = None; blocks = [] } → JoinLeads files name first first l
none_joined files name first l e = record { fs = []; lead = sym (ap (λ (x : Joined). x.state) e); held = tt; many = omega arith; blocks = ap (λ (x : Joined). x.blocks) e }

blocks_more : (l m : Joined) (fs : List File) (bytes : List ℕ) (last : Bool) (j : IsJoinedWith l bytes last m) → l.blocks ≡ with_files [] fs → m.blocks ≡ with_files [] (fs ++ j.added.file ∷ [])
blocks_more l m fs bytes last j so = j.blocks ∙ ap (λ (ks : List Block). with_file ks j.added.file) so ∙ sym (files_more [] fs j.added.file)

pub joined_on : (files : Option Held) (name : List ℕ) (first next : ℕ) (l m : Joined) (bytes : List ℕ) → JoinLeads files name first next l
    → IsHeld files (segment_file name next) bytes → IsJoinedWith l bytes false m → JoinLeads files name first (next + 1) m
joined_on files name first next l m bytes so h j =
    let a = j.added in
    let more = length-append so.fs (a.file ∷ []) in
    let many = so.many in
    record {
      fs = so.fs ++ a.file ∷ [];
      lead = subst (λ (x : Option State). LeadTo None (so.fs ++ a.file ∷ []) x) (ap (λ (x : State). Some x) (sym a.next) ∙ sym j.next) (led_on a.file None so.fs l.state so.lead a.follows (a.whole refl));
      held = held_more files name first so.fs a.file so.held (held_at files name (first + length so.fs) next bytes a.file.bytes so.many a.same h);
      many = omega (arith, more, many);
      blocks = blocks_more l m so.fs bytes false j so.blocks;
    }

-- the last file
pub joined_end : (files : Option Held) (name : List ℕ) (first last : ℕ) (l m : Joined) (bytes : List ℕ) → JoinLeads files name first last l
    → IsHeld files (segment_file name last) bytes → IsJoinedWith l bytes true m → JoinEnds files name first last m
joined_end files name first last l m bytes so h j =
    let a = j.added in
    let more = length-append so.fs (a.file ∷ []) in
    let many = so.many in
    let all : AreChained (so.fs ++ a.file ∷ []) = chained a.file so.fs l.state so.lead a.follows in
    let blocks : m.blocks ≡ with_files [] (so.fs ++ a.file ∷ []) = blocks_more l m so.fs bytes true j so.blocks in
    record {
      fs = so.fs ++ a.file ∷ [];
      held = held_more files name first so.fs a.file so.held (held_at files name (first + length so.fs) last bytes a.file.bytes so.many a.same h);
      many = omega (arith, more, many);
      chained = all;
      sums = ap sums_at j.next ∙ ap (λ (x : State). x.sums) a.next ∙ ap (λ (x : ChainSums). sums_after x a.file) (led_sums None so.fs l.state so.lead) ∙ sym (sums_more no_sums so.fs a.file);
      blocks = blocks;
      count = subst (λ (ks : List Block). IsCount (length ks)) (sym blocks) (joined_have_rings (so.fs ++ a.file ∷ []) all (omega (arith, more)));
    }

-- ---- refusals

-- a file before the last is refused, and the last one
pub unjoined_at : (files : Option Held) (name : List ℕ) (r : SegmentNumbers) (next : ℕ) (l : Joined) (e : ToolError) → JoinLeads files name r.first next l → next < r.last
    → IsUnjoined files name next l false e → IsJoinRefused files name r e
unjoined_at files name r next l e so before h =
    let flag : eqb (r.first + length so.fs) r.last ≡ false =
    false_from_ne_true (eqb (r.first + length so.fs) r.last) (λ y. let same = eqb-true (r.first + length so.fs) r.last y in let many = so.many in omega (arith, before)) in
    (so.fs, l, so.lead, so.blocks, so.held, subst (λ b. IsUnjoined files name (r.first + length so.fs) l b e) (sym flag) (subst (λ k. IsUnjoined files name k l false e) (sym so.many) h))

pub unjoined_last : (files : Option Held) (name : List ℕ) (r : SegmentNumbers) (l : Joined) (e : ToolError) → JoinLeads files name r.first r.last l
    → IsUnjoined files name r.last l true e → IsJoinRefused files name r e
unjoined_last files name r l e so h =
    let flag : eqb (r.first + length so.fs) r.last ≡ true = eq-eqb (r.first + length so.fs) r.last so.many in
    (so.fs, l, so.lead, so.blocks, so.held, subst (λ b. IsUnjoined files name (r.first + length so.fs) l b e) (sym flag) (subst (λ k. IsUnjoined files name k l true e) (sym so.many) h))
