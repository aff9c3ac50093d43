-- The locks of names come back of their journal.
use Rattle.std.proofs.Common.{◌≡◌, ℕ, zero, suc, ◌≤◌, List, [], ◌∷◌, ◌++◌, Option, Some, None, inr, refl, sym, ap, subst, ◌∙◌, append_assoc, arith}
use Rattle.line_service.specs.Answering.{Answers}
use Rattle.line_service.specs.Stands.{Stand, by_stand, stand}
use Rattle.segment_files.specs.Remarks.{without_remarks}
use Rattle.segment_files.proofs.Hashless.{no_hash_head}
use Rattle.segment_files.proofs.Remarked.{plain_then, without_append}
use Rattle.ring_service.specs.Recovered.{IsPrefix}
use Rattle.name_remarks.specs.Remarks.{bind, top, remark_text}
use Rattle.name_remarks.specs.Bindings.{binds, text_of}
use Rattle.lock_names.specs.Names.{Bound}
use Rattle.lock_names.specs.Kept.{NamedView}
use Rattle.lock_journal.specs.Segments.{content_of}
use Rattle.lock_journal.specs.Begun.{begun_text, HaveBegun, AreAnswered}
use Rattle.lock_journal.specs.Recovered.{ComeBack}
use Rattle.lock_journal.proofs.CutRemarks.{without_cut}
use Rattle.lock_journal.proofs.Keeping.{nothing_told_is_lost}
use Rattle.lock_journal.proofs.Restarting.{locks_come_back}
use Rattle.lock_journal.proofs.WithoutRemarks.{head_ends, torn_none}
use Rattle.name_service.specs.declared.service.NameTerms.{NameTerms}
use Rattle.name_service.specs.declared.service.NameService.{NameService}
use Rattle.name_service.specs.Naming.{NamingView}
use Rattle.name_service.specs.Noting.{binding_of}
use Rattle.name_service.specs.Serving.{IsNameLineAnswered, IsNameServed}
use Rattle.name_service.specs.NamesText.{bindings_of, pool_bindings, names_text}
use Rattle.name_service.specs.RightNames.{AreSpelled, AreRightNames}
use Rattle.name_service.specs.RingLines.{ring_segment, HaveRingLines}
use Rattle.name_service.specs.NameLines.{AreNamesAnswered, ServedNameLinesAreAnswered, AnsweredNameLinesFollow, begun_names, NamedLocksComeBack, NothingToldOfNamesIsLost}
use Rattle.name_service.proofs.PlainNotes.{AreRemarks, remarks_none, remarks_both, remark_bind, remark_top}
use Rattle.name_service.proofs.RightNames.{lines_right}
use Rattle.name_service.proofs.RingLined.{name_lines_are_ring_lines}

-- ---- lines follow

pub served_name_lines : ServedNameLinesAreAnswered
served_name_lines old new was is lines said noted noting a = (record { noting = noting; answers = go old.terms (stand old was) lines said noted refl a }, kept (stand old was) lines said noted a)
  where
    go : (terms : NameTerms) (now : Stand NameService) (more : List (List ℕ)) (unsaid notes : List ℕ) → now.service.terms ≡ terms → Answers (by_stand IsNameServed) now more unsaid notes (stand new is) → Answers (IsNameLineAnswered terms) now.service.segment more unsaid notes new.segment
    go terms now [] unsaid notes e b = (b.0, b.1, ap (λ (s : Stand NameService). s.service.segment) b.2)
    go terms now (line ∷ more) unsaid notes e b = (
      b.0.service.segment,
      b.1,
      b.2,
      b.3,
      b.4,
      subst (λ (t : NameTerms). IsNameLineAnswered t now.service.segment line b.1 b.3 b.0.service.segment) e b.5.answered,
      b.6,
      b.7,
      go terms b.0 more b.2 b.4 (b.5.terms ∙ e) b.8,
    )

    kept : (now : Stand NameService) (more : List (List ℕ)) (unsaid notes : List ℕ) → Answers (by_stand IsNameServed) now more unsaid notes (stand new is) → is ≡ now.files
    kept now [] unsaid notes b = ap (λ (s : Stand NameService). s.files) b.2
    kept now (line ∷ more) unsaid notes b = kept b.0 more b.2 b.4 b.8 ∙ b.5.files

pub answered_name_lines : AnsweredNameLinesFollow
answered_name_lines terms old mid new lines more said noted unsaid notes a b = record { noting = a.noting; answers = go old lines said noted a.answers }
  where
    go : (now : NamingView) (xs : List (List ℕ)) (s n : List ℕ) → Answers (IsNameLineAnswered terms) now xs s n mid → Answers (IsNameLineAnswered terms) now (xs ++ more) (s ++ unsaid) (n ++ notes) new
    go now [] s n k =
        subst (λ (x : NamingView). Answers (IsNameLineAnswered terms) x more (s ++ unsaid) (n ++ notes) new) k.2
        (subst (λ (x : List ℕ). Answers (IsNameLineAnswered terms) mid more (x ++ unsaid) (n ++ notes) new) (sym k.0) (subst (λ (x : List ℕ). Answers (IsNameLineAnswered terms) mid more unsaid (x ++ notes) new) (sym k.1) b.answers))
    go now (x ∷ xs) s n k = (
      k.0,
      k.1,
      k.2 ++ unsaid,
      k.3,
      k.4 ++ notes,
      k.5,
      ap (λ (u : List ℕ). u ++ unsaid) k.6 ∙ append_assoc k.1 k.2 unsaid,
      ap (λ (u : List ℕ). u ++ notes) k.7 ∙ append_assoc k.3 k.4 notes,
      go k.0 xs k.2 k.4 k.8,
    )

-- ---- the beginning of a segment

binds_gone : (at : ℕ) (os : List (Option Bound)) → AreSpelled os → AreRemarks (text_of (binds at (bindings_of os)))
binds_gone at [] all = remarks_none
binds_gone at (None ∷ os) all = binds_gone (suc at) os (λ i. all (suc i))
binds_gone at (Some b ∷ os) all =
    remarks_both (remark_text (bind at (binding_of b))) (text_of (binds (suc at) (bindings_of os))) (remark_bind at (binding_of b) (all zero b refl)) (binds_gone (suc at) os (λ i. all (suc i)))

pool_gone : (fixed at : ℕ) (os : List (Option Bound)) → AreSpelled os → AreRemarks (text_of (binds at (pool_bindings fixed os)))
pool_gone zero at os all = binds_gone at os all
pool_gone (suc fixed) at [] all = remarks_none
pool_gone (suc fixed) at (o ∷ os) all = pool_gone fixed (suc at) os (λ i. all (suc i))

pub names_gone : (v : NamedView) → AreSpelled v.names → AreRemarks (names_text v)
names_gone v all = remarks_both (remark_text (top v.top)) (text_of (binds 0 (pool_bindings v.fixed v.names))) (remark_top v.top) (pool_gone v.fixed 0 v.names all)

-- without the remarks the beginning is that of the rings
pub begun_plain : (v : NamedView) (rest : List ℕ) → HaveBegun v.locks → AreRightNames v → without_remarks (begun_names v ++ rest) ≡ begun_text v.locks ++ without_remarks rest
begun_plain v rest begun right =
    let head : List ℕ = begun_text v.locks in
    let names : List ℕ = names_text v in
    ap (λ (u : List ℕ). without_remarks u) (append_assoc head names rest)
    ∙ (plain_then head (names ++ rest) (inr (head_ends (content_of v.locks))) (no_hash_head (content_of v.locks) begun.text)
    ∙ ap (λ (u : List ℕ). head ++ u) ((names_gone v right.spelled).gone rest))

-- ---- the locks come back

rings_answered : (terms : NameTerms) (old new : NamingView) (lines : List (List ℕ)) (said noted : List ℕ) → AreNamesAnswered terms old lines said noted new → (r : HaveRingLines terms old lines said noted new) →
    AreAnswered terms.lines (ring_segment old.named) r.rings r.told (without_remarks noted) (ring_segment new.named)
rings_answered terms old new lines said noted a r = record { noting = a.noting; answers = r.answers }

pub named_locks_come_back : NamedLocksComeBack
named_locks_come_back terms old new entries lines said noted torn begun right a kept bits none =
    let r = name_lines_are_ring_lines terms old new lines said noted right bits a.answers in
    let head : List ℕ = begun_text old.named.locks in
    let text : without_remarks (begun_names old.named ++ (noted ++ torn)) ≡ head ++ (without_remarks noted ++ without_remarks torn) =
    begun_plain old.named (noted ++ torn) begun right ∙ ap (λ (u : List ℕ). head ++ u) (without_append noted torn r.whole) in
    subst (λ (u : List ℕ). ComeBack old.named.locks new.named.locks u) (sym text)
    (locks_come_back terms.lines (ring_segment old.named) (ring_segment new.named) entries r.rings r.told (without_remarks noted) (without_remarks torn) begun (rings_answered terms old new lines said noted a r) kept (torn_none torn none))

-- ---- nothing that was delivered is lost

pub nothing_told_of_names : NothingToldOfNamesIsLost
nothing_told_of_names terms old mid new entries told untold said noted unsaid notes kept lost begun right a b k bits whole front =
    let middle = lines_right terms old mid told said noted right a.answers in
    let end = lines_right terms mid new untold unsaid notes middle.right b.answers in
    let more : mid.named.top ≤ new.named.top = end.more in
    let r = name_lines_are_ring_lines terms old mid told said noted right (omega (arith, more, bits)) a.answers in
    let s = name_lines_are_ring_lines terms mid new untold unsaid notes middle.right bits b.answers in
    let head : List ℕ = begun_text old.named.locks in
    let was : List ℕ = without_remarks noted in
    let is : List ℕ = without_remarks notes in
    let all : without_remarks (begun_names old.named ++ (noted ++ notes)) ≡ head ++ (was ++ is) =
    begun_plain old.named (noted ++ notes) begun right ∙ ap (λ (u : List ℕ). head ++ u) (without_append noted notes r.whole) in
    let some : without_remarks (begun_names old.named ++ noted) ≡ head ++ was = begun_plain old.named noted begun right in
    let cut = without_cut kept (begun_names old.named ++ (noted ++ notes)) (lost, sym whole) in
    let first = without_cut (begun_names old.named ++ noted) kept front in
    record {
      of_rings = r;
      kept = nothing_told_is_lost terms.lines (ring_segment old.named) (ring_segment mid.named) (ring_segment new.named) entries r.rings s.rings r.told was s.told is (without_remarks kept) cut.0 begun (rings_answered terms old mid told said noted a r)
          (rings_answered terms mid new untold unsaid notes b s) k (sym cut.1 ∙ all) (subst (λ (u : List ℕ). IsPrefix u (without_remarks kept)) some first);
    }
