-- The names of rings come back of whatever is kept of the notes of lines.
use Rattle.std.proofs.Common.{◌≡◌, ℕ, ◌^◌, ◌<◌, ◌≤◌, true, List, [], ◌∷◌, ◌++◌, length, ◌⊎◌, inl, inr, refl, sym, ap, subst, ◌∙◌, append_assoc, append-nil, arith}
use Rattle.std.proofs.lemmas.List.{append_cancel_left}
use Rattle.segment_files.specs.Remarks.{lines_in}
use Rattle.segment_files.specs.RemarkLaws.{AreLines}
use Rattle.ring_service.specs.Recovered.{IsPrefix}
use Rattle.line_service.specs.Answering.{Answers}
use Rattle.name_remarks.specs.Bindings.{Bindings, nothing, AreTakenIn}
use Rattle.lock_journal.specs.Begun.{begun_text}
use Rattle.lock_journal.specs.Segments.{content_of}
use Rattle.lock_journal.proofs.WholeEnds.{within}
use Rattle.lock_journal.proofs.WholeTexts.{of_both}
use Rattle.lock_journal.proofs.WithoutRemarks.{head_ends}
use Rattle.name_service.specs.declared.service.NameTerms.{NameTerms}
use Rattle.name_service.specs.Naming.{NamingView}
use Rattle.name_service.specs.NamesText.{names_text}
use Rattle.name_service.specs.Serving.{IsNameLineAnswered}
use Rattle.name_service.specs.RightNames.{AreRightNames}
use Rattle.name_service.specs.NameLines.{begun_names}
use Rattle.name_service.specs.NamesKept.{HaveNoted, EndsWithin, AreCutAt, names_between, NamesComeBackOfWhateverIsKept}
use Rattle.name_service.proofs.CutNotes.{IsCutSo, none_taken, line_cut}
use Rattle.name_service.proofs.CutTexts.{nothing_first, lines_after, HasFirst, front_of_both}
use Rattle.name_service.proofs.NamedJournals.{names_gone}
use Rattle.name_service.proofs.RightNames.{line_right, lines_right}
use Rattle.name_service.proofs.RingLined.{name_lines_are_ring_lines}
use Rattle.name_service.proofs.TakenLines.{line_recorded, names_come_back}
use Rattle.name_service.proofs.TakenNotes.{IsTakenText, taken_both, recorded_of}

-- the lines are cut where these bytes end, which record the names there
pub record AreCutSo (floor : ℕ) (terms : NameTerms) (old : NamingView) (all : List (List ℕ)) (bytes : List ℕ) (new : NamingView) : Type 0 where
  pub cut : AreCutAt terms old all bytes new
  pub first : ℕ
  pub taken : IsTakenText bytes (recorded_of floor old.named.fixed old.named.names) (recorded_of floor cut.at.named.fixed (names_between first cut.at.named cut.next.named))

module _ (floor : ℕ) (terms : NameTerms) (noting : terms.lines.noting ≡ true) where
  none_noted : (old new : NamingView) → new ≡ old → HaveNoted terms old [] [] new
  none_noted old new e = ([], record { noting = noting; answers = (refl, refl, e) })

  -- no line is left, and nothing of their notes
  at_end : (old new : NamingView) (bytes : List ℕ) → new ≡ old → bytes ≡ [] → AreCutSo floor terms old [] bytes new
  at_end old new bytes same none =
      let c : AreCutAt terms old [] bytes new = record {
        done = [];
        one = [];
        rest = [];
        parts = refl;
        few = omega arith;
        at = old;
        next = old;
        noted = [];
        note = [];
        before = none_noted old old refl;
        here = none_noted old old refl;
        later = ([], none_noted old new same);
        has = ([], none);
        ends = inl (refl, none);
      } in
      record { cut = c; first = 0; taken = none_taken bytes (recorded_of floor old.named.fixed old.named.names) none }

  module _ (old mid new : NamingView) (line : List ℕ) (all : List (List ℕ)) (said note later notes : List ℕ) (one : IsNameLineAnswered terms old line said note mid) (rest : Answers (IsNameLineAnswered terms) mid all later notes new) (bytes : List ℕ) where
    -- of the first line there is a part
    at_first : EndsWithin note bytes → IsCutSo floor old.named.fixed old.named.names mid.named.names bytes → AreCutSo floor terms old (line ∷ all) bytes new
    at_first w k =
        let c : AreCutAt terms old (line ∷ all) bytes new = record {
          done = [];
          one = line ∷ [];
          rest = all;
          parts = refl;
          few = omega arith;
          at = old;
          next = mid;
          noted = [];
          note = note;
          before = none_noted old old refl;
          here = (said, record { noting = noting; answers = (mid, said, [], note, [], one, sym (append-nil said), sym (append-nil note), (refl, refl, refl)) });
          later = (notes, (later, record { noting = noting; answers = rest }));
          has = (bytes, refl);
          ends = inr w;
        } in
        record { cut = c; first = k.first; taken = k.taken }

    -- its notes are there whole
    further : (b : HasFirst note notes bytes) (noted next : List ℕ) (one_more : List (List ℕ)) → ((one_more ≡ []) × (b.rest ≡ noted)) ⊎ EndsWithin (noted ++ next) b.rest → ((one_more ≡ []) × (bytes ≡ note ++ noted)) ⊎ EndsWithin ((note ++ noted) ++ next) bytes
    further b noted next one_more (inl p) = inl (p.0, b.is ∙ ap (λ (u : List ℕ). note ++ u) p.1)
    further b noted next one_more (inr q) = inr (
      q.0,
      q.1,
      append_assoc note noted next ∙ (ap (λ (u : List ℕ). note ++ u) q.2 ∙ (sym (append_assoc note b.rest (q.0 ∷ q.1)) ∙ ap (λ (u : List ℕ). u ++ q.0 ∷ q.1) (sym b.is))),
    )

    at_later : (b : HasFirst note notes bytes) → IsTakenText note (recorded_of floor old.named.fixed old.named.names) (recorded_of floor mid.named.fixed mid.named.names) → AreCutSo floor terms mid all b.rest new → AreCutSo floor terms old (line ∷ all) bytes new
    at_later b t r =
        let k = r.cut in
        let c : AreCutAt terms old (line ∷ all) bytes new = record {
          done = line ∷ k.done;
          one = k.one;
          rest = k.rest;
          parts = ap (λ (u : List (List ℕ)). line ∷ u) k.parts;
          few = k.few;
          at = k.at;
          next = k.next;
          noted = note ++ k.noted;
          note = k.note;
          before = (said ++ k.before.0, record { noting = noting; answers = (mid, said, k.before.0, note, k.noted, one, refl, refl, k.before.1.answers) });
          here = k.here;
          later = k.later;
          has = (k.has.0, b.is ∙ (ap (λ (u : List ℕ). note ++ u) k.has.1 ∙ sym (append_assoc note k.noted k.has.0)));
          ends = further b k.noted k.note k.one k.ends;
        } in
        let end : Bindings = recorded_of floor k.at.named.fixed (names_between r.first k.at.named k.next.named) in
        let both : IsTakenText (note ++ b.rest) (recorded_of floor old.named.fixed old.named.names) end =
        taken_both note b.rest (recorded_of floor old.named.fixed old.named.names) (recorded_of floor mid.named.fixed mid.named.names) end t r.taken in
        record { cut = c; first = r.first; taken = subst (λ (u : List ℕ). IsTakenText u (recorded_of floor old.named.fixed old.named.names) end) (sym b.is) both }

pub lines_cut : (floor : ℕ) (terms : NameTerms) (old new : NamingView) (all : List (List ℕ)) (said noted : List ℕ) → AreRightNames old.named → new.named.top < 2 ^ 64 → terms.lines.noting ≡ true → Answers (IsNameLineAnswered terms) old all said noted new →
    (bytes : List ℕ) → AreLines bytes → IsPrefix bytes noted → AreCutSo floor terms old all bytes new
lines_cut floor terms old new [] said noted right bits noting a bytes ends front = at_end floor terms noting old new bytes a.2 (nothing_first bytes front.0 (sym front.1 ∙ a.1))
lines_cut floor terms old new (line ∷ all) said noted right bits noting a bytes ends front =
    let mid : NamingView = a.0 in
    let here = line_right terms old mid a.1 a.3 right line a.5 in
    let end = lines_right terms mid new all a.2 a.4 here.right a.8 in
    let low : old.named.top ≤ mid.named.top = here.more in
    let high : mid.named.top ≤ new.named.top = end.more in
    let small : old.named.top < 2 ^ 64 = omega (arith, low, high, bits) in
    elim (front_of_both a.3 a.4 bytes ends (front.0, sym a.7 ∙ front.1)) [
      | inl w ↦ at_first floor terms noting old mid new line all a.1 a.3 a.2 a.4 a.5 a.8 bytes w (line_cut floor terms old mid a.1 a.3 right small noting bytes ends (w.0 ∷ w.1, w.2) line a.5)
      | inr b ↦ at_later floor terms noting old mid new line all a.1 a.3 a.2 a.4 a.5 a.8 bytes b (line_recorded floor terms old mid a.1 a.3 right small noting line a.5).taken
          (lines_cut floor terms mid new all a.2 a.4 here.right bits noting a.8 b.rest b.lines b.front)
    ]

pub names_kept : NamesComeBackOfWhateverIsKept
names_kept terms old mid new told untold said noted unsaid notes kept lost front torn begun right a b bits whole has parts ends none =
    let floor : ℕ = old.named.top in
    let middle = lines_right terms old mid told said noted right a.answers in
    let end = lines_right terms mid new untold unsaid notes middle.right b.answers in
    let more : mid.named.top ≤ new.named.top = end.more in
    let small : mid.named.top < 2 ^ 64 = omega (arith, more, bits) in
    let rings = name_lines_are_ring_lines terms old mid told said noted right small a.answers in
    let back = names_come_back terms old mid told said noted begun right a small in
    let head : List ℕ = begun_names old.named in
    let nowhere : Bindings = nothing (length old.named.locks) in
    let was : Bindings = recorded_of floor mid.named.fixed mid.named.names in
    let head_lines : AreLines head = of_both (begun_text old.named.locks) (names_text old.named) (inr (head_ends (content_of old.named.locks))) (names_gone old.named right.spelled).lines in
    let told_lines : AreLines (head ++ noted) = of_both head noted head_lines rings.whole in
    let first : IsTakenText (head ++ noted) nowhere was = record { lines = told_lines; taken = back.recorded } in
    let rest = within (head ++ noted) has.0 front torn none told_lines (sym parts ∙ has.1) in
    let since : List ℕ = rest.0 in
    let since_lines : AreLines since = lines_after (head ++ noted) since (subst (λ (u : List ℕ). AreLines u) rest.1 ends) in
    let since_front : notes ≡ since ++ (torn ++ lost) = append_cancel_left (head ++ noted) notes (since ++ (torn ++ lost))
    (append_assoc head noted notes
    ∙ (sym whole
    ∙ (ap (λ (u : List ℕ). u ++ lost) (parts ∙ ap (λ (u : List ℕ). u ++ torn) rest.1)
    ∙ (append_assoc ((head ++ noted) ++ since) torn lost ∙ append_assoc (head ++ noted) since (torn ++ lost))))) in
    let r = lines_cut floor terms mid new untold unsaid notes middle.right bits b.noting b.answers since since_lines (torn ++ lost, since_front) in
    let last : Bindings = recorded_of floor r.cut.at.named.fixed (names_between r.first r.cut.at.named r.cut.next.named) in
    let both : IsTakenText ((head ++ noted) ++ since) nowhere last = taken_both (head ++ noted) since nowhere was last first r.taken in
    record {
      since = since;
      spelled = rest.1 ∙ append_assoc head noted since;
      bound = record { cut = r.cut; first = r.first; recorded = subst (λ (u : List ℕ). AreTakenIn (lines_in u) nowhere last) (sym rest.1) both.taken };
    }
