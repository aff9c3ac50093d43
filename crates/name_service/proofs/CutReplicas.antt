-- The names of a replica's locks come back of whatever is kept of its file.
use Rattle.std.proofs.Common.{◌≡◌, ℕ, List, [], ◌∷◌, ◌++◌, length, inl, inr, refl, sym, ap, subst, ◌∙◌, append_assoc, append-nil}
use Rattle.std.specs.List.{AllByRecursion}
use Rattle.std.proofs.lemmas.List.{append_cancel_left}
use Rattle.segment_files.specs.Remarks.{lines_in, remark_of, without_remarks}
use Rattle.segment_files.specs.RemarkLaws.{AreLines}
use Rattle.segment_files.proofs.Remarked.{lines_append, without_append, remarks_alone}
use Rattle.ring_service.specs.Recovered.{IsPrefix}
use Rattle.line_service.specs.Stands.{Stand, stand}
use Rattle.line_replica.specs.declared.replica.Replica.{Replica}
use Rattle.line_replica.specs.Log.{Numbers, numbers_of, given, given_of, numbers_after}
use Rattle.line_replica.specs.Noted.{AreGiven}
use Rattle.line_replica.specs.Reading.{heard}
use Rattle.line_replica.specs.State.{own_lines, remarks_of}
use Rattle.name_remarks.specs.Bindings.{Bindings, nothing, AreTakenIn}
use Rattle.lock_names.specs.Kept.{NamedView}
use Rattle.lock_journal.specs.Begun.{begun_text, HaveBegun}
use Rattle.lock_journal.specs.KeysBack.{IsSound}
use Rattle.lock_journal.specs.Segments.{content_of}
use Rattle.lock_journal.proofs.WholeEnds.{within}
use Rattle.lock_journal.proofs.WholeTexts.{of_both}
use Rattle.lock_journal.proofs.WithoutRemarks.{ends_once, all_end_once, remark_lines, head_ends}
use Rattle.name_service.specs.declared.service.NameService.{NameService}
use Rattle.name_service.specs.declared.service.NameTerms.{NameTerms}
use Rattle.name_service.specs.NamesText.{names_text}
use Rattle.name_service.specs.Serving.{IsNameServed}
use Rattle.name_service.specs.RightNames.{AreRightNames}
use Rattle.name_service.specs.NameLines.{AreNamesAnswered, begun_names}
use Rattle.name_service.specs.NameReplicas.{named_in, begun_with_all}
use Rattle.name_service.specs.NamesKept.{EndsWithin, names_between}
use Rattle.name_service.specs.NamesOfRuns.{NamesOfRunsComeBack}
use Rattle.name_service.proofs.CutNames.{lines_cut}
use Rattle.name_service.proofs.CutTexts.{nothing_first, lines_after, HasFirst, front_of_both, none_within, remark_is_line}
use Rattle.name_service.proofs.NamedJournals.{served_name_lines, names_gone}
use Rattle.name_service.proofs.NamedReplicas.{IsOwnLine, all_own, only_lines, notes_whole, all_same, all_plain, taken_split, own_taken, names_of_replicas}
use Rattle.name_service.proofs.NamedRuns.{all_taken, terms_stay}
use Rattle.name_service.proofs.RightNames.{lines_right}
use Rattle.name_service.proofs.TakenNotes.{IsTakenText, taken_both, taken_none, no_lines, recorded_of}

-- ---- the replica's own remarks

-- whole lines at the front of them are the remarks of the first of these lines
record AreFirstOwn (text : List ℕ) : Type 0 where
  own : List (List ℕ)
  is : text ≡ remarks_of own
  each : AllByRecursion IsOwnLine own

first_own : (own : List (List ℕ)) → AllByRecursion IsOwnLine own → (text : List ℕ) → AreLines text → IsPrefix text (remarks_of own) → AreFirstOwn text
first_own [] all text ends front = record { own = []; is = nothing_first text front.0 (sym front.1); each = tt }
first_own (line ∷ own) all text ends front = elim (front_of_both (remark_of line) (remarks_of own) text ends front) [
  | inl w ↦ record { own = []; is = none_within (remark_of line) text (remark_is_line line (ends_once line all.0.is_line)) ends w; each = tt }
  | inr b ↦
      let rest = first_own own all.1 b.rest b.lines b.front in
      record { own = line ∷ rest.own; is = b.is ∙ ap (λ (u : List ℕ). remark_of line ++ u) rest.is; each = (all.0, rest.each) }
]

-- they record nothing
own_nothing : (text : List ℕ) → AreFirstOwn text → without_remarks text ≡ []
own_nothing text f = ap (λ (u : List ℕ). without_remarks u) f.is ∙ remarks_alone f.own (all_end_once f.own (only_lines f.own f.each))

own_stays : (text : List ℕ) (t : Bindings) → AreFirstOwn text → IsTakenText text t t
own_stays text t f = subst (λ (u : List ℕ). IsTakenText u t t) (sym f.is) (own_taken f.own t f.each)

-- ---- all notes, and those inside

-- whole lines at the front of all notes record what some at the front of those inside do
pub record IsCutInside (inside text : List ℕ) : Type 0 where
  pub inner : List ℕ
  pub lines : AreLines inner
  pub front : IsPrefix inner inside
  pub taken : (t u : Bindings) → AreTakenIn (lines_in inner) t u → IsTakenText text t u
  pub same : without_remarks text ≡ without_remarks inner

-- they are at the front of the notes of the first line, or after these at the front of its remarks
module _ (notes own more later text : List ℕ) (ends : AreLines notes) where
  in_notes : AreLines text → EndsWithin notes text → IsCutInside (notes ++ later) text
  in_notes whole w = record {
    inner = text;
    lines = whole;
    front = ((w.0 ∷ w.1) ++ later, ap (λ (u : List ℕ). u ++ later) w.2 ∙ append_assoc text (w.0 ∷ w.1) later);
    taken = λ t u p. record { lines = whole; taken = p };
    same = refl;
  }

  in_own : (d : HasFirst notes (own ++ more) text) → AreFirstOwn d.rest → IsCutInside (notes ++ later) text
  in_own d f = record {
    inner = notes;
    lines = ends;
    front = (later, refl);
    taken = λ t u p. subst (λ (x : List ℕ). IsTakenText x t u) (sym d.is) (taken_both notes d.rest t u u (record { lines = ends; taken = p }) (own_stays d.rest u f));
    same = ap (λ (x : List ℕ). without_remarks x) d.is ∙ (without_append notes d.rest ends ∙ (ap (λ (x : List ℕ). without_remarks notes ++ x) (own_nothing d.rest f) ∙ append-nil (without_remarks notes)));
  }

  in_later : AreFirstOwn own → AreLines own → (d : HasFirst notes (own ++ more) text) → (b : HasFirst own more d.rest) → IsCutInside later b.rest → IsCutInside (notes ++ later) text
  in_later f mine d b r =
      let both : AreLines (notes ++ own) = of_both notes own ends mine in
      let is : text ≡ (notes ++ own) ++ b.rest = d.is ∙ (ap (λ (x : List ℕ). notes ++ x) b.is ∙ sym (append_assoc notes own b.rest)) in
      let alone : without_remarks (notes ++ own) ≡ without_remarks notes = without_append notes own ends ∙ (ap (λ (x : List ℕ). without_remarks notes ++ x) (own_nothing own f) ∙ append-nil (without_remarks notes)) in
      record {
        inner = notes ++ r.inner;
        lines = of_both notes r.inner ends r.lines;
        front = (r.front.0, ap (λ (x : List ℕ). notes ++ x) r.front.1 ∙ sym (append_assoc notes r.inner r.front.0));
        taken = λ t u p.
            let s = taken_split (lines_in notes) (lines_in r.inner) t u (subst (λ (ls : List (List ℕ)). AreTakenIn ls t u) (lines_append notes r.inner ends) p) in
            let one : IsTakenText (notes ++ own) t s.0 = taken_both notes own t s.0 s.0 (record { lines = ends; taken = s.1 }) (own_stays own s.0 f) in
            subst (λ (x : List ℕ). IsTakenText x t u) (sym is) (taken_both (notes ++ own) b.rest t s.0 u one (r.taken s.0 u s.2));
        same =
            ap (λ (x : List ℕ). without_remarks x) is
            ∙ (without_append (notes ++ own) b.rest both
            ∙ (ap (λ (x : List ℕ). x ++ without_remarks b.rest) alone
            ∙ (ap (λ (x : List ℕ). without_remarks notes ++ x) r.same
            ∙ sym (without_append notes r.inner ends))));
      }

cut_inside : (numbers : Numbers) (old new : Stand NameService) (all : List (List ℕ)) (inside noted : List ℕ) → AreGiven IsNameServed IsOwnLine numbers old all inside noted new → (text : List ℕ) → AreLines text → IsPrefix text noted → IsCutInside inside text
cut_inside numbers old new [] inside noted g text ends front =
    let none : text ≡ [] = nothing_first text front.0 (sym front.1 ∙ g.1) in
    record {
      inner = [];
      lines = inl refl;
      front = (inside, refl);
      taken = λ t u p.
          let same : u ≡ t = subst (λ (ls : List (List ℕ)). AreTakenIn ls t u) no_lines p in
          subst (λ (x : List ℕ). IsTakenText x t u) (sym none) (subst (λ (x : Bindings). IsTakenText [] t x) (sym same) (taken_none t));
      same = ap (λ (x : List ℕ). without_remarks x) none;
    }
cut_inside numbers old new (line ∷ all) inside noted g text ends front =
    let one = g.5 in
    let notes : List ℕ = one.notes in
    let own : List ℕ = remarks_of g.1 in
    let lines : AreLines notes = notes_whole old g.0 (given_of (heard line) numbers line) one.told notes one.answered in
    let mine : AreLines own = remark_lines g.1 (only_lines g.1 one.each) in
    let parts : noted ≡ notes ++ (own ++ g.3) = g.7 ∙ (ap (λ (u : List ℕ). u ++ g.3) one.noted_are ∙ append_assoc notes own g.3) in
    let whole : AreFirstOwn own = record { own = g.1; is = refl; each = one.each } in
    let inner : IsCutInside (notes ++ g.4) text = elim (front_of_both notes (own ++ g.3) text ends (front.0, sym parts ∙ front.1)) [
      | inl w ↦ in_notes notes own g.3 g.4 text lines ends w
      | inr d ↦ elim (front_of_both own g.3 d.rest d.lines d.front) [
        | inl w ↦ in_own notes own g.3 g.4 text lines d (first_own g.1 one.each d.rest d.lines (w.0 ∷ w.1, w.2))
        | inr b ↦ in_later notes own g.3 g.4 text lines whole mine d b (cut_inside (numbers_after (heard line) numbers) g.0 new all g.4 g.3 g.8 b.rest b.lines b.front)
      ]
    ] in
    subst (λ (u : List ℕ). IsCutInside u text) (sym g.6) inner

-- ---- the law

-- what a file has of rings
rings_there : (old : Replica NameService) (noted since inner front : List ℕ) → HaveBegun (named_in old).locks → AreRightNames (named_in old) → IsSound old → AreLines noted → without_remarks since ≡ without_remarks inner → front ≡ (begun_with_all old ++ noted) ++ since →
    without_remarks front ≡ begun_text (named_in old).locks ++ (without_remarks noted ++ without_remarks inner)
rings_there old noted since inner front begun right sound lines same is =
    ap (λ (u : List ℕ). without_remarks u) (is ∙ append_assoc (begun_with_all old) noted since)
    ∙ (all_plain old (noted ++ since) begun right sound
    ∙ ap (λ (u : List ℕ). begun_text (named_in old).locks ++ u) (without_append noted since lines ∙ ap (λ (u : List ℕ). without_remarks noted ++ u) same))

pub names_of_runs : NamesOfRunsComeBack
names_of_runs old mid new told untold said noted unsaid notes kept lost front torn run whole has parts ends none =
    let d = run.delivered in
    let s : NameService = old.numbered.inner in
    let m : NameService = mid.numbered.inner in
    let n : NameService = new.numbered.inner in
    let v : NamedView = named_in old in
    let numbers : Numbers = numbers_of old.numbered.keys in
    let later : Numbers = numbers_of mid.numbered.keys in
    let one = all_taken old mid d.was d.is told said noted d.each d.answers d.whole in
    let two = all_taken mid new d.is run.is untold unsaid notes run.each run.answered run.whole in
    let same : m.terms ≡ s.terms = terms_stay (stand s d.was) (stand m d.is) (given numbers told) one.told one.inside one.answered in
    let first : AreNamesAnswered s.terms s.segment (given numbers told) one.told one.inside m.segment = (served_name_lines s m d.was d.is (given numbers told) one.told one.inside d.noting one.answered).0 in
    let second_of : AreNamesAnswered m.terms m.segment (given later untold) two.told two.inside n.segment =
    (served_name_lines m n d.is run.is (given later untold) two.told two.inside (ap (λ (t : NameTerms). t.lines.noting) same ∙ d.noting) two.answered).0 in
    let second : AreNamesAnswered s.terms m.segment (given later untold) two.told two.inside n.segment = subst (λ (t : NameTerms). AreNamesAnswered t m.segment (given later untold) two.told two.inside n.segment) same second_of in
    let middle = lines_right s.terms s.segment m.segment (given numbers told) one.told one.inside d.right first.answers in
    let notes_lines = all_same numbers (stand s d.was) (stand m d.is) told one.inside noted one.given_so in
    let head : List ℕ = begun_with_all old in
    let own : List (List ℕ) = own_lines old in
    let names_lines : AreLines (begun_names v) = of_both (begun_text v.locks) (names_text v) (inr (head_ends (content_of v.locks))) (names_gone v d.right.spelled).lines in
    let head_lines : AreLines head = of_both (begun_names v) (remarks_of own) names_lines (remark_lines own (only_lines own (all_own old d.sound))) in
    let told_lines : AreLines (head ++ noted) = of_both head noted head_lines notes_lines.whole in
    let back = names_of_replicas old mid told said noted d in
    let nowhere : Bindings = nothing (length v.locks) in
    let was : Bindings = recorded_of v.top (named_in mid).fixed (named_in mid).names in
    let begun : IsTakenText (head ++ noted) nowhere was = record { lines = told_lines; taken = back.recorded } in
    let rest = within (head ++ noted) has.0 front torn none told_lines (sym parts ∙ has.1) in
    let since : List ℕ = rest.0 in
    let since_lines : AreLines since = lines_after (head ++ noted) since (subst (λ (u : List ℕ). AreLines u) rest.1 ends) in
    let since_front : notes ≡ since ++ (torn ++ lost) = append_cancel_left (head ++ noted) notes (since ++ (torn ++ lost))
    (append_assoc head noted notes
    ∙ (sym whole
    ∙ (ap (λ (u : List ℕ). u ++ lost) (parts ∙ ap (λ (u : List ℕ). u ++ torn) rest.1)
    ∙ (append_assoc ((head ++ noted) ++ since) torn lost ∙ append_assoc (head ++ noted) since (torn ++ lost))))) in
    let c = cut_inside later (stand m d.is) (stand n run.is) untold two.inside notes two.given_so since since_lines (torn ++ lost, since_front) in
    let r = lines_cut v.top s.terms m.segment n.segment (given later untold) two.told two.inside middle.right run.bits second.noting second.answers c.inner c.lines c.front in
    let last : Bindings = recorded_of v.top r.cut.at.named.fixed (names_between r.first r.cut.at.named r.cut.next.named) in
    let both : IsTakenText ((head ++ noted) ++ since) nowhere last = taken_both (head ++ noted) since nowhere was last begun (c.taken was last r.taken.taken) in
    record {
      inside = c.inner;
      rings = rings_there old noted since c.inner front d.begun d.right d.sound notes_lines.whole c.same rest.1;
      bound = record { cut = r.cut; first = r.first; recorded = subst (λ (u : List ℕ). AreTakenIn (lines_in u) nowhere last) (sym rest.1) both.taken };
    }
