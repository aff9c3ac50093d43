-- What parts of lines do to a segment that is due.
use Rattle.std.proofs.Common.{◌≡◌, ℕ, ◌+◌, ◌≤◌, Bool, true, false, List, [], ◌∷◌, ◌++◌, length, take, drop, codes, Option, None, Some, refl, sym, ap, subst, ◌∙◌, inl, inr, arith, append_assoc, length-append, get_or, ◌<◌}
use Rattle.std.specs.Prelude.{IfSome}
use Rattle.std.specs.List.{AllByRecursion, flat_map}
use Rattle.std.specs.Io.KnownBytes.{Appends, Consumes}
use Rattle.std.proofs.Math.Seq.{drop-append_seam, take-append_seam}
use Rattle.std.proofs.lemmas.List.{append-nil}
use Rattle.std.proofs.lemmas.Bool.{false≢true}
use Rattle.disks.specs.Held.{Held, Replaces}
use Rattle.line_service.specs.SegmentNames.{segment_file}
use Rattle.ring_model.specs.Surveys.{granted_count}
use Rattle.ring_model.specs.declared.bases.Base.{Base}
use Rattle.segment_files.specs.Spelling.{digest_of, number_line, base_line, DigestFits}
use Rattle.journal.specs.Spelling.{journal_head}
use Rattle.line_service.specs.Answering.{IsLine, Answers, joined_lines}
use Rattle.line_service.specs.Stands.{Stand, by_stand}
use Rattle.line_service.specs.declared.segmented.EndFault.{EndFault}
use Rattle.line_service.specs.Segments.{Moment, IsReady, HasEnded, stand_of}
use Rattle.line_service.specs.Service.{Part, IsPart, AreParts, all_lines, all_said, ServesSegments}
use Rattle.line_service.proofs.Changing.{HoldsSame, kept_file}
use Rattle.ring_service.specs.declared.answers.Answer.{Answer}
use Rattle.ring_service.specs.declared.answers.Answer.TheVariants as answer
use Rattle.ring_service.specs.declared.answers.Refusal.{Refusal}
use Rattle.ring_service.specs.Answers.{answer_line}
use Rattle.ring_service.specs.Standings.{Standing}
use Rattle.ring_service.specs.Saved.{content_of}
use Rattle.ring_service.specs.Segments.{AreNext, bases_of}
use Rattle.ring_service.specs.Due.{is_due}
use Rattle.ring_service.specs.Turns.{Turn, refused}
use Rattle.ring_service.specs.Permits.{Terms}
use Rattle.ring_service.specs.Serving.{IsTurnOn, IsGiven, name_in}
use Rattle.ring_service.specs.Texts.{segment_text}
use Rattle.ring_service.specs.Services.{ServiceView, terms_of, IsServed, with_refusal, refusal_of, segmenting}

abbrev pub head : List ℕ → ℕ
head [] = 0
head (b ∷ bs) = b

-- the segment of the service is due
abbrev pub IsDue : ServiceView → Type 0
IsDue v = is_due v.rules.limit v.rings ≡ true

-- ---- numbers never fall

ready_up : (folder : List ℕ) (kept : Option EndFault) (a b : Moment ServiceView) → IsReady segmenting folder kept a b → a.number ≤ b.number
ready_up folder None a b (inl h) = let same : b.number ≡ a.number = ap (λ (m : Moment ServiceView). m.number) h.1 in omega (arith, same)
ready_up folder None a b (inr h) = let up = h.1.number in omega (arith, up)
ready_up folder (Some why) a b h = let same = h.1.number in omega (arith, same)

parts_up : (folder : List ℕ) (a b : Moment ServiceView) (ps : List (Part ServiceView)) → AreParts IsServed segmenting folder a ps b → a.number ≤ b.number
parts_up folder a b [] h = let same : b.number ≡ a.number = ap (λ (m : Moment ServiceView). m.number) h in omega (arith, same)
parts_up folder a b (p ∷ ps) h =
    let one = ready_up folder p.kept a p.from h.0 in
    let same = h.1.number in
    let rest = parts_up folder p.to b ps h.2 in
    omega (arith, one, same, rest)

-- ---- lines that are all refused

refused_one : (why : Refusal) (old new : ServiceView) (was is : Option Held) (line said noted : List ℕ) → old.rules.refusing ≡ Some why → IsServed old was line said noted new is → said ≡ answer_line (answer.Refused why)
refused_one why old new was is line said noted off one =
    let terms : Terms = terms_of old in
    let a = one.answered in
    let turn : a.turn ≡ refused old.rings why = subst (λ (r : Option Refusal). IsTurnOn r terms.faults old.rings line a.turn) off a.of_line in
    let asked : a.turn.answer ≡ answer.Refused why = ap (λ (t : Turn (List Standing)). t.answer) turn in
    let g = subst (λ (x : Answer). IsGiven terms.journal terms.history terms.saves was is (name_in line) new.rings x a.given) asked a.gives in
    a.says ∙ ap answer_line g.0

refused_head : (why : Refusal) (later more : List ℕ) → head ((answer_line (answer.Refused why) ++ later) ++ more) ≡ 103 → ⊥
refused_head why later more e = let h : ◌≡◌ {A = ℕ} 114 103 = e in absurd (omega arith)

refused_part : (why : Refusal) (old new : Stand ServiceView) (lines : List (List ℕ)) (said noted : List ℕ) → old.service.rules.refusing ≡ Some why → Answers (by_stand IsServed) old lines said noted new → (more : List ℕ) → head (said ++ more) ≡ 103 → (head more ≡ 103) × (new ≡ old)
refused_part why old new [] said noted off h more e = (subst (λ (x : List ℕ). head (x ++ more) ≡ 103) h.0 e, h.2)
refused_part why old new (line ∷ lines) said noted off h more e =
    let mid : Stand ServiceView = h.0 in
    let one = refused_one why old.service mid.service old.files mid.files line h.1 h.3 off h.5 in
    absurd (refused_head why h.2 more (subst (λ (x : List ℕ). head ((x ++ h.2) ++ more) ≡ 103) one (subst (λ (x : List ℕ). head (x ++ more) ≡ 103) h.6 e)))

-- ---- a segment that is due, and stays

record Stays (a from : Moment ServiceView) : Type 0 where
  pub why : EndFault
  pub service : from.service ≡ with_refusal a.service (refusal_of why)
  pub number : from.number ≡ a.number

stays : (folder : List ℕ) (kept : Option EndFault) (a from : Moment ServiceView) (last : ℕ) → IsDue a.service → last ≡ a.number → from.number ≤ last → IsReady segmenting folder kept a from → Stays a from
stays folder None a from last due same up (inl h) = absurd (false≢true (sym h.0 ∙ due))
stays folder None a from last due same up (inr h) = let next = h.1.number in absurd (omega (arith, next, same, up))
stays folder (Some why) a from last due same up h = record { why = why; service = h.1.kept; number = h.1.number }

-- no line is granted in it
none_granted : (folder : List ℕ) (a b : Moment ServiceView) (ps : List (Part ServiceView)) → IsDue a.service → b.number ≡ a.number → AreParts IsServed segmenting folder a ps b → head (all_said ps) ≡ 103 → ⊥
none_granted folder a b [] due same h e = let none : ◌≡◌ {A = ℕ} 0 103 = e in absurd (omega arith)
none_granted folder a b (p ∷ ps) due same h e =
    let rest = parts_up folder p.to b ps h.2 in
    let kept = h.1.number in
    let st = stays folder p.kept a p.from b.number due same (omega (arith, rest, kept)) h.0 in
    let off : p.from.service.rules.refusing ≡ Some (refusal_of st.why) = ap (λ (v : ServiceView). v.rules.refusing) st.service in
    let one = refused_part (refusal_of st.why) (stand_of p.from) (stand_of p.to) p.lines p.said p.noted off h.1.answers (all_said ps) e in
    let service : p.to.service ≡ with_refusal a.service (refusal_of st.why) = ap (λ (x : Stand ServiceView). x.service) one.1 ∙ st.service in
    none_granted folder p.to b ps (subst IsDue (sym service) due) (same ∙ sym (kept ∙ st.number)) h.2 one.0

pub starts : (out : List ℕ) (y : ℕ) → y ≡ get_or out 0 y → 0 < length out → y ≡ 103 → head out ≡ 103
starts [] y e some g = absurd (omega (arith, some))
starts (x ∷ out) y e some g = sym e ∙ g

pub not_granted : {folder : List ℕ} {a b : Moment ServiceView} {input rest : Option (List ℕ)} {out : List ℕ} → ServesSegments IsServed segmenting folder a b input rest (Some []) (Some out) → IsDue a.service → b.number ≡ a.number → head out ≡ 103 → ⊥
not_granted {folder} {a} {b} h due same g = none_granted folder a b h.parts due same h.served (sym (ap head h.wrote) ∙ g)

-- ---- no line, and a segment more

line_some : (line more : List ℕ) → IsLine line → line ++ more ≡ [] → ⊥
line_some [] more h e = h
line_some (b ∷ bs) more h e = absurd (not_nil b (bs ++ more) e)
  where
    not_nil : (b : ℕ) (bs : List ℕ) → b ∷ bs ≡ [] → ⊥
    not_nil b bs p = cc

no_lines : (lines : List (List ℕ)) (more : List ℕ) → AllByRecursion IsLine lines → joined_lines lines ++ more ≡ [] → (lines ≡ []) × (more ≡ [])
no_lines [] more each e = (refl, e)
no_lines (line ∷ lines) more each e = absurd (line_some line (joined_lines lines ++ more) each.0 (sym (append_assoc line (joined_lines lines) more) ∙ e))

quiet : (old new : Stand ServiceView) (lines : List (List ℕ)) (said noted : List ℕ) → lines ≡ [] → Answers (by_stand IsServed) old lines said noted new → (new ≡ old) × (noted ≡ [])
quiet old new [] said noted e h = (h.2, h.1)
quiet old new (line ∷ lines) said noted e h = absurd (not_nil line lines e)
  where
    not_nil : (l : List ℕ) (ls : List (List ℕ)) → l ∷ ls ≡ [] → ⊥
    not_nil l ls p = cc

-- a moment whose limit, rings, number and journal are these, and whose files are known
record IsAt (limit : Option ℕ) (rings : List Standing) (number : ℕ) (journal : List ℕ) (m : Moment ServiceView) : Type 0 where
  pub held : Held
  pub limit_is : m.service.rules.limit ≡ limit
  pub rings_are : m.service.rings ≡ rings
  pub number_is : m.number ≡ number
  pub files_are : m.files ≡ Some held
  pub journal_is : m.journal ≡ Some journal

appended_none : (was is : Option (List ℕ)) (bytes noted : List ℕ) → was ≡ Some bytes → noted ≡ [] → Appends was is noted → is ≡ Some bytes
appended_none was is bytes noted w n a =
    go is (subst (λ (x : List ℕ). Appends (Some bytes) is x) n (subst (λ (x : Option (List ℕ)). Appends x is noted) w a))
  where
    go : (is : Option (List ℕ)) → Appends (Some bytes) is [] → is ≡ Some bytes
    go None a = absurd a
    go (Some xs) a = ap (λ (x : List ℕ). Some x) (a ∙ append-nil bytes)

part_quiet : (p : Part ServiceView) (limit : Option ℕ) (rings : List Standing) (number : ℕ) (journal more : List ℕ) → IsPart IsServed p → joined_lines p.lines ++ more ≡ [] → IsAt limit rings number journal p.from → IsAt limit rings number journal p.to
part_quiet p limit rings number journal more is none at =
    let q = quiet (stand_of p.from) (stand_of p.to) p.lines p.said p.noted (no_lines p.lines more is.each none).0 is.answers in
    let service : p.to.service ≡ p.from.service = ap (λ (x : Stand ServiceView). x.service) q.0 in
    let files : p.to.files ≡ p.from.files = ap (λ (x : Stand ServiceView). x.files) q.0 in
    record {
      held = at.held;
      limit_is = ap (λ (v : ServiceView). v.rules.limit) service ∙ at.limit_is;
      rings_are = ap (λ (v : ServiceView). v.rings) service ∙ at.rings_are;
      number_is = is.number ∙ at.number_is;
      files_are = files ∙ at.files_are;
      journal_is = appended_none p.from.journal p.to.journal journal p.noted at.journal_is q.1 is.wrote;
    }

-- files that are known stay known
pub known_after : (was is : Option Held) (name : List ℕ) (journal : Option (List ℕ)) (held : Held) (bytes : List ℕ) → was ≡ Some held → journal ≡ Some bytes → Replaces was is name journal → (h : Held) × (is ≡ Some h)
known_after was is name journal held bytes w j r =
    go is (subst (λ (x : Option (List ℕ)). Replaces (Some held) is name x) j (subst (λ (x : Option Held). Replaces x is name journal) w r))
  where
    go : (is : Option Held) → Replaces (Some held) is name (Some bytes) → (h : Held) × (is ≡ Some h)
    go None r = absurd r
    go (Some h) r = (h, refl)

pub if_some : {A : Type 0} (o : Option A) (a : A) (P : A → Type 0) → o ≡ Some a → IfSome o P → P a
if_some o a P e h = subst (λ (x : Option _). IfSome x P) e h

module _ (folder : List ℕ) where
  -- the segment stays
  ready_at : (kept : Option EndFault) (a from : Moment ServiceView) (limit : Option ℕ) (rings : List Standing) (number : ℕ) (journal : List ℕ) → IsAt limit rings number journal a → from.number ≡ number → IsReady segmenting folder kept a from → IsAt limit rings number journal from
  ready_at None a from limit rings number journal at same (inl h) = subst (IsAt limit rings number journal) (sym h.1) at
  ready_at None a from limit rings number journal at same (inr h) =
      let next = h.1.number in
      let is = at.number_is in
      absurd (omega (arith, next, is, same))
  ready_at (Some why) a from limit rings number journal at same h = kept_at (kept_file segmenting folder why a from h.1)
    where
      service : from.service ≡ with_refusal a.service (refusal_of why)
      service = h.1.kept

      kept_at : HoldsSame folder a from → IsAt limit rings number journal from
      kept_at (inl k) = record {
        held = at.held;
        limit_is = ap (λ (v : ServiceView). v.rules.limit) service ∙ at.limit_is;
        rings_are = ap (λ (v : ServiceView). v.rings) service ∙ at.rings_are;
        number_is = same;
        files_are = k.0 ∙ at.files_are;
        journal_is = k.1 ∙ at.journal_is;
      }
      kept_at (inr k) =
          let known = known_after a.files from.files (segment_file folder a.number) a.journal at.held journal at.files_are at.journal_is k.0 in
          record {
            held = known.0;
            limit_is = ap (λ (v : ServiceView). v.rules.limit) service ∙ at.limit_is;
            rings_are = ap (λ (v : ServiceView). v.rings) service ∙ at.rings_are;
            number_is = same;
            files_are = known.1;
            journal_is = if_some a.journal journal (λ (bytes : List ℕ). from.journal ≡ Some bytes) at.journal_is (if_some a.files at.held (λ _. IfSome a.journal (λ (bytes : List ℕ). from.journal ≡ Some bytes)) at.files_are k.1);
          }

  same_number : (a b : Moment ServiceView) (p : Part ServiceView) (ps : List (Part ServiceView)) (number : ℕ) → a.number ≡ number → b.number ≡ number → AreParts IsServed segmenting folder a (p ∷ ps) b → p.from.number ≡ number
  same_number a b p ps number low high h =
      let one = ready_up folder p.kept a p.from h.0 in
      let kept = h.1.number in
      let rest = parts_up folder p.to b ps h.2 in
      omega (arith, one, kept, rest, low, high)

  parts_at : (a b : Moment ServiceView) (ps : List (Part ServiceView)) (limit : Option ℕ) (rings : List Standing) (number : ℕ) (journal : List ℕ) → IsAt limit rings number journal a → b.number ≡ number → all_lines ps ≡ [] → AreParts IsServed segmenting folder a ps b → IsAt limit rings number journal b
  parts_at a b [] limit rings number journal at same none h = subst (IsAt limit rings number journal) (sym h) at
  parts_at a b (p ∷ ps) limit rings number journal at same none h =
      let from = ready_at p.kept a p.from limit rings number journal at (same_number a b p ps number at.number_is same h) h.0 in
      let to = part_quiet p limit rings number journal (all_lines ps) h.1 none from in
      parts_at p.to b ps limit rings number journal to same (no_lines p.lines (all_lines ps) h.1.each none).1 h.2

-- what the end of a segment makes of it
pub record IsCut (rings : List Standing) (bytes : List ℕ) (b : Moment ServiceView) : Type 0 where
  pub behind : List ℕ
  pub next : AreNext rings b.service.rings
  pub digest : behind ≡ digest_of bytes
  pub journal : b.journal ≡ Some (segment_text b.number behind b.service.rings)

module _ (folder : List ℕ) where
  cut_at : (a from b : Moment ServiceView) (limit : Option ℕ) (rings : List Standing) (number : ℕ) (bytes : List ℕ) → IsAt limit rings number bytes a → HasEnded segmenting folder a from
      → ((journal : List ℕ) → IsAt from.service.rules.limit from.service.rings from.number journal from → IsAt from.service.rules.limit from.service.rings from.number journal b) → IsCut rings bytes b
  cut_at a from b limit rings number bytes at e rest =
      let f = e.file in
      let next : AreNext a.service.rings from.service.rings = f.follows.rings in
      let between = known_after a.files f.between (segment_file folder a.number) a.journal at.held bytes at.files_are at.journal_is f.settled in
      let text : List ℕ = segment_text from.number f.behind from.service.rings in
      let begun = subst (λ (n : ℕ). Replaces f.between from.files (segment_file folder n) (Some (segment_text n f.behind from.service.rings))) (sym e.number) f.put in
      let after = known_after f.between from.files (segment_file folder from.number) (Some text) between.0 text between.1 refl begun in
      let put = if_some f.between between.0 (λ _. from.journal ≡ Some text) between.1 e.journal in
      let end = rest text (record { held = after.0; limit_is = refl; rings_are = refl; number_is = refl; files_are = after.1; journal_is = put }) in
      record {
        behind = f.behind;
        next = subst (λ (x : List Standing). AreNext rings x) (sym end.rings_are) (subst (λ (x : List Standing). AreNext x from.service.rings) at.rings_are next);
        digest = if_some a.journal bytes (λ (x : List ℕ). f.behind ≡ digest_of x) at.journal_is f.digest;
        journal = end.journal_is ∙ (ap (λ (n : ℕ). Some (segment_text n f.behind from.service.rings)) (sym end.number_is) ∙ ap (λ (x : List Standing). Some (segment_text b.number f.behind x)) (sym end.rings_are));
      }

  by_ready : (a b : Moment ServiceView) (p : Part ServiceView) (ps : List (Part ServiceView)) (limit : Option ℕ) (rings : List Standing) (number : ℕ) (bytes : List ℕ) → is_due limit rings ≡ true → IsAt limit rings number bytes a → b.number ≡ number + 1 → all_lines (p ∷ ps) ≡ []
      → AreParts IsServed segmenting folder a (p ∷ ps) b → (kept : Option EndFault) → IsReady segmenting folder kept a p.from → (IsAt limit rings number bytes p.to → IsCut rings bytes b) → IsCut rings bytes b
  by_ready a b p ps limit rings number bytes due at up none h None (inl k) more =
      absurd (false≢true (sym k.0 ∙ (ap (λ (x : List Standing). is_due a.service.rules.limit x) at.rings_are ∙ (ap (λ (n : Option ℕ). is_due n rings) at.limit_is ∙ due))))
  by_ready a b p ps limit rings number bytes due at up none h None (inr k) more =
      let next = k.1.number in
      let is = at.number_is in
      let v : ServiceView = p.from.service in
      cut_at a p.from b limit rings number bytes at k.1 (λ journal from. parts_at folder p.to b ps v.rules.limit v.rings p.from.number journal (part_quiet p v.rules.limit v.rings p.from.number journal (all_lines ps) h.1 none from) (omega (arith, next, is, up)) (no_lines p.lines (all_lines ps) h.1.each none).1 h.2)
  by_ready a b p ps limit rings number bytes due at up none h (Some why) k more =
      more (part_quiet p limit rings number bytes (all_lines ps) h.1 none (ready_at folder (Some why) a p.from limit rings number bytes at (k.1.number ∙ at.number_is) k))

  parts_cut : (a b : Moment ServiceView) (ps : List (Part ServiceView)) (limit : Option ℕ) (rings : List Standing) (number : ℕ) (bytes : List ℕ) → is_due limit rings ≡ true → IsAt limit rings number bytes a → b.number ≡ number + 1 → all_lines ps ≡ [] → AreParts IsServed segmenting folder a ps b → IsCut rings bytes b
  parts_cut a b [] limit rings number bytes due at up none h =
      let same : b.number ≡ a.number = ap (λ (m : Moment ServiceView). m.number) h in
      let is = at.number_is in
      absurd (omega (arith, same, is, up))
  parts_cut a b (p ∷ ps) limit rings number bytes due at up none h =
      by_ready a b p ps limit rings number bytes due at up none h p.kept h.0 (λ to. parts_cut p.to b ps limit rings number bytes due to up (no_lines p.lines (all_lines ps) h.1.each none).1 h.2)

no_input : (bytes lines begun : List ℕ) → Consumes (Some []) (Some []) bytes → bytes ≡ lines ++ begun → lines ≡ []
no_input bytes lines begun c e = front lines begun (sym e ∙ none bytes c)
  where
    front : (xs ys : List ℕ) → xs ++ ys ≡ [] → xs ≡ []
    front [] ys e = refl
    front (x ∷ xs) ys e = absurd (not_nil x (xs ++ ys) e)
      where
        not_nil : (b : ℕ) (bs : List ℕ) → b ∷ bs ≡ [] → ⊥
        not_nil b bs p = cc

    none : (bytes : List ℕ) → Consumes (Some []) (Some []) bytes → bytes ≡ []
    none bytes c = front bytes [] (sym c)

pub is_cut : {folder : List ℕ} {a b : Moment ServiceView} {bytes : List ℕ} {held : Held} → ServesSegments IsServed segmenting folder a b (Some []) (Some []) (Some []) (Some []) → IsDue a.service → b.number ≡ a.number + 1 → a.journal ≡ Some bytes → a.files ≡ Some held → IsCut a.service.rings bytes b
is_cut {folder} {a} {b} {bytes} {held} h due up journal files =
    parts_cut folder a b h.parts a.service.rules.limit a.service.rings a.number bytes due (record { held = held; limit_is = refl; rings_are = refl; number_is = refl; files_are = files; journal_is = journal }) up (no_input h.bytes (all_lines h.parts) h.begun h.read h.split) h.served

-- a ring's base has at least the grants of the one before
pub not_forgotten : (r s : Standing) (more : List Standing) → 1 ≤ r.base.grants → s.base.grants ≡ 0 → AreNext (r ∷ []) (s ∷ more) → ⊥
not_forgotten r s more some none h =
    let grants : s.base.grants ≡ r.base.grants + granted_count r.history = ap (λ (b : Base). b.grants) h.0.base in
    omega (arith, some, none, grants)

-- a ring's next segment has no call
pub none_called : (r s : Standing) (more : List Standing) → (s.history ≡ [] → ⊥) → AreNext (r ∷ []) (s ∷ more) → ⊥
none_called r s more called h = called h.0.history

-- ---- one text has one digest of the file before

abbrev front_of : ℕ → List Standing → List ℕ
front_of number rings = number_line number (length (bases_of rings)) ++ codes "behind "

parts_of : (number : ℕ) (behind : List ℕ) (rings : List Standing) → segment_text number behind rings ≡ front_of number rings ++ (behind ++ (10 ∷ (flat_map base_line (bases_of rings) ++ journal_head (content_of rings))))
parts_of number behind rings =
    let n = number_line number (length (bases_of rings)) in
    let w : List ℕ = codes "behind " in
    let bases = flat_map base_line (bases_of rings) in
    let journal = journal_head (content_of rings) in
    append_assoc n ((w ++ (behind ++ 10 ∷ [])) ++ bases) journal
    ∙ (ap (λ (x : List ℕ). n ++ x) (ap (λ (x : List ℕ). x ++ journal) (append_assoc w (behind ++ 10 ∷ []) bases) ∙ append_assoc w ((behind ++ 10 ∷ []) ++ bases) journal)
    ∙ (ap (λ (x : List ℕ). n ++ (w ++ x)) (ap (λ (x : List ℕ). x ++ journal) (append_assoc behind (10 ∷ []) bases) ∙ append_assoc behind (10 ∷ bases) journal)
    ∙ sym (append_assoc n w (behind ++ (10 ∷ (bases ++ journal))))))

one_behind : (front one other more : List ℕ) → front ++ (one ++ more) ≡ front ++ (other ++ more) → one ≡ other
one_behind front one other more e =
    let same : one ++ more ≡ other ++ more = sym (drop-append_seam front (one ++ more)) ∙ (ap (λ (x : List ℕ). drop (length front) x) e ∙ drop-append_seam front (other ++ more)) in
    let sizes : length (one ++ more) ≡ length (other ++ more) = ap (λ (x : List ℕ). length x) same in
    let size : length one ≡ length other = omega (arith, sizes, length-append one more, length-append other more) in
    sym (take-append_seam one more) ∙ (ap (λ (x : List ℕ). take (length one) x) same ∙ (ap (λ (n : ℕ). take n (other ++ more)) size ∙ take-append_seam other more))

some_same : (xs ys : List ℕ) → Some xs ≡ Some ys → xs ≡ ys
some_same xs ys p = cc

pub one_digest : {rings : List Standing} {bytes : List ℕ} {b : Moment ServiceView} (behind : List ℕ) → IsCut rings bytes b → b.journal ≡ Some (segment_text b.number behind b.service.rings) → behind ≡ digest_of bytes
one_digest {rings} {bytes} {b} behind c is =
    let now : List Standing = b.service.rings in
    let same : segment_text b.number behind now ≡ segment_text b.number c.behind now = some_same _ _ (sym is ∙ c.journal) in
    one_behind (front_of b.number now) behind c.behind (10 ∷ (flat_map base_line (bases_of now) ++ journal_head (content_of now))) (sym (parts_of b.number behind now) ∙ (same ∙ parts_of b.number c.behind now))
    ∙ c.digest
