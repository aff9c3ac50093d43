-- No refusal of `serve` leaves the file of a journal empty that held something.
use Rattle.std.proofs.Common.{◌≡◌, ◌++◌, ℕ, List, [], ◌∷◌, get_or, true, false, Option, None, Some, refl, sym, ap, subst, ◌∙◌, arith, inl, inr}
use Rattle.std.specs.Prelude.{IfSome, ◌⊎◌}
use Rattle.std.specs.Io.KnownBytes.{Appends}
use Rattle.std.proofs.lemmas.Bool.{false≢true}
use Rattle.std.proofs.lemmas.List.{append-nil}
use Rattle.std.specs.Option.{is_some, unwrap_or}
use Rattle.disks.specs.Held.{Held, bytes_of, is_folder, IsHeld, LeadsToFolder, Grows, LetsGo, Replaces}
use Rattle.saved_history.specs.declared.saved.Saved.{Saved}
use Rattle.saved_history.specs.Content.{Content}
use Rattle.journal.specs.Spelling.{journal_head}
use Rattle.ring_service.specs.declared.permits.Permits.{Permits}
use Rattle.ring_service.specs.Standings.{Standing}
use Rattle.ring_service.specs.Saved.{content_of}
use Rattle.tool_parts.specs.declared.requests.ServeWords.{ServeWords}
use Rattle.tool_parts.specs.declared.faults.ToolError.{ToolError}
use Rattle.serve_commands.specs.Served.{journal_of, permits_of, IsUntouched, IsBrokenOff, IsRefusedFrom, IsServedNoted, IsServed, IsServedFrom}
use Rattle.serve_commands.specs.ServeAnswer.{IsServedTo, IsRefusedTo, IsServeRefusal}
use Rattle.tool_parts.specs.Worlds.{World}
use Rattle.tool_parts.proofs.Folders.{held_no_folder}
use Rattle.wrong_commands.proofs.Places.{replaced_known, answers_known, one_name}

-- the text of a journal has a byte
begun_holds : (began : Content) (more bytes : List ℕ) → bytes ≡ journal_head began ++ more → bytes ≡ [] → ⊥
begun_holds began more bytes is none =
    let first : 0 ≡ 114 = ap (λ (x : List ℕ). get_or x 0 0) (sym none ∙ is) in
    omega (arith, first)

module _ (name : List ℕ) (was is : Held) (b : ℕ) (bs : List ℕ) (some : bytes_of was name ≡ Some (b ∷ bs)) (none : bytes_of is name ≡ Some []) where
  -- it does not hold what it held
  not_same : bytes_of is name ≡ bytes_of was name → ⊥
  not_same same =
      let e : [] ≡ b ∷ bs = one_name [] (b ∷ bs) (sym none ∙ same ∙ some) in
      cc

  not_begun : (began : Content) (more : List ℕ) → bytes_of is name ≡ Some (journal_head began ++ more) → ⊥
  not_begun began more held = begun_holds began more [] (one_name [] (journal_head began ++ more) (sym none ∙ held)) refl

  of_untouched : IsUntouched (Some was) (Some is) name → ⊥
  of_untouched (inl h) = not_same (h.files name)
  of_untouched (inr h) = false≢true (ap (λ (o : Option (List ℕ)). is_some o) (sym h.0 ∙ some))

  -- what the journal's writer has in the end
  grown : (files : Option Held) (began : Content) (first : Option (List ℕ)) → Replaces (Some was) files name (Some (journal_head began)) → Grows files name first → first ≡ Some (journal_head began)
  grown None began first put opened = absurd put
  grown (Some begun) began first put opened = opened.2 ∙ sym opened.1 ∙ put.here name refl

  appended : (first last : Option (List ℕ)) (began : Content) (noted : List ℕ) → first ≡ Some (journal_head began) → Appends first last noted → last ≡ Some (journal_head began ++ noted)
  appended first last began noted is a = at last (subst (λ (x : Option (List ℕ)). Appends x last noted) is a)
    where
      at : (last : Option (List ℕ)) → Appends (Some (journal_head began)) last noted → last ≡ Some (journal_head began ++ noted)
      at None a = absurd a
      at (Some bytes) a = ap (λ (x : List ℕ). Some x) a

  -- the journal's file was let go with what its writer has
  of_gone : (began : Content) (between : Option Held) (last : Option (List ℕ)) (more : List ℕ) → last ≡ Some (journal_head began ++ more) → IsHeld between name (journal_head began) → LetsGo between (Some is) name last → ⊥
  of_gone began None last more has kept gone = false≢true (sym (ap (λ (o : Option Held). is_some o) gone))
  of_gone began (Some mid) last more has kept (inl same) =
      not_begun began [] (ap (λ (o : Option Held). bytes_of (unwrap_or o is) name) same ∙ kept ∙ ap (λ (x : List ℕ). Some x) (sym (append-nil _)))
  of_gone began (Some mid) last more has kept (inr put) = not_begun began more ((subst (λ (x : Option (List ℕ)). Replaces (Some mid) (Some is) name x) has put).here name refl)

  of_broken : (permits : Permits) (start : List Standing) (input rest out after : Option (List ℕ)) (e : ToolError) → IsBrokenOff permits name start (Some was) (Some is) input rest out after e → ⊥
  of_broken permits start input rest out after e (inl h) = not_begun (content_of start) [] (h.2.here name refl ∙ ap (λ (x : List ℕ). Some x) (sym (append-nil _)))
  of_broken permits start input rest out after e (inr h) =
      let part = h.1.part in
      let stops = part.served.ended in
      let first = grown h.1.begun (content_of start) h.1.first h.1.put h.1.opened in
      of_gone (content_of start) part.between part.last (stops.noted ++ stops.front) (appended h.1.first part.last (content_of start) (stops.noted ++ stops.front) first stops.wrote_notes) h.1.kept part.gone

  of_value : (permits : Permits) (saved : Option Saved) (input rest out after : Option (List ℕ)) (e : ToolError) → IsRefusedFrom permits (Some was) (Some is) (Some name) saved input rest out after e → ⊥
  of_value permits saved input rest out after e (inl h) = of_untouched h.1
  of_value permits saved input rest out after e (inr h) = of_broken permits h.2 input rest out after e h.4

  of_noted : (permits : Permits) (start end : List Standing) (input rest out after : Option (List ℕ)) → IsServedNoted permits name start end (Some was) (Some is) input rest out after → ⊥
  of_noted permits start end input rest out after h =
      let begun = replaced_known (Some was) h.begun name _ (was, refl) h.put in
      let ended = answers_known _ start end h.begun h.ended h.served.told.answered.lines h.served.told.said h.served.told.noted begun h.served.told.answered.answers in
      let first = grown h.begun (content_of start) h.first h.put h.opened in
      let last = appended h.first h.last (content_of start) h.served.told.noted first h.served.told.wrote_notes in
      let settled = subst (λ (x : Option Held). Replaces x (Some is) name (Some (journal_head (content_of start) ++ h.served.told.noted))) ended.1 (subst (λ (x : Option (List ℕ)). Replaces h.ended (Some is) name x) last h.settled) in
      not_begun (content_of start) h.served.told.noted (settled.here name refl)

  of_folder : (folder : List ℕ) → folder ≡ name → LeadsToFolder (Some was) folder → ⊥
  of_folder folder same leads = false≢true (sym (held_no_folder (Some was) name (b ∷ bs) some) ∙ subst (λ (x : List ℕ). is_folder was x ≡ true) same leads)

  of_served : (words : ServeWords) (saved : Option Saved) (end : List Standing) (input rest out after : Option (List ℕ)) → journal_of words ≡ Some name → IsServedTo words saved end (Some was) (Some is) input rest out after → ⊥
  of_served words saved end input rest out after named (inl h) =
      of_noted (permits_of words) h.start end input rest out after (subst (λ (j : Option (List ℕ)). IsServed (permits_of words) j h.start end (Some was) (Some is) input rest out after) named h.served)
  of_served words saved end input rest out after named (inr h) = of_folder h.0 (one_name h.0 name (sym h.1 ∙ named)) h.2

  of_lines : (words : ServeWords) (saved : Option Saved) (input rest out after : Option (List ℕ)) (e : ToolError) → journal_of words ≡ Some name → IsRefusedTo words (Some was) (Some is) saved input rest out after e → ⊥
  of_lines words saved input rest out after e named (inl h) =
      of_value (permits_of words) saved input rest out after e (subst (λ (j : Option (List ℕ)). IsRefusedFrom (permits_of words) (Some was) (Some is) j saved input rest out after e) named h)
  of_lines words saved input rest out after e named (inr h) = of_folder h.0 (one_name h.0 name (sym h.1 ∙ named)) h.2

  in_known : (words : ServeWords) (input rest out after early late : Option (List ℕ)) (e : ToolError) → journal_of words ≡ Some name →
      IsServeRefusal words (record { files = Some was; input = input; out = out; err = early }) (record { files = Some is; input = rest; out = after; err = late }) e → ⊥
  in_known words input rest out after early late e named (inl h) = not_same (ap (λ (o : Option Held). bytes_of (unwrap_or o was) name) h.1)
  in_known words input rest out after early late e named (inr (saved, given, inl h)) = of_lines words saved input rest out after e named h
  in_known words input rest out after early late e named (inr (saved, given, inr (end, served, untold))) = of_served words saved end input rest out after named served

pub emptied : (name : List ℕ) (was is : Held) (b : ℕ) (bs : List ℕ) (before ended : Option Held) (words : ServeWords) (input rest out after early late : Option (List ℕ)) (e : ToolError) →
    before ≡ Some was → ended ≡ Some is → bytes_of was name ≡ Some (b ∷ bs) → bytes_of is name ≡ Some [] → journal_of words ≡ Some name →
    IsServeRefusal words (record { files = before; input = input; out = out; err = early }) (record { files = ended; input = rest; out = after; err = late }) e → ⊥
emptied name was is b bs before ended words input rest out after early late e files end some none named h =
    in_known name was is b bs some none words input rest out after early late e named
    (subst (λ (x : Option Held). IsServeRefusal words (record { files = Some was; input = input; out = out; err = early }) (record { files = x; input = rest; out = after; err = late }) e) end
    (subst (λ (x : Option Held). IsServeRefusal words (record { files = x; input = input; out = out; err = early }) (record { files = ended; input = rest; out = after; err = late }) e) files h))

-- what is there once it was put there
pub put_there : (was : Held) (is : Option Held) (name : List ℕ) → Replaces (Some was) is name (Some []) → (h : Held) × (is ≡ Some h) × (bytes_of h name ≡ Some [])
put_there was None name put = absurd put
put_there was (Some h) name put = (h, refl, put.here name refl)
