-- A block and a text as their parts, one after the other, and why they fit.
use Rattle.std.proofs.Common.{ℕ, List, [], ◌++◌, Option, Err, sym, subst}
use Rattle.std.specs.Io.KnownBytes.{Appends}
use Rattle.std.specs.List.{flat_map}
use Rattle.std.proofs.lemmas.List.{append-nil}
use Rattle.text_lines.specs.declared.write.WriteFault.{WriteFault}
use Rattle.text_lines.specs.Writing.{Wrote, Writes}
use Rattle.text_lines.proofs.Writing.{wrote_none, wrote_piece, wrote_fault, wrote_all}
use Rattle.saved_history.specs.Content.{Block, Content}
use Rattle.saved_history.specs.Spelling.{first_line, head_line, start_line, event_line, end_line, survey_line, done_line, head_of, below_head, block_text, text}

-- a fault in the last piece
wrote_last : (a b c : Option (List ℕ)) (e : WriteFault) (text x : List ℕ) → Wrote a b text x → Writes b c (Err e) x → Writes a c (Err e) text
wrote_last a b c e text x h k = wrote_fault a b c e text x [] (subst (λ (u : List ℕ). Wrote a b text u) (sym (append-nil x)) h) k

-- the last piece
wrote_rest : (a b c : Option (List ℕ)) (text x : List ℕ) → Wrote a b text x → Appends b c x → Appends a c text
wrote_rest a b c text x h k = wrote_all a c text (wrote_piece a b c text x [] (subst (λ (u : List ℕ). Wrote a b text u) (sym (append-nil x)) h) k)

-- ---- a block

abbrev pub history_lines : Block → List ℕ
history_lines b = flat_map event_line b.events ++ end_line b.events_said

abbrev pub surveys_lines : Block → List ℕ
surveys_lines b = flat_map survey_line b.surveys

abbrev pub below_start : Block → List ℕ
below_start b = history_lines b ++ surveys_lines b

module _ (r : Block) (a b : Option (List ℕ)) where
  pub head_done : Appends a b (head_line (head_of r)) → Wrote a b (block_text r) (below_head r)
  head_done h = wrote_piece a a b (block_text r) (head_line (head_of r)) (below_head r) (wrote_none a (block_text r)) h

  pub head_fault : (e : WriteFault) → Writes a b (Err e) (head_line (head_of r)) → Writes a b (Err e) (block_text r)
  head_fault e h = wrote_fault a a b e (block_text r) (head_line (head_of r)) (below_head r) (wrote_none a (block_text r)) h

  module _ (c : Option (List ℕ)) where
    pub start_done : Wrote a b (block_text r) (below_head r) → Appends b c (start_line r.start) → Wrote a c (block_text r) (below_start r)
    start_done w h = wrote_piece a b c (block_text r) (start_line r.start) (below_start r) w h

    pub start_fault : Wrote a b (block_text r) (below_head r) → (e : WriteFault) → Writes b c (Err e) (start_line r.start) → Writes a c (Err e) (block_text r)
    start_fault w e h = wrote_fault a b c e (block_text r) (start_line r.start) (below_start r) w h

    pub history_done : Wrote a b (block_text r) (below_start r) → Appends b c (history_lines r) → Wrote a c (block_text r) (surveys_lines r)
    history_done w h = wrote_piece a b c (block_text r) (history_lines r) (surveys_lines r) w h

    pub history_fault : Wrote a b (block_text r) (below_start r) → (e : WriteFault) → Writes b c (Err e) (history_lines r) → Writes a c (Err e) (block_text r)
    history_fault w e h = wrote_fault a b c e (block_text r) (history_lines r) (surveys_lines r) w h

    pub surveys_fault : Wrote a b (block_text r) (surveys_lines r) → (e : WriteFault) → Writes b c (Err e) (surveys_lines r) → Writes a c (Err e) (block_text r)
    surveys_fault w e h = wrote_last a b c e (block_text r) (surveys_lines r) w h

    pub surveys_done : Wrote a b (block_text r) (surveys_lines r) → Appends b c (surveys_lines r) → Appends a c (block_text r)
    surveys_done w h = wrote_rest a b c (block_text r) (surveys_lines r) w h

-- ---- a text

abbrev pub blocks_lines : Content → List ℕ
blocks_lines s = flat_map block_text s.rings

abbrev pub below_first : Content → List ℕ
below_first s = blocks_lines s ++ done_line s.rings_said

module _ (s : Content) (a b : Option (List ℕ)) where
  pub first_done : Appends a b (first_line s.version) → Wrote a b (text s) (below_first s)
  first_done h = wrote_piece a a b (text s) (first_line s.version) (below_first s) (wrote_none a (text s)) h

  pub first_fault : (e : WriteFault) → Writes a b (Err e) (first_line s.version) → Writes a b (Err e) (text s)
  first_fault e h = wrote_fault a a b e (text s) (first_line s.version) (below_first s) (wrote_none a (text s)) h

  module _ (c : Option (List ℕ)) where
    pub blocks_done : Wrote a b (text s) (below_first s) → Appends b c (blocks_lines s) → Wrote a c (text s) (done_line s.rings_said)
    blocks_done w h = wrote_piece a b c (text s) (blocks_lines s) (done_line s.rings_said) w h

    pub blocks_fault : Wrote a b (text s) (below_first s) → (e : WriteFault) → Writes b c (Err e) (blocks_lines s) → Writes a c (Err e) (text s)
    blocks_fault w e h = wrote_fault a b c e (text s) (blocks_lines s) (done_line s.rings_said) w h

    pub done_fault : Wrote a b (text s) (done_line s.rings_said) → (e : WriteFault) → Writes b c (Err e) (done_line s.rings_said) → Writes a c (Err e) (text s)
    done_fault w e h = wrote_last a b c e (text s) (done_line s.rings_said) w h

    pub done_done : Wrote a b (text s) (done_line s.rings_said) → Appends b c (done_line s.rings_said) → Appends a c (text s)
    done_done w h = wrote_rest a b c (text s) (done_line s.rings_said) w h
