-- The lines of blocks, one after the other.
use Rattle.std.proofs.Common.{◌≡◌, ℕ, zero, suc, ◌+◌, ◌-◌, ◌<◌, ◌≤◌, List, [], ◌∷◌, ◌++◌, length, take, drop, get_or, map, Bool, true, false, cond, refl, sym, ◌∙◌, ap, subst, arith, eqb, append_assoc, append-nil, length-append}
use Rattle.std.specs.Prelude.{not, nat_lt, ◌&&◌, ◌||◌, Option, None, Some}
use Rattle.std.specs.List.{flat_map, list_all}
use Rattle.std.proofs.lemmas.List.{length-map, take_more, take_all}
use Rattle.std.proofs.lemmas.List.Folds.{length-flat_map-take}
use Rattle.std.proofs.lemmas.Grind.{flat_map-append}
use Rattle.ring_model.specs.declared.events.Event.{Event}
use Rattle.ring_model.specs.Groups.{left_after}
use Rattle.ring_model.specs.Ring.{Ring}
use Rattle.saved_history.specs.declared.saved.SavedEvent.{SavedEvent}
use Rattle.saved_history.specs.declared.saved.SavedSurvey.{SavedSurvey}
use Rattle.saved_history.specs.declared.saved.SavedRing.{SavedRing}
use Rattle.saved_history.specs.Content.{Block, Content, block_of}
use Rattle.ring_check.specs.declared.answers.Kind.{Kind}
use Rattle.ring_check.specs.declared.answers.Kind.TheVariants.{Range, Count, Group}
use Rattle.ring_check.specs.Lines.{Line, RingLine, StartLine, EventLine, EndLine, SurveyLine, DoneLine, block_lines, lines}
use Rattle.ring_check.specs.Scan.{in_block}
use Rattle.ring_check.specs.Table.{Before, nothing, event_of, first_state, after_line, are_parameters, end_fault}
use Rattle.ring_check.proofs.Blocks.{tail_lines, block_long}
use Rattle.ring_check.proofs.BlockLines.{ring_at}
use Rattle.bad_lines.specs.declared.wrongs.Bad.{Bad}
use Rattle.bad_lines.specs.declared.wrongs.BadLine.{BadLine}
use Rattle.bad_lines.specs.declared.wrongs.Wrong.TheVariants.{Number, Limit, Unfinished}
use Rattle.bad_lines.specs.BadLines.{Known, known, begins, bad_of, bad, told, told_of, mended, after_known, after_all, bad_among, bad_lines}
use Rattle.bad_lines.specs.Replays.{own_all, AreCallable, marked}
use Rattle.bad_lines.specs.Wrongs.{first_over, end_wrong, is_in_place}
use Rattle.bad_lines.proofs.Firsts.{told_known}
use Rattle.bad_lines.proofs.Owns.{own_length, own_left}
use Rattle.bad_lines.proofs.Walks.{all_append, among_append, NoneBegins, none_append, none_map, lost_among}
use Rattle.bad_lines.proofs.EventLines.{known_at, known_all}

-- no line of a block's tail begins anything
tail_none : (es : List SavedEvent) (said : ℕ) (ss : List SavedSurvey) → NoneBegins (tail_lines es said ss)
tail_none es said ss = none_append (map EventLine es) (EndLine said ∷ map SurveyLine ss) (none_map EventLine es (λ x. refl)) (refl, none_map SurveyLine ss (λ x. refl))

pub tail_lost : (k : Known) (es : List SavedEvent) (said : ℕ) (ss : List SavedSurvey) → (after_all k (map EventLine es)).lost ≡ true → bad_among k (tail_lines es said ss) ≡ bad_among k (map EventLine es)
tail_lost k es said ss e =
    among_append k (map EventLine es) (EndLine said ∷ map SurveyLine ss)
    ∙ ap (λ (u : List BadLine). bad_among k (map EventLine es) ++ u) (lost_among (after_all k (map EventLine es)) (EndLine said ∷ map SurveyLine ss) (refl, none_map SurveyLine ss (λ x. refl)) e)
    ∙ append-nil (bad_among k (map EventLine es))

module _ (start : Ring) (version rings line : ℕ) (es : List SavedEvent) (said : ℕ) (ss : List SavedSurvey) (c : AreCallable (length start.values) (first_state start) (map event_of es)) where
  end_is : bad (known_at start version rings (line + length es) (map event_of es)).before (EndLine said) ≡ bad_of (end_fault said (map event_of es)) (end_wrong said (map event_of es))
  end_is =
      let g : ℕ → ℕ → Option Bad = λ n l. bad_of (cond (eqb said n) (cond (eqb l 0) None (Some Group)) (Some Count)) (cond (eqb said n) (Unfinished (l - 1)) (Number said n)) in
      ap (λ (n : ℕ). g n (left_after (own_all (first_state start) (map event_of es)))) (own_length (first_state start) (map event_of es))
      ∙ ap (λ (l : ℕ). g (length (map event_of es)) l) (own_left (first_state start) (map event_of es))

  pub tail_known : bad_among (known_at start version rings line []) (tail_lines es said ss)
      ≡ bad_among (known_at start version rings line []) (map EventLine es)
      ++ (told (line + length es) (bad_of (end_fault said (map event_of es)) (end_wrong said (map event_of es)))
      ++ bad_among (known (marked version (line + length es + 1) rings start es 0 0)) (map SurveyLine ss))
  unfolding end_is
  tail_known =
      let k = known_at start version rings line [] in
      let k1 = known_at start version rings (line + length es) (map event_of es) in
      let rest : bad_among k1 (EndLine said ∷ map SurveyLine ss) ≡ told (line + length es) (bad_of (end_fault said (map event_of es)) (end_wrong said (map event_of es)))
      ++ bad_among (known (marked version (line + length es + 1) rings start es 0 0)) (map SurveyLine ss) =
      ap (λ (u : List BadLine). u ++ bad_among (after_known k1 (EndLine said)) (map SurveyLine ss)) (told_known k1.before (EndLine said))
      ∙ ap (λ (x : Option Bad). told (line + length es) x ++ bad_among (known (marked version (line + length es + 1) rings start es 0 0)) (map SurveyLine ss)) end_is in
      among_append k (map EventLine es) (EndLine said ∷ map SurveyLine ss)
      ∙ ap (λ (x : Known). bad_among k (map EventLine es) ++ bad_among x (EndLine said ∷ map SurveyLine ss)) (known_all start version rings line [] es c)
      ∙ ap (λ (u : List BadLine). bad_among k (map EventLine es) ++ u) rest

  -- what is reported of the events, of the end line and of the surveys, one after the other
  pub tail_told : (old o1 o2 o3 : List BadLine) (end : ℕ) → end ≡ line + length es → o1 ≡ old ++ bad_among (known_at start version rings line []) (map EventLine es) →
      o2 ≡ o1 ++ told end (bad_of (end_fault said (map event_of es)) (end_wrong said (map event_of es))) →
      o3 ≡ o2 ++ bad_among (known (marked version (end + 1) rings start es 0 0)) (map SurveyLine ss) →
      o3 ≡ old ++ bad_among (known_at start version rings line []) (tail_lines es said ss)
  unfolding tail_known
  tail_told old o1 o2 o3 end at a b d =
      let events = bad_among (known_at start version rings line []) (map EventLine es) in
      let last : ℕ → List BadLine = λ x. told x (bad_of (end_fault said (map event_of es)) (end_wrong said (map event_of es))) in
      let surveys : ℕ → List BadLine = λ x. bad_among (known (marked version (x + 1) rings start es 0 0)) (map SurveyLine ss) in
      d ∙ ap (λ (u : List BadLine). u ++ surveys end) b
      ∙ append_assoc o1 (last end) (surveys end)
      ∙ ap (λ (u : List BadLine). u ++ (last end ++ surveys end)) a
      ∙ append_assoc old events (last end ++ surveys end)
      ∙ ap (λ (x : ℕ). old ++ (events ++ (last x ++ surveys x))) at
      ∙ ap (λ (u : List BadLine). old ++ u) (sym tail_known)

module _ (r : Block) (version line place : ℕ) (k : Known) (v : k.before.version ≡ version) (l : k.before.line ≡ line) (p : k.before.rings ≡ place)
    (old one : List BadLine) (found : Option Bad) (f : found ≡ bad k.before (RingLine r.index r.n r.k)) (e : one ≡ old ++ told line found) where
  head : old ++ told k.before.line (bad k.before (RingLine r.index r.n r.k)) ≡ one
  head = ap (λ (x : ℕ). old ++ told x (bad k.before (RingLine r.index r.n r.k))) l ∙ ap (λ (x : Option Bad). old ++ told line x) (sym f) ∙ sym e

  abbrev pub tail : List Line
  tail = tail_lines r.events r.events_said r.surveys

  abbrev pub behind : Known
  behind = after_known k (RingLine r.index r.n r.k)

  -- the ring cannot be
  pub block_none : are_parameters version r.n r.k ≡ false → one ≡ old ++ bad_among k (block_lines r)
  unfolding head
  block_none bad_size =
      let lost : behind.lost ≡ true = ap (λ (x : ℕ). not (are_parameters x r.n r.k)) v ∙ ap not bad_size in
      let none : bad_among behind (StartLine r.start ∷ tail) ≡ [] = lost_among behind (StartLine r.start ∷ tail) (refl, tail_none r.events r.events_said r.surveys) lost in
      sym (ap (λ (u : List BadLine). old ++ (told k.before.line (bad k.before (RingLine r.index r.n r.k)) ++ u)) none
      ∙ ap (λ (u : List BadLine). old ++ u) (append-nil (told k.before.line (bad k.before (RingLine r.index r.n r.k)))) ∙ head)

  module _ (yes : are_parameters version r.n r.k ≡ true) where
    abbrev pub opened : Before
    opened = after_line k.before (RingLine r.index r.n r.k)

    behind_is : behind ≡ known opened
    behind_is =
        let params : not (are_parameters k.before.version r.n r.k) ≡ false = ap (λ (x : ℕ). not (are_parameters x r.n r.k)) v ∙ ap not yes in
        ap (λ (b : Bool). let t : Known = record { lost = b; before = opened } in t) params

    -- the fault of the start line, and what comes after it
    whole : (out : List BadLine) (rest : List BadLine) (start_found : Option Bad) → bad opened (StartLine r.start) ≡ start_found → bad_among (after_known (known opened) (StartLine r.start)) tail ≡ rest →
        out ≡ (one ++ told (line + 1) start_found) ++ rest → out ≡ old ++ bad_among k (block_lines r)
    unfolding head behind_is
    whole out rest start_found s t o =
        let second : bad_among behind (StartLine r.start ∷ tail) ≡ told (line + 1) start_found ++ rest =
        ap (λ (x : Known). bad_among x (StartLine r.start ∷ tail)) behind_is
        ∙ ap (λ (u : List BadLine). told (k.before.line + 1) (bad opened (StartLine r.start)) ++ u) t
        ∙ ap (λ (x : Option Bad). told (k.before.line + 1) x ++ rest) s
        ∙ ap (λ (x : ℕ). told (x + 1) start_found ++ rest) l in
        let first : List BadLine = told k.before.line (bad k.before (RingLine r.index r.n r.k)) in
        o ∙ append_assoc one (told (line + 1) start_found) rest
        ∙ ap (λ (u : List BadLine). u ++ (told (line + 1) start_found ++ rest)) (sym head)
        ∙ append_assoc old (told k.before.line (bad k.before (RingLine r.index r.n r.k))) (told (line + 1) start_found ++ rest)
        ∙ ap (λ (u : List BadLine). old ++ (told k.before.line (bad k.before (RingLine r.index r.n r.k)) ++ u)) (sym second)

    -- a start value is too large
    pub block_start : (out : List BadLine) → list_all (λ x. nat_lt x r.k) r.start ≡ false →
        out ≡ one ++ told (line + 1) (Some (record { kind = Range; wrong = Limit (first_over r.k r.start) r.k })) → out ≡ old ++ bad_among k (block_lines r)
    unfolding whole
    block_start out over o =
        let fault : bad opened (StartLine r.start) ≡ Some (record { kind = Range; wrong = Limit (first_over r.k r.start) r.k }) =
        ap (λ (b : Bool). bad_of (cond b None (Some Range)) (Limit (first_over r.k r.start) r.k)) over in
        let lost : (after_known (known opened) (StartLine r.start)).lost ≡ true = ap not over in
        let none : bad_among (after_known (known opened) (StartLine r.start)) tail ≡ [] = lost_among (after_known (known opened) (StartLine r.start)) tail (tail_none r.events r.events_said r.surveys) lost in
        whole out [] (Some (record { kind = Range; wrong = Limit (first_over r.k r.start) r.k })) fault none
        (o ∙ sym (append-nil (one ++ told (line + 1) (Some (record { kind = Range; wrong = Limit (first_over r.k r.start) r.k })))))

    -- the ring is known
    pub block_tail : (out : List BadLine) → list_all (λ x. nat_lt x r.k) r.start ≡ true → length r.start ≡ r.n →
        out ≡ one ++ bad_among (known (in_block version (line + 2) (place + 1) (length r.start) r.k r.start [])) tail → out ≡ old ++ bad_among k (block_lines r)
    unfolding whole
    block_tail out all n o =
        let fault : bad opened (StartLine r.start) ≡ None = ap (λ (b : Bool). bad_of (cond b None (Some Range)) (Limit (first_over r.k r.start) r.k)) all in
        let two : line + 1 + 1 ≡ line + 2 = omega arith in
        let at : after_known (known opened) (StartLine r.start) ≡ known (in_block version (line + 2) (place + 1) (length r.start) r.k r.start []) =
        ap (λ (b : Bool). let t : Known = record { lost = not b; before = after_line opened (StartLine r.start) } in t) all
        ∙ ap (λ (x : ℕ). known (in_block x (k.before.line + 1 + 1) (k.before.rings + 1) r.n r.k r.start [])) v
        ∙ ap (λ (x : ℕ). known (in_block version (x + 1 + 1) (k.before.rings + 1) r.n r.k r.start [])) l
        ∙ ap (λ (x : ℕ). known (in_block version x (k.before.rings + 1) r.n r.k r.start [])) two
        ∙ ap (λ (x : ℕ). known (in_block version (line + 2) (x + 1) r.n r.k r.start [])) p
        ∙ ap (λ (x : ℕ). known (in_block version (line + 2) (place + 1) x r.k r.start [])) (sym n) in
        whole out (bad_among (known (in_block version (line + 2) (place + 1) (length r.start) r.k r.start [])) tail) None fault
        (ap (λ (x : Known). bad_among x tail) at)
        (o ∙ ap (λ (u : List BadLine). u ++ bad_among (known (in_block version (line + 2) (place + 1) (length r.start) r.k r.start [])) tail) (sym (append-nil one)))

-- what lines leave of the facts

line_next : (b : Before) (l : Line) → (mended b l).line ≡ b.line + 1
line_next b (RingLine index n k) = refl
line_next b (StartLine s) = refl
line_next b (EventLine e) = refl
line_next b (EndLine said) = refl
line_next b (SurveyLine s) = go (is_in_place b s)
  where
    go : (t : Bool) → (cond t (after_line b (SurveyLine s)) (record b { line = b.line + 1 })).line ≡ b.line + 1
    go true = refl
    go false = refl
line_next b (DoneLine said) = refl

version_next : (b : Before) (l : Line) → (mended b l).version ≡ b.version
version_next b (RingLine index n k) = refl
version_next b (StartLine s) = refl
version_next b (EventLine e) = refl
version_next b (EndLine said) = refl
version_next b (SurveyLine s) = go (is_in_place b s)
  where
    go : (t : Bool) → (cond t (after_line b (SurveyLine s)) (record b { line = b.line + 1 })).version ≡ b.version
    go true = refl
    go false = refl
version_next b (DoneLine said) = refl

rings_next : (b : Before) (l : Line) → begins l ≡ false → (mended b l).rings ≡ b.rings
rings_next b (RingLine index n k) h = absurd (cc)
rings_next b (StartLine s) h = refl
rings_next b (EventLine e) h = refl
rings_next b (EndLine said) h = refl
rings_next b (SurveyLine s) h = go (is_in_place b s)
  where
    go : (t : Bool) → (cond t (after_line b (SurveyLine s)) (record b { line = b.line + 1 })).rings ≡ b.rings
    go true = refl
    go false = refl
rings_next b (DoneLine said) h = absurd (cc)

pub all_line : (k : Known) (ls : List Line) → (after_all k ls).before.line ≡ k.before.line + length ls
all_line k [] = omega arith
all_line k (l ∷ ls) = let one = line_next k.before l in let more = all_line (after_known k l) ls in omega arith

pub all_version : (k : Known) (ls : List Line) → (after_all k ls).before.version ≡ k.before.version
all_version k [] = refl
all_version k (l ∷ ls) = all_version (after_known k l) ls ∙ version_next k.before l

all_rings : (k : Known) (ls : List Line) → NoneBegins ls → (after_all k ls).before.rings ≡ k.before.rings
all_rings k [] n = refl
all_rings k (l ∷ ls) n = all_rings (after_known k l) ls n.1 ∙ rings_next k.before l n.0

block_rings : (k : Known) (r : Block) → (after_all k (block_lines r)).before.rings ≡ k.before.rings + 1
block_rings k r = all_rings (after_known k (RingLine r.index r.n r.k)) (StartLine r.start ∷ tail_lines r.events r.events_said r.surveys) (refl, tail_none r.events r.events_said r.surveys)

-- the bad lines of the first i blocks are reported
pub record AreToldBlocks (version : ℕ) (rs : List SavedRing) (old : List BadLine) (i line : ℕ) (out : List BadLine) : Type 0 where
  pub told : out ≡ old ++ bad_among (known (nothing version)) (flat_map block_lines (take i (map block_of rs)))
  pub rings : (after_all (known (nothing version)) (flat_map block_lines (take i (map block_of rs)))).before.rings ≡ i
  pub long : line ≡ length (flat_map block_lines (take i (map block_of rs))) + 1

module _ (version : ℕ) (rs : List SavedRing) (old : List BadLine) (i line : ℕ) (x : SavedRing) (l : i < length rs) (e : x ≡ get_or rs i x) (out : List BadLine) (so_far : AreToldBlocks version rs old i line out) where
  pub ring_room : line + length x.events.items + length x.surveys.items + 4 ≤ length (flat_map block_lines (map block_of rs)) + 2
  ring_room =
      let n : length (map block_of rs) ≡ length rs = length-map rs block_of in
      let lt : i < length (map block_of rs) = omega arith in
      let at = ring_at rs i x e in
      let room : length (flat_map block_lines (take i (map block_of rs))) + length (block_lines (block_of x)) ≤ length (flat_map block_lines (map block_of rs)) =
      subst (λ (y : Block). length (flat_map block_lines (take i (map block_of rs))) + length (block_lines y) ≤ length (flat_map block_lines (map block_of rs))) at
      (length-flat_map-take block_lines (map block_of rs) i (block_of x) lt) in
      let long = block_long (block_of x) in
      let was = so_far.long in
      omega arith

  push : flat_map block_lines (take (i + 1) (map block_of rs)) ≡ flat_map block_lines (take i (map block_of rs)) ++ block_lines (block_of x)
  push =
      let n : length (map block_of rs) ≡ length rs = length-map rs block_of in
      let lt : i < length (map block_of rs) = omega arith in
      ap (λ (u : List Block). flat_map block_lines u) (take_more (map block_of rs) i (block_of x) lt ∙ ap (λ (y : Block). take i (map block_of rs) ++ y ∷ []) (ring_at rs i x e))
      ∙ flat_map-append block_lines (take i (map block_of rs)) (block_of x ∷ [])
      ∙ ap (λ (u : List Line). flat_map block_lines (take i (map block_of rs)) ++ u) (append-nil (block_lines (block_of x)))

  pub blocks_next : (new : List BadLine) →
      ((k : Known) → k.before.version ≡ version → k.before.line ≡ line → k.before.rings ≡ i → new ≡ out ++ bad_among k (block_lines (block_of x))) →
      AreToldBlocks version rs old (i + 1) (line + (3 + length x.events.items + length x.surveys.items)) new
  unfolding push
  blocks_next new h =
      let front = flat_map block_lines (take i (map block_of rs)) in
      let k0 : Known = known (nothing version) in
      let k = after_all k0 front in
      let long = so_far.long in
      let lines : k.before.line ≡ 1 + length front = all_line k0 front in
      let here = h k (all_version k0 front) (omega arith) so_far.rings in
      let on : after_all k0 (flat_map block_lines (take (i + 1) (map block_of rs))) ≡ after_all k (block_lines (block_of x)) = ap (λ (u : List Line). after_all k0 u) push ∙ all_append k0 front (block_lines (block_of x)) in
      let more : length (flat_map block_lines (take (i + 1) (map block_of rs))) ≡ length front + length (block_lines (block_of x)) =
      ap (λ (u : List Line). length u) push ∙ length-append front (block_lines (block_of x)) in
      let wide = block_long (block_of x) in
      record {
        told = here ∙ ap (λ (u : List BadLine). u ++ bad_among k (block_lines (block_of x))) so_far.told
            ∙ append_assoc old (bad_among k0 front) (bad_among k (block_lines (block_of x)))
            ∙ ap (λ (u : List BadLine). old ++ u) (sym (ap (λ (u : List Line). bad_among k0 u) push ∙ among_append k0 front (block_lines (block_of x))));
        rings = ap (λ (u : Known). u.before.rings) on ∙ block_rings k (block_of x) ∙ ap (λ (n : ℕ). n + 1) so_far.rings;
        long = omega arith;
      }

pub blocks_all : (version : ℕ) (rs : List SavedRing) (old : List BadLine) (i line : ℕ) (out : List BadLine) → length rs ≤ i → AreToldBlocks version rs old i line out →
    (out ≡ old ++ bad_among (known (nothing version)) (flat_map block_lines (map block_of rs))) × (line ≡ length (flat_map block_lines (map block_of rs)) + 1)
blocks_all version rs old i line out l t =
    let n : length (map block_of rs) ≡ length rs = length-map rs block_of in
    let whole : take i (map block_of rs) ≡ map block_of rs = take_all i (map block_of rs) (omega arith) in (
      t.told ∙ ap (λ (u : List Block). old ++ bad_among (known (nothing version)) (flat_map block_lines u)) whole,
      t.long ∙ ap (λ (u : List Block). length (flat_map block_lines u) + 1) whole,
    )

-- how many blocks there are after all of them
blocks_count : (k : Known) (bs : List Block) → (after_all k (flat_map block_lines bs)).before.rings ≡ k.before.rings + length bs
blocks_count k [] = omega arith
blocks_count k (b ∷ bs) =
    let on = ap (λ (u : Known). u.before.rings) (all_append k (block_lines b) (flat_map block_lines bs)) in
    let more = blocks_count (after_all k (block_lines b)) bs in
    let one = block_rings k b in
    on ∙ more ∙ omega arith

-- the whole text
pub text_told : (s : Content) (line count : ℕ) (out new : List BadLine) → out ≡ bad_among (known (nothing s.version)) (flat_map block_lines s.rings) → line ≡ length (flat_map block_lines s.rings) + 1 →
    count ≡ length s.rings → new ≡ out ++ told line (bad_of (cond (eqb s.rings_said count) None (Some Count)) (Number s.rings_said count)) → new ≡ bad_lines s
text_told s line count out new o l n e =
    let k0 : Known = known (nothing s.version) in
    let blocks = flat_map block_lines s.rings in
    let k = after_all k0 blocks in
    let at : k.before.line ≡ line = all_line k0 blocks ∙ omega arith in
    let rings : k.before.rings ≡ count = blocks_count k0 s.rings ∙ omega arith in
    let last : bad_among k (DoneLine s.rings_said ∷ []) ≡ told line (bad_of (cond (eqb s.rings_said count) None (Some Count)) (Number s.rings_said count)) =
    append-nil (told k.before.line (bad k.before (DoneLine s.rings_said)))
    ∙ ap (λ (x : ℕ). told x (bad k.before (DoneLine s.rings_said))) at
    ∙ ap (λ (x : ℕ). told line (bad_of (cond (eqb s.rings_said x) None (Some Count)) (Number s.rings_said x))) rings in
    e ∙ ap (λ (u : List BadLine). u ++ told line (bad_of (cond (eqb s.rings_said count) None (Some Count)) (Number s.rings_said count))) o
    ∙ sym (among_append k0 blocks (DoneLine s.rings_said ∷ []) ∙ ap (λ (u : List BadLine). bad_among k0 blocks ++ u) last)
