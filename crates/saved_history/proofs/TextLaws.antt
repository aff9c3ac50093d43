-- A ring below its first line, the rings one after the other, and the whole text.
use Rattle.std.proofs.Common.{◌≡◌, ℕ, zero, suc, ◌^◌, ◌<◌, List, [], ◌∷◌, ◌++◌, length, replicate, Result, Ok, Err, refl, sym, ap, ◌∙◌, append_assoc, arith}
use Rattle.std.specs.Prelude.{codes}
use Rattle.std.specs.List.{flat_map, AllByRecursion}
use Rattle.std.proofs.lemmas.List.{append-nil, length-replicate}
use Rattle.text_lines.specs.declared.fault.Fault.{Fault}
use Rattle.text_lines.specs.Reading.{Reader, ◌>>=◌, Either, this, that, then_at, as_at}
use Rattle.text_lines.specs.Spelling.{ended, row, OfEither, of_either, RowFits}
use Rattle.text_lines.specs.Grammar.{Reads, RunFits, many, Repeats}
use Rattle.text_lines.proofs.Sequences.{then_reads, both_reads, as_reads, after_reads, like_reads, said_reads}
use Rattle.text_lines.proofs.Repetitions.{many_reads, each_fits, run_fits}
use Rattle.text_lines.proofs.Rows.{row_reads}
use Rattle.saved_history.specs.declared.saved.RingHeader.{RingHeader}
use Rattle.saved_history.specs.Content.{Block, Content}
use Rattle.saved_history.specs.Versions.{IsVersion}
use Rattle.saved_history.specs.Spelling.{head_line, event_line, end_line, survey_line, done_line, head_of, below_head, block_text, text, EventFits, SurveyFits, RingHeaderFits, BlockFits, Fits}
use Rattle.saved_history.specs.Lines.{head_at, Part, part_at, block_with, ring_from, ring_at, Rings, linked_rings_at, blocks, Body, rings_at, body_at, version_at, content_with, text_at}
use Rattle.saved_history.proofs.LineLaws.{version_reads, Large, EventsFit, events_reads, head_reads, NextFits, next_line, SurveysFit, surveys_reads}

-- ---- a ring below its first line

abbrev PartFits : ℕ → ℕ → Part → Type 0
PartFits version n p = RowFits (2 ^ 32) n p.0 × (EventsFit version p.1.0 × SurveysFit p.1.1)

abbrev part_text : Part → List ℕ
part_text p = codes "start " ++ (row p.0 ++ (many event_line end_line p.1.0 ++ many survey_line next_line p.1.1))

part_reads : (version n : ℕ) → Reads (PartFits version n) part_text (part_at version n)
unfolding part_at
part_reads version n = after_reads (codes "start ") (both_reads (row_reads (2 ^ 32) (omega arith) (omega arith) n) (both_reads (events_reads version) surveys_reads))

-- ---- with the line after it

abbrev pub Inner : ℕ → RingHeader → Block × RingHeader → Type 0
Inner version h p = BlockFits version p.0 × (head_of p.0 ≡ h) × RingHeaderFits p.1

abbrev pub Last : ℕ → RingHeader → Block × ℕ → Type 0
Last version h p = BlockFits version p.0 × (head_of p.0 ≡ h) × (p.1 < 2 ^ 32)

abbrev pub inner_text : Block × RingHeader → List ℕ
inner_text p = below_head p.0 ++ head_line p.1

abbrev pub last_text : Block × ℕ → List ℕ
last_text p = below_head p.0 ++ done_line p.1

abbrev Linked : Type 0
Linked = Either (Block × RingHeader) (Block × ℕ)

abbrev LinkedFits : ℕ → RingHeader → Linked → Type 0
LinkedFits version h = OfEither (Inner version h) (Last version h)

abbrev linked_text : Linked → List ℕ
linked_text = of_either inner_text last_text

abbrev ring_back : Linked → Part
ring_back (this (b, g)) = (b.start, ((b.events, b.events_said), (b.surveys, this g)))
ring_back (that (b, n)) = (b.start, ((b.events, b.events_said), (b.surveys, that n)))

block_fits : (version : ℕ) (h : RingHeader) (p : Part) → RingHeaderFits h → PartFits version h.n p → BlockFits version (block_with h p.0 p.1.0.0 p.1.0.1 p.1.1.0)
block_fits version h p v f =
    let e = each_fits (EventFits version) Large p.1.0.0 p.1.0.1 f.1.0 in
    let s = each_fits SurveyFits NextFits p.1.1.0 p.1.1.1 f.1.1 in
    record { head = v; start = f.0.0; values = f.0.1; events = e.0; events_said = e.1; surveys = s.0 }

ring_fits : (version : ℕ) (h : RingHeader) → RingHeaderFits h → (p : Part) → PartFits version h.n p → LinkedFits version h (ring_from h p)
ring_fits version h v (start, (es, (ss, this g))) f = (block_fits version h (start, (es, (ss, this g))) v f, refl, (each_fits SurveyFits NextFits ss (this g) f.1.1).1)
ring_fits version h v (start, (es, (ss, that n))) f = (block_fits version h (start, (es, (ss, that n))) v f, refl, (each_fits SurveyFits NextFits ss (that n) f.1.1).1)

ring_fits_back : (version : ℕ) (h : RingHeader) (b : Linked) → LinkedFits version h b → PartFits version h.n (ring_back b)
ring_fits_back version h (this (b, g)) f = ((f.0.start ∙ ap (λ (x : RingHeader). x.n) f.1, f.0.values), (run_fits (EventFits version) Large b.events b.events_said f.0.events f.0.events_said, run_fits SurveyFits NextFits b.surveys (this g) f.0.surveys f.2))
ring_fits_back version h (that (b, n)) f = ((f.0.start ∙ ap (λ (x : RingHeader). x.n) f.1, f.0.values), (run_fits (EventFits version) Large b.events b.events_said f.0.events f.0.events_said, run_fits SurveyFits NextFits b.surveys (that n) f.0.surveys f.2))

ring_same : (version : ℕ) (h : RingHeader) (b : Linked) → LinkedFits version h b → ring_from h (ring_back b) ≡ b
ring_same version h (this (b, g)) f = ap (λ (x : RingHeader). this (block_with x b.start b.events b.events_said b.surveys, g)) (sym f.1)
ring_same version h (that (b, n)) f = ap (λ (x : RingHeader). that (block_with x b.start b.events b.events_said b.surveys, n)) (sym f.1)

regroup : (word r e v w : List ℕ) → ((word ++ r) ++ (e ++ v)) ++ w ≡ word ++ (r ++ (e ++ (v ++ w)))
regroup word r e v w = simp append_assoc

ring_spelled : (version : ℕ) (h : RingHeader) (p : Part) → PartFits version h.n p → linked_text (ring_from h p) ≡ part_text p
ring_spelled version h (start, (es, (ss, this g))) f = regroup (codes "start ") (row start) (many event_line end_line es) (flat_map survey_line ss) (head_line g)
ring_spelled version h (start, (es, (ss, that n))) f = regroup (codes "start ") (row start) (many event_line end_line es) (flat_map survey_line ss) (done_line n)

ring_reads : (version : ℕ) (h : RingHeader) → RingHeaderFits h → Reads (LinkedFits version h) linked_text (ring_at version h)
unfolding ring_at
ring_reads version h v = as_reads (LinkedFits version h) linked_text (ring_from h) ring_back (part_reads version h.n) (ring_fits version h v) (ring_fits_back version h) (ring_same version h) (ring_spelled version h)

-- ---- the rings

zeros_fit : (n : ℕ) → AllByRecursion (λ x. x < 2 ^ 32) (replicate n 0)
zeros_fit zero = tt
zeros_fit (suc n) = (omega arith, zeros_fit n)

-- some ring with this first line
plain : RingHeader → Block
plain h = record { index = h.index; n = h.n; k = h.k; start = replicate h.n 0; events = []; events_said = 0; surveys = [] }

last_of : (version : ℕ) (h : RingHeader) → RingHeaderFits h → (p : Block × ℕ) × Last version h p
unfolding plain
last_of version h v = ((plain h, 0), (record { head = v; start = length-replicate h.n 0; values = zeros_fit h.n; events = tt; events_said = omega arith; surveys = tt }, refl, omega arith))

pub rings_repeat : (version : ℕ) → Repeats RingHeaderFits (Inner version) inner_text (Last version) last_text (ring_at version) (λ p. p.1)
rings_repeat version = record { reads = ring_reads version; keeps = λ st a f. f.2; some = λ st a f. omega arith; final = last_of version }

abbrev RingsFit : ℕ → RingHeader → Rings → Type 0
RingsFit version h r = RunFits (Inner version) (Last version) (λ p. p.1) h r.0 r.1

linked_rings_reads : (version : ℕ) (h : RingHeader) → RingHeaderFits h → Reads (RingsFit version h) (many inner_text last_text) (linked_rings_at version h)
unfolding linked_rings_at
linked_rings_reads version h v = many_reads (rings_repeat version) h v

-- ---- the whole text

abbrev Whole : Type 0
Whole = RingHeader × Rings

abbrev rings_back : List Block → ℕ → Whole
rings_back [] said = (record { index = 0; n = 0; k = 0 }, ([], (plain (record { index = 0; n = 0; k = 0 }), said)))
rings_back (b ∷ []) said = (head_of b, ([], (b, said)))
rings_back (b ∷ c ∷ bs) said = (head_of b, ((b, (rings_back (c ∷ bs) said).0) ∷ (rings_back (c ∷ bs) said).1.0, (rings_back (c ∷ bs) said).1.1))

abbrev WholeFits : ℕ → Whole → Type 0
WholeFits version p = RingHeaderFits p.0 × RingsFit version p.0 p.1

abbrev whole_text : Whole → List ℕ
whole_text p = head_line p.0 ++ many inner_text last_text p.1

-- the text below its first line, and what has one
abbrev body_text : Body → List ℕ
body_text p = flat_map block_text p.0 ++ done_line p.1

abbrev BodyFits : ℕ → Body → Type 0
BodyFits version p = (0 < length p.0) × AllByRecursion (BlockFits version) p.0 × (p.1 < 2 ^ 32)

abbrev body_from : Whole → Body
body_from p = (blocks p.1, p.1.1.1)

blocks_fit : (version : ℕ) (h : RingHeader) (xs : List (Block × RingHeader)) (last : Block × ℕ) → RingsFit version h (xs, last) → BodyFits version (blocks (xs, last), last.1)
blocks_fit version h [] last f = (omega arith, (f.0, tt), f.2)
blocks_fit version h (x ∷ xs) last f = let k = blocks_fit version x.1 xs last f.1 in (omega arith, (f.0.0, k.1), k.2)

back_fits : (version : ℕ) (bs : List Block) (said : ℕ) → AllByRecursion (BlockFits version) bs → said < 2 ^ 32 → 0 < length bs → WholeFits version (rings_back bs said)
back_fits version [] said f g l = absurd (omega arith)
back_fits version (b ∷ []) said f g l = (f.0.head, (f.0, refl, g))
back_fits version (b ∷ c ∷ bs) said f g l = let k = back_fits version (c ∷ bs) said f.1 g (omega arith) in (f.0.head, ((f.0, refl, k.0), k.1))

back_same : (bs : List Block) (said : ℕ) → 0 < length bs → (blocks (rings_back bs said).1 ≡ bs) × ((rings_back bs said).1.1.1 ≡ said)
back_same [] said l = absurd (omega arith)
back_same (b ∷ []) said l = (refl, refl)
back_same (b ∷ c ∷ bs) said l = let k = back_same (c ∷ bs) said (omega arith) in (ap (λ (r : List Block). b ∷ r) k.0, k.1)

relink : (h b n f l : List ℕ) → (h ++ b) ++ (n ++ (f ++ l)) ≡ h ++ (((b ++ n) ++ f) ++ l)
relink h b n f l = simp append_assoc

blocks_spelled : (version : ℕ) (h : RingHeader) (xs : List (Block × RingHeader)) (last : Block × ℕ) → RingsFit version h (xs, last) → flat_map block_text (blocks (xs, last)) ++ done_line last.1 ≡ head_line h ++ many inner_text last_text (xs, last)
blocks_spelled version h [] last f = ap (λ (g : RingHeader). ((head_line g ++ below_head last.0) ++ []) ++ done_line last.1) f.1 ∙ simp (append-nil, append_assoc)
blocks_spelled version h (x ∷ xs) last f =
    let k = blocks_spelled version x.1 xs last f.1 in
    append_assoc (block_text x.0) (flat_map block_text (blocks (xs, last))) (done_line last.1) ∙ ap (λ (r : List ℕ). block_text x.0 ++ r) k ∙ ap (λ (g : RingHeader). (head_line g ++ below_head x.0) ++ (head_line x.1 ++ many inner_text last_text (xs, last))) f.0.1
    ∙ relink (head_line h) (below_head x.0) (head_line x.1) (flat_map inner_text xs) (last_text last)

body_of : List Block → ℕ → Body
body_of bs n = (bs, n)

same_body : (xs ys : List Block) (m n : ℕ) → xs ≡ ys → m ≡ n → body_of xs m ≡ body_of ys n
same_body xs ys m n e g = ap (λ (bs : List Block). body_of bs m) e ∙ ap (body_of ys) g

linked_body_at : ℕ → Reader Body
linked_body_at version = as_at body_from (then_at head_at (linked_rings_at version))

linked_body_reads : (version : ℕ) → Reads (BodyFits version) body_text (linked_body_at version)
unfolding linked_body_at body_of
linked_body_reads version = as_reads (BodyFits version) body_text body_from (λ s. rings_back s.0 s.1) (then_reads head_reads (linked_rings_reads version))
    (λ p f. blocks_fit version p.0 p.1.0 p.1.1 f.1)
    (λ s f. back_fits version s.0 s.1 f.1 f.2 f.0)
    (λ s f. let k = back_same s.0 s.1 f.0 in same_body _ _ _ _ k.0 k.1)
    (λ p f. blocks_spelled version p.0 p.1.0 p.1.1 f.1)

-- the body by its blocks is the body by its linked rings

abbrev with_head : RingHeader → Rings × List ℕ → Result ((RingHeader × Rings) × List ℕ) Fault
with_head h y = Ok ((h, y.0), y.1)

abbrev with_first : RingHeader → Body × List ℕ → Result ((RingHeader × Body) × List ℕ) Fault
with_first h y = Ok ((h, y.0), y.1)

abbrev as_linked : (RingHeader × Rings) × List ℕ → Result (Body × List ℕ) Fault
as_linked z = Ok (body_from z.0, z.1)

abbrev as_body : (RingHeader × Body) × List ℕ → Result (Body × List ℕ) Fault
as_body z = Ok (z.0.1, z.1)

abbrev pub as_blocks : Rings × List ℕ → Result (Body × List ℕ) Fault
as_blocks x = Ok ((blocks x.0, x.0.1.1), x.1)

after_rings : (h : RingHeader) (r : Result (Rings × List ℕ) Fault) → (((r >>= as_blocks) >>= with_first h) >>= as_body) ≡ ((r >>= with_head h) >>= as_linked)
after_rings h (Ok x) = refl
after_rings h (Err d) = refl

behind_head : (version : ℕ) (r : Result (RingHeader × List ℕ) Fault) → ((r >>= λ x. rings_at version x.0 x.1 >>= with_first x.0) >>= as_body) ≡ ((r >>= λ x. linked_rings_at version x.0 x.1 >>= with_head x.0) >>= as_linked)
unfolding rings_at
behind_head version (Ok x) = after_rings x.0 (linked_rings_at version x.0 x.1)
behind_head version (Err d) = refl

alike : (version : ℕ) (bytes : List ℕ) → body_at version bytes ≡ linked_body_at version bytes
unfolding body_at linked_body_at
alike version bytes = behind_head version (head_at bytes)

body_reads : (version : ℕ) → Reads (BodyFits version) body_text (body_at version)
body_reads version = like_reads (BodyFits version) body_text (linked_body_at version) (body_at version) (alike version) (linked_body_reads version)

-- the version, and the part below the first line

abbrev parts : Content → ℕ × Body
parts s = (s.version, (s.rings, s.rings_said))

abbrev PartsFit : ℕ × Body → Type 0
PartsFit p = IsVersion p.0 × BodyFits p.0 p.1

abbrev parts_text : ℕ × Body → List ℕ
parts_text p = ended p.0 ++ body_text p.1

-- the text after its first word
abbrev below_word : Content → List ℕ
below_word s = parts_text (parts s)

below_word_reads : Reads Fits below_word (as_at content_with (then_at version_at body_at))
below_word_reads = as_reads Fits below_word content_with parts (then_reads version_reads (λ version f. body_reads version))
    (λ p f. record { version = f.0; some = f.1.0; rings = f.1.1; rings_said = f.1.2 })
    (λ s f. (f.version, (f.some, f.rings, f.rings_said)))
    (λ s f. refl)
    (λ p f. refl)

-- the first word and the rest are the first line and the part below it
regrouped : (s : Content) → text s ≡ codes "ringfarm " ++ below_word s
regrouped s = append_assoc (codes "ringfarm ") (ended s.version) (body_text (s.rings, s.rings_said))

pub text_reads : Reads Fits text text_at
unfolding text_at
text_reads = said_reads Fits text (λ s f. f) (λ s f. f) (λ s f. regrouped s) (after_reads (codes "ringfarm ") below_word_reads)
