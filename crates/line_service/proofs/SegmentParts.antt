-- Parts that follow one another.
use Rattle.std.proofs.Common.{◌≡◌, ℕ, ◌≤◌, ◌+◌, ◌^◌, ◌⊎◌, Bool, true, false, length-append, List, [], ◌∷◌, ◌++◌, length, Option, refl, sym, ap, subst, ◌∙◌, inl, inr, append_assoc, arith}
use Rattle.std.specs.Io.KnownBytes.{Appends, Consumes, IsAtEnd}
use Rattle.std.specs.List.{AllByRecursion}
use Rattle.std.proofs.lemmas.List.{append-nil}
use Rattle.std.proofs.lemmas.Bool.{false≢true}
use Rattle.disks.specs.Held.{Held, LetsGo}
use Rattle.line_service.specs.SegmentNames.{segment_file}
use Rattle.text_lines.proofs.Writing.{appends_then, appends_nil}
use Rattle.line_service.specs.declared.faults.LoopFault.{LoopFault}
use Rattle.line_service.specs.declared.faults.LoopFault.TheVariants as fault
use Rattle.line_service.specs.declared.faults.Ending.{Ending}
use Rattle.line_service.specs.declared.faults.Ending.TheVariants as ending
use Rattle.line_service.specs.Answering.{Answering, IsLine, Answers, HasLineBegun, joined_lines}
use Rattle.line_service.specs.Stands.{Stand, AnsweringWith, by_stand, stand}
use Rattle.line_service.specs.Loop.{HasRead, IsEnding, ServesPart, ServesSomeOf, IsPartFault}
use Rattle.line_service.proofs.Telling.{consumes_nil, consumes_then}
use Rattle.line_service.proofs.Parting.{first_begun}
use Rattle.line_service.specs.declared.segmented.EndFault.{EndFault}
use Rattle.line_service.specs.Segmenting.{Segmenting}
use Rattle.line_service.specs.Segments.{Moment, moment_of, stand_of, IsReady, IsLeft}
use Rattle.line_service.specs.Service.{Part, IsPart, AreParts, all_lines, all_said, ServesSegments, ServesSomeSegments, IsFaultOf}

-- ---- a part more

pub parts_more : {S : Type 0} (A : AnsweringWith S) (G : Segmenting S) (folder : List ℕ) (a b : Moment S) (ps : List (Part S)) (p : Part S) → AreParts A G folder a ps b → IsReady G folder p.kept b p.from → IsPart A p → AreParts A G folder a (ps ++ p ∷ []) p.to
parts_more A G folder a b [] p served ready is = (subst (λ (m : Moment _). IsReady G folder p.kept m p.from) served ready, is, refl)
parts_more A G folder a b (q ∷ ps) p served ready is = (served.0, served.1, parts_more A G folder q.to b ps p served.2 ready is)

pub lines_more : {S : Type 0} (ps : List (Part S)) (p : Part S) → all_lines (ps ++ p ∷ []) ≡ all_lines ps ++ joined_lines p.lines
lines_more [] p = append-nil (joined_lines p.lines)
lines_more (q ∷ ps) p = ap (λ (x : List ℕ). joined_lines q.lines ++ x) (lines_more ps p) ∙ sym (append_assoc (joined_lines q.lines) (all_lines ps) (joined_lines p.lines))

pub said_more : {S : Type 0} (ps : List (Part S)) (p : Part S) → all_said (ps ++ p ∷ []) ≡ all_said ps ++ p.said
said_more [] p = append-nil p.said
said_more (q ∷ ps) p = ap (λ (x : List ℕ). q.said ++ x) (said_more ps p) ∙ sym (append_assoc q.said (all_said ps) p.said)

-- parts that were served so far: what was read of the input, the line that has begun, and the rest
-- of a block
pub record Served {S : Type 0} (A : AnsweringWith S) (G : Segmenting S) (folder : List ℕ) (a b : Moment S) (unread line : List ℕ) (input rest out after : Option (List ℕ)) : Type 0 where
  pub parts : List (Part S)
  pub read : List ℕ
  pub begun : List ℕ
  pub served : AreParts A G folder a parts b
  pub consumed : Consumes input rest read
  pub split : read ≡ all_lines parts ++ (begun ++ unread)
  pub keeps : HasLineBegun begun line
  pub wrote : Appends out after (all_said parts)

-- n parts were served: at most one for each byte that was read, and one for each that was taken
abbrev pub IsCounted : {S : Type 0} {A : AnsweringWith S} {G : Segmenting S} {folder : List ℕ} {a b : Moment S} {unread line : List ℕ} {input rest out after : Option (List ℕ)} → ℕ → Served A G folder a b unread line input rest out after → Type 0
IsCounted n d = n ≤ length d.read + length (all_lines d.parts)

-- lines after which it is over are some
line_some : (line : List ℕ) → IsLine line → 1 ≤ length line
line_some [] h = absurd h
line_some (b ∷ bs) h = omega arith

some_lines : {S : Type 0} (A : Answering S) (over : S → Bool) (old new : S) (lines : List (List ℕ)) (said noted : List ℕ) → over old ≡ false → over new ≡ true → AllByRecursion IsLine lines → Answers A old lines said noted new → 1 ≤ length (joined_lines lines)
some_lines A over old new [] said noted low high each h = absurd (false≢true (sym low ∙ (ap over (sym h.2) ∙ high)))
some_lines A over old new (line ∷ lines) said noted low high each h =
    let one = line_some line each.0 in
    omega (arith, one, length-append line (joined_lines lines))

-- a part after which the input has not ended took a line, after which it is over, or read a block
more_some : {S : Type 0} (A : Answering S) (over : S → Bool) (end : Ending) (old new : S) {begun unread left line : List ℕ} {input rest before_j after_j out after : Option (List ℕ)} (once : Bool) → over old ≡ false → (end ≡ ending.Over) ⊎ (end ≡ ending.Block) →
    IsEnding end (over new) once left rest → (p : ServesPart end A old new begun unread left line input rest (record { journal = before_j; out = out }) (record { journal = after_j; out = after })) → 1 ≤ length p.read + length (joined_lines p.rests.told.answered.lines)
more_some A over end old new {left = left} {rest = rest} once low (inl is) ends p =
    let t = p.rests.told in
    let high : over new ≡ true = subst (λ (e : Ending). IsEnding e (over new) once left rest) is ends in
    let some = some_lines A over old new t.answered.lines t.said t.noted low high t.answered.each t.answered.answers in
    omega (arith, some)
more_some A over end old new once low (inr is) ends p =
    let some : 1 ≤ length p.read = subst (λ (e : Ending). HasRead e p.read) is p.reads in
    omega (arith, some)

unfoldable pub none_served : {S : Type 0} (A : AnsweringWith S) (G : Segmenting S) (folder : List ℕ) (a : Moment S) (unread line : List ℕ) (input out : Option (List ℕ)) → unread ≡ [] → line ≡ [] → Served A G folder a a unread line input input out out
none_served A G folder a unread line input out none empty = record {
  parts = [];
  read = [];
  begun = [];
  served = refl;
  consumed = consumes_nil input;
  split = sym none;
  keeps = first_begun line empty;
  wrote = appends_nil out;
}

module _ {S : Type 0} (A : AnsweringWith S) (G : Segmenting S) (folder : List ℕ) (a b from : Moment S) (kept : Option EndFault) (unread line : List ℕ) (input middle out before : Option (List ℕ)) (d : Served A G folder a b unread line input middle out before) (ready : IsReady G folder kept b from) where
  unfoldable pub one_served : (end : Ending) (new : S) (files : Option Held) (journal : Option (List ℕ)) (number : ℕ) (left line' : List ℕ) (rest after : Option (List ℕ)) → number ≡ from.number →
      ServesPart end (by_stand A) (stand_of from) (stand new files) d.begun unread left line' middle rest (record { journal = from.journal; out = before }) (record { journal = journal; out = after }) →
      Served A G folder a (moment_of new files number journal) left line' input rest out after
  one_served end new files journal number left line' rest after same p =
      let t = p.rests.told in
      let part : Part S = record { kept = kept; from = from; to = moment_of new files number journal; lines = t.answered.lines; said = t.said; noted = t.noted } in
      let joined = joined_lines t.answered.lines in
      let taken : d.begun ++ (unread ++ p.read) ≡ joined ++ (p.rests.begun ++ left) =
      ap (λ (x : List ℕ). d.begun ++ x) p.split ∙ (sym (append_assoc d.begun p.taken left) ∙ (ap (λ (x : List ℕ). x ++ left) t.answered.split ∙ append_assoc joined p.rests.begun left)) in
      record {
        parts = d.parts ++ part ∷ [];
        read = d.read ++ p.read;
        begun = p.rests.begun;
        served = parts_more A G folder a b d.parts part d.served ready (record { number = same; each = t.answered.each; answers = t.answered.answers; wrote = t.wrote_notes });
        consumed = consumes_then input middle rest d.read p.read d.consumed p.consumed;
        split = ap (λ (x : List ℕ). x ++ p.read) d.split
            ∙ (append_assoc (all_lines d.parts) (d.begun ++ unread) p.read
            ∙ (ap (λ (x : List ℕ). all_lines d.parts ++ x) (append_assoc d.begun unread p.read ∙ taken)
            ∙ (sym (append_assoc (all_lines d.parts) joined (p.rests.begun ++ left)) ∙ ap (λ (x : List ℕ). x ++ (p.rests.begun ++ left)) (sym (lines_more d.parts part)))));
        keeps = record { partial = p.rests.partial; kept = p.rests.kept };
        wrote = subst (λ (x : List ℕ). Appends out after x) (sym (said_more d.parts part)) (appends_then out before after (all_said d.parts) t.said d.wrote t.wrote);
      }

  -- what such a part took and read is a byte at least, if the input has not ended
  pub one_counted : (end : Ending) (over : S → Bool) (once : Bool) (n : ℕ) → n ≤ length d.read + length (all_lines d.parts) → (new : S) (files : Option Held) (journal : Option (List ℕ)) (number : ℕ) (left line' : List ℕ) (rest after : Option (List ℕ)) → (same : number ≡ from.number) →
      (p : ServesPart end (by_stand A) (stand_of from) (stand new files) d.begun unread left line' middle rest (record { journal = from.journal; out = before }) (record { journal = journal; out = after })) →
      over from.service ≡ false → (end ≡ ending.Over) ⊎ (end ≡ ending.Block) → IsEnding end (over new) once left rest → IsCounted (n + 1) (one_served end new files journal number left line' rest after same p)
  unfolding one_served
  one_counted end over once n many new files journal number left line' rest after same p low is ends =
      let some = more_some (by_stand A) (λ (x : Stand S). over x.service) end (stand_of from) (stand new files) once low is ends p in
      let t = p.rests.told in
      let part : Part S = record { kept = kept; from = from; to = moment_of new files number journal; lines = t.answered.lines; said = t.said; noted = t.noted } in
      let joined = joined_lines t.answered.lines in
      let lines : length (all_lines (d.parts ++ part ∷ [])) ≡ length (all_lines d.parts ++ joined) = ap (λ (x : List ℕ). length x) (lines_more d.parts part) in
      let more : n + 1 ≤ length (d.read ++ p.read) + length (all_lines (d.parts ++ part ∷ [])) = omega (arith, many, some, lines, length-append (all_lines d.parts) joined, length-append d.read p.read) in
      more

  pub one_stops : (new : S) (between files : Option Held) (journal rest after : Option (List ℕ)) →
      ServesSomeOf (by_stand A) (stand_of from) (stand new between) d.begun unread middle rest (record { journal = from.journal; out = before }) (record { journal = journal; out = after }) →
      LetsGo between files (segment_file folder from.number) journal →
      ServesSomeSegments A G folder a new files input rest out after
  one_stops new between files journal rest after p gone = record {
    parts = d.parts;
    mid = b;
    bytes = d.read ++ p.0;
    behind = d.begun ++ (unread ++ p.0);
    before = before;
    served = d.served;
    read = consumes_then input middle rest d.read p.0 d.consumed p.1;
    split = ap (λ (x : List ℕ). x ++ p.0) d.split
        ∙ (append_assoc (all_lines d.parts) (d.begun ++ unread) p.0 ∙ ap (λ (x : List ℕ). all_lines d.parts ++ x) (append_assoc d.begun unread p.0));
    wrote = d.wrote;
    stopped = inr (kept, from, journal, between, ready, p.2, gone);
  }

-- ---- an input that is too long

pub long_part : (e : LoopFault) (input middle rest : Option (List ℕ)) (read : List ℕ) → Consumes input middle read → IsPartFault e middle rest → IsFaultOf e input rest
long_part fault.Read input middle rest read c h = tt
long_part fault.Journal input middle rest read c h = tt
long_part fault.Write input middle rest read c h = tt
long_part fault.OutOfMemory input middle rest read c h = tt
long_part fault.TooLong input middle rest read c h =
    let many = h.2 in
    (read ++ h.0, consumes_then input middle rest read h.0 c h.1, omega (arith, many, length-append read h.0))

pub many_long : {S : Type 0} {A : AnsweringWith S} {G : Segmenting S} {folder : List ℕ} {a b : Moment S} {unread line : List ℕ} {input rest out after : Option (List ℕ)} (n : ℕ) (d : Served A G folder a b unread line input rest out after) → IsCounted n d → 18446744073709551615 ≤ n → IsFaultOf fault.TooLong input rest
many_long {unread = unread} n d many high =
    let lines : length d.read ≡ length (all_lines d.parts ++ (d.begun ++ unread)) = ap (λ (x : List ℕ). length x) d.split in
    let size : 2 ^ 63 ≤ length d.read = omega (arith, many, high, lines, length-append (all_lines d.parts) (d.begun ++ unread)) in
    (d.read, d.consumed, size)

pub no_long : (e : LoopFault) (input rest : Option (List ℕ)) → e ≡ fault.Journal → IsFaultOf e input rest
no_long fault.Read input rest is = tt
no_long fault.Journal input rest is = tt
no_long fault.Write input rest is = tt
no_long fault.OutOfMemory input rest is = tt
no_long fault.TooLong input rest is = absurd (other is)
  where
    other : fault.TooLong ≡ fault.Journal → ⊥
    other p = cc

-- no more was done
pub parts_stop : {S : Type 0} (A : AnsweringWith S) (G : Segmenting S) (folder : List ℕ) (a b : Moment S) (unread line : List ℕ) (input rest out after : Option (List ℕ)) (new : S) (is : Option Held) → Served A G folder a b unread line input rest out after → new ≡ b.service → IsLeft G folder b is → ServesSomeSegments A G folder a new is input rest out after
parts_stop A G folder a b unread line input rest out after new is d same left = record {
  parts = d.parts;
  mid = b;
  bytes = d.read;
  behind = d.begun ++ unread;
  before = after;
  served = d.served;
  read = d.consumed;
  split = d.split;
  wrote = d.wrote;
  stopped = inl (same, refl, left);
}

-- the input has ended
pub parts_end : {S : Type 0} (A : AnsweringWith S) (G : Segmenting S) (folder : List ℕ) (a b : Moment S) (unread line : List ℕ) (input rest out after : Option (List ℕ)) → Served A G folder a b unread line input rest out after → unread ≡ [] → IsAtEnd rest → ServesSegments A G folder a b input rest out after
parts_end A G folder a b unread line input rest out after d none ended = record {
  parts = d.parts;
  bytes = d.read;
  begun = d.begun;
  served = d.served;
  read = d.consumed;
  split = d.split ∙ ap (λ (x : List ℕ). all_lines d.parts ++ x) (ap (λ (x : List ℕ). d.begun ++ x) none ∙ append-nil d.begun);
  partial = d.keeps.partial;
  ended = ended;
  wrote = d.wrote;
}
