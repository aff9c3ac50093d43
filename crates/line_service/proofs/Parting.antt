-- Parts of the lines that are served, block by block.
use Rattle.std.proofs.Common.{◌≡◌, ℕ, ◌+◌, ◌-◌, ◌≤◌, Bool, false, List, [], ◌++◌, length, take, drop, Option, sym, ap, subst, ◌∙◌, append_assoc, arith}
use Rattle.std.proofs.lemmas.List.{append-nil, drop_all, drop-drop, drop-take, length-take, take-append-drop}
use Rattle.std.specs.Io.KnownBytes.{Consumes}
use Rattle.text_lines.proofs.Writing.{appends_nil}
use Rattle.line_service.specs.Answering.{Answering, HasLineBegun}
use Rattle.line_service.specs.declared.faults.Ending.{Ending}
use Rattle.line_service.specs.Loop.{Written, Rests, Stops, IsTaken, HasRead, ServesPart}
use Rattle.line_service.proofs.LongLines.{cut_nil}
use Rattle.line_service.proofs.Telling.{stops_more, rests_stops, none_answered}

-- ---- the rest of a block

pub skipped : (from to count : ℕ) (block : List ℕ) → count ≤ length (take (to - from) (drop from block)) → take (to - (from + count)) (drop (from + count) block) ≡ drop count (take (to - from) (drop from block))
skipped from to count block few =
    let size = length-take (to - from) (drop from block) in
    let left : count + (to - (from + count)) ≡ to - from = omega (arith, size, few) in
    ap (λ (x : List ℕ). take (to - (from + count)) x) (sym (drop-drop count from block))
    ∙ (sym (drop-take count (to - (from + count)) (drop from block)) ∙ ap (λ (n : ℕ). drop count (take n (drop from block))) left)

-- ---- a part that continues

-- what was taken of the unread and the read bytes, all of it served
pub record Going {S : Type 0} (A : Answering S) (old : S) (begun unread read left line : List ℕ) (before after : Written) (new : S) : Type 0 where
  pub taken : List ℕ
  pub split : unread ++ read ≡ taken ++ left
  pub rests : Rests A old before after (begun ++ taken) new line

pub begins : {S : Type 0} (A : Answering S) (old : S) (begun line : List ℕ) (before : Written) → HasLineBegun begun line → Rests A old before before begun old line
begins A old begun line before h = record {
  begun = begun;
  told = record { said = []; noted = []; answered = none_answered A old begun; wrote = appends_nil before.out; wrote_notes = appends_nil before.journal };
  partial = h.partial;
  kept = h.kept;
}

pub going_begins : {S : Type 0} (A : Answering S) (old : S) (begun unread line : List ℕ) (before : Written) → HasLineBegun begun line → Going A old begun unread [] unread line before before old
going_begins A old begun unread line before h = record {
  taken = [];
  split = append-nil unread;
  rests = subst (λ (x : List ℕ). Rests A old before before x old line) (sym (append-nil begun)) (begins A old begun line before h);
}

-- a block more was taken
pub going_block : {S : Type 0} {A : Answering S} {old new new' : S} {begun unread read left left' line line' : List ℕ} {before after after' : Written} (over : Bool) (h : Going A old begun unread read left line before after new) →
    IsTaken over left left' (λ (more : List ℕ). Rests A old before after' ((begun ++ h.taken) ++ more) new' line') → Going A old begun unread read left' line' before after' new'
going_block {S} {A} {old} {new} {new'} {begun} {unread} {read} {left} {left'} {line} {line'} {before} {after} {after'} over h t = record {
  taken = h.taken ++ t.0;
  split = h.split ∙ (ap (λ (x : List ℕ). h.taken ++ x) t.1 ∙ sym (append_assoc h.taken t.0 left'));
  rests = subst (λ (x : List ℕ). Rests A old before after' x new' line') (append_assoc begun h.taken t.0) t.3;
}

pub going_stops : {S : Type 0} {A : Answering S} {old new new' : S} {begun unread read left line : List ℕ} {before after after' : Written} (h : Going A old begun unread read left line before after new) →
    Stops A old before after' ((begun ++ h.taken) ++ left) new' → Stops A old before after' (begun ++ (unread ++ read)) new'
going_stops {S} {A} {old} {new} {new'} {begun} {unread} {read} {left} {line} {before} {after} {after'} h s =
    subst (λ (x : List ℕ). Stops A old before after' x new') (append_assoc begun h.taken left ∙ ap (λ (x : List ℕ). begun ++ x) (sym h.split)) s

pub going_ends : {S : Type 0} {A : Answering S} {old new : S} {begun unread read left line : List ℕ} {before after : Written} → Going A old begun unread read left line before after new → Stops A old before after (begun ++ (unread ++ read)) new
going_ends {S} {A} {old} {new} {begun} {unread} {read} {left} {line} {before} {after} h = going_stops h (stops_more left (rests_stops h.rests))

-- the next block was read
pub going_filled : {S : Type 0} {A : Answering S} {old new : S} {begun unread read left line : List ℕ} {before after : Written} (more : List ℕ) → left ≡ [] → Going A old begun unread read left line before after new → Going A old begun unread (read ++ more) more line before after new
going_filled {unread = unread} {read = read} {left = left} more none h = record {
  taken = h.taken;
  split = sym (append_assoc unread read more) ∙ ap (λ (x : List ℕ). x ++ more) (h.split ∙ (ap (λ (x : List ℕ). h.taken ++ x) none ∙ append-nil h.taken));
  rests = h.rests;
}

pub going_part : {S : Type 0} {A : Answering S} {old new : S} {begun unread read left line : List ℕ} {before after : Written} {input rest : Option (List ℕ)} {end : Ending} → Consumes input rest read → HasRead end read → Going A old begun unread read left line before after new → ServesPart end A old new begun unread left line input rest before after
going_part {read = read} c some h = record { read = read; taken = h.taken; consumed = c; reads = some; split = h.split; rests = h.rests }

-- the first n of the unread bytes were taken
pub block_taken : (unread bytes left : List ℕ) (n : ℕ) (over : Bool) (serves : List ℕ → Type 0) → bytes ≡ unread → left ≡ drop n unread → (over ≡ false → n ≡ length bytes) → serves (take n bytes) → IsTaken over unread left serves
block_taken unread bytes left n over serves e skips all served = (
  take n unread,
  sym (take-append-drop n unread) ∙ ap (λ (x : List ℕ). take n unread ++ x) (sym skips),
  (λ f.
      let size : length bytes ≡ length unread = ap (λ (x : List ℕ). length x) e in
      let whole : n ≡ length bytes = all f in
      skips ∙ drop_all n unread (omega (arith, size, whole))),
  subst (λ (x : List ℕ). serves (take n x)) e served,
)

-- the rest of a block was not taken
pub block_stops : {S : Type 0} {A : Answering S} {old new : S} {before after : Written} (bytes unread taken left : List ℕ) → unread ≡ taken ++ left → Stops A old before after (bytes ++ taken) new → Stops A old before after (bytes ++ unread) new
block_stops {S} {A} {old} {new} {before} {after} bytes unread taken left split s =
    subst (λ (x : List ℕ). Stops A old before after x new) (append_assoc bytes taken left ∙ ap (λ (x : List ℕ). bytes ++ x) (sym split)) (stops_more left s)

-- ---- one part that is all

pub first_begun : (line : List ℕ) → line ≡ [] → HasLineBegun [] line
first_begun line e = record { partial = tt; kept = e ∙ cut_nil }
