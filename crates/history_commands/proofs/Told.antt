-- From what a table's writer answers to what the program does; and the rings of a legal text.
use Rattle.std.proofs.Common.{◌≡◌, ◌∙◌, ℕ, ◌≤◌, All, List, [], ◌∷◌, ◌++◌, length, get_or, Option, None, Some, Result, Ok, Err, inr, refl, sym, ap, subst}
use Rattle.std.specs.Prelude.{OnOk, IfOk, IfErr, slice_get}
use Rattle.std.specs.Option.{option_map}
use Rattle.std.specs.Io.KnownBytes.{Appends}
use Rattle.std.proofs.lemmas.List.{append-nil, get_or_default, length-map}
use Rattle.std.proofs.lemmas.Option.{slice_get-map, slice_get_within, get_or_from_slice_get}
use Rattle.saved_history.specs.declared.saved.Saved.{Saved}
use Rattle.saved_history.specs.declared.saved.SavedRing.{SavedRing}
use Rattle.saved_history.specs.Content.{Block, content, block_of}
use Rattle.ring_check.specs.Meaning.{IsRightText}
use Rattle.history_repairs.proofs.Texts.{ring_sized}
use Rattle.history_states.specs.declared.form.Form.{Form}
use Rattle.history_states.specs.declared.tables.StatesFault.{StatesFault}
use Rattle.history_states.specs.declared.tables.StatesFault.TheVariants as states
use Rattle.history_states.specs.Cells.{header}
use Rattle.history_states.specs.Rows.{rows, table}
use Rattle.history_states.specs.Tables.{HasTable, IsSized}
use Rattle.tool_parts.specs.declared.faults.ToolError.{ToolError}
use Rattle.tool_parts.specs.declared.faults.ToolError.TheVariants as tool
use Rattle.tool_requests.specs.declared.wanted.StatesWords.{StatesWords}
use Rattle.history_commands.specs.Stated.{told_by, form_of, AreChosen, IsTableOf, IsTableFault, IsOneRefusal}

pub on_ok_map : {E : Type 0} (r : Result (Unit {0}) E) (P Q : Type 0) → (P → Q) → OnOk r P → OnOk r Q
on_ok_map (Ok u) P Q f h = f h
on_ok_map (Err e) P Q f h = tt

pub if_err_map : {A E : Type 0} (r : Result A E) (P Q : E → Type 0) → ((e : E) → P e → Q e) → IfErr r P → IfErr r Q
if_err_map (Ok u) P Q f h = tt
if_err_map (Err e) P Q f h = f e h

pub if_ok_map : {A E : Type 0} (r : Result A E) (P Q : A → Type 0) → ((a : A) → P a → Q a) → IfOk r P → IfOk r Q
if_ok_map (Ok a) P Q f h = f a h
if_ok_map (Err e) P Q f h = tt

-- the table is whole, or the program refuses it
pub table_ok : (a b : Option (List ℕ)) (r : Result (Unit {0}) StatesFault) (text : List ℕ) → HasTable a b r text → OnOk (told_by r) (Appends a b text)
table_ok a b (Ok u) text h = h
table_ok a b (Err states.Write) text h = tt
table_ok a b (Err states.OutOfMemory) text h = tt

pub table_err : (a b : Option (List ℕ)) (r : Result (Unit {0}) StatesFault) (text : List ℕ) → HasTable a b r text → IfErr (told_by r) (λ e. IsTableFault a b text e)
table_err a b (Ok u) text h = tt
table_err a b (Err states.Write) text h = h
table_err a b (Err states.OutOfMemory) text h = h

-- the table of one ring
pub one_table : (f : Form) (b : Block) → header f ++ rows f b ≡ table f (b ∷ [])
one_table f b = ap (λ (t : List ℕ). header f ++ t) (sym (append-nil (rows f b)))

-- the rings of a legal text have a value or more, and not too many machines
pub all_sized : (saved : Saved) → IsRightText (content saved) → All IsSized saved.rings.items
all_sized saved right i d lt =
    let ring = get_or saved.rings.items i d in
    let h = ring_sized saved i ring right lt (get_or_default saved.rings.items i d ring lt) in
    record { some = h.some; few = h.few }

pub one_sized : (saved : Saved) (place : ℕ) (ring : SavedRing) → IsRightText (content saved) → slice_get saved.rings.items place ≡ Some ring → IsSized ring
one_sized saved place ring right at =
    let h = ring_sized saved place ring right (slice_get_within saved.rings.items place ring at) (sym (get_or_from_slice_get saved.rings.items place ring ring at)) in
    record { some = h.some; few = h.few }

pub block_at : (saved : Saved) (place : ℕ) (ring : SavedRing) → slice_get saved.rings.items place ≡ Some ring → slice_get (content saved).rings place ≡ Some (block_of ring)
block_at saved place ring at = slice_get-map block_of saved.rings.items place ∙ ap (option_map block_of) at

pub no_block : (saved : Saved) (place : ℕ) → length saved.rings.items ≤ place → length (content saved).rings ≤ place
no_block saved place past = rw (length-map saved.rings.items block_of) past

-- ---- the table of one ring, and those that are wanted

pub one_ok : (bs : List Block) (place : ℕ) (b : Block) (f : Form) (x y : Option (List ℕ)) (r : Result (Unit {0}) StatesFault) → slice_get bs place ≡ Some b → HasTable x y r (header f ++ rows f b) →
    OnOk (told_by r) ((b : Block) × (slice_get bs place ≡ Some b) × Appends x y (table f (b ∷ [])))
one_ok bs place b f x y (Ok u) at h = let P : List ℕ → Type 0 = λ t. Appends x y t in (b, at, subst P (one_table f b) h)
one_ok bs place b f x y (Err states.Write) at h = tt
one_ok bs place b f x y (Err states.OutOfMemory) at h = tt

pub one_err : (bs : List Block) (place : ℕ) (b : Block) (f : Form) (x y : Option (List ℕ)) (r : Result (Unit {0}) StatesFault) → slice_get bs place ≡ Some b → HasTable x y r (header f ++ rows f b) →
    IfErr (told_by r) (λ e. IsOneRefusal bs place f x y e)
one_err bs place b f x y (Ok u) at h = tt
one_err bs place b f x y (Err states.Write) at h = let P : List ℕ → Type 0 = λ t. IsTableFault x y t tool.Write in inr (b, at, subst P (one_table f b) h)
one_err bs place b f x y (Err states.OutOfMemory) at h = let P : List ℕ → Type 0 = λ t. IsTableFault x y t tool.OutOfMemory in inr (b, at, subst P (one_table f b) h)

pub all_chosen : (words : StatesWords) (bs : List Block) (x y : Option (List ℕ)) (r : Result (Unit {0}) ToolError) → words.ring ≡ None → OnOk r (Appends x y (table (form_of words) bs)) →
    OnOk r (IsTableOf words bs (λ text. Appends x y text))
all_chosen words bs x y (Ok u) none h = let are : AreChosen words.ring bs bs = rw none refl in (bs, are, h)
all_chosen words bs x y (Err e) none h = tt

pub one_chosen : (words : StatesWords) (place : ℕ) (bs : List Block) (x y : Option (List ℕ)) (r : Result (Unit {0}) ToolError) → words.ring ≡ Some place →
    OnOk r ((b : Block) × (slice_get bs place ≡ Some b) × Appends x y (table (form_of words) (b ∷ []))) → OnOk r (IsTableOf words bs (λ text. Appends x y text))
one_chosen words place bs x y (Ok u) some h = let are : AreChosen words.ring bs (h.0 ∷ []) = rw some (h.0, h.1, refl) in (h.0 ∷ [], are, h.2)
one_chosen words place bs x y (Err e) some h = tt
