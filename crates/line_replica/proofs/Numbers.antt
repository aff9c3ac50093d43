-- The last numbers of keys, without the answers that are kept.
use Rattle.std.proofs.Common.{◌≡◌, ℕ, Bool, true, false, cond, [], ◌∷◌, Option, Some, refl, ap, sym}
use Rattle.std.specs.Option.{option_map}
use Rattle.std.specs.declared.cmp.Ordering.{Ordering}
use Rattle.std.specs.declared.cmp.Ordering.TheVariants.{Less, Equal, Greater}
use Rattle.std.specs.Ordering.{nat_cmp, match_ordering}
use Rattle.std.specs.BTreeMap.{is_at, insert_entry}
use Rattle.std.specs.Map.{lookup, remove_entry}
use Rattle.line_replica.specs.declared.keys.Turn.{Turn}
use Rattle.line_replica.specs.declared.keys.Turn.TheVariants as turn
use Rattle.line_replica.specs.declared.reading.Tag.{Tag}
use Rattle.line_replica.specs.Keys.{ToldView, Table, turn_after, forgotten_if}
use Rattle.line_replica.specs.Log.{Numbers, number_of, numbers_of, turn_in, numbers_but}
use Rattle.line_replica.specs.Replies.{turn_of}

placed : (r : Ordering) (k : ℕ) (v : ToldView) (e : ℕ × ToldView) (es more : Table) (less : Numbers) → numbers_of more ≡ less →
    numbers_of (match_ordering r ((k, v) ∷ e ∷ es) ((e.0, v) ∷ es) (e ∷ more)) ≡ match_ordering r ((k, v.number) ∷ number_of e ∷ numbers_of es) ((e.0, v.number) ∷ numbers_of es) (number_of e ∷ less)
placed Less k v e es more less p = refl
placed Equal k v e es more less p = refl
placed Greater k v e es more less p = ap (λ (u : Numbers). number_of e ∷ u) p

pub numbers_inserted : (es : Table) (k : ℕ) (v : ToldView) → numbers_of (insert_entry nat_cmp es k v) ≡ insert_entry nat_cmp (numbers_of es) k v.number
numbers_inserted [] k v = refl
numbers_inserted (e ∷ es) k v = placed (nat_cmp k e.0) k v e es (insert_entry nat_cmp es k v) (insert_entry nat_cmp (numbers_of es) k v.number) (numbers_inserted es k v)

taken_out : (b : Bool) (e : ℕ × ToldView) (es more : Table) (less : Numbers) → numbers_of more ≡ less → numbers_of (cond b es (e ∷ more)) ≡ cond b (numbers_of es) (number_of e ∷ less)
taken_out true e es more less p = refl
taken_out false e es more less p = ap (λ (u : Numbers). number_of e ∷ u) p

pub numbers_removed : (test : ℕ → Bool) (es : Table) → numbers_of (remove_entry test es) ≡ remove_entry test (numbers_of es)
numbers_removed test [] = refl
numbers_removed test (e ∷ es) = taken_out (test e.0) e es (remove_entry test es) (remove_entry test (numbers_of es)) (numbers_removed test es)

found : (b : Bool) (t : ToldView) (o : Option ToldView) (l : Option ℕ) → l ≡ option_map (λ (u : ToldView). u.number) o → cond b (Some t.number) l ≡ option_map (λ (u : ToldView). u.number) (cond b (Some t) o)
found true t o l p = refl
found false t o l p = p

pub last_number : (test : ℕ → Bool) (es : Table) → lookup test (numbers_of es) ≡ option_map (λ (u : ToldView). u.number) (lookup test es)
last_number test [] = refl
last_number test (e ∷ es) = found (test e.0) e.1 (lookup test es) (lookup test (numbers_of es)) (last_number test es)

pub same_turn : (keys : Table) (tag : Tag) → turn_of keys tag ≡ turn_in (numbers_of keys) tag
same_turn keys tag = ap (λ (o : Option ℕ). turn_after o tag.number) (sym (last_number (is_at (nat_cmp tag.key)) keys))

pub forgets_number : (r : Turn) (keys : Table) (tag : Tag) → numbers_of (forgotten_if r keys tag.key) ≡ numbers_but r (numbers_of keys) tag
forgets_number turn.Fresh keys tag = refl
forgets_number turn.Again keys tag = numbers_removed (is_at (nat_cmp tag.key)) keys
forgets_number (turn.Past last) keys tag = refl
