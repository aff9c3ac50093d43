-- Rows as records and as objects.
use Rattle.std.proofs.Common.{◌≡◌, ℕ, ◌+◌, ◌<◌, Bool, true, false, List, [], ◌∷◌, ◌++◌, length, map, take, get_or, refl, sym, ◌∙◌, ap, arith}
use Rattle.std.specs.Prelude.{◌||◌}
use Rattle.std.specs.Ordering.{nat_cmp, match_ordering}
use Rattle.std.specs.Cmp.Lexicographic.{slice_cmp}
use Rattle.std.proofs.lemmas.Bool.{or_parts}
use Rattle.std.proofs.lemmas.List.{take_more, map-append}
use Rattle.std.specs.declared.cmp.Ordering.TheVariants.{Less, Equal, Greater}
use Rattle.serde_json.specs.Data.{Data, Members, no_members, member, number, unsigned, string, put}
use Rattle.serde_json.specs.Written.{has_float, members_have_float}
use Rattle.repair_texts.specs.Columns.{word_of, number_of, with_words, with_numbers}
use Rattle.repair_texts.specs.declared.columns.Number.{Number}
use Rattle.repair_texts.specs.declared.columns.Word.{Word}

-- ---- one member more

words-append : (ws : List (List ℕ × List ℕ)) (w : List ℕ × List ℕ) (ms : Members) → with_words (ws ++ w ∷ []) ms ≡ put w.0 (string w.1) (with_words ws ms)
words-append [] w ms = refl
words-append (x ∷ ws) w ms = words-append ws w (put x.0 (string x.1) ms)

pub words_more : (ws : List Word) (i : ℕ) (d : Word) (x : Data) (ms old new : Members) → i < length ws → new ≡ put (get_or ws i d).name.now x old →
    x ≡ string (get_or ws i d).word.now → old ≡ with_words (map word_of (take i ws)) ms → new ≡ with_words (map word_of (take (i + 1) ws)) ms
words_more ws i d x ms old new l e ex eo =
    let w : Word = get_or ws i d in
    e ∙ ap (λ (y : Data). put w.name.now y old) ex ∙ ap (put w.name.now (string w.word.now)) eo
    ∙ sym (words-append (map word_of (take i ws)) (word_of w) ms)
    ∙ sym (ap (λ (y : List (List ℕ × List ℕ)). with_words y ms) (map-append word_of (take i ws) (w ∷ [])))
    ∙ sym (ap (λ (y : List Word). with_words (map word_of y) ms) (take_more ws i d l))

numbers-append : (ns : List (List ℕ × ℕ)) (n : List ℕ × ℕ) (ms : Members) → with_numbers (ns ++ n ∷ []) ms ≡ put n.0 (number (unsigned n.1)) (with_numbers ns ms)
numbers-append [] n ms = refl
numbers-append (x ∷ ns) n ms = numbers-append ns n (put x.0 (number (unsigned x.1)) ms)

pub numbers_more : (ns : List Number) (i : ℕ) (d : Number) (x : Data) (ms old new : Members) → i < length ns → new ≡ put (get_or ns i d).name.now x old →
    x ≡ number (unsigned (get_or ns i d).number) → old ≡ with_numbers (map number_of (take i ns)) ms → new ≡ with_numbers (map number_of (take (i + 1) ns)) ms
numbers_more ns i d x ms old new l e ex eo =
    let n : Number = get_or ns i d in
    e ∙ ap (λ (y : Data). put n.name.now y old) ex ∙ ap (put n.name.now (number (unsigned n.number))) eo
    ∙ sym (numbers-append (map number_of (take i ns)) (number_of n) ms)
    ∙ sym (ap (λ (y : List (List ℕ × ℕ)). with_numbers y ms) (map-append number_of (take i ns) (n ∷ [])))
    ∙ sym (ap (λ (y : List Number). with_numbers (map number_of y) ms) (take_more ns i d l))

-- ---- no member is a float

either_false : (a b : Bool) → a ≡ false → b ≡ false → (a || b) ≡ false
either_false a b p q = ap (λ (x : Bool). x || b) p ∙ q

put_no_float : (k : List ℕ) (d : Data) (ms : Members) → has_float d ≡ false → members_have_float ms ≡ false → members_have_float (put k d ms) ≡ false
put_no_float k d no_members hd hs = either_false (has_float d) false hd refl
put_no_float k d (member l e ms) hd hs =
    let p = or_parts (has_float e) (members_have_float ms) hs in
    let before : members_have_float (member k d (member l e ms)) ≡ false = either_false (has_float d) (members_have_float (member l e ms)) hd hs in
    let here : members_have_float (member l d ms) ≡ false = either_false (has_float d) (members_have_float ms) hd p.1 in
    let past : members_have_float (member l e (put k d ms)) ≡ false = either_false (has_float e) (members_have_float (put k d ms)) p.0 (put_no_float k d ms hd p.1) in
    elim (slice_cmp nat_cmp k l) as (λ v. members_have_float (match_ordering v (member k d (member l e ms)) (member l d ms) (member l e (put k d ms))) ≡ false) [
      | Less ↦ before
      | Equal ↦ here
      | Greater ↦ past
    ]

pub words_no_float : (ws : List (List ℕ × List ℕ)) (ms : Members) → members_have_float ms ≡ false → members_have_float (with_words ws ms) ≡ false
words_no_float [] ms h = h
words_no_float (w ∷ ws) ms h = words_no_float ws (put w.0 (string w.1) ms) (put_no_float w.0 (string w.1) ms refl h)

pub numbers_no_float : (ns : List (List ℕ × ℕ)) (ms : Members) → members_have_float ms ≡ false → members_have_float (with_numbers ns ms) ≡ false
numbers_no_float [] ms h = h
numbers_no_float (n ∷ ns) ms h = numbers_no_float ns (put n.0 (number (unsigned n.1)) ms) (put_no_float n.0 (number (unsigned n.1)) ms refl h)
