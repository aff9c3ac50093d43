-- Bad lines one after the other.
use Rattle.std.proofs.Common.{◌≡◌, ℕ, ◌+◌, ◌<◌, List, [], ◌∷◌, ◌++◌, length, take, drop, get_or, map, Bool, true, false, cond, refl, sym, ◌∙◌, ap, append_assoc, append-nil}
use Rattle.std.specs.Prelude.{not, ◌&&◌, ◌||◌}
use Rattle.std.proofs.lemmas.List.{take_more, drop_more, take-append-drop, map-append}
use Rattle.ring_check.specs.Lines.{Line}
use Rattle.ring_check.specs.Table.{Before}
use Rattle.bad_lines.specs.declared.wrongs.BadLine.{BadLine}
use Rattle.bad_lines.specs.BadLines.{Known, known, begins, loses, is_hidden, bad, told, told_of, mended, after_known, after_all, bad_among}

pub all_append : (k : Known) (xs ys : List Line) → after_all k (xs ++ ys) ≡ after_all (after_all k xs) ys
all_append k [] ys = refl
all_append k (x ∷ xs) ys = all_append (after_known k x) xs ys

pub among_append : (k : Known) (xs ys : List Line) → bad_among k (xs ++ ys) ≡ bad_among k xs ++ bad_among (after_all k xs) ys
among_append k [] ys = refl
among_append k (x ∷ xs) ys =
    ap (λ (u : List BadLine). told_of k x ++ u) (among_append (after_known k x) xs ys)
    ∙ sym (append_assoc (told_of k x) (bad_among (after_known k x) xs) (bad_among (after_all (after_known k x) xs) ys))

-- where the ring is lost, lines of its block are not judged, and it stays lost
hidden_lost : (k : Known) (l : Line) → begins l ≡ false → k.lost ≡ true → is_hidden k l ≡ true
hidden_lost k l b e = ap (λ (x : Bool). not x && k.lost) b ∙ e

stays_lost : (k : Known) (l : Line) → begins l ≡ false → k.lost ≡ true → (after_known k l).lost ≡ true
stays_lost k l b e = ap (λ (x : Bool). x || loses k.before l) (hidden_lost k l b e)

-- none of these lines begins anything
abbrev pub NoneBegins : List Line → Type 0
NoneBegins [] = Unit {0}
NoneBegins (l ∷ ls) = (begins l ≡ false) × NoneBegins ls

pub none_append : (xs ys : List Line) → NoneBegins xs → NoneBegins ys → NoneBegins (xs ++ ys)
none_append [] ys p q = q
none_append (x ∷ xs) ys p q = (p.0, none_append xs ys p.1 q)

pub none_map : {X : Type 0} (f : X → Line) (xs : List X) → ((x : X) → begins (f x) ≡ false) → NoneBegins (map f xs)
none_map f [] h = tt
none_map f (x ∷ xs) h = (h x, none_map f xs h)

pub lost_among : (k : Known) (ls : List Line) → NoneBegins ls → k.lost ≡ true → bad_among k ls ≡ []
lost_among k [] n e = refl
lost_among k (l ∷ ls) n e =
    ap (λ (x : Bool). cond x [] (told k.before.line (bad k.before l)) ++ bad_among (after_known k l) ls) (hidden_lost k l n.0 e)
    ∙ lost_among (after_known k l) ls n.1 (stays_lost k l n.0 e)

pub lost_all : (k : Known) (ls : List Line) → NoneBegins ls → k.lost ≡ true → (after_all k ls).lost ≡ true
lost_all k [] n e = e
lost_all k (l ∷ ls) n e = lost_all (after_known k l) ls n.1 (stays_lost k l n.0 e)

-- a list of lines of one kind, cut at a place
module _ {X : Type 0} (f : X → Line) (k : Known) (xs : List X) (i : ℕ) (d : X) (lt : i < length xs) where
  pub cut : map f xs ≡ map f (take i xs) ++ f (get_or xs i d) ∷ map f (drop (i + 1) xs)
  cut =
      ap (λ (u : List X). map f u) (sym (take-append-drop i xs) ∙ ap (λ (u : List X). take i xs ++ u) (drop_more xs i d lt))
      ∙ map-append f (take i xs) (get_or xs i d ∷ drop (i + 1) xs)

  pub push : map f (take (i + 1) xs) ≡ map f (take i xs) ++ f (get_or xs i d) ∷ []
  push = ap (λ (u : List X). map f u) (take_more xs i d lt) ∙ map-append f (take i xs) (get_or xs i d ∷ [])

  pub among_more : bad_among k (map f (take (i + 1) xs)) ≡ bad_among k (map f (take i xs)) ++ told_of (after_all k (map f (take i xs))) (f (get_or xs i d))
  unfolding push
  among_more =
      ap (λ (u : List Line). bad_among k u) push ∙ among_append k (map f (take i xs)) (f (get_or xs i d) ∷ [])
      ∙ ap (λ (u : List BadLine). bad_among k (map f (take i xs)) ++ u) (append-nil (told_of (after_all k (map f (take i xs))) (f (get_or xs i d))))

  pub all_more : after_all k (map f (take (i + 1) xs)) ≡ after_known (after_all k (map f (take i xs))) (f (get_or xs i d))
  unfolding push
  all_more = ap (λ (u : List Line). after_all k u) push ∙ all_append k (map f (take i xs)) (f (get_or xs i d) ∷ [])
