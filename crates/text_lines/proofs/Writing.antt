-- One piece of a text written after another.
use Rattle.std.proofs.Common.{◌≡◌, ℕ, ◌+◌, ◌<◌, ◌≤◌, List, [], ◌∷◌, ◌++◌, length, take, drop, get_or, Option, Some, None, Result, Ok, Err, refl, sym, ap, subst, ◌∙◌, append_assoc, arith, length-append}
use Rattle.std.specs.Io.KnownBytes.{Appends, Keeps}
use Rattle.std.specs.List.{flat_map}
use Rattle.std.proofs.lemmas.List.{append-nil, take-append-drop, take_more, drop_more, take_all}
use Rattle.std.proofs.lemmas.List.Concat.{flat_map-append}
use Rattle.text_lines.specs.declared.write.WriteFault.{WriteFault}
use Rattle.text_lines.specs.Writing.{Wrote, Writes}

pub appends_nil : (c : Option (List ℕ)) → Appends c c []
appends_nil None = tt
appends_nil (Some xs) = sym (append-nil xs)

pub appends_then : (a b c : Option (List ℕ)) (x y : List ℕ) → Appends a b x → Appends b c y → Appends a c (x ++ y)
appends_then None b c x y p q = tt
appends_then (Some xs) None c x y p q = absurd p
appends_then (Some xs) (Some ys) None x y p q = absurd q
appends_then (Some xs) (Some ys) (Some zs) x y p q = q ∙ ap (λ (u : List ℕ). u ++ y) p ∙ append_assoc xs x y

pub keeps_then : (a b c : Option (List ℕ)) (x : List ℕ) → Appends a b x → Keeps b c → Appends a c x
keeps_then None b c x p q = tt
keeps_then (Some xs) None c x p q = absurd p
keeps_then (Some xs) (Some ys) None x p q = absurd q
keeps_then (Some xs) (Some ys) (Some zs) x p q = q ∙ p

pub wrote_none : (a : Option (List ℕ)) (text : List ℕ) → Wrote a a text text
wrote_none a text = ([], refl, appends_nil a)

pub wrote_more : (a b c : Option (List ℕ)) (text left : List ℕ) (n : ℕ) → Wrote a b text left → Appends b c (take n left) → Wrote a c text (drop n left)
wrote_more a b c text left n h k = (h.0 ++ take n left, h.1 ∙ ap (λ (u : List ℕ). h.0 ++ u) (sym (take-append-drop n left)) ∙ sym (append_assoc h.0 (take n left) (drop n left)), appends_then a b c h.0 (take n left) h.2 k)

pub wrote_kept : (a b c : Option (List ℕ)) (text left : List ℕ) → Wrote a b text left → Keeps b c → Wrote a c text left
wrote_kept a b c text left h k = (h.0, h.1, keeps_then a b c h.0 h.2 k)

pub wrote_all : (a b : Option (List ℕ)) (text : List ℕ) → Wrote a b text [] → Appends a b text
wrote_all None b text h = tt
wrote_all (Some xs) None text h = absurd h.2
wrote_all (Some xs) (Some ys) text h = h.2 ∙ ap (λ (u : List ℕ). xs ++ u) (sym (h.1 ∙ append-nil h.0))

-- a piece and then another
pub writes_then : (a b c : Option (List ℕ)) (r : Result (Unit {0}) WriteFault) (x y : List ℕ) → Appends a b x → Writes b c r y → Writes a c r (x ++ y)
writes_then a b c (Ok u) x y p q = appends_then a b c x y p q
writes_then a b c (Err e) x y p q = (q.0, q.1, (x ++ q.2.0, ap (λ (u : List ℕ). x ++ u) q.2.1 ∙ sym (append_assoc x q.2.0 q.0), appends_then a b c x q.2.0 p q.2.2))

-- a fault in a piece is one in what begins with it
pub writes_err : (a b : Option (List ℕ)) (e : WriteFault) (x y : List ℕ) → Writes a b (Err e) x → Writes a b (Err e) (x ++ y)
writes_err a b e x y q = (q.0 ++ y, (let some = q.1 in omega (arith, length-append q.0 y, some)), (q.2.0, ap (λ (u : List ℕ). u ++ y) q.2.1 ∙ append_assoc q.2.0 q.0 y, q.2.2))

-- the same text
pub writes_same : (a b : Option (List ℕ)) (r : Result (Unit {0}) WriteFault) (x y : List ℕ) → x ≡ y → Writes a b r x → Writes a b r y
writes_same a b r x y e h = let P : List ℕ → Type 0 = λ t. Writes a b r t in subst P e h

-- the rest of a text, after the part that is written
pub writes_left : (a b c : Option (List ℕ)) (r : Result (Unit {0}) WriteFault) (text left : List ℕ) → Wrote a b text left → Writes b c r left → Writes a c r text
writes_left a b c r text left h p = writes_same a c r (h.0 ++ left) text (sym h.1) (writes_then a b c r h.0 left h.2 p)

-- ---- a text that is written from its front on

-- the next piece
pub wrote_piece : (a b c : Option (List ℕ)) (text x left : List ℕ) → Wrote a b text (x ++ left) → Appends b c x → Wrote a c text left
wrote_piece a b c text x left h k = (h.0 ++ x, h.1 ∙ sym (append_assoc h.0 x left), appends_then a b c h.0 x h.2 k)

-- a fault in the next piece
pub wrote_fault : (a b c : Option (List ℕ)) (e : WriteFault) (text x left : List ℕ) → Wrote a b text (x ++ left) → Writes b c (Err e) x → Writes a c (Err e) text
wrote_fault a b c e text x left h k =
    let q = writes_then a b c (Err e) h.0 (x ++ left) h.2 (writes_err b c e x left k) in
    (q.0, q.1, (q.2.0, h.1 ∙ q.2.1, q.2.2))

-- ---- the pieces of a list, one after the other

module _ (X : Type 0) (f : X → List ℕ) (xs : List X) (i : ℕ) (d : X) (lt : i < length xs) (a b c : Option (List ℕ)) (so_far : Appends a b (flat_map f (take i xs))) where
  pub pieces_more : Appends b c (f (get_or xs i d)) → Appends a c (flat_map f (take (i + 1) xs))
  pieces_more h =
      let e : flat_map f (take (i + 1) xs) ≡ flat_map f (take i xs) ++ f (get_or xs i d) = rw (take_more xs i d lt) (flat_map-append f (take i xs) (get_or xs i d ∷ []) ∙ ap (λ (u : List ℕ). flat_map f (take i xs) ++ u) (append-nil (f (get_or xs i d)))) in
      rw e (appends_then a b c (flat_map f (take i xs)) (f (get_or xs i d)) so_far h)

  pub pieces_fault : (e : WriteFault) → Writes b c (Err e) (f (get_or xs i d)) → Writes a c (Err e) (flat_map f xs)
  pieces_fault e h =
      let cut : flat_map f xs ≡ flat_map f (take i xs) ++ (f (get_or xs i d) ++ flat_map f (drop (i + 1) xs)) = ap (flat_map f) (sym (take-append-drop i xs)) ∙ flat_map-append f (take i xs) (drop i xs) ∙ ap (λ (u : List X). flat_map f (take i xs) ++ flat_map f u) (drop_more xs i d lt) in
      rw cut (writes_then a b c (Err e) (flat_map f (take i xs)) (f (get_or xs i d) ++ flat_map f (drop (i + 1) xs)) so_far (writes_err b c e (f (get_or xs i d)) (flat_map f (drop (i + 1) xs)) h))

pub pieces_all : {X : Type 0} (f : X → List ℕ) (xs : List X) (i : ℕ) (a b : Option (List ℕ)) → length xs ≤ i → Appends a b (flat_map f (take i xs)) → Appends a b (flat_map f xs)
pieces_all f xs i a b le h = rw (take_all i xs le) at h
