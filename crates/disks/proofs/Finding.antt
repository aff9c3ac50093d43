-- A file is found by its name, and after a push.
use Rattle.std.proofs.Common.{◌<◌, ◌≤◌, ◌+◌, length, drop, get_or, ◌≡◌, ℕ, List, [], ◌∷◌, ◌++◌, Bool, true, false, cond, not, refl, sym, ap, subst, ◌∙◌, string_bytes}
use Rattle.std.specs.Str.{bytes_eq}
use Rattle.std.proofs.lemmas.List.{at_drop_more, at_drop_all}
use Rattle.std.proofs.lemmas.Slice.Eq.{bytes_eq-Decides}
use Rattle.std.proofs.lemmas.Bool.{false_from_ne_true, false≢true}
use Rattle.disks.specs.Held.{Thing, Nothing, Folder, File, file_bytes, is_a_file, is_a_folder, is_a_thing, IsReplaced, IsRemoved}
use Rattle.disks.specs.Entries.{thing_of, found, held_of, without}
use Rattle.disks.specs.declared.memory.StoredEntry.{StoredEntry}

pub found_push : (before : Thing) (es : List StoredEntry) (e : StoredEntry) (name : List ℕ) →
    found before (es ++ e ∷ []) name ≡ cond (bytes_eq (string_bytes e.name) name) (thing_of e.stored) (found before es name)
found_push before [] e name = refl
found_push before (x ∷ xs) e name = found_push (cond (bytes_eq (string_bytes x.name) name) (thing_of x.stored) before) xs e name

pub pick : (t : Bool) (x y : Thing) → t ≡ true → cond t x y ≡ x
pick t x y is = ap (λ b. cond b x y) is

pub pass : (t : Bool) (x y : Thing) → t ≡ false → cond t x y ≡ y
pass t x y is = ap (λ b. cond b x y) is

-- whether a folder is found, with an entry more that is a file
same_folder : (t : Bool) (x y : Thing) → is_a_folder x ≡ false → (t ≡ true → is_a_folder y ≡ false) → is_a_folder (cond t x y) ≡ is_a_folder y
same_folder false x y file before = refl
same_folder true x y file before = file ∙ sym (before refl)

-- whether a file is found, with an entry more that is a file where there was no folder
same_kind : (t : Bool) (x y : Thing) → is_a_file x ≡ true → (t ≡ true → is_a_folder y ≡ false) → is_a_thing y ≡ true → is_a_file (cond t x y) ≡ is_a_file y
same_kind false x y file before there = refl
same_kind true x Nothing file before there = absurd (false≢true there)
same_kind true x Folder file before there = absurd (false≢true (sym (before refl)))
same_kind true x (File bytes) file before there = file

-- an entry more replaces the file of its name
pub pushed : (es : List StoredEntry) (e : StoredEntry) (name bytes : List ℕ) → string_bytes e.name ≡ name → thing_of e.stored ≡ File bytes → is_a_folder (found Nothing es name) ≡ false →
    IsReplaced (held_of es) (held_of (es ++ e ∷ [])) name bytes
pushed es e name bytes named holds no_folder = record {
  places = λ other. refl;
  locks = λ place. refl;
  kinds = λ other there.
      ap is_a_file (found_push Nothing es e other)
      ∙ same_kind (bytes_eq (string_bytes e.name) other) (thing_of e.stored) (found Nothing es other) (ap is_a_file holds)
      (λ yes. ap (λ (n : List ℕ). is_a_folder (found Nothing es n)) (sym ((bytes_eq-Decides (string_bytes e.name) other).0 yes) ∙ named) ∙ no_folder)
      there;
  folders = λ other.
      ap is_a_folder (found_push Nothing es e other)
      ∙ same_folder (bytes_eq (string_bytes e.name) other) (thing_of e.stored) (found Nothing es other) (ap is_a_folder holds)
      (λ yes. ap (λ (n : List ℕ). is_a_folder (found Nothing es n)) (sym ((bytes_eq-Decides (string_bytes e.name) other).0 yes) ∙ named) ∙ no_folder);
  here = λ other same.
      ap file_bytes
      (found_push Nothing es e other
      ∙ pick (bytes_eq (string_bytes e.name) other) (thing_of e.stored) (found Nothing es other) ((bytes_eq-Decides (string_bytes e.name) other).1 (named ∙ same))
      ∙ holds);
  others = λ other differs.
      ap file_bytes
      (found_push Nothing es e other
      ∙ pass (bytes_eq (string_bytes e.name) other) (thing_of e.stored) (found Nothing es other) (false_from_ne_true _ (λ yes. differs (sym named ∙ (bytes_eq-Decides (string_bytes e.name) other).0 yes))));
}

-- one entry further
pub kept : (next last : Thing) (es : List StoredEntry) (i : ℕ) (e : StoredEntry) (name : List ℕ) (all : Thing) → i < length es → e ≡ get_or es i e →
    next ≡ cond (bytes_eq (string_bytes e.name) name) (thing_of e.stored) last → found last (drop i es) name ≡ all → found next (drop (i + 1) es) name ≡ all
kept next last es i e name all within is now before =
    ap (λ (o : Thing). found o (drop (i + 1) es) name) now
    ∙ ap (λ (x : StoredEntry). found last (x ∷ drop (i + 1) es) name) is
    ∙ sym (at_drop_more (λ xs. found last xs name) es i e within)
    ∙ before

-- at the end
pub ended : (last : Thing) (es : List StoredEntry) (i : ℕ) (name : List ℕ) (all : Thing) → length es ≤ i → found last (drop i es) name ≡ all → all ≡ last
ended last es i name all past before = sym before ∙ at_drop_all (λ xs. found last xs name) es i past

-- without the entries of a name none is found by it: one entry further
none_left_at : (t : Bool) (e : StoredEntry) (left : List StoredEntry) (before : Thing) (name : List ℕ) → bytes_eq (string_bytes e.name) name ≡ t
    → ((b : Thing) → found b left name ≡ b)
    → found before (cond (not t) (e ∷ left) left) name ≡ before
none_left_at true e left before name is rest = rest before
none_left_at false e left before name is rest =
    ap (λ (o : Thing). found o left name) (pass (bytes_eq (string_bytes e.name) name) (thing_of e.stored) before is) ∙ rest before

pub none_left : (before : Thing) (es : List StoredEntry) (name : List ℕ) → found before (without name es) name ≡ before
none_left before [] name = refl
none_left before (e ∷ es) name = none_left_at (bytes_eq (string_bytes e.name) name) e (without name es) before name refl (λ b. none_left b es name)

-- by another name the same is found: one entry further
others_left_at : (t : Bool) (e : StoredEntry) (left es : List StoredEntry) (before : Thing) (name other : List ℕ) → bytes_eq (string_bytes e.name) name ≡ t
    → (name ≡ other → ⊥)
    → ((b : Thing) → found b left other ≡ found b es other)
    → found before (cond (not t) (e ∷ left) left) other ≡ found before (e ∷ es) other
others_left_at true e left es before name other is differs rest =
    rest before
    ∙ ap (λ (o : Thing). found o es other) (sym (pass (bytes_eq (string_bytes e.name) other) (thing_of e.stored) before
    (false_from_ne_true _ (λ yes. differs (sym ((bytes_eq-Decides (string_bytes e.name) name).0 is) ∙ (bytes_eq-Decides (string_bytes e.name) other).0 yes)))))
others_left_at false e left es before name other is differs rest = rest _

pub others_left : (before : Thing) (es : List StoredEntry) (name other : List ℕ) → (name ≡ other → ⊥) → found before (without name es) other ≡ found before es other
others_left before [] name other differs = refl
others_left before (e ∷ es) name other differs =
    others_left_at (bytes_eq (string_bytes e.name) name) e (without name es) es before name other refl differs (λ b. others_left b es name other differs)

-- by the same name no folder is found, before or after
folder_left : (t : Bool) (es : List StoredEntry) (name other : List ℕ) → bytes_eq name other ≡ t → is_a_folder (found Nothing es name) ≡ false → is_a_folder (found Nothing (without name es) other) ≡ is_a_folder (found Nothing es other)
folder_left true es name other is no_folder =
    let same = (bytes_eq-Decides name other).0 is in
    subst (λ (n : List ℕ). is_a_folder (found Nothing (without name es) n) ≡ is_a_folder (found Nothing es n)) same
    (ap is_a_folder (none_left Nothing es name) ∙ sym no_folder)
folder_left false es name other is no_folder =
    ap is_a_folder (others_left Nothing es name other (λ same. false≢true (sym is ∙ (bytes_eq-Decides name other).1 same)))

-- without its entries a file is removed
pub removed : (es : List StoredEntry) (name : List ℕ) → is_a_folder (found Nothing es name) ≡ false → IsRemoved (held_of es) (held_of (without name es)) name
removed es name no_folder = record {
  places = λ other. refl;
  locks = λ place. refl;
  folders = λ other. folder_left (bytes_eq name other) es name other refl no_folder;
  here = λ other same. ap file_bytes (subst (λ (n : List ℕ). found Nothing (without name es) n ≡ Nothing) same (none_left Nothing es name));
  others = λ other differs. ap file_bytes (others_left Nothing es name other differs);
}
