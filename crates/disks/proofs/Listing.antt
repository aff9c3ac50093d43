-- The files of a folder among all.
use Rattle.std.proofs.Common.{◌≡◌, ◌≢◌, Some, ◌<◌, ◌+◌, ◌||◌, ℕ, suc, length, take, drop, get_or, List, [], ◌∷◌, ◌++◌, Bool, true, false, cond, refl, sym, ap, ◌∙◌, string_bytes}
use Rattle.std.specs.Str.{bytes_eq}
use Rattle.std.specs.List.{AllByRecursion}
use Rattle.std.proofs.lemmas.List.{take-append-drop, drop_more, length-append}
use Rattle.std.proofs.Math.Seq.{take-append_seam, drop-append-add, get_or-append_seam}
use Rattle.std.proofs.lemmas.Slice.Eq.{bytes_eq-Decides}
use Rattle.std.proofs.lemmas.Bool.{false_from_ne_true, true≢false}
use Rattle.disks.proofs.Finding.{found_push}
use Rattle.disks.specs.Held.{Thing, Nothing, is_a_thing}
use Rattle.disks.specs.Entries.{thing_of, found, held_of}
use Rattle.disks.specs.Folders.{path_in, LeadsInto, LeadsToNoNew, has_slash, is_among, ListsNames}
use Rattle.disks.specs.declared.memory.Stored.{Stored}
use Rattle.disks.specs.declared.memory.Stored.TheVariants as stored
use Rattle.disks.specs.declared.memory.StoredEntry.{StoredEntry}

-- a name that begins with the folder's and a slash
pub joined : (name folder : List ℕ) → length folder < length name → take (length folder) name ≡ folder → get_or name (length folder) 0 ≡ 47
    → name ≡ path_in folder (drop (length folder + 1) name)
joined name folder longer front slash =
    sym (take-append-drop (length folder) name)
    ∙ ap (λ (x : List ℕ). x ++ drop (length folder) name) front
    ∙ ap (λ (x : List ℕ). folder ++ x) (drop_more name (length folder) 0 longer ∙ ap (λ b. b ∷ drop (length folder + 1) name) slash)

-- the converse, by parts
pub front_of : (name folder n : List ℕ) → name ≡ path_in folder n → take (length folder) name ≡ folder
front_of name folder n is = ap (λ (x : List ℕ). take (length folder) x) is ∙ take-append_seam folder (47 ∷ n)

pub slash_of : (name folder n : List ℕ) → name ≡ path_in folder n → get_or name (length folder) 0 ≡ 47
slash_of name folder n is = ap (λ (x : List ℕ). get_or x (length folder) 0) is ∙ get_or-append_seam folder 47 n 0

pub longer_than : (name folder n : List ℕ) → name ≡ path_in folder n → length name ≡ length folder + suc (length n)
longer_than name folder n is = ap (λ (x : List ℕ). length x) is ∙ length-append folder (47 ∷ n)

pub rest_of : (name folder n : List ℕ) → name ≡ path_in folder n → drop (length folder + 1) name ≡ n
rest_of name folder n is = ap (λ (x : List ℕ). drop (length folder + 1) x) is ∙ drop-append-add folder (47 ∷ n) 1

-- so it leads into the folder; and another leads to nothing there
pub leads_in : (es : List StoredEntry) (name folder n f : List ℕ) → n ≡ name → f ≡ folder → n ≡ path_in f (drop (length f + 1) n) → LeadsInto (Some (held_of es)) folder name
leads_in es name folder n f named foldered is =
    let rest = drop (length f + 1) n in
    (rest, ap (λ (x : List ℕ). path_in x rest) (sym foldered) ∙ sym is ∙ named)

pub leads_elsewhere : (es : List StoredEntry) (name folder n f : List ℕ) → n ≡ name → f ≡ folder → ((o : List ℕ) → n ≢ path_in f o) → LeadsToNoNew (Some (held_of es)) folder name
leads_elsewhere es name folder n f named foldered differs = λ other plain free same. differs other (named ∙ sym same ∙ ap (λ (x : List ℕ). path_in x other) (sym foldered))

-- a name whose rest has a slash is that of no file of the folder
pub deeper : (name folder rest n : List ℕ) → rest ≡ drop (length folder + 1) name → has_slash rest ≡ true → has_slash n ≡ false
    → bytes_eq name (path_in folder n) ≡ false
deeper name folder rest n is has none = false_from_ne_true _ (λ same.
    true≢false (sym has ∙ ap has_slash (is ∙ rest_of name folder n ((bytes_eq-Decides name (path_in folder n)).0 same)) ∙ none))

-- tests that pass alike are the same
pub alike : (t u : Bool) → (t ≡ true → u ≡ true) → (u ≡ true → t ≡ true) → t ≡ u
alike false false to from = refl
alike true true to from = refl
alike true false to from = sym (to refl)
alike false true to from = from refl

-- names in one folder are the same if their files' are
pub same_rest : (folder rest n : List ℕ) → bytes_eq (path_in folder rest) (path_in folder n) ≡ bytes_eq rest n
same_rest folder rest n = alike (bytes_eq (path_in folder rest) (path_in folder n)) (bytes_eq rest n)
    (λ y. (bytes_eq-Decides rest n).1 (sym (drop-append-add folder (47 ∷ rest) 1) ∙ ap (λ (x : List ℕ). drop (length folder + 1) x) ((bytes_eq-Decides _ _).0 y) ∙ drop-append-add folder (47 ∷ n) 1))
    (λ y. (bytes_eq-Decides _ _).1 (ap (λ (x : List ℕ). path_in folder x) ((bytes_eq-Decides rest n).0 y)))

some_thing : (s : Stored) → is_a_thing (thing_of s) ≡ true
some_thing (stored.File v) = refl
some_thing stored.Folder = refl

pub pick_some : (t : Bool) (s : Stored) (o : Thing) → is_a_thing (cond t (thing_of s) o) ≡ (t || is_a_thing o)
pick_some false s o = refl
pick_some true s o = some_thing s

-- whether anything is found, with one entry more
pub found_more : (es : List StoredEntry) (e : StoredEntry) (name : List ℕ)
    → is_a_thing (found Nothing (es ++ e ∷ []) name) ≡ (bytes_eq (string_bytes e.name) name || is_a_thing (found Nothing es name))
found_more es e name = ap is_a_thing (found_push Nothing es e name) ∙ pick_some (bytes_eq (string_bytes e.name) name) e.stored (found Nothing es name)

-- one entry more that lies in the folder, by the name that it has there
pub with_name : (es : List StoredEntry) (e : StoredEntry) (folder rest : List ℕ) (names more : List (List ℕ))
    → string_bytes e.name ≡ path_in folder rest
    → ListsNames (held_of es) folder names
    → (AllByRecursion (λ n. has_slash n ≡ false) names → AllByRecursion (λ n. has_slash n ≡ false) more)
    → ((n : List ℕ) → is_among more n ≡ (bytes_eq rest n || is_among names n))
    → ListsNames (held_of (es ++ e ∷ [])) folder more
with_name es e folder rest names more is listed plain added = record {
  plain = plain listed.plain;
  each = λ n slashless.
      added n
      ∙ ap (λ t. bytes_eq rest n || t) (listed.each n slashless)
      ∙ sym (found_more es e (path_in folder n) ∙ ap (λ t. t || is_a_thing (found Nothing es (path_in folder n)))
      (ap (λ (x : List ℕ). bytes_eq x (path_in folder n)) is ∙ same_rest folder rest n));
}

-- one entry more that does not lie in it
pub without_name : (es : List StoredEntry) (e : StoredEntry) (folder : List ℕ) (names : List (List ℕ))
    → ((n : List ℕ) → has_slash n ≡ false → bytes_eq (string_bytes e.name) (path_in folder n) ≡ false)
    → ListsNames (held_of es) folder names
    → ListsNames (held_of (es ++ e ∷ [])) folder names
without_name es e folder names other listed = record {
  plain = listed.plain;
  each = λ n slashless.
      listed.each n slashless
      ∙ sym (found_more es e (path_in folder n) ∙ ap (λ t. t || is_a_thing (found Nothing es (path_in folder n))) (other n slashless));
}

-- no entry, no name
pub no_names : (folder : List ℕ) → ListsNames (held_of []) folder []
no_names folder = record { plain = tt; each = λ n slashless. refl }
