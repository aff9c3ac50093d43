-- Why an empty list of a folder, and of next segments, is wrong.
use Rattle.std.proofs.Common.{◌≡◌, ℕ, ◌<◌, ◌≤◌, List, [], ◌∷◌, length, Option, Some, None, Bool, true, false, refl, sym, ap, ◌∙◌, arith}
use Rattle.std.specs.Prelude.{◌||◌, IsSome, string_bytes}
use Rattle.std.proofs.lemmas.Bool.{false≢true}
use Rattle.std.proofs.lemmas.Slice.Eq.{bytes_eq-Decides}
use Rattle.disks.specs.Held.{Held, is_there}
use Rattle.disks.specs.Folders.{path_in, is_among, names_of, Lists}
use Rattle.disks.specs.declared.disk.FolderEntry.{FolderEntry}
use Rattle.ring_service.specs.Standings.{Standing}
use Rattle.ring_service.specs.Segments.{AreNext}

pub none_is_next : (rings : List Standing) → 1 ≤ length rings → AreNext rings [] → ⊥
none_is_next [] some h = omega (arith, some)
none_is_next (r ∷ rings) some h = h

first_among : (n : List ℕ) (ns : List (List ℕ)) → is_among (n ∷ ns) n ≡ true
first_among n ns = ap (λ (b : Bool). b || is_among ns n) ((bytes_eq-Decides n n).1 refl)

pub not_empty : (held : Option Held) (folder : List ℕ) (entries : List FolderEntry) → IsSome held → 0 < length entries → Lists held folder entries → Lists held folder [] → ⊥
not_empty None folder entries known some a b = false≢true known
not_empty (Some held) folder [] known some a b = omega (arith, some)
not_empty (Some held) folder (e ∷ es) known some a b =
    let n = string_bytes e.name in
    let there : true ≡ is_there held (path_in folder n) = sym (first_among n (names_of es)) ∙ a.1.each n a.1.plain.0 in
    let missing : false ≡ is_there held (path_in folder n) = b.1.each n a.1.plain.0 in
    false≢true (missing ∙ sym there)
