-- The names of a folder's locks, by its entries and its holds.
use Rattle.std.proofs.Common.{◌≡◌, ℕ, List, length, map, Bool, Option, inr, subst, arith, Vec, Global, ◌⊎◌}
use Rattle.std.proofs.lemmas.List.{length-map}
use Rattle.disks.specs.Held.{Held}
use Rattle.name_history.specs.Said.{RingBinding}
use Rattle.chain_readers.specs.declared.holds.Hold.{Hold}
use Rattle.tool_parts.specs.declared.faults.ToolError.{ToolError}
use Rattle.text_commands.specs.Judged.{AreNamesWrong}
use Rattle.lock_commands.specs.HoldNames.{AreNamesIn, AreNoNamesIn}
use Rattle.lock_commands.specs.HoldsAnswer.{AreFolderHolds, IsFolderUnheld, IsFolderMisnamed}
use Rattle.lock_commands.specs.ToldHolds.{Called}

abbrev pub items : Vec Hold Global → List Hold
items v = v.items

-- as many rings as lists of holds
as_many : (locks : List (Vec Hold Global)) (rings : ℕ) → rings ≡ length locks → rings ≡ length (map items locks)
as_many locks rings same = let many = length-map locks items in omega (arith, many, same)

pub names_of_folder : (files : Option Held) (folder : List ℕ) (has there : Bool) (locks : List (Vec Hold Global)) (rings : ℕ) (said : List RingBinding) (names : Called) → has ≡ there → rings ≡ length locks
    → AreNamesIn files folder has rings said names → AreNamesIn files folder there (length (map items locks)) said names
names_of_folder files folder has there locks rings said names same many h =
    subst (λ (b : Bool). AreNamesIn files folder b (length (map items locks)) said names) same
    (subst (λ (n : ℕ). AreNamesIn files folder has n said names) (as_many locks rings many) h)

pub no_names_of_folder : (files : Option Held) (folder : List ℕ) (has there : Bool) (locks : List (Vec Hold Global)) (rings : ℕ) (e : ToolError) → has ≡ there → rings ≡ length locks
    → AreNoNamesIn files folder has rings e → AreNoNamesIn files folder there (length (map items locks)) e
no_names_of_folder files folder has there locks rings e same many h =
    subst (λ (b : Bool). AreNoNamesIn files folder b (length (map items locks)) e) same
    (subst (λ (n : ℕ). AreNoNamesIn files folder has n e) (as_many locks rings many) h)

pub misnamed : (folder : List ℕ) (files : Option Held) (names : Called) (holds : List (List Hold)) (e : ToolError) → AreFolderHolds folder files names holds → AreNamesWrong folder files e
    → IsFolderUnheld folder files e ⊎ IsFolderMisnamed folder files e
misnamed folder files names holds e held wrong = inr (names, holds, held, wrong)
