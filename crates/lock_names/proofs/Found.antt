-- Which ring has a name, and which is free.
pub use Rattle.name_bindings.proofs.Found.{same_name, own_name, some_same, none_some, not_some, there_is, pushed, FoundAt, found_at, not_found, unlike, OnlyAt, found_there, found_nowhere, found_more, free_at, none_free, free_last, free_first}
