-- The content of files where one was to be replaced.
use Rattle.std.proofs.Common.{◌≡◌, ◌∙◌, ap, sym, subst, refl, inl, inr}
use Rattle.std.specs.Prelude.{ℕ, ◌≢◌, List, [], Option, None, Some, IsSome, IfSome, false, true, ◌⊎◌}
use Rattle.std.specs.Option.{unwrap_or, is_some}
use Rattle.std.proofs.lemmas.Bool.{false≢true}
use Rattle.disks.specs.Held.{Held, bytes_of, Creates, Discards, Grows, Starts, Replaces, IsHeld}
use Rattle.saved_history.specs.Content.{Content}
use Rattle.ring_check.specs.declared.answers.Summary.{Summary}
use Rattle.tool_parts.specs.Named.{IsNamed, IsApart}
use Rattle.tool_parts.specs.Reading.{names_stream}
use Rattle.text_commands.specs.Upgraded.{IsUpgradeOf}

-- where there is no upgrade, the report is the other case
pub only_left : {A : Type 0} (word : List ℕ) (files mid : Option Held) (from left : Option (List ℕ)) → mid ≡ files →
    ((bytes : List ℕ) (c : Content) (sums : Summary) → IsNamed word files from left bytes → IsUpgradeOf bytes c sums → ⊥) →
    A ⊎ ((bytes : List ℕ) × (c : Content) × (sums : Summary) × IsNamed word mid from left bytes × IsUpgradeOf bytes c sums) → A
only_left word files mid from left same none (inl a) = a
only_left word files mid from left same none (inr h) = absurd (none h.0 h.1 h.2 (subst (λ (d : Option Held). IsNamed word d from left h.0) same h.3) h.4)

-- of one of two cases that is none, the other
pub other_case : {A B : Type 0} → (B → ⊥) → A ⊎ B → A
other_case none (inl a) = a
other_case none (inr b) = absurd (none b)

-- a file that was replaced holds its bytes
pub held_there : (was is : Option Held) (name bytes : List ℕ) → IsSome was → Replaces was is name (Some bytes) → IsHeld is name bytes
held_there None is name bytes known h = absurd (false≢true known)
held_there (Some was) None name bytes known h = absurd h
held_there (Some was) (Some is) name bytes known h = h.here name refl

-- as it was, it is not replaced by what it did not hold
pub as_it_was : (was is : Option Held) (name bytes : List ℕ) → IsSome was → is ≡ was → (IsHeld was name bytes → ⊥) → Replaces was is name (Some bytes) → ⊥
as_it_was was is name bytes known same not h = not (subst (λ (d : Option Held). IsHeld d name bytes) same (held_there was is name bytes known h))

-- nor is it if another file was
pub another_was : (was is : Option Held) (other name bytes : List ℕ) → IsSome was → names_stream other ≡ false → IsApart was other (Some name) → (IsHeld was name bytes → ⊥) →
    Replaces was is other (Some bytes) → Replaces was is name (Some bytes) → ⊥
another_was None is other name bytes known named apart not done h = absurd (false≢true known)
another_was (Some was) None other name bytes known named apart not done h = absurd h
another_was (Some was) (Some is) other name bytes known named apart not done h = not (sym (done.others name (apart named)) ∙ h.here name refl)

-- a file that was emptied is not as it was
pub emptied : (was mid put is : Option Held) (name : List ℕ) (made : Option (List ℕ)) → IsSome was → (IsHeld was name [] → ⊥) → Starts was made → mid ≡ was →
    Replaces mid put name made → is ≡ put → is ≡ was → ⊥
emptied None mid put is name made known not starts same puts last back = absurd (false≢true known)
emptied (Some was) mid put is name made known not starts same puts last back =
    let there : Replaces (Some was) put name (Some []) = subst (λ (d : Option Held). Replaces d put name (Some [])) same (subst (λ (m : Option (List ℕ)). Replaces mid put name m) starts puts) in
    not (subst (λ (d : Option Held). IsHeld d name []) (sym last ∙ back) (held_there (Some was) put name [] known there))

-- a file holds one list of bytes
pub one_file_holds : (files : Option Held) (name one other : List ℕ) → IsSome files → IsHeld files name one → IsHeld files name other → one ≡ other
one_file_holds None name one other known h k = absurd (false≢true known)
one_file_holds (Some held) name one other known h k = ap (λ (o : Option (List ℕ)). unwrap_or o []) (sym h ∙ k)

-- a file that was replaced by one list of bytes was not replaced by another
pub two_texts : (was is : Option Held) (name one other : List ℕ) → IsSome was → one ≢ other → Replaces was is name (Some one) → Replaces was is name (Some other) → ⊥
two_texts None is name one other known apart h k = absurd (false≢true known)
two_texts (Some was) None name one other known apart h k = absurd h
two_texts (Some was) (Some is) name one other known apart h k =
    apart (ap (λ (o : Option (List ℕ)). unwrap_or o []) (sym (h.here name refl) ∙ k.here name refl))

-- a file is there, or it is not
there_or_not : (file : Option (List ℕ)) (bytes : List ℕ) → file ≡ None → file ≡ Some bytes → ⊥
there_or_not file bytes none some = false≢true (ap is_some (sym none ∙ some))

-- a file that was opened to be written at its end is there
pub grown_there : (was is : Option Held) (name : List ℕ) (contents : Option (List ℕ)) → IsSome was → is ≡ was → Grows was name contents
    → IfSome is (λ held. bytes_of held name ≡ None) → ⊥
grown_there None is name contents known same grown gone = absurd (false≢true known)
grown_there (Some was) is name contents known same grown gone =
    there_or_not (bytes_of was name) grown.0 (subst (λ (d : Option Held). IfSome d (λ held. bytes_of held name ≡ None)) same gone) grown.1

-- where nothing has changed, no file was made, and none removed
pub none_made : (files : Option Held) (name : List ℕ) → IsSome files → Creates files files name true → ⊥
none_made None name known h = absurd (false≢true known)
none_made (Some was) name known h = there_or_not (bytes_of was name) [] h.0 (h.1.here name refl)

pub none_removed : (files : Option Held) (name : List ℕ) → IsSome files → Discards files files name true → ⊥
none_removed None name known h = absurd (false≢true known)
none_removed (Some was) name known h = there_or_not (bytes_of was name) [] (h.1.here name refl) h.0
