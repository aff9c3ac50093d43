-- The line of a client that waits is read as its acquire.
use Rattle.std.proofs.Common.{◌≡◌, ℕ, ◌<◌, ◌≤◌, ◌^◌, List, [], ◌∷◌, ◌++◌, length, Option, Some, ap, ◌∙◌, inl, length-append, arith}
use Rattle.std.specs.Prelude.{codes}
use Rattle.std.specs.Fmt.{decimal}
use Rattle.std.proofs.lemmas.Fmt.{length-decimal-le}
use Rattle.text_lines.specs.Spelling.{spaced, ended}
use Rattle.text_lines.specs.Limits.{line_limit}
use Rattle.text_lines.specs.LongNumbers as numbers
use Rattle.text_lines.proofs.LongDecimals.{in_some}
use Rattle.held_locks.specs.declared.answers.Waiter.{Waiter}
use Rattle.lock_protocol.specs.Names.{IsName, name_spaced}
use Rattle.lock_protocol.specs.Views as input
use Rattle.lock_protocol.specs.Asks.{acquire, heard, of_one}
use Rattle.lock_protocol.specs.Inputs.{input_line, IsReadAs}
use Rattle.lock_protocol.proofs.Fronts.{front_all}
use Rattle.lock_journal.specs.State.{wait_line}
use Rattle.lock_service.specs.WaitersBack.{IsOfBits}
use Rattle.lock_journal.proofs.KeyLines.{same_text, spaced_short}

ended_short : (n : ℕ) → n < 2 ^ 64 → length (ended n) ≤ 21
ended_short n lt =
    let few : length (decimal n) ≤ 20 = length-decimal-le 20 n (omega arith) (omega (arith, lt)) lt in
    omega (arith, length-append (decimal n) (10 ∷ []), few)

name_short : (name : List ℕ) → IsName name → length (name_spaced name) ≤ 129
name_short name is = let most = is.most in omega (arith, length-append name (32 ∷ []), most)

module _ (name : List ℕ) (w : Waiter) (is : IsName name) (bits : IsOfBits w) where
  -- it is spelled as an input
  spelled : wait_line name w ≡ input_line w.client (acquire name w.label)
  spelled =
      let client : spaced w.client ≡ numbers.number_spaced w.client = ap (λ (u : List ℕ). u ++ 32 ∷ []) (same_text w.client bits.0) in
      let order : ended w.label ≡ numbers.number_ended w.label = ap (λ (u : List ℕ). u ++ 10 ∷ []) (same_text w.label bits.1) in
      ap (λ (u : List ℕ). u ++ (codes "acquire " ++ (name_spaced name ++ ended w.label))) client
      ∙ ap (λ (u : List ℕ). numbers.number_spaced w.client ++ (codes "acquire " ++ (name_spaced name ++ u))) order

  pub short : length (wait_line name w) ≤ line_limit
  short =
      let a = length-append (spaced w.client) (codes "acquire " ++ (name_spaced name ++ ended w.label)) in
      let b = length-append (codes "acquire ") (name_spaced name ++ ended w.label) in
      let c = length-append (name_spaced name) (ended w.label) in
      let x = spaced_short w.client bits.0 in
      let y = name_short name is in
      let z = ended_short w.label bits.1 in
      omega (arith, a, b, c, x, y, z)

  heard_all : heard (acquire name w.label) ≡ Some (acquire name w.label)
  heard_all = ap (λ (x : Option ℕ). of_one (acquire name) x) (in_some w.label bits.1)

  pub reads_wait : IsReadAs (wait_line name w) (input.Asked w.client (acquire name w.label))
  reads_wait = (
    record { bits = bits.0; front = (codes "acquire " ++ (name_spaced name ++ numbers.number_ended w.label), inl (front_all (wait_line name w) short ∙ spelled)) },
    record { is = spelled; named = is; short = short },
    heard_all,
  )
