-- The resource that adds up the orders of the granted passes (this project's own).
use Rattle.std.specs.Prelude.{ℕ, ◌+◌, ◌-◌, ◌^◌, min}
use Rattle.ring_model.specs.History.{Works}

-- an amount and an order, added; it stops at the greatest number of 64 bits
abbrev pub add_order : ℕ → ℕ → ℕ
add_order amount order = min (amount + order) (2 ^ 64 - 1)

-- the till: its content is an amount, its answer the new amount
abbrev pub till : Works ℕ
till = record {
  after = λ amount machine order. add_order amount order;
  answer = λ amount machine order. add_order amount order;
}
