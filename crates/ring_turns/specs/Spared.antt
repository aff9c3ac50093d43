-- A resource over which machines can be passed on: one order does no work (this project's own).
use Rattle.std.specs.Prelude.{ℕ, ◌^◌, ◌-◌, ◌==◌, cond}
use Rattle.ring_model.specs.History.{Works}

-- the order by which a machine is passed on
abbrev pub on_order : ℕ
on_order = 2 ^ 64 - 1

-- the same works, but that the order that passes on changes nothing and is answered 0
abbrev pub spared : {C : Type 0} → Works C → Works C
spared w = record {
  after = λ content machine order. cond (order == on_order) content (w.after content machine order);
  answer = λ content machine order. cond (order == on_order) 0 (w.answer content machine order);
}
