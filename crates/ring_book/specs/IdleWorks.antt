-- The resource that does nothing (this project's own).
use Rattle.ring_model.specs.History.{Works}

-- the content stays, and each answer is 0
abbrev pub idle : {C : Type 0} → Works C
idle = record { after = λ content machine order. content; answer = λ content machine order. 0 }
