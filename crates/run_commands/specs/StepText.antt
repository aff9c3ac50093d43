-- The output of `step` (this project's own lines, over the one-thread ring): the reply to each
-- choice, then the last state.
use Rattle.std.specs.Prelude.{ℕ, List, [], ◌∷◌, ◌++◌, codes, decimal}
use Rattle.text_lines.specs.Spelling.{list_text}
use Rattle.ring_model.specs.Ring.{Ring, privileged_count, first_privileged}
use Rattle.ring_model.specs.History.{State, opening, next, reply}
use Rattle.ring_model.specs.declared.events.Op.TheVariants.{Pass}
use Rattle.ring_model.specs.declared.events.Reply.{Reply}
use Rattle.ring_model.specs.declared.events.Reply.TheVariants.{Granted, NotPrivileged, Corrupted}
use Rattle.ring_book.specs.IdleWorks.{idle}
use Rattle.ring_book.specs.declared.resources.Idle.{Idle}

-- the line of a granted pass: the machine that asked, and the number of the grant
abbrev pub granted_line : ℕ → ℕ → List ℕ
granted_line machine number =
    decimal machine ++ (codes " granted " ++ (decimal number ++ codes "\n"))

-- the line of a pass that was not granted
abbrev pub refused_line : ℕ → List ℕ
refused_line machine = decimal machine ++ codes " not privileged\n"

-- the line of one pass: the machine that asked, and the answer
abbrev pub reply_line : ℕ → Reply → List ℕ
reply_line machine (Granted number result) = granted_line machine number
reply_line machine NotPrivileged = refused_line machine
reply_line machine (Corrupted old) = refused_line machine

-- the two lines of the last state: the values, how many machines are privileged, and the first of
-- them
abbrev pub end_lines : List ℕ → List ℕ
end_lines values =
    codes "states "
    ++ (list_text values
    ++ (codes "\nprivileged "
    ++ (decimal (privileged_count values)
    ++ (codes " first " ++ (decimal (first_privileged values) ++ codes "\n")))))

-- the lines from a state of the ring on: each choice asks to pass with order 0
abbrev pub lines_from : State Idle → List ℕ → List ℕ
lines_from a [] = end_lines a.ring.values
lines_from a (machine ∷ choices) =
    reply_line machine (reply idle a (Pass machine 0))
    ++ lines_from (next idle a (Pass machine 0)) choices

-- the ring before any pass
abbrev pub step_opening : Ring → State Idle
step_opening r = opening r (record {})

-- all that `step` prints
abbrev pub step_text : Ring → List ℕ → List ℕ
step_text r choices = lines_from (step_opening r) choices
