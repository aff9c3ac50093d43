-- A line reads as a command exactly if it is that command's line.
use Rattle.std.proofs.Common.{◌≡◌, ℕ, ◌<◌, List, [], ◌++◌, length, Option, Some, Result, Ok, Err, refl, sym, ap, ◌∙◌, arith}
use Rattle.std.specs.Prelude.{codes}
use Rattle.std.specs.Option.{option_map}
use Rattle.text_lines.specs.declared.fault.Fault.{Fault}
use Rattle.text_lines.specs.declared.fault.Stop.{Stop}
use Rattle.text_lines.specs.declared.fault.Stop.TheVariants as stops
use Rattle.text_lines.specs.Reading.{Reader, ◌>>=◌, Gives, word_at, or_at, none_at, whole_at}
use Rattle.text_lines.proofs.Basics.{bind_ok, ok_is}
use Rattle.text_lines.specs.LongNumbers.{number_spaced, number_ended, in_64_bits, in_32_bits, order_at, place_at}
use Rattle.ring_service.specs.Commands.{Command, pass, try, group, corrupt, survey, glance, save, command_line, HasLine, IsLineOf, heard, seen, IsReadAs}
use Rattle.ring_service.specs.declared.commands.Command.{Command as Read}
use Rattle.ring_service.specs.Readers.{pass_of, pass_at, try_of, try_at, group_of, group_at, corrupt_of, corrupt_at, survey_of, survey_at, glance_of, glance_at, name_at, save_at, g_at, s_at, command_at}
use Rattle.text_lines.proofs.Commands.{Kind, Takes, kind_takes, kind_again, or_takes, none_takes, after_takes, line_takes, line_again}
use Rattle.text_lines.proofs.Spellings.{Any, Hears, both_hear, word_takes, place_hears, order_hears}
use Rattle.ring_service.proofs.Spellings.{machines_hear, name_takes, name_again}

abbrev commands : Kind
commands = record { C = Command; Has = HasLine; line = command_line; heard = heard }

abbrev TakesCommand : List ℕ → Reader (Option Command) → Type 0
TakesCommand before at = Takes commands before at

-- ---- the kinds

spaced_hears : Hears in_32_bits Any number_spaced (place_at 32)
spaced_hears = place_hears 32 (omega arith)

ended_hears : Hears in_32_bits Any number_ended (place_at 10)
ended_hears = place_hears 10 (omega arith)

order_spaced : Hears in_64_bits Any number_spaced (order_at 32)
order_spaced = order_hears 32 (omega arith)

order_ended : Hears in_64_bits Any number_ended (order_at 10)
order_ended = order_hears 10 (omega arith)

pass_takes : TakesCommand [] pass_at
unfolding pass_at
pass_takes = kind_takes commands (both_hear spaced_hears (both_hear spaced_hears (both_hear spaced_hears order_ended))) pass_of (codes "pass ") [] (λ p. pass p.0 p.1.0 p.1.1.0 p.1.1.1) (λ p f. tt) (λ p. refl) (λ p. refl)

pass_again : (ring seat machine order : ℕ) (rest : List ℕ) → pass_at (command_line (pass ring seat machine order) ++ rest) ≡ Ok (heard (pass ring seat machine order), rest)
unfolding pass_at
pass_again ring seat machine order rest = kind_again commands (both_hear spaced_hears (both_hear spaced_hears (both_hear spaced_hears order_ended))) pass_of (codes "pass ") (ring, (seat, (machine, order))) rest (tt, (tt, (tt, tt)))

try_takes : TakesCommand [] try_at
unfolding try_at
try_takes = kind_takes commands (both_hear spaced_hears (both_hear spaced_hears (both_hear spaced_hears order_ended))) try_of (codes "try ") [] (λ p. try p.0 p.1.0 p.1.1.0 p.1.1.1) (λ p f. tt) (λ p. refl) (λ p. refl)

try_again : (ring seat machine order : ℕ) (rest : List ℕ) → try_at (command_line (try ring seat machine order) ++ rest) ≡ Ok (heard (try ring seat machine order), rest)
unfolding try_at
try_again ring seat machine order rest = kind_again commands (both_hear spaced_hears (both_hear spaced_hears (both_hear spaced_hears order_ended))) try_of (codes "try ") (ring, (seat, (machine, order))) rest (tt, (tt, (tt, tt)))

corrupt_takes : TakesCommand [] corrupt_at
unfolding corrupt_at
corrupt_takes = kind_takes commands (both_hear spaced_hears (both_hear spaced_hears (both_hear spaced_hears ended_hears))) corrupt_of (codes "corrupt ") [] (λ p. corrupt p.0 p.1.0 p.1.1.0 p.1.1.1) (λ p f. tt) (λ p. refl) (λ p. refl)

corrupt_again : (ring seat machine value : ℕ) (rest : List ℕ) → corrupt_at (command_line (corrupt ring seat machine value) ++ rest) ≡ Ok (heard (corrupt ring seat machine value), rest)
unfolding corrupt_at
corrupt_again ring seat machine value rest = kind_again commands (both_hear spaced_hears (both_hear spaced_hears (both_hear spaced_hears ended_hears))) corrupt_of (codes "corrupt ") (ring, (seat, (machine, value))) rest (tt, (tt, (tt, tt)))

group_takes : TakesCommand (codes "g") group_at
unfolding group_at
group_takes = kind_takes commands (both_hear spaced_hears (both_hear spaced_hears (both_hear order_spaced machines_hear))) group_of (codes "roup ") (codes "g") (λ p. group p.0 p.1.0 p.1.1.0 p.1.1.1) (λ p f. f.1.1.1) (λ p. refl) (λ p. refl)

group_again : (ring seat order : ℕ) (machines rest : List ℕ) → 0 < length machines → g_at (command_line (group ring seat order machines) ++ rest) ≡ Ok (heard (group ring seat order machines), rest)
unfolding g_at group_at word_at
group_again ring seat order machines rest some =
    kind_again commands (both_hear spaced_hears (both_hear spaced_hears (both_hear order_spaced machines_hear))) group_of (codes "roup ") (ring, (seat, (order, machines))) rest (tt, (tt, (tt, some)))

glance_takes : TakesCommand (codes "g") glance_at
unfolding glance_at
glance_takes = kind_takes commands ended_hears glance_of (codes "lance ") (codes "g") (λ n. glance n) (λ n f. tt) (λ n. refl) (λ n. refl)

glance_again : (ring : ℕ) (rest : List ℕ) → g_at (command_line (glance ring) ++ rest) ≡ Ok (heard (glance ring), rest)
unfolding g_at glance_at word_at
glance_again ring rest = kind_again commands ended_hears glance_of (codes "lance ") ring rest tt

survey_takes : TakesCommand (codes "s") survey_at
unfolding survey_at
survey_takes = kind_takes commands (both_hear spaced_hears ended_hears) survey_of (codes "urvey ") (codes "s") (λ p. survey p.0 p.1) (λ p f. tt) (λ p. refl) (λ p. refl)

survey_again : (ring seat : ℕ) (rest : List ℕ) → s_at (command_line (survey ring seat) ++ rest) ≡ Ok (heard (survey ring seat), rest)
unfolding s_at survey_at word_at
survey_again ring seat rest = kind_again commands (both_hear spaced_hears ended_hears) survey_of (codes "urvey ") (ring, seat) rest (tt, tt)

abbrev named_save : Reader (Option Command)
named_save bytes = name_at bytes >>= λ rest. Ok (Some (save []), rest)

save_takes : TakesCommand (codes "s") save_at
unfolding save_at
save_takes bytes b rest e =
    let w = word_takes (codes "ave ") named_save bytes (b, rest) e in
    let x = bind_ok (name_at w.0) (λ rest. Ok (Some (save []), rest)) (b, rest) w.2 in
    let n = name_takes w.0 x.0 x.1 in
    let made : Option Command × List ℕ = (Some (save []), x.0) in
    let same : made ≡ (b, rest) = ok_is made (b, rest) x.2 in
    let whole : codes "s" ++ bytes ≡ command_line (save n.0) ++ x.0 = ap (λ (u : List ℕ). codes "s" ++ u) (w.1 ∙ ap (λ (u : List ℕ). codes "ave " ++ u) n.2) in
    (save n.0, n.1, ap (λ (z : Option Command × List ℕ). z.0) same, whole ∙ ap (λ (z : Option Command × List ℕ). command_line (save n.0) ++ z.1) same)

save_again : (name rest : List ℕ) → HasLine (save name) → s_at (command_line (save name) ++ rest) ≡ Ok (heard (save name), rest)
unfolding s_at save_at word_at
save_again name rest f = rw (name_again name rest f) refl

-- ---- all of them

g_takes : TakesCommand [] g_at
unfolding g_at
g_takes = after_takes commands (codes "g") (or_at 114 group_at (or_at 108 glance_at none_at)) (or_takes commands (codes "g") 114 group_at (or_at 108 glance_at none_at) group_takes (or_takes commands (codes "g") 108 glance_at none_at glance_takes (none_takes commands (codes "g"))))

s_takes : TakesCommand [] s_at
unfolding s_at
s_takes = after_takes commands (codes "s") (or_at 117 survey_at (or_at 97 save_at none_at)) (or_takes commands (codes "s") 117 survey_at (or_at 97 save_at none_at) survey_takes (or_takes commands (codes "s") 97 save_at none_at save_takes (none_takes commands (codes "s"))))

command_takes : TakesCommand [] command_at
unfolding command_at
command_takes = or_takes commands [] 112 pass_at _ pass_takes (or_takes commands [] 116 try_at _ try_takes (or_takes commands [] 99 corrupt_at _ corrupt_takes (or_takes commands [] 103 g_at _ g_takes (or_takes commands [] 115 s_at none_at s_takes (none_takes commands [])))))

command_again : (c : Command) (rest : List ℕ) → HasLine c → command_at (command_line c ++ rest) ≡ Ok (heard c, rest)
unfolding command_at
command_again (pass ring seat machine order) rest f = pass_again ring seat machine order rest
command_again (try ring seat machine order) rest f = try_again ring seat machine order rest
command_again (group ring seat order machines) rest f = group_again ring seat order machines rest f
command_again (corrupt ring seat machine value) rest f = corrupt_again ring seat machine value rest
command_again (survey ring seat) rest f = survey_again ring seat rest
command_again (glance ring) rest f = glance_again ring rest
command_again (save name) rest f = save_again name rest f

-- ---- whole lines

line_is : (c : Command) (line : List ℕ) → IsLineOf c line → whole_at command_at line ≡ Ok (heard c)
line_is c line is = line_again commands command_at command_again c line is

pub read_as : (line : List ℕ) (read : Result (Option Read) Stop) → Gives (λ c. option_map seen c) read (whole_at command_at line) → IsReadAs line read
read_as line (Ok r) g = let t = line_takes commands command_at command_takes line (option_map seen r) g in (t.0, t.1, t.2)
read_as line (Err stops.Memory) g = tt
read_as line (Err (stops.Fault f)) g = λ c is. no_both (whole_at command_at line) (heard c) f (line_is c line is) g
  where
    no_both : (r : Result (Option Command) Fault) (h : Option Command) (f : Fault) → r ≡ Ok h → r ≡ Err f → ⊥
    no_both (Ok x) h f p q = cc
    no_both (Err x) h f p q = cc

-- the rings hear one thing of a line
pub one_is_heard : (a b : Command) (line : List ℕ) → IsLineOf a line → IsLineOf b line → heard a ≡ heard b
one_is_heard a b line f g = ok_is (heard a) (heard b) (sym (line_is a line f) ∙ line_is b line g)
