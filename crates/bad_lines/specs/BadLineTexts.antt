-- The text of a bad line (this project's own).
use Rattle.std.specs.Prelude.{ℕ, List, ◌++◌, codes, decimal}
use Rattle.std.specs.List.{flat_map}
use Rattle.ring_model.specs.declared.events.Reply.{Reply}
use Rattle.ring_model.specs.declared.events.Reply.TheVariants.{Granted, NotPrivileged, Corrupted}
use Rattle.ring_model.specs.declared.events.Survey.{Survey}
use Rattle.ring_check.specs.declared.answers.Kind.{Kind}
use Rattle.ring_check.specs.Names.{kind_name}
use Rattle.bad_lines.specs.declared.wrongs.Wrong.{Wrong}
use Rattle.bad_lines.specs.declared.wrongs.Wrong.TheVariants.{Size, Number, Limit, Replied, Unfinished, Disordered, Early, Inside, Surveyed}
use Rattle.bad_lines.specs.declared.wrongs.BadLine.{BadLine}

-- a reply as an event line has it
abbrev pub reply_text : Reply → List ℕ
reply_text (Granted number result) = codes "g " ++ (decimal number ++ (codes " " ++ decimal result))
reply_text NotPrivileged = codes "n"
reply_text (Corrupted old) = decimal old

-- what a survey line says of the ring
abbrev pub survey_text : Survey → List ℕ
survey_text s =
    decimal s.privileged ++ (codes " " ++ (decimal s.first ++ (codes " "
    ++ (decimal s.calm ++ (codes " " ++ decimal s.rest)))))

-- two numbers with something between them
abbrev pub pair_text : ℕ → List ℕ → ℕ → List ℕ
pair_text a between b = decimal a ++ (between ++ decimal b)

-- what is there, and what should be
abbrev pub wrong_text : Wrong → List ℕ
wrong_text (Size n k machines values) =
    decimal n
    ++ (codes " "
    ++ (decimal k
    ++ (codes ", should be N of 2 to "
    ++ (decimal machines ++ (codes " and K of N to " ++ decimal values)))))
wrong_text (Number there should) = pair_text there (codes ", should be ") should
wrong_text (Limit there limit) = pair_text there (codes ", should be below ") limit
wrong_text (Replied there should) = reply_text there ++ (codes ", should be " ++ reply_text should)
wrong_text (Unfinished left) =
    codes "no next member, should be the one with " ++ (decimal left ++ codes " left")
wrong_text Disordered = codes "another order of machines, should be that of the moves"
wrong_text (Early seat position last_seat last) =
    decimal seat
    ++ (codes " "
    ++ (decimal position
    ++ (codes ", should be "
    ++ (decimal last_seat ++ (codes " " ++ (decimal last ++ codes " or later"))))))
wrong_text (Inside position) = decimal position ++ codes ", should be in no group"
wrong_text (Surveyed there should) = survey_text there ++ (codes ", should be " ++ survey_text should)

-- the number of a line and its fault, as the refusal of a text has them
abbrev pub head_text : ℕ → Kind → List ℕ
head_text line kind =
    codes "line " ++ (decimal line ++ (codes ": " ++ (kind_name kind ++ codes ": ")))

-- a bad line: its number, its fault, and what is there and what should be
abbrev pub line_text : BadLine → List ℕ
line_text l = head_text l.line l.bad.kind ++ (wrong_text l.bad.wrong ++ codes "\n")

-- one line for each
abbrev pub lines_text : List BadLine → List ℕ
lines_text ls = flat_map line_text ls
