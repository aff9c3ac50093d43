-- The cells of a row: their names and what they have, in each form (this project's own).
use Rattle.std.specs.Prelude.{ℕ, List, [], ◌++◌, codes, Option, None, Some}
use Rattle.std.specs.Fmt.{decimal}
use Rattle.text_lines.specs.Spelling.{numbers_text}
use Rattle.history_states.specs.declared.form.Form.{Form}
use Rattle.history_states.specs.declared.form.Form.TheVariants.{Words, Csv, Json}

-- the text before the ring's index, with which a row begins, and the end of a row
abbrev pub first_text : Form → List ℕ
first_text Words = codes "ring "
first_text Csv = []
first_text Json = codes "{\"ring\":"

abbrev pub last_text : Form → List ℕ
last_text Words = codes "\n"
last_text Csv = codes "\n"
last_text Json = codes "}\n"

-- what comes before the content of a cell: its name, but in CSV only a comma
abbrev pub name_text : Form → List ℕ → List ℕ
name_text Words name = codes " " ++ (name ++ codes " ")
name_text Csv name = codes ","
name_text Json name = codes ",\"" ++ (name ++ codes "\":")

-- a cell with no number: it is left out, but in CSV it is there, and empty
abbrev pub empty_text : Form → List ℕ
empty_text Words = []
empty_text Csv = codes ","
empty_text Json = []

-- a word, between quotes in JSON
abbrev pub quoted : Form → List ℕ → List ℕ
quoted Words word = word
quoted Csv word = word
quoted Json word = codes "\"" ++ (word ++ codes "\"")

-- what comes before the first number of a list, between two of them, and after the last
abbrev pub opening : Form → List ℕ
opening Words = []
opening Csv = []
opening Json = codes "["

abbrev pub between : Form → List ℕ
between Words = codes ","
between Csv = codes " "
between Json = codes ","

abbrev pub closing : Form → List ℕ
closing Words = []
closing Csv = []
closing Json = codes "]"

-- a cell by its name, with a number or none, a word, or a list of numbers
pub data Cell : Type 0 where
  Number : List ℕ → Option ℕ → Cell
  Word : List ℕ → List ℕ → Cell
  Numbers : List ℕ → List ℕ → Cell

abbrev pub number_text : Form → List ℕ → Option ℕ → List ℕ
number_text f name None = empty_text f
number_text f name (Some n) = name_text f name ++ decimal n

-- a cell as it is written
abbrev pub cell_text : Form → Cell → List ℕ
cell_text f (Number name number) = number_text f name number
cell_text f (Word name word) = name_text f name ++ quoted f word
cell_text f (Numbers name numbers) =
    name_text f name ++ (opening f ++ numbers_text (between f) (closing f) numbers)

-- the line before the rows, which only CSV has: the names of the columns
abbrev pub header : Form → List ℕ
header Words = []
header Csv =
    codes "ring,event,kind,seat,machine,order,left,number,result,value,old,states,privileged,at,rest,calm\n"
header Json = []
