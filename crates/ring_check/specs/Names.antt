-- The report on a bad line (this project's own).
use Rattle.std.specs.Prelude.{ℕ, List, codes}
use Rattle.ring_check.specs.declared.answers.Kind.{Kind}
use Rattle.ring_check.specs.declared.answers.Kind.TheVariants.{Parameter, Range, Reply, Count, Survey, Group}

-- the word for a kind, as ASCII
abbrev pub kind_name : Kind → List ℕ
kind_name Parameter = codes "parameter"
kind_name Range = codes "range"
kind_name Reply = codes "reply"
kind_name Count = codes "count"
kind_name Survey = codes "survey"
kind_name Group = codes "group"
