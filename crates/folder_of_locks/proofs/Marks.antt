-- The marks of a word and of a file, and the star.
use Rattle.std.proofs.Common.{refl, arith}
use Rattle.folder_of_locks.specs.ListSteps.{AreMarks}

pub word_marks : AreMarks 44 58
word_marks = record {
  end_is = record { ascii = omega arith; name = refl; digit = refl };
  mark_is = record { ascii = omega arith; name = refl; digit = refl };
  apart = λ e. omega (arith, e);
}

pub file_marks : AreMarks 10 32
file_marks = record {
  end_is = record { ascii = omega arith; name = refl; digit = refl };
  mark_is = record { ascii = omega arith; name = refl; digit = refl };
  apart = λ e. omega (arith, e);
}

pub star_in_word : AreMarks 42 58
star_in_word = record {
  end_is = record { ascii = omega arith; name = refl; digit = refl };
  mark_is = record { ascii = omega arith; name = refl; digit = refl };
  apart = λ e. omega (arith, e);
}

pub star_in_file : AreMarks 42 32
star_in_file = record {
  end_is = record { ascii = omega arith; name = refl; digit = refl };
  mark_is = record { ascii = omega arith; name = refl; digit = refl };
  apart = λ e. omega (arith, e);
}
