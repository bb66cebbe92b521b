-- What is said of an ironed auction where there is an answer.
use Rattle.md_answer.specs.declared.answer.Answer.{Answer}
use Rattle.md_iron.specs.declared.ironed.Ironed.{Ironed}
use Rattle.md_iron.specs.declared.ironed.Ironed.TheVariants.{Optimal, Undecided}

abbrev pub WhereOptimal : (Answer → Type 0) → Ironed → Type 0
WhereOptimal P (Optimal answer) = P answer
WhereOptimal P Undecided = Unit {0}
