-- The answer that tells the optimum of a sale of several units.
use Rattle.md_unit_tables.specs.Tables.{table_of}
use Rattle.md_units.specs.declared.units_answer.UnitsAnswer.{UnitsAnswer}
use Rattle.md_answer.specs.declared.answer.Answer.{Answer}
use Rattle.md_answer.specs.declared.answer.Answer.TheVariants.{AuctionOptimal}

abbrev pub sold_answer : UnitsAnswer → Answer
sold_answer answer = AuctionOptimal answer.value answer.interim (table_of answer.interim answer.masses) answer.cuts answer.bound
