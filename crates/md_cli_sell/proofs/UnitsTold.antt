-- An answer about several units can be written, and the checker finds it valid.
use Rattle.std.proofs.Common.{ℕ, ◌-◌, ◌^◌, ℤ, pos, ◌≤ℤ◌, ◌<ℤ◌, refl, arith}
use Rattle.std.proofs.lemmas.Int.{ints}
use Rattle.md_math.specs.Sizes.{IsWithin}
use Rattle.md_setting.specs.Auction.{SymmetricAuction, value_count}
use Rattle.md_lp.specs.Cuts.{AreCuts}
use Rattle.md_lp.specs.Program.{Program}
use Rattle.md_border.specs.Odds.{IsInterim}
use Rattle.md_cert.specs.Certified.{Certified}
use Rattle.md_reduced.specs.ProgramOf.{IsReducedProgram}
use Rattle.md_claims.specs.AuctionCertificates.{auction_certificate}
use Rattle.md_unit_tables.specs.Tables.{ImplementsUnits, IsUnitTable, table_of}
use Rattle.md_unit_tables.specs.Worth.{HasUnitWorth}
use Rattle.md_units.specs.declared.units_answer.UnitsAnswer.{UnitsAnswer}
use Rattle.md_parts.specs.Fitting.{IsBoundOver, IsFraction}
use Rattle.md_answer.specs.AuctionAnswerTo.{IsAnswerFor}
use Rattle.md_answer.specs.ReducedRows.{reduced_rows}
use Rattle.md_answer.specs.declared.supply.Supply.TheVariants.{Units}
use Rattle.md_question_check.specs.declared.verdict.Verdict.TheVariants.{Valid}
use Rattle.md_check.specs.AuctionVerdicts.{IsVerdictFor}
use Rattle.md_cli_sell.specs.UnitTexts.{sold_answer}

pub answer-fits : (a : SymmetricAuction) (units : ℕ) (answer : UnitsAnswer) → IsInterim a answer.interim → IsUnitTable a units (table_of answer.interim answer.masses) → AreCuts (value_count a) answer.cuts
    → IsBoundOver (reduced_rows a answer.cuts) answer.bound → pos 0 <ℤ answer.value.den → IsWithin (2 ^ 126 - 1) answer.value.num × IsWithin (2 ^ 126 - 1) answer.value.den
    → IsAnswerFor (Units units) a (sold_answer answer)
answer-fits a units answer fits table cuts bound positive sizes =
    let fraction : IsFraction answer.value.num answer.value.den = record { positive = some answer.value.den positive; num_size = sizes.0; den_size = sizes.1 } in
    (fraction, fits, table, refl, cuts, bound)
  where
    some : (d : ℤ) → pos 0 <ℤ d → pos 1 ≤ℤ d
    some d l = omega (arith, ints)

-- the odds and payments with the multipliers are certified by each program of the cuts, of which there is one
pub valid-units : (a : SymmetricAuction) (units : ℕ) (answer : UnitsAnswer) (p : Program) → IsReducedProgram a units answer.cuts p
    → ((q : Program) → IsReducedProgram a units answer.cuts q → Certified q (auction_certificate answer.interim answer.bound))
    → ImplementsUnits a answer.interim answer.masses → HasUnitWorth a units answer.interim answer.value → IsVerdictFor (Units units) a (sold_answer answer) Valid
valid-units a units answer p is certified implements worth = (
  record {
    add_up = record { holds = λ v b. implements.exact v b };
    meets = record { program = p; is_program = is; holds = λ q there. (certified q there).meets };
    worth = worth;
  },
  record { program = p; is_program = is; holds = certified },
)
