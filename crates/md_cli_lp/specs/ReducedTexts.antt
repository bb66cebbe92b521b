-- The records that list the reduced program of an auction.
use Rattle.std.specs.Prelude.{◌≡◌, ℕ, List, map}
use Rattle.md_setting.specs.Auction.{SymmetricAuction, value_count}
use Rattle.md_lp.specs.Cuts.{singles_of}
use Rattle.md_lp.specs.Program.{Program}
use Rattle.md_reduced.specs.Conditions.{conditions_of}
use Rattle.md_reduced.specs.Names.{name_of}
use Rattle.md_reduced.specs.ProgramOf.{IsReducedProgram}
use Rattle.md_cli_lp.specs.ProgramTexts.{program_text}

-- the names of the conditions with these cuts, in their order
abbrev pub reduced_names : SymmetricAuction → List ℕ → List (List ℕ)
reduced_names a cuts = map (name_of a) (conditions_of (value_count a) cuts)

-- the text lists the reduced program whose cuts are the sets of one value each
pub record IsReducedListing (a : SymmetricAuction) (text : List ℕ) : Type 0 where
  pub program : Program
  pub is_program : IsReducedProgram a 1 (singles_of (value_count a)) program
  pub text_is : text ≡ program_text program (reduced_names a (singles_of (value_count a)))
