use Rattle.std.proofs.Common.{◌≡◌, map, take}
use Rattle.md_setting.specs.Auction.{value_count}
use Rattle.md_reduced.specs.Conditions.{conditions_of}
use Rattle.md_reduced.specs.Names.{name_of}
use Rattle.md_cli_lp.specs.ProgramTexts.{texts_of}
use Rattle.md_cli_lp.proofs.reduced.names.Given as goal

abbrev pub invariant-loop-row : goal.invariant-loop-row
invariant-loop-row l = texts_of l.names.items ≡ map (name_of l.auction) (take l.row (conditions_of (value_count l.auction) l.cuts))
