use Rattle.std.proofs.Common.{◌∙◌, ap}
use Rattle.md_cli_tell.specs.Standings.{standing_records}
use Rattle.md_cli_tell.proofs.conditions.conditions_told.Goals as goal

pub returns : goal.returns
returns c =
    let told = c.in_ok-standings.ensures in record {
      standings = c.in_ok-standings.standings.items;
      stands = rw (c.conditions.ensures, c.mechanism.ensures) at told.each;
      meets = rw (c.conditions.ensures, c.mechanism.ensures) at told.meets;
      told = c.in_ok-records.ensures ∙ ap (standing_records 0) c.deref.ensures.value;
    }
