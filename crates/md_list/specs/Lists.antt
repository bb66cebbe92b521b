-- The records of a list as they are kept.
use Rattle.std.specs.Prelude.{List, map}
use Rattle.md_list.specs.declared.ranked.Ranked.{Ranked}
use Rattle.md_list.specs.Ranks.{Rank}

abbrev pub rank_of : Ranked → Rank
rank_of r = record { group = r.group; first = r.first; stop = r.stop }

abbrev pub ranks_of : List Ranked → List Rank
ranks_of list = map rank_of list
