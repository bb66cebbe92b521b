use Rattle.std.proofs.Common.{◌≡◌, ℕ, List, true, map, take, Bor}
use Rattle.std.specs.List.{list_any}
use Rattle.std.specs.Ordering.{nat_cmp}
use Rattle.std.specs.Cmp.Lexicographic.{slice_cmp}
use Rattle.std.specs.BTreeSet.{contains}
use Rattle.std.specs.Str.{bytes_eq}
use Rattle.md_setting.specs.Refusals.{are_apart}
use Rattle.md_setting.proofs.names.are_apart.Given as goal

abbrev pub invariant-loop-item : goal.invariant-loop-item
invariant-loop-item g l =
    (are_apart (map g.T.Named.name_of (take l.item-index l.items)) ≡ true)
    × ((q : Bor (List ℕ)) → contains (λ x y. slice_cmp nat_cmp x.now y.now) l.seen q ≡ list_any (λ x. bytes_eq (g.T.Named.name_of x) q.now) (take l.item-index l.items))
