use Rattle.std.specs.Prelude.{option_map}
use Rattle.md_tree.proofs.VisitLaws.{IsOnWay}
use Rattle.md_tree.proofs.checking.check_tree.Given as goal

abbrev pub invariant-loop-place : goal.invariant-loop-place
invariant-loop-place l = IsOnWay l.setting (option_map (λ m. m.now) l.best) l.tree l.walk l.place
