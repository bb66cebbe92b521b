use Rattle.md_list_find.proofs.LevelLaws.{levels-more}
use Rattle.md_list_find.proofs.virtual_values.levels.Goals as goal

pub loop-place-preserved : goal.loop-place-preserved
loop-place-preserved c = levels-more c.args.pools.now c.loop-place.place c.loop-place.levels.items c.push.new.self.items c.level.result c.loop-place.invariant c.level.ensures c.in_ok-push.ensures.items
