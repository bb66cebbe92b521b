use Rattle.std.proofs.Common.{map}
use Rattle.std.specs.Prelude.{string_bytes}
use Rattle.md_top.proofs.Promises.{complete-from, headline-from}
use Rattle.md_top.proofs.call.mechdes.Goals as goal

pub returns-clause-headline : goal.returns-clause-headline
returns-clause-headline g c =
    headline-from (map string_bytes c.args.words.now) (g.F.Shelf.content c.args.shelf.now) (g.F.Shelf.faults c.args.shelf.now) (g.F.Shelf.faults c.call.new.shelf)
    _ _ _ c.call.ensures

pub returns-clause-complete : goal.returns-clause-complete
returns-clause-complete g c =
    complete-from (map string_bytes c.args.words.now) (g.F.Shelf.content c.args.shelf.now) (g.F.Shelf.faults c.args.shelf.now) (g.F.Shelf.faults c.call.new.shelf)
    _ _ _ c.call.ensures
