use Rattle.std.proofs.lemmas.Result.{MatchResult-weaker}
use Rattle.md_parts.proofs.CutSteps.{cut-read, cut-fails}
use Rattle.md_parts.proofs.cuts.read_cut.Goals as goal

pub returns-clause-read : goal.returns-clause-read
returns-clause-read c =
    MatchResult-weaker c.free_place.result c.free_place.ensures.read
    (λ set reads. cut-read c.args.kinds c.sets_of.result c.args.before.now c.args.reader.now c.next.new.self c.in_ok-fields.fields c.free_place.new.self _ c.sets_of.ensures c.in_ok-fields.ensures reads)
    (λ refusal fails _. cut-fails c.args.kinds c.sets_of.result c.args.before.now c.args.reader.now c.next.new.self c.in_ok-fields.fields refusal c.sets_of.ensures c.in_ok-fields.ensures fails)
