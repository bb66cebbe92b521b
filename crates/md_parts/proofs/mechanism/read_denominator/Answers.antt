use Rattle.std.proofs.lemmas.Result.{MatchResult-weaker}
use Rattle.md_parts.proofs.TableSteps.{denominator-read, denominator-fails}
use Rattle.md_parts.proofs.mechanism.read_denominator.Goals as goal

pub returns : goal.returns
returns c =
    MatchResult-weaker c.number.result c.number.ensures.read
    (λ den reads. denominator-read c.args.reader.now c.next.new.self c.in_ok-fields.fields c.number.new.self den c.in_ok-fields.ensures reads)
    (λ refusal fails _. denominator-fails c.args.reader.now c.next.new.self c.in_ok-fields.fields refusal c.in_ok-fields.ensures fails)
