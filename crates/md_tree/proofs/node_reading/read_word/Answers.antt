use Rattle.std.proofs.Common.{codes}
use Rattle.std.proofs.lemmas.Result.{MatchResult-weaker}
use Rattle.md_parts.specs.FirstRecord.{word_among}
use Rattle.md_tree.specs.TreeText.{leaf_words}
use Rattle.md_tree.proofs.RecordsRead.{field-read, field-fails}
use Rattle.md_tree.proofs.node_reading.read_word.Goals as goal

pub returns : goal.returns
returns c =
    let found = rw c.leaf_words.ensures at c.one_of.ensures.read in
    MatchResult-weaker c.one_of.result found
    (λ place reads. field-read (codes "leaf") (word_among leaf_words) c.args.reader.now c.next.new.self c.in_ok-fields.fields c.one_of.new.self place c.in_ok-fields.ensures reads)
    (λ refusal fails _. field-fails (codes "leaf") (word_among leaf_words) c.args.reader.now c.next.new.self c.in_ok-fields.fields refusal c.in_ok-fields.ensures fails)
