use Rattle.std.proofs.Common.{[], ◌∷◌, pos, codes, refl}
use Rattle.std.proofs.lemmas.Result.{MatchResult-weaker}
use Rattle.md_parts.specs.Fields.{word_field}
use Rattle.md_parts.proofs.RecordSteps.{record-fails, record-read}
use Rattle.md_conditions_text.proofs.reading.read_version.Goals as goal

pub returns : goal.returns
returns c =
    MatchResult-weaker c.word.result c.word.ensures
    (λ _ reads. record-read (codes "require") (word_field (codes "1") ∷ []) 1 c.args.reader.now c.next.new.self c.in_ok-fields.fields c.word.new.self (pos 0 ∷ []) refl c.in_ok-fields.ensures reads)
    (λ refusal fails _. record-fails (codes "require") (word_field (codes "1") ∷ []) 1 c.args.reader.now c.next.new.self c.in_ok-fields.fields refusal refl c.in_ok-fields.ensures fails)
