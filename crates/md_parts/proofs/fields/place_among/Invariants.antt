use Rattle.std.proofs.Common.{◌≡◌, map, drop}
use Rattle.md_parts.specs.FirstRecord.{word_among_from, word_among}
use Rattle.md_parts.proofs.fields.place_among.Given as goal

abbrev pub invariant-loop-place : goal.invariant-loop-place
invariant-loop-place l = word_among_from l.place (map (λ w. w.now) (drop l.place l.words)) l.text ≡ word_among (map (λ w. w.now) l.words) l.text
