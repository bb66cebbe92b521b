use Rattle.std.proofs.Common.{◌≡◌, map, take}
use Rattle.md_setting.specs.Setting.{names_of}
use Rattle.md_samples.proofs.lists.words.Given as goal

abbrev pub invariant-loop-text : goal.invariant-loop-text
invariant-loop-text l = names_of l.words.items ≡ map (λ text. text.now) (take l.text-index l.texts)
