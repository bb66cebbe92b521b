use Rattle.std.proofs.Common.{◌≡◌, ◌++◌, ◌∷◌, [], ap, ap₂, ◌∙◌, List, ℕ}
use Rattle.md_parts.proofs.MadeRows.{profile_row-made}
use Rattle.md_parts.proofs.profiles.push_profile.Goals as goal

pub returns : goal.returns
returns c =
    let first : c.in_ok-first.first ≡ c.args.word.now ∷ [] = c.in_ok-first.ensures ∙ ap₂ (λ (front : List (List ℕ)) (word : List ℕ). front ++ word ∷ []) c.new.ensures c.as_bytes.ensures.value in
    let made = profile_row-made c.args.word.now c.args.setting.now c.args.numbers.now c.args.count c.args.rank c.in_ok-first.first c.in_ok-named.named c.in_ok-with_numbers_from.field-0 c.requires.rank_in first c.in_ok-named.ensures c.in_ok-with_numbers_from.ensures in
    c.in_ok-push.ensures.items ∙ ap (λ (row : List (List ℕ)). c.args.to.now.items ++ row ∷ []) made
