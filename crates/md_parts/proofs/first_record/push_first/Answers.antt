use Rattle.std.proofs.Common.{◌≡◌, ◌++◌, ◌∷◌, [], codes, ap, ap₂, ◌∙◌, List, ℕ}
use Rattle.md_parts.specs.Versions.{version_text}
use Rattle.md_parts.specs.Rows.{first_row}
use Rattle.md_parts.proofs.first_record.push_first.Goals as goal

pub returns-clause-rows : goal.returns-clause-rows
returns-clause-rows c =
    let one : c.in_ok-answer.answer ≡ codes "answer" ∷ [] = c.in_ok-answer.ensures ∙ ap (λ (front : List (List ℕ)). front ++ codes "answer" ∷ []) c.new.ensures in
    let two : c.in_ok-versioned.versioned ≡ codes "answer" ∷ version_text c.args.version ∷ [] = c.in_ok-versioned.ensures ∙ ap₂ (λ (front : List (List ℕ)) (text : List ℕ). front ++ text ∷ []) one (c.as_bytes.ensures.value ∙ c.text.ensures) in
    let three : c.in_ok-with.field-0 ≡ codes "answer" ∷ version_text c.args.version ∷ c.args.kind.now ∷ [] = c.in_ok-with.ensures ∙ ap₂ (λ (front : List (List ℕ)) (text : List ℕ). front ++ text ∷ []) two c.as_bytes-2.ensures.value in
    let named : c.in_ok-named.named ≡ first_row c.args.version c.args.kind.now c.args.word.now = c.in_ok-named.ensures ∙ ap₂ (λ (front : List (List ℕ)) (text : List ℕ). front ++ text ∷ []) three c.as_bytes-3.ensures.value in
    c.in_ok-push.ensures.items ∙ ap (λ (row : List (List ℕ)). c.args.to.now.items ++ row ∷ []) named
