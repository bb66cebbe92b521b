use Rattle.std.proofs.Common.{◌≡◌, ◌∷◌, ◌++◌, [], ℕ, List, ap, ◌∙◌, append_assoc}
use Rattle.std.proofs.lemmas.Int.{to_z-of_z}
use mir.Syntax.{w128}
use Rattle.md_conditions_text.proofs.condition_writing.with_bound.Goals as goal

three-more : (row one two all : List (List ℕ)) (a b d : List ℕ) → one ≡ row ++ a ∷ [] → two ≡ one ++ b ∷ [] → all ≡ two ++ d ∷ [] → all ≡ row ++ a ∷ b ∷ d ∷ []
three-more row one two all a b d e f g =
    g ∙ ap (λ (x : List (List ℕ)). x ++ d ∷ []) (f ∙ ap (λ (x : List (List ℕ)). x ++ b ∷ []) e ∙ append_assoc row (a ∷ []) (b ∷ [])) ∙ append_assoc row (a ∷ b ∷ []) (d ∷ [])

pub returns : goal.returns
returns c =
    let num = rw (to_z-of_z w128 c.args.num c.ranges.num) at c.in_ok-counted.ensures in
    let den = rw (to_z-of_z w128 c.args.den c.ranges.den) at c.in_ok-filled.ensures in
    let word = rw (c.as_bytes.ensures.value, c.side_word.ensures) at c.in_ok-sided.ensures in
    three-more _ _ _ _ _ _ _ word num den
