-- Lists to which others are added one after the other.
use Rattle.std.proofs.Common.{◌≡◌, List, [], ◌++◌, ap, ◌∙◌, append_assoc}

module _ {X : Type 0} where
  -- what comes next, and then the rest
  pub then : (r s t a b : List X) → s ≡ r ++ a → t ≡ s ++ b → t ≡ r ++ (a ++ b)
  then r s t a b h k = k ∙ ap (λ l. l ++ b) h ∙ append_assoc r a b

  -- to nothing
  pub all : (r t b : List X) → r ≡ [] → t ≡ r ++ b → t ≡ b
  all r t b h k = k ∙ ap (λ l. l ++ b) h
