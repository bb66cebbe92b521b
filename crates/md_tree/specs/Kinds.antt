-- Which answer the first record of a file names.
use Rattle.std.specs.Prelude.{ℕ, ◌==◌, List, [], ◌∷◌, codes, if◌then◌else◌}
use Rattle.md_tree.specs.declared.kind.Kind.{Kind}
use Rattle.md_tree.specs.declared.kind.Kind.TheVariants.{Optimal, Infeasible, Unbounded, TooWide}

-- the words of answers about deterministic mechanisms
abbrev pub answer_words : List (List ℕ)
answer_words = codes "optimal" ∷ codes "infeasible" ∷ codes "unbounded" ∷ codes "toowide" ∷ []

abbrev pub word_of : Kind → List ℕ
word_of Optimal = codes "optimal"
word_of Infeasible = codes "infeasible"
word_of Unbounded = codes "unbounded"
word_of TooWide = codes "toowide"

-- the kind whose word stands at a place
abbrev pub kind_of : ℕ → Kind
kind_of place = if place == 0 then Optimal else (if place == 1 then Infeasible else (if place == 2 then Unbounded else TooWide))
