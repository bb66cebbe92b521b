-- Which answer the first record of a file names.
use Rattle.std.specs.Prelude.{ℕ, ◌==◌, List, [], ◌∷◌, codes, if◌then◌else◌}
use Rattle.md_answer.specs.declared.kind.Kind.{Kind}
use Rattle.md_answer.specs.declared.kind.Kind.TheVariants.{Table, Optimal, Infeasible, Unbounded, TooWide}

-- the words of answers about general settings
abbrev pub answer_words : List (List ℕ)
answer_words = codes "table" ∷ codes "optimal" ∷ codes "infeasible" ∷ codes "unbounded" ∷ codes "toowide" ∷ []

-- the place of a kind's word among them
abbrev pub place_of : Kind → ℕ
place_of Table = 0
place_of Optimal = 1
place_of Infeasible = 2
place_of Unbounded = 3
place_of TooWide = 4

abbrev pub word_of : Kind → List ℕ
word_of Table = codes "table"
word_of Optimal = codes "optimal"
word_of Infeasible = codes "infeasible"
word_of Unbounded = codes "unbounded"
word_of TooWide = codes "toowide"

-- the kind whose word stands at a place
abbrev pub kind_of : ℕ → Kind
kind_of place =
    if place == 0 then Table
    else (if place == 1 then Optimal
    else (if place == 2 then Infeasible
    else (if place == 3 then Unbounded else TooWide)))
