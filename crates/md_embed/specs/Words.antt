-- The words of a call, which come as one text.
use Rattle.std.specs.Prelude.{◌==◌, ℕ, List}
use Rattle.std.specs.List.{slice_split}

-- the pieces between newlines, of which there is one more than there are newlines
abbrev pub words_in : List ℕ → List (List ℕ)
words_in text = slice_split (λ byte. byte == 10) text
