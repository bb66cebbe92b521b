-- What the bytes of a pivots file say of a general setting: pivots, or the first reason to refuse them.
use Rattle.std.specs.Prelude.{◌≡◌, ℕ, List, [], Result, All}
use Rattle.md_lp.specs.declared.pivot.Pivot.{Pivot}
use Rattle.md_records.specs.Text.{records_of}
use Rattle.md_parts.specs.declared.refusal.AnswerRefusal.{AnswerRefusal}
use Rattle.md_answer.specs.declared.pivots_file.Pivots.{Pivots}
use Rattle.md_parts.specs.Reading.{Reading, ◌>>=◌, nothing_more, answered}
use Rattle.md_parts.specs.Path.{path_of}
use Rattle.md_parts.specs.LastRecord.{read_end}
use Rattle.md_parts.specs.Fitting.{IsTablePlace}

-- the pivots of a program with some cuts, and then the end
abbrev pub pivots_with : List ℕ → Reading Pivots
pivots_with cuts = do
  path ← path_of
  _ ← read_end
  nothing_more record { cuts = cuts; path = path }

-- no record comes before the pivots, and the program of a general setting has no rows that were added as cuts
abbrev pub whole_pivots : Reading Pivots
whole_pivots = pivots_with []

abbrev pub pivots_of : List ℕ → Result Pivots AnswerRefusal
pivots_of bytes = answered (whole_pivots record { read = 0; left = records_of bytes })

-- no rows were added as cuts
abbrev pub HasNoCuts : Pivots → Type 0
HasNoCuts pivots = pivots.cuts ≡ []

-- the places of the pivots are as their type holds them
abbrev pub HasPivotPlaces : Pivots → Type 0
HasPivotPlaces pivots = All (λ (p : Pivot). IsTablePlace p.row p.column) pivots.path
