-- The records that tell what came of listed pivots.
use Rattle.std.specs.Prelude.{◌++◌, ◌∷◌, [], ℕ, ◌+◌, ℤ, pos, List, Option, None, Some, codes}
use Rattle.md_num.specs.WholeText.{text_of}
use Rattle.md_records.specs.Written.{text_of_records}
use Rattle.md_lp.specs.declared.entry.Entry.{Entry}
use Rattle.md_replay.specs.declared.outcome.Followed.{Followed}
use Rattle.md_replay.specs.declared.outcome.Replay.{Replay}

-- a basis that is not wide, by its number from 0, with the denominator and the greatest entry of its dictionary
abbrev pub basis_record : ℕ → ℤ → ℤ → List (List ℕ)
basis_record k den greatest = codes "basis" ∷ text_of (pos k) ∷ text_of den ∷ text_of greatest ∷ []

-- the bases from the one with the number k on
abbrev pub basis_records : ℕ → List ℤ → List ℤ → List (List (List ℕ))
basis_records k (den ∷ dens) (greatest ∷ others) = basis_record k den greatest ∷ basis_records (k + 1) dens others
basis_records k _ _ = []

-- the first entry of a wide basis that is too wide
abbrev pub wide_record : Entry → List (List ℕ)
wide_record entry =
    codes "wide" ∷ text_of (pos entry.row) ∷ text_of (pos entry.column) ∷ text_of entry.num ∷ text_of entry.den ∷ []

abbrev pub wide_records : Option Entry → List (List (List ℕ))
wide_records None = []
wide_records (Some entry) = wide_record entry ∷ []

-- how many of the pivots follow the rules of the forward order, and how many those of the backward one, and the end
abbrev pub last_records : Followed → List (List (List ℕ))
last_records followed =
    (codes "rule" ∷ text_of (pos followed.forward) ∷ []) ∷ (codes "again" ∷ text_of (pos followed.backward) ∷ []) ∷ (codes "end" ∷ []) ∷ []

abbrev pub replay_records : Replay → List (List (List ℕ))
replay_records replay =
    basis_records 0 replay.dens replay.greatest ++ (wide_records replay.wide ++ last_records replay.followed)

abbrev pub replay_text : Replay → List ℕ
replay_text replay = text_of_records (replay_records replay)
