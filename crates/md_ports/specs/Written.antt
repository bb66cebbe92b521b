-- What a write that failed leaves behind.
use Rattle.std.specs.Prelude.{ℕ, ◌≤◌, ◌≡◌, ◌++◌, List, length, take}

-- after is before with the first bytes of a piece appended: none of them, some or all
abbrev pub AddsFrontOf : List ℕ → List ℕ → List ℕ → Type 0
AddsFrontOf piece before after = (taken : ℕ) × (taken ≤ length piece) × (after ≡ before ++ take taken piece)
