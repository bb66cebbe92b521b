-- Profiles by the type that they give to an agent.
use Rattle.std.specs.Prelude.{ℕ, ℤ, pos, List, slice_index, ◌==◌, if◌then◌else◌}

-- f of each profile in which agent i has type a, and 0 at all others
abbrev pub where_type : ℕ → ℕ → (List ℕ → ℤ) → List ℕ → ℤ
where_type i a f t = if slice_index t i == a then f t else pos 0
