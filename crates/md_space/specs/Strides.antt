-- How a space is kept.
use Rattle.std.specs.Prelude.{◌≡◌, ℕ, List, [], ◌∷◌}
use Rattle.md_space.specs.Profiles.{profile_count}
use Rattle.md_space.specs.Sizes.{IsSpace}

-- for each agent how many profiles the agents after it have
abbrev pub strides_of : List ℕ → List ℕ
strides_of [] = []
strides_of (n ∷ ns) = profile_count ns ∷ strides_of ns

-- what is kept of a space is right
pub record IsLaidOut (sizes strides : List ℕ) (profiles : ℕ) : Type 0 where
  pub space : IsSpace sizes
  pub apart : strides ≡ strides_of sizes
  pub count : profiles ≡ profile_count sizes
