-- Divisibility of signed numbers, and the greatest common divisor.
use Rattle.std.specs.Prelude.{◌≡◌, ℕ, ◌<◌, ℤ, pos, ◌≤ℤ◌, ◌<ℤ◌, unsigned_abs}
use Prim.Native.Nat.{◌∣◌}

-- g divides z
pub record Divides (g z : ℤ) : Type 0 where
  pub divides : unsigned_abs g ∣ unsigned_abs z

-- g is the greatest common divisor of a and b: it divides both, and each common divisor divides it. That of 0 and 0 is 0
pub record IsGcdOfTwo (a b g : ℤ) : Type 0 where
  pub nonneg : pos 0 ≤ℤ g
  pub left : Divides g a
  pub right : Divides g b
  pub greatest : (d : ℤ) → Divides d a → Divides d b → Divides d g

-- d divides f at each place below n
pub record IsCommonDivisor (n : ℕ) (f : ℕ → ℤ) (d : ℤ) : Type 0 where
  pub at : (k : ℕ) → k < n → Divides d (f k)

-- g is the greatest common divisor of f at the places below n
pub record IsGcdOf (n : ℕ) (f : ℕ → ℤ) (g : ℤ) : Type 0 where
  pub nonneg : pos 0 ≤ℤ g
  pub common : IsCommonDivisor n f g
  pub greatest : (d : ℤ) → IsCommonDivisor n f d → Divides d g

-- only 1 and -1 divide f at each place below n
pub record AreCoprime (n : ℕ) (f : ℕ → ℤ) : Type 0 where
  pub only_one : (d : ℤ) → IsCommonDivisor n f d → unsigned_abs d ≡ 1

-- the fraction num / den is in least terms: the denominator is positive, and only 1 and -1 divide both numbers
pub record IsLeastTerms (num den : ℤ) : Type 0 where
  pub positive : pos 0 <ℤ den
  pub only_one : (d : ℤ) → Divides d num → Divides d den → unsigned_abs d ≡ 1

-- d divides each entry of the first rows and columns of a table
pub record DividesTable (rows columns : ℕ) (table : ℕ → ℕ → ℤ) (d : ℤ) : Type 0 where
  pub at : (r j : ℕ) → r < rows → j < columns → Divides d (table r j)
