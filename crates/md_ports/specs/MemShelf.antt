-- What a shelf in memory holds.
use Rattle.std.specs.Prelude.{ℕ, ◌+◌, ◌-◌, ◌^◌, ◌<◌, ◌≡◌, ◌⊎◌, List, Option, None, Contains}
use Rattle.md_ports.specs.Files.{content_in, count_in}
use Rattle.md_ports.specs.Faults.{next_count}
use Rattle.md_ports.specs.declared.mem_shelf.MemShelf.{MemShelf}

-- what lies under a name; `None` where the name is not there
abbrev pub content_of : MemShelf → List ℕ → Option (List ℕ)
content_of s name = content_in s.files.items name

-- how often a name has failed
abbrev pub count_of : MemShelf → List ℕ → ℕ
count_of s name = count_in s.absent s.files.items name

-- the number of the last call, where 0 is none. Calls past the last number have none.
abbrev pub calls_of : MemShelf → ℕ
calls_of s = s.calls

abbrev pub last_call : ℕ
last_call = 2 ^ 32 - 1

-- the numbers of the calls that are to fail
abbrev pub failing_of : MemShelf → List ℕ
failing_of s = s.failing.items

-- the next call has a number, and is to fail
abbrev pub NextFails : MemShelf → Type 0
NextFails s = (calls_of s < last_call) × Contains (failing_of s) (calls_of s + 1)

-- two names have one count: they are the same, or neither is there
abbrev pub SharesCount : MemShelf → List ℕ → List ℕ → Type 0
SharesCount s m n = (m ≡ n) ⊎ ((content_of s m ≡ None) × (content_of s n ≡ None))

-- nothing that a shelf tells differs
pub record IsSame (old new : MemShelf) : Type 0 where
  pub contents : (n : List ℕ) → content_of new n ≡ content_of old n
  pub counts : (n : List ℕ) → count_of new n ≡ count_of old n
  pub calls : calls_of new ≡ calls_of old
  pub failing : failing_of new ≡ failing_of old

-- one fault more at a name, and at those that share its count
pub record Faulted (old new : MemShelf) (name : List ℕ) : Type 0 where
  pub counted : (n : List ℕ) → SharesCount old n name → count_of new n ≡ next_count (count_of old n)
  pub others : (n : List ℕ) → ¬ SharesCount old n name → count_of new n ≡ count_of old n
