-- What reading gives: a value, or the first refusal.
use Rattle.std.specs.Prelude.{◌≡◌, ◌≢◌, Result, Ok, Err, MatchResult}
use Rattle.md_toml.specs.declared.refusal.SettingRefusal.{SettingRefusal}
use Rattle.md_toml.specs.declared.refusal.SettingRefusal.TheVariants.{Memory}

abbrev pub Reading : Type 0 → Type 0
Reading T = Result T SettingRefusal

-- what comes next is read where this was not refused
infixl 10 ◌>>=◌
abbrev pub ◌>>=◌ : {A B : Type 0} → Reading A → (A → Reading B) → Reading B
◌>>=◌ (Ok x) next = next x
◌>>=◌ (Err e) next = Err e

-- A call answers what the definition gives, unless memory ran out. The function says what the answer means.
abbrev pub Gives : {T D : Type 0} → (T → D) → Result T SettingRefusal → Reading D → Type 0
Gives meaning answer given =
    MatchResult answer (λ x. given ≡ Ok (meaning x)) (λ e. e ≢ Memory → given ≡ Err e)
