-- The general setting that a number stands for.
use Rattle.std.specs.Prelude.{ℕ, ◌+◌, ◌*◌, ◌%◌, ℤ, pos, true, false, List, [], ◌∷◌, None, codes, replicate}
use Rattle.md_math.specs.Lists.{list_to}
use Rattle.md_setting.specs.declared.kinds.Truth.TheVariants.{Bayes}
use Rattle.md_setting.specs.declared.kinds.Rational.TheVariants.{Interim}
use Rattle.md_setting.specs.Setting.{Agent, GeneralSetting}
use Rattle.md_gen.specs.Draws.{draw_at}

-- what outcome o is worth to type a of agent i; the draws of the utilities come first, by agent, then by type, then by outcome
abbrev pub utility_at : ℕ → ℕ → ℕ → ℕ → ℕ
utility_at number i a o = draw_at number (12 * i + 3 * a + o + 1) % 21

-- what outcome o is worth to the designer; these draws come after the 24 of the utilities
abbrev pub worth_at : ℕ → ℕ → ℕ
worth_at number o = draw_at number (o + 25) % 11

-- the utilities of agent i, by type and then by outcome
unfoldable pub utilities_of : ℕ → ℕ → List (List ℤ)
utilities_of number i = list_to 4 (λ a. list_to 3 (λ o. pos (utility_at number i a o)))

unfoldable pub worths_of : ℕ → List ℤ
worths_of number = list_to 3 (λ o. pos (worth_at number o))

-- agent i, of this name, with four types of the same weight and nothing outside
abbrev pub generated_agent : ℕ → List ℕ → ℕ → Agent
generated_agent number name i = record {
  name = name;
  types = codes "t0" ∷ codes "t1" ∷ codes "t2" ∷ codes "t3" ∷ [];
  weights = replicate 4 (pos 1);
  outside = replicate 4 (pos 0);
  utility = utilities_of number i;
  at = None;
}

-- two agents and three outcomes, with truth and rationality on average, and payments
unfoldable pub generated_setting : ℕ → GeneralSetting
generated_setting number = record {
  agents = generated_agent number (codes "a") 0 ∷ generated_agent number (codes "b") 1 ∷ [];
  outcomes = codes "x" ∷ codes "y" ∷ codes "z" ∷ [];
  prior = None;
  values = worths_of number;
  welfare = pos 0;
  revenue = pos 1;
  truth = Bayes;
  rational = Interim;
  payments = true;
  no_deficit = false;
}
