-- What is built of a number, from its parts; and that only memory can run out.
use Rattle.std.proofs.Common.{◌≡◌, ◌≢◌, ℕ, ℤ, pos, true, false, List, Option, None, Some, refl, sym, ap, ◌∙◌}
use Rattle.md_setting.specs.declared.kinds.Truth.TheVariants.{Bayes}
use Rattle.md_setting.specs.declared.kinds.Rational.TheVariants.{Interim}
use Rattle.md_setting.specs.declared.refusal.BuildRefusal.{BuildRefusal}
use Rattle.md_setting.specs.declared.refusal.BuildRefusal.TheVariants as refusals
use Rattle.md_setting.specs.Setting.{Agent, GeneralSetting}

-- a setting of these parts, as it is made of each number
abbrev pub setting_with : List Agent → List (List ℕ) → List ℤ → GeneralSetting
setting_with agents outcomes values = record {
  agents = agents;
  outcomes = outcomes;
  prior = None;
  values = values;
  welfare = pos 0;
  revenue = pos 1;
  truth = Bayes;
  rational = Interim;
  payments = true;
  no_deficit = false;
}

pub same_setting : (agents others : List Agent) (outcomes ends : List (List ℕ)) (values worths : List ℤ) → agents ≡ others → outcomes ≡ ends → values ≡ worths → setting_with agents outcomes values ≡ setting_with others ends worths
same_setting agents others outcomes ends values worths e f g =
    ap (λ x. setting_with x outcomes values) e ∙ ap (λ x. setting_with others x values) f ∙ ap (λ x. setting_with others ends x) g

told : {P : Type 0} → (refusal : Option BuildRefusal) (e : BuildRefusal) → refusal ≡ Some e → refusal ≡ None → P
told refusal e h n = absurd (cc (sym n ∙ h))

pub only_memory : (refusal : Option BuildRefusal) (e : BuildRefusal) → (e ≢ refusals.Memory → refusal ≡ Some e) → refusal ≡ None → e ≡ refusals.Memory
only_memory refusal refusals.Memory h n = refl
only_memory refusal refusals.BadName h n = told refusal _ (h (λ q. cc q)) n
only_memory refusal refusals.DoubleName h n = told refusal _ (h (λ q. cc q)) n
only_memory refusal refusals.Sizes h n = told refusal _ (h (λ q. cc q)) n
only_memory refusal refusals.Shape h n = told refusal _ (h (λ q. cc q)) n
only_memory refusal refusals.OutOfRange h n = told refusal _ (h (λ q. cc q)) n
only_memory refusal refusals.ZeroWeight h n = told refusal _ (h (λ q. cc q)) n
only_memory refusal refusals.WeightTotal h n = told refusal _ (h (λ q. cc q)) n
only_memory refusal refusals.TooManyRows h n = told refusal _ (h (λ q. cc q)) n
only_memory refusal refusals.ValuesOrder h n = told refusal _ (h (λ q. cc q)) n
only_memory refusal refusals.SlotsOrder h n = told refusal _ (h (λ q. cc q)) n
only_memory refusal refusals.TooManyCounts h n = told refusal _ (h (λ q. cc q)) n
