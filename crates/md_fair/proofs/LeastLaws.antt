-- The least of what agents get.
use Rattle.std.proofs.Common.{◌≡◌, ◌⊎◌, ◌^◌, ℕ, ◌+◌, ◌<◌, ℤ, pos, ◌*ℤ◌, ◌≤ℤ◌, ◌<ℤ◌, refl, sym, ap, ◌∙◌, subst, arith, inl, inr}
use Rattle.std.specs.List.{Contains}
use Rattle.std.proofs.lemmas.Bool.{cases_lt}
use Rattle.std.proofs.lemmas.Int.{fold-int_min_bounds, fold-int_min_reached}
use Rattle.std.proofs.lemmas.List.Elements.{All-get_or}
use Rattle.md_math.specs.Lists.{list_to}
use Rattle.md_math.specs.Sizes.{IsWithin}
use Rattle.md_math.proofs.Builders.{get_or-list_to, length-list_to}
use Rattle.md_math.proofs.Order.{le_from_same, ≤ℤ_trans, ≤ℤ_antisymm}
use Rattle.md_num.specs.declared.frac.Frac.{Frac}
use Rattle.md_setting.specs.Setting.{GeneralSetting}
use Rattle.md_setting.specs.Meaning.{agent_count, total_of}
use Rattle.md_mech.specs.declared.mechanism.Mechanism.{Mechanism}
use Rattle.md_question.proofs.OneFraction.{one_fraction}
use Rattle.md_fair.specs.Least.{IsLeast, HasLeast, IsLeastValueOf, least_of}
use Rattle.md_fair.specs.Mean.{mean_of}

-- the least of what the first agents get
pub record IsLeastBelow (s : GeneralSetting) (m : Mechanism) (count : ℕ) (least : ℤ) : Type 0 where
  pub at_most : (i : ℕ) → i < count → least ≤ℤ mean_of s m i
  pub agent : ℕ
  pub inside : agent < count
  pub reached : least ≡ mean_of s m agent

pub least-first : (s : GeneralSetting) (m : Mechanism) (z : ℤ) → z ≡ mean_of s m 0 → IsLeastBelow s m 1 z
least-first s m z e = record {
  at_most = λ i l. (let first : i ≡ 0 = omega (arith, l) in le_from_same z (mean_of s m i) (e ∙ ap (mean_of s m) (sym first)));
  agent = 0;
  inside = omega arith;
  reached = e;
}

-- one agent more, who gets less or not
pub least-lower : (s : GeneralSetting) (m : Mechanism) (count : ℕ) (old new : ℤ) → IsLeastBelow s m count old → new ≡ mean_of s m count → new ≤ℤ old → IsLeastBelow s m (count + 1) new
least-lower s m count old new h e below = record {
  at_most = λ i l. elim (cases_lt i count) [
    | inl before ↦ ≤ℤ_trans new old (mean_of s m i) below (h.at_most i before)
    | inr last ↦ (let here : i ≡ count = omega (arith, l, last) in le_from_same new (mean_of s m i) (e ∙ ap (mean_of s m) (sym here)))
  ];
  agent = count;
  inside = omega arith;
  reached = e;
}

pub least-stays : (s : GeneralSetting) (m : Mechanism) (count : ℕ) (old next : ℤ) → IsLeastBelow s m count old → next ≡ mean_of s m count → old ≤ℤ next → IsLeastBelow s m (count + 1) old
least-stays s m count old next h e above = record {
  at_most = λ i l. elim (cases_lt i count) [
    | inl before ↦ h.at_most i before
    | inr last ↦ (let here : i ≡ count = omega (arith, l, last) in subst (λ z. old ≤ℤ z) (e ∙ ap (mean_of s m) (sym here)) above)
  ];
  agent = h.agent;
  inside = omega (arith, h.inside);
  reached = h.reached;
}

-- the lesser of the two
pub least-step : (s : GeneralSetting) (m : Mechanism) (count : ℕ) (old next new : ℤ) → IsLeastBelow s m count old × IsWithin (2 ^ 120) old → next ≡ mean_of s m count → IsWithin (2 ^ 120) next
    → ((new ≡ old) × (old ≤ℤ next)) ⊎ ((new ≡ next) × (next ≤ℤ old)) → IsLeastBelow s m (count + 1) new × IsWithin (2 ^ 120) new
least-step s m count old next new h e size (inl kept) = rw kept.0 (least-stays s m count old next h.0 e kept.1, h.1)
least-step s m count old next new h e size (inr lower) = rw lower.0 (least-lower s m count old next h.0 e lower.1, size)

pub least-all : (s : GeneralSetting) (m : Mechanism) (count : ℕ) (z : ℤ) → count ≡ agent_count s → IsLeastBelow s m count z → IsLeast s m z
least-all s m count z e h = record {
  at_most = λ i l. h.at_most i (omega (arith, l, e));
  agent = h.agent;
  inside = omega (arith, e, h.inside);
  reached = h.reached;
}

reached-in : (n : ℕ) (f : ℕ → ℤ) (z : ℤ) → 0 < n → (z ≡ f 0) ⊎ Contains (list_to n f) z → (k : ℕ) × (k < n) × (z ≡ f k)
reached-in n f z some (inl first) = (0, some, first)
reached-in n f z some (inr (k, inside, at)) =
    let l : k < n = omega (arith, inside, length-list_to n f) in
    (k, l, sym at ∙ get_or-list_to n f k z l)

-- where there is an agent, there is a least
pub is-least : (s : GeneralSetting) (m : Mechanism) → 0 < agent_count s → IsLeast s m (least_of s m)
is-least s m some =
    let gets = list_to (agent_count s) (mean_of s m) in
    let bound = fold-int_min_bounds (mean_of s m 0) gets (least_of s m) refl in
    let reached = reached-in (agent_count s) (mean_of s m) (least_of s m) some (fold-int_min_reached (mean_of s m 0) gets (least_of s m) refl) in
    record {
      at_most = λ i l.
          subst (λ z. least_of s m ≤ℤ z) (get_or-list_to (agent_count s) (mean_of s m) i (pos 0) l)
          (All-get_or (λ z. least_of s m ≤ℤ z) gets i (pos 0) (omega (arith, l, length-list_to (agent_count s) (mean_of s m))) bound.1);
      agent = reached.0;
      inside = reached.1;
      reached = reached.2;
    }

pub has-least : (s : GeneralSetting) (m : Mechanism) → 0 < agent_count s → HasLeast s m
has-least s m some = record { least = least_of s m; is = is-least s m some }

-- there is one least
pub one-least : (s : GeneralSetting) (m : Mechanism) (a b : ℤ) → IsLeast s m a → IsLeast s m b → a ≡ b
one-least s m a b h k =
    ≤ℤ_antisymm a b (subst (λ z. a ≤ℤ z) (sym k.reached) (h.at_most k.agent k.inside)) (subst (λ z. b ≤ℤ z) (sym h.reached) (k.at_most h.agent h.inside))

-- what is at most what each agent gets is at most the least
pub below-least : (s : GeneralSetting) (m : Mechanism) (level least : ℤ) → ((i : ℕ) → i < agent_count s → level ≤ℤ mean_of s m i) → IsLeast s m least → level ≤ℤ least
below-least s m level least h k = subst (λ z. level ≤ℤ z) (sym k.reached) (h k.agent k.inside)

-- it has one value
pub one-value : (s : GeneralSetting) (m : Mechanism) (v w : Frac) → pos 0 <ℤ (m.den *ℤ total_of s) → IsLeastValueOf s m v → IsLeastValueOf s m w → v ≡ w
one-value s m v w above a b =
    let same : v.num *ℤ (m.den *ℤ total_of s) ≡ b.least *ℤ v.den = a.is_value ∙ ap (λ z. z *ℤ v.den) (one-least s m a.least b.least a.is b.is) in
    one_fraction b.least (m.den *ℤ total_of s) v w above (record { same = same; least = a.least_terms }) (record { same = b.is_value; least = b.least_terms })
