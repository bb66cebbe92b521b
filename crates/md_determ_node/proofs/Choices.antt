-- What deterministic mechanisms choose, and what a node says of that.
use Rattle.std.proofs.Common.{◌≡◌, ℕ, zero, suc, ◌<◌, inl, inr, List, [], ◌∷◌, length, Option, Some, sym, ap, ◌∙◌, subst, arith}
use Rattle.std.proofs.lemmas.Bool.{cases_eq, cases_lt}
use Rattle.std.proofs.lemmas.Option.{none-some}
use Rattle.md_space.specs.Profiles.{IsProfile, profile_count, profile_at, rank_of}
use Rattle.md_space.proofs.Ranks.{rank_of-below, profile_at-IsProfile}
use Rattle.md_setting.specs.Setting.{GeneralSetting}
use Rattle.md_setting.specs.Meaning.{outcome_count, sizes_of}
use Rattle.md_mech.specs.declared.mechanism.Mechanism.{Mechanism}
use Rattle.md_mech.specs.Mechanism.{IsMechanism, chance_of}
use Rattle.md_mech.proofs.UtilityLaws.{chance-at_rank}
use Rattle.md_determ_branching.specs.Fixed.{fixed_at, Agrees, IsWhole}
use Rattle.md_determ_branching.proofs.Laws.{IsWhole-outcome}
use Rattle.md_determ_node.specs.Deterministic.{IsAllOrNone, IsDeterministic, IsChoice, HasChoice}
use Rattle.md_determ_node.specs.NodeProgram.{IsNode, HasFixed}
use Rattle.md_determ_node.proofs.OneOutcome.{whole-outcome, others-none, one-whole}

-- ---- a deterministic mechanism chooses an outcome at each profile

record ChoosesAt (s : GeneralSetting) (m : Mechanism) (r : ℕ) : Type 0 where
  outcome : ℕ
  is : r < profile_count (sizes_of s) → (outcome < outcome_count s) × (chance_of s m (profile_at (sizes_of s) r) outcome ≡ m.den)

chooses-at : (s : GeneralSetting) (m : Mechanism) → IsMechanism s m → IsDeterministic s m → (r : ℕ) → ChoosesAt s m r
chooses-at s m mechanism deterministic r = elim (cases_lt r (profile_count (sizes_of s))) [
  | inl inside ↦
      let t = profile_at (sizes_of s) r in
      let profile : IsProfile (sizes_of s) t = profile_at-IsProfile (sizes_of s) r inside in
      let there = whole-outcome (outcome_count s) (chance_of s m t) m.den mechanism.den (mechanism.whole t profile) (deterministic.at t profile).holds in
      record { outcome = there.outcome; is = λ _. (there.below, there.whole) }
  | inr past ↦ record { outcome = 0; is = λ inside. absurd (omega (arith, inside, past)) }
]

pub choice : (s : GeneralSetting) (m : Mechanism) → IsMechanism s m → IsDeterministic s m → HasChoice s m
choice s m mechanism deterministic = record {
  choice = λ r. (chooses-at s m mechanism deterministic r).outcome;
  is_choice = record {
    below = λ r l. ((chooses-at s m mechanism deterministic r).is l).0;
    whole = λ r l. ((chooses-at s m mechanism deterministic r).is l).1;
  };
}

-- ---- what is fixed

pub fixed-within : (node : List (Option ℕ)) (r o : ℕ) → fixed_at node r ≡ Some o → r < length node
fixed-within [] r o e = absurd (none-some o e)
fixed-within (entry ∷ node) zero o e = omega arith
fixed-within (entry ∷ node) (suc r) o e = (let inside : r < length node = fixed-within node r o e in omega arith)

pub fixed-profile : (s : GeneralSetting) (node : List (Option ℕ)) (r o : ℕ) → IsNode s node → fixed_at node r ≡ Some o → r < profile_count (sizes_of s)
fixed-profile s node r o is e = subst (λ n. r < n) is.one_each (fixed-within node r o e)

-- a choice that agrees with a node has what the node fixes
pub agrees-fixed : (s : GeneralSetting) (m : Mechanism) (choice : ℕ → ℕ) (node : List (Option ℕ)) → IsChoice s m choice → IsNode s node → Agrees choice node → HasFixed s node m
agrees-fixed s m choice node chosen is agrees = record {
  whole = λ r o e.
      let inside : r < profile_count (sizes_of s) = fixed-profile s node r o is e in
      chance-at_rank s m r o inside ∙ subst (λ k. chance_of s m (profile_at (sizes_of s) r) k ≡ m.den) (agrees.same r o e) (chosen.whole r inside);
}

-- and one that has what the node fixes agrees with it
pub fixed-agrees : (s : GeneralSetting) (m : Mechanism) (choice : ℕ → ℕ) (node : List (Option ℕ)) → IsMechanism s m → IsChoice s m choice → IsNode s node → HasFixed s node m → Agrees choice node
fixed-agrees s m choice node mechanism chosen is fixed = record {
  same = λ r o e.
      let inside : r < profile_count (sizes_of s) = fixed-profile s node r o is e in
      let t = profile_at (sizes_of s) r in
      let profile : IsProfile (sizes_of s) t = profile_at-IsProfile (sizes_of s) r inside in
      one-whole (outcome_count s) (choice r) o (chance_of s m t) m.den mechanism.den (chosen.below r inside) (is.outcomes.below r o e)
      (λ k l. mechanism.not_negative t k profile l) (mechanism.whole t profile) (chosen.whole r inside) (sym (chance-at_rank s m r o inside) ∙ fixed.whole r o e);
}

-- ---- an outcome at each profile

-- where an outcome is fixed at each profile, who has what is fixed has no lottery
pub all-fixed : (s : GeneralSetting) (node : List (Option ℕ)) (m : Mechanism) → IsNode s node → IsWhole node → HasFixed s node m → IsMechanism s m → IsDeterministic s m
all-fixed s node m is whole fixed mechanism = record { at = λ t profile. record { holds = λ o l. at t profile o l } }
  where
    at : (t : List ℕ) → IsProfile (sizes_of s) t → (o : ℕ) → o < outcome_count s → IsAllOrNone m.den (chance_of s m t o)
    at t profile o l =
        let r = rank_of (sizes_of s) t in
        let inside : r < length node = subst (λ n. r < n) (sym is.one_each) (rank_of-below (sizes_of s) t profile) in
        let (fixed_there, there) = IsWhole-outcome node r whole inside in
        let all : chance_of s m t fixed_there ≡ m.den = fixed.whole r fixed_there there in
        elim (cases_eq o fixed_there) [
          | inl same ↦ inr (ap (chance_of s m t) same ∙ all)
          | inr apart ↦ inl (
              others-none (outcome_count s) fixed_there (chance_of s m t) m.den (is.outcomes.below r fixed_there there)
              (λ k b. mechanism.not_negative t k profile b) (mechanism.whole t profile) all o l apart
              )
        ]
