-- The value of each bidder of a profile in which one has another value.
use Rattle.std.proofs.Common.{◌≡◌, ℕ, ◌<◌, ◌≤◌, Bool, List, length, sym, ap, ◌∙◌, subst, arith, inl, inr}
use Rattle.std.specs.Prelude.{slice_index}
use Rattle.std.proofs.lemmas.Bool.{cases_eq}
use Rattle.std.proofs.lemmas.List.{length-set, get_or-set_same, get_or-set_other}
use Rattle.md_space.specs.Profiles.{replaced}
use Rattle.md_iron_pools.specs.declared.pools.AuctionPools.{AuctionPools}
use Rattle.md_threshold_laws.specs.Rule.{count_to}
use Rattle.md_threshold_laws.proofs.Counts.{count-most}
use Rattle.md_threshold.specs.Kinds.{AreKinds}

pub kind-with : (kept : AuctionPools) (t : List ℕ) (i v p : ℕ) → AreKinds kept t → v < length kept.by_kind.items → p < length t → slice_index (replaced t i v) p < length kept.by_kind.items
kind-with kept t i v p are b l = elim (cases_eq p i) [
  | inl e ↦ subst (λ z. slice_index (replaced t i v) z < length kept.by_kind.items) (sym e) (subst (λ z. z < length kept.by_kind.items) (sym (get_or-set_same t i v 0 (subst (λ z. z < length t) e l))) b)
  | inr d ↦ subst (λ z. z < length kept.by_kind.items) (sym (get_or-set_other t i p v 0 d)) (are.below p l)
]

-- all places of the profile, which is as long
pub count-whole : (t : List ℕ) (i v n : ℕ) (test : ℕ → Bool) → n ≡ length t → count_to n test ≡ count_to (length (replaced t i v)) test
count-whole t i v n test e = ap (λ m. count_to m test) (e ∙ sym (length-set t i v))

-- no more are counted than there are
pub few-counted : (count n m : ℕ) (test : ℕ → Bool) → count ≡ count_to n test → n ≤ m → m ≤ 12 → count ≤ 12
few-counted count n m test e l few = omega (arith, e, l, few, count-most n test)

pub room-left : (count n m : ℕ) (test : ℕ → Bool) → count ≡ count_to n test → n < m → m ≤ 12 → count < 12
room-left count n m test e l few = omega (arith, e, l, few, count-most n test)
