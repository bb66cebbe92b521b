-- The first condition that is not met, found condition by condition, and rank by rank of its amounts.
use Rattle.std.proofs.Common.{◌≡◌, ℕ, ◌+◌, ◌<◌, ℤ, ◌≤ℤ◌, Option, MatchOption, List, [], ◌∷◌, ◌++◌, length, take, drop, get_or, All, sym, ap, ◌∙◌, subst, arith}
use Rattle.std.proofs.lemmas.List.{append_assoc, length-take-le, take_more, take-append-drop}
use Rattle.std.proofs.lemmas.List.Elements.{All-append, All-cons, All-nil}
use Rattle.md_math.specs.Lists.{up_to}
use Rattle.md_math.proofs.Builders.{up_to-more, up_to-split}
use Rattle.md_space.specs.Profiles.{profile_count}
use Rattle.md_setting.specs.Setting.{GeneralSetting}
use Rattle.md_setting.specs.Meaning.{sizes_of}
use Rattle.md_mech.specs.declared.mechanism.Mechanism.{Mechanism}
use Rattle.md_question.specs.declared.unmet.Unmet.{Unmet}
use Rattle.md_require.specs.declared.condition.Condition.{Condition}
use Rattle.md_require.specs.declared.condition.Side.TheVariants.{Least, Most}
use Rattle.md_require.specs.Amounts.{Amount}
use Rattle.md_require.specs.Conditions.{IsFirstUnmet, IsMet, Stays, bound_of, lower_by, told_of, upper_by}
use Rattle.md_require.specs.Missed.{IsBelow, IsMissedAs, IsMissedAt, IsMissedBy}
use Rattle.md_require.specs.Named.{amounts_at}
use Rattle.md_require.proofs.ConditionRows.{amounts-by_rank}

-- ---- where a list has an element

at-rank_split : {X : Type 0} → (n r : ℕ) (f : ℕ → List X) (x : X) → r < n → f r ≡ x ∷ [] → (rest : List X) × (up_to n f ≡ up_to r f ++ x ∷ rest)
at-rank_split n r f x below here =
    let split = up_to-split n r f below in
    (split.0, split.1 ∙ ap (λ one. (up_to r f ++ one) ++ split.0) here ∙ append_assoc (up_to r f) (x ∷ []) split.0)

at-place_split : {X : Type 0} → (xs : List X) (i : ℕ) (d : X) → i < length xs → xs ≡ take i xs ++ get_or xs i d ∷ drop (i + 1) xs
at-place_split xs i d below =
    sym (take-append-drop (i + 1) xs) ∙ ap (λ front. front ++ drop (i + 1) xs) (take_more xs i d below) ∙ append_assoc (take i xs) (get_or xs i d ∷ []) (drop (i + 1) xs)

module _ (s : GeneralSetting) (m : Mechanism) where
  -- ---- the amounts of a condition, rank by rank

  pub stay-next : (c : Condition) (r : ℕ) → All (Stays s m c) (up_to r (amounts_at s c.measured)) → All (Stays s m c) (amounts_at s c.measured r)
      → All (Stays s m c) (up_to (r + 1) (amounts_at s c.measured))
  stay-next c r before here =
      subst (All (Stays s m c)) (sym (up_to-more r (amounts_at s c.measured))) (All-append (Stays s m c) (up_to r (amounts_at s c.measured)) (amounts_at s c.measured r) before here)

  pub all-stay : (c : Condition) → 0 < profile_count (sizes_of s) → All (Stays s m c) (up_to (profile_count (sizes_of s)) (amounts_at s c.measured)) → IsMet s m c
  all-stay c some all = subst (All (Stays s m c)) (sym (amounts-by_rank s c.measured some)) all

  pub missed-here : (c : Condition) (r number : ℕ) (unmet : Unmet) → r < profile_count (sizes_of s) → All (Stays s m c) (up_to r (amounts_at s c.measured))
      → IsMissedAt s m c r number unmet → IsMissedAs s m c number unmet
  missed-here c r number unmet below before h =
      let split = at-rank_split (profile_count (sizes_of s)) r (amounts_at s c.measured) h.amount below h.here in
      record {
        numbered = h.missed.numbered;
        missed = record {
          before = up_to r (amounts_at s c.measured);
          amount = h.amount;
          after = split.0;
          parts = amounts-by_rank s c.measured (omega (arith, below)) ∙ split.1;
          stay = before;
          left = h.missed.left_is;
          right = h.missed.right_is;
          less = h.missed.less;
        };
      }

  -- ---- all conditions

  pub met-next : (cs : List Condition) (i : ℕ) (d : Condition) → i < length cs → All (IsMet s m) (take i cs) → IsMet s m (get_or cs i d) → All (IsMet s m) (take (i + 1) cs)
  met-next cs i d below before here =
      subst (All (IsMet s m)) (sym (take_more cs i d below))
      (All-append (IsMet s m) (take i cs) (get_or cs i d ∷ []) before (All-cons (IsMet s m) (get_or cs i d) [] here (All-nil (IsMet s m))))

  pub unmet-here : (cs : List Condition) (i : ℕ) (d : Condition) (unmet : Unmet) → i < length cs → All (IsMet s m) (take i cs) → IsMissedAs s m (get_or cs i d) i unmet
      → IsFirstUnmet s cs m unmet
  unmet-here cs i d unmet below before h = record {
    before = take i cs;
    condition = get_or cs i d;
    after = drop (i + 1) cs;
    parts = at-place_split cs i d below;
    met = before;
    number = h.numbered ∙ sym (length-take-le i cs (omega (arith, below)));
    missed = h.missed;
  }

-- ---- one amount

-- both sides told, and compared
pub missed-least : (s : GeneralSetting) (m : Mechanism) (c : Condition) (amount : Amount) (number : ℕ) (told bound : ℤ) (o : Option Unmet) → c.side ≡ Least → told ≡ told_of s m c amount → bound ≡ bound_of s m c amount
    → MatchOption o (bound ≤ℤ told) (IsBelow number told bound) → MatchOption o (Stays s m c amount) (IsMissedBy s m c number amount)
missed-least s m c amount number told bound o side told_is bound_is h =
    subst (λ k. MatchOption o (lower_by k (told_of s m c amount) (bound_of s m c amount) ≤ℤ upper_by k (told_of s m c amount) (bound_of s m c amount)) (IsBelow number (upper_by k (told_of s m c amount) (bound_of s m c amount)) (lower_by k (told_of s m c amount) (bound_of s m c amount)))) (sym side)
    (subst (λ b. MatchOption o (b ≤ℤ told_of s m c amount) (IsBelow number (told_of s m c amount) b)) bound_is (subst (λ t. MatchOption o (bound ≤ℤ t) (IsBelow number t bound)) told_is h))

pub missed-most : (s : GeneralSetting) (m : Mechanism) (c : Condition) (amount : Amount) (number : ℕ) (told bound : ℤ) (o : Option Unmet) → c.side ≡ Most → told ≡ told_of s m c amount → bound ≡ bound_of s m c amount
    → MatchOption o (told ≤ℤ bound) (IsBelow number bound told) → MatchOption o (Stays s m c amount) (IsMissedBy s m c number amount)
missed-most s m c amount number told bound o side told_is bound_is h =
    subst (λ k. MatchOption o (lower_by k (told_of s m c amount) (bound_of s m c amount) ≤ℤ upper_by k (told_of s m c amount) (bound_of s m c amount)) (IsBelow number (upper_by k (told_of s m c amount) (bound_of s m c amount)) (lower_by k (told_of s m c amount) (bound_of s m c amount)))) (sym side)
    (subst (λ b. MatchOption o (told_of s m c amount ≤ℤ b) (IsBelow number b (told_of s m c amount))) bound_is (subst (λ t. MatchOption o (t ≤ℤ bound) (IsBelow number bound t)) told_is h))
