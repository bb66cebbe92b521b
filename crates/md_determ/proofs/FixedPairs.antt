-- The pairs of what is fixed are pairs of the setting, by rank ascending.
use Rattle.std.proofs.Common.{◌≡◌, ℕ, zero, suc, ◌<◌, ◌≤◌, List, [], ◌∷◌, ◌++◌, All, length, Option, None, Some, refl, sym, subst, arith}
use Rattle.std.proofs.lemmas.List.{append-nil}
use Rattle.std.proofs.lemmas.List.Elements.{All-head, All-nil, All-tail}
use Rattle.md_math.specs.Lists.{up_to}
use Rattle.md_math.proofs.Builders.{All-up_to}
use Rattle.md_space.specs.Profiles.{profile_count}
use Rattle.md_setting.specs.Setting.{GeneralSetting}
use Rattle.md_setting.specs.Meaning.{outcome_count, sizes_of}
use Rattle.md_lp.specs.declared.pivot.Pivot.{Pivot}
use Rattle.md_forms.proofs.PointLaws.{all-one}
use Rattle.md_determ_branching.specs.Fixed.{fixed_at}
use Rattle.md_determ_node.specs.NodeProgram.{IsNode}
use Rattle.md_tree.specs.AnswerTo.{AreFixedFrom}
use Rattle.md_determ.specs.Pairs.{ArePairsOf, pairs_at, pairs_by}

abbrev IsBelow : ℕ → Pivot → Type 0
IsBelow k pair = pair.row < k

-- one more pair, behind those of lower ranks
fixed-more : (s : GeneralSetting) (pairs : List Pivot) (next : ℕ) (rank outcome : ℕ) → AreFixedFrom s next pairs → All (IsBelow rank) pairs → next ≤ rank → rank < profile_count (sizes_of s) → outcome < outcome_count s
    → AreFixedFrom s next (pairs ++ record { row = rank; column = outcome } ∷ [])
fixed-more s [] next rank outcome h below from inside among = (from, inside, among, tt)
fixed-more s (pair ∷ pairs) next rank outcome h below from inside among =
    let here : pair.row < rank = All-head (IsBelow rank) pair pairs below in
    (h.0, h.1, h.2, fixed-more s pairs (suc pair.row) rank outcome h.3 (All-tail (IsBelow rank) pair pairs below) (omega (arith, here)) inside among)

one-below : (k rank : ℕ) (entry : Option ℕ) → rank < k → All (IsBelow k) (pairs_by rank entry)
one-below k rank None l = All-nil (IsBelow k)
one-below k rank (Some outcome) l = all-one (IsBelow k) (record { row = rank; column = outcome }) l

pairs-below : (fixed : List (Option ℕ)) (k : ℕ) → All (IsBelow k) (up_to k (pairs_at fixed))
pairs-below fixed k = All-up_to (IsBelow k) k (pairs_at fixed) (λ rank l. one-below k rank (fixed_at fixed rank) l)

module _ (s : GeneralSetting) (fixed : List (Option ℕ)) (node : IsNode s fixed) where
  at-rank : (pairs : List Pivot) (k : ℕ) (entry : Option ℕ) → fixed_at fixed k ≡ entry → k < length fixed → AreFixedFrom s 0 pairs → All (IsBelow k) pairs → AreFixedFrom s 0 (pairs ++ pairs_by k entry)
  at-rank pairs k None e l h below = subst (AreFixedFrom s 0) (sym (append-nil pairs)) h
  at-rank pairs k (Some outcome) e l h below =
      fixed-more s pairs 0 k outcome h below (omega arith) (subst (λ n. k < n) node.one_each l) (node.outcomes.below k outcome e)

  first-fixed : (k : ℕ) → k ≤ length fixed → AreFixedFrom s 0 (up_to k (pairs_at fixed))
  first-fixed zero l = tt
  first-fixed (suc k) l =
      let before : k ≤ length fixed = omega (arith, l) in
      at-rank (up_to k (pairs_at fixed)) k (fixed_at fixed k) refl (omega (arith, l)) (first-fixed k before) (pairs-below fixed k)

  pub pairs-fixed : (pairs : List Pivot) → ArePairsOf fixed pairs → AreFixedFrom s 0 pairs
  pairs-fixed pairs are = subst (AreFixedFrom s 0) (sym are) (first-fixed (length fixed) (omega arith))
