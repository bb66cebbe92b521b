-- What a run answers is decided by the program: its paths, which end, and the first wide basis of each.
use Rattle.std.proofs.Common.{◌≡◌, ℕ, pos, List, [], ◌∷◌, ◌++◌, Result, Ok, Err, IfOk, IfErr, MatchResult, refl, sym, ap, ap₂, ◌∙◌, subst}
use Rattle.md_lp.specs.Program.{Program, row_count}
use Rattle.md_lp.specs.declared.entry.Entry.{Entry}
use Rattle.md_lp.specs.declared.pivot.Pivot.{Pivot}
use Rattle.md_lp.specs.declared.wide.Wide.{Wide}
use Rattle.md_num.specs.Limits.{limit_of}
use Rattle.md_dict.specs.FirstTable.{column_count, first_entry, first_basis}
use Rattle.md_dict.proofs.FirstLaws.{IsFirstTable-first_entry, first_dictionary}
use Rattle.md_simplex.specs.declared.end.End.{End}
use Rattle.md_simplex.specs.declared.order.Order.{Order}
use Rattle.md_simplex.specs.declared.order.Order.TheVariants.{Forward, Backward}
use Rattle.md_simplex.specs.declared.simplex_error.SimplexError.{SimplexError}
use Rattle.md_simplex.specs.declared.simplex_error.SimplexError.TheVariants.{TooWide, Memory}
use Rattle.md_simplex.specs.declared.step.Step.{Step}
use Rattle.md_simplex.specs.Path.{IsSameBasis}
use Rattle.md_simplex.specs.Runs.{BeginsPath, HasPath, IsFirstWideIn, IsFirstWideOf, IsLeft, IsNarrowPath, IsPathOf, IsRun, IsTaken, IsTried, MeetsWideBasis, TellsOf, basis_of}
use Rattle.md_simplex.proofs.Ending.{path_ends}
use Rattle.md_simplex.proofs.FirstRows.{IsPositiveBasis-first}
use Rattle.md_simplex.proofs.NextBasis.{HasDictionary}
use Rattle.md_simplex.proofs.OneNext.{one_path}
use Rattle.md_simplex.proofs.PathLaws.{IsPositiveBasis-path, basis_after-append, no_return, path_from, path_to}
use Rattle.md_simplex.proofs.WidePaths.{IsWholeNarrow, not_both, one_wide_path}

abbrev make_wide : List Pivot → Entry → Wide
make_wide path entry = record { path = path; entry = entry }

module _ (p : Program) where
  first_has : HasDictionary (row_count p) (column_count p) (first_entry p) (first_basis p)
  first_has = record {
    den = pos 1;
    table = first_entry p;
    dictionary = first_dictionary (row_count p) (column_count p) (first_entry p) (IsFirstTable-first_entry p);
  }

  module _ (order : Order) where
    pub has_path : HasPath order p
    has_path = path_ends order (row_count p) (column_count p) (first_entry p) (first_basis p) (IsPositiveBasis-first order p) first_has

    pub only_path : (first second : List Pivot) (a b : Step) → IsPathOf order p first a → IsPathOf order p second b → (first ≡ second) × (a ≡ b)
    only_path first second a b h k = one_path order (row_count p) (column_count p) (first_entry p) (first_basis p) first second a b h k

    -- a path does not come back
    pub no_basis_twice : (before between : List Pivot) → BeginsPath order p (before ++ between) → IsSameBasis (row_count p) (basis_of p before) (basis_of p (before ++ between)) → between ≡ []
    no_basis_twice before [] path same = refl
    no_basis_twice before (q ∷ between) path same =
        absurd (no_return order (row_count p) (column_count p) (first_entry p) (basis_of p before) q between
        (IsPositiveBasis-path order (row_count p) (column_count p) (first_entry p) (first_basis p) before (IsPositiveBasis-first order p)
        (path_to order (row_count p) (column_count p) (first_entry p) (first_basis p) before (q ∷ between) path))
        (path_from order (row_count p) (column_count p) (first_entry p) (first_basis p) before (q ∷ between) path)
        (λ i a. ap (λ b. b i) (sym (basis_after-append order (row_count p) (column_count p) (first_entry p) (first_basis p) before (q ∷ between))) ∙ sym (same.columns i a)))

    module _ (width : ℕ) where
      whole_narrow : (pivots : List Pivot) (step : Step) → IsPathOf order p pivots step → IsNarrowPath p width pivots → IsWholeNarrow (row_count p) (column_count p) (first_entry p) (limit_of width) order (first_basis p) pivots step
      whole_narrow pivots step h k = record { whole = h; before = k.before; last = k.last }

      -- a path without a wide basis has none
      pub no_wide : (pivots : List Pivot) (step : Step) → IsPathOf order p pivots step → IsNarrowPath p width pivots → MeetsWideBasis order p width → ⊥
      no_wide pivots step h k meets =
          not_both (row_count p) (column_count p) (first_entry p) (limit_of width) order (first_basis p) pivots meets.pivots step meets.entry
          (whole_narrow pivots step h k) (record { path = meets.begins; wide = meets.wide })

      pub first_meets : (wide : Wide) → IsFirstWideOf order p width wide → MeetsWideBasis order p width
      first_meets wide first = record { pivots = wide.path; entry = wide.entry; begins = first.path; wide = first.wide }

      pub one_first_wide : (first second : Wide) → IsFirstWideOf order p width first → IsFirstWideOf order p width second → first ≡ second
      one_first_wide first second h k =
          let both : (first.path ≡ second.path) × (first.entry ≡ second.entry) =
          one_wide_path (row_count p) (column_count p) (first_entry p) (limit_of width) order (first_basis p) first.path second.path first.entry second.entry h k in
          ap₂ make_wide both.0 both.1

  module _ (width : ℕ) where
    -- where the first basis is wide, it is the first wide one of each path
    pub first_of_both : (first second : Wide) → first.path ≡ [] → second.path ≡ [] → second.entry ≡ first.entry → IsFirstWideOf Forward p width first → IsFirstWideOf Backward p width second
    first_of_both first second none also same h =
        let there : IsFirstWideIn Forward p width [] first.entry = subst (λ (path : List Pivot). IsFirstWideIn Forward p width path first.entry) none h in
        let wide : IsFirstWideIn Backward p width [] first.entry = record { path = tt; narrow = tt; wide = there.wide } in
        subst (λ (path : List Pivot). IsFirstWideIn Backward p width path second.entry) (sym also)
        (subst (λ (entry : Entry). IsFirstWideIn Backward p width [] entry) (sym same) wide)

    -- ---- the taken path

    -- a path that is taken is not left
    pub taken_not_left : (order : Order) (first second : Wide) (pivots : List Pivot) (step : Step) → IsLeft p width (TooWide first second) → IsPathOf order p pivots step → IsNarrowPath p width pivots → ⊥
    taken_not_left Forward first second pivots step left whole narrow = no_wide Forward width pivots step whole narrow (first_meets Forward width first left.0)
    taken_not_left Backward first second pivots step left whole narrow = no_wide Backward width pivots step whole narrow (first_meets Backward width second left.1)

    -- both paths are not taken
    pub one_order : (order other : Order) (pivots others : List Pivot) (a b : Step) → IsTried order p width → IsTried other p width
        → IsPathOf order p pivots a → IsNarrowPath p width pivots → IsPathOf other p others b → IsNarrowPath p width others → order ≡ other
    one_order Forward Forward pivots others a b h k path narrow way thin = refl
    one_order Backward Backward pivots others a b h k path narrow way thin = refl
    one_order Forward Backward pivots others a b h k path narrow way thin = absurd (no_wide Forward width pivots a path narrow (first_meets Forward width k.wide k.first))
    one_order Backward Forward pivots others a b h k path narrow way thin = absurd (no_wide Forward width others b way thin (first_meets Forward width h.wide h.first))

    pub one_taken : (order other : Order) (pivots others : List Pivot) (a b : Step) → IsTried order p width → IsTried other p width
        → IsPathOf order p pivots a → IsNarrowPath p width pivots → IsPathOf other p others b → IsNarrowPath p width others → (pivots ≡ others) × (a ≡ b)
    one_taken order other pivots others a b h k path narrow way thin =
        let same : order ≡ other = one_order order other pivots others a b h k path narrow way thin in
        only_path other pivots others a b (subst (λ (o : Order). IsPathOf o p pivots a) same path) way

    -- paths are left at their first wide bases only
    left_there : (error : SimplexError) (first second : Wide) → IsLeft p width error → IsFirstWideOf Forward p width first → IsFirstWideOf Backward p width second → TellsOf first second error
    left_there (TooWide forward backward) first second left h k = (one_first_wide Forward width forward first left.0 h, one_first_wide Backward width backward second left.1 k)
    left_there Memory first second left h k = tt

    -- a taken path is left for want of memory only
    left_for_memory : (error : SimplexError) (order : Order) (pivots : List Pivot) (step : Step) → IsLeft p width error → IsPathOf order p pivots step → IsNarrowPath p width pivots → error ≡ Memory
    left_for_memory (TooWide first second) order pivots step left whole narrow = absurd (taken_not_left order first second pivots step left whole narrow)
    left_for_memory Memory order pivots step left whole narrow = refl

    run_not_wide : (order : Order) (pivots : List Pivot) (step : Step) → IsPathOf order p pivots step → IsNarrowPath p width pivots → MeetsWideBasis Forward p width → MeetsWideBasis Backward p width → ⊥
    run_not_wide Forward pivots step whole narrow forward backward = no_wide Forward width pivots step whole narrow forward
    run_not_wide Backward pivots step whole narrow forward backward = no_wide Backward width pivots step whole narrow backward

    -- ---- so the answer is decided

    pub decided_wide : (result : Result End SimplexError) → IfOk result (IsRun p width) → MeetsWideBasis Forward p width → MeetsWideBasis Backward p width → IfOk result (λ _. ⊥)
    decided_wide (Ok end) h forward backward = run_not_wide h.order end.path h.run.step h.run.whole h.run.narrow forward backward
    decided_wide (Err error) h forward backward = tt

    pub decided_first_wide : (result : Result End SimplexError) → IfErr result (IsLeft p width) → (first second : Wide) → IsFirstWideOf Forward p width first → IsFirstWideOf Backward p width second → IfErr result (TellsOf first second)
    decided_first_wide (Ok end) left first second h k = tt
    decided_first_wide (Err error) left first second h k = left_there error first second left h k

    pub decided_taken : (result : Result End SimplexError) → IfOk result (IsRun p width) → IfErr result (IsLeft p width) → (order : Order) (pivots : List Pivot) (step : Step) → IsTaken order p width pivots step → MatchResult result (λ end. end.path ≡ pivots) (λ error. error ≡ Memory)
    decided_taken (Ok end) h left order pivots step taken =
        (one_taken h.order order end.path pivots h.run.step step h.tried taken.tried h.run.whole h.run.narrow taken.whole taken.narrow).0
    decided_taken (Err error) h left order pivots step taken = left_for_memory error order pivots step left taken.whole taken.narrow
