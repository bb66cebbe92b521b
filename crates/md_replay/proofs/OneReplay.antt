-- A program, a width and a list of pivots have at most one answer.
use Rattle.std.proofs.Common.{◌≡◌, ℕ, suc, ◌+◌, ◌<◌, ◌≤◌, ℤ, pos, ◌≤ℤ◌, unsigned_abs, List, ◌∷◌, ◌++◌, length, take, drop, Option, None, Some, Result, Ok, Err, IfOk, IfErr, MatchResult, refl, sym, ap, ap₂, ◌∙◌, subst, arith, inl, inr, length-append}
use Rattle.std.proofs.lemmas.Bool.{cases_lt}
use Rattle.std.proofs.lemmas.Int.{ints}
use Rattle.std.proofs.lemmas.List.{ext_get_or, take-append-drop, take-take}
use Rattle.md_math.specs.Lists.{number_at}
use Rattle.md_math.specs.Sizes.{IsWithin}
use Rattle.md_math.proofs.SizeLaws.{not_above}
use Rattle.md_lp.specs.Program.{Program, row_count}
use Rattle.md_lp.specs.declared.entry.Entry.{Entry}
use Rattle.md_lp.specs.declared.pivot.Pivot.{Pivot}
use Rattle.md_num.specs.Limits.{limit_of}
use Rattle.md_dict.specs.FirstTable.{column_count, first_basis, first_entry}
use Rattle.md_dict.proofs.Uniqueness.{same_dens, same_entries}
use Rattle.md_simplex.specs.declared.order.Order.{Order}
use Rattle.md_simplex.specs.declared.order.Order.TheVariants.{Forward, Backward}
use Rattle.md_simplex.specs.Path.{AllBefore}
use Rattle.md_simplex.specs.Runs.{BeginsPath, IsWideAt, IsWithinWidth, basis_of}
use Rattle.md_simplex.proofs.PathLaws.{path_to}
use Rattle.md_simplex.proofs.WidePaths.{one_wide_entry}
use Rattle.md_replay.specs.declared.outcome.Followed.{Followed}
use Rattle.md_replay.specs.declared.outcome.Replay.{Replay}
use Rattle.md_replay.specs.declared.outcome.ReplayError.{ReplayError}
use Rattle.md_replay.specs.declared.outcome.ReplayError.TheVariants as errors
use Rattle.md_replay.specs.Replay.{AllLawful, AreBasesTold, AreFollowed, HasEnded, IsBasisTold, IsFollowed, IsGreatestEntry, IsLawful, IsLawless, IsReplay, Refuses, TellsNumber}
use Rattle.md_replay.proofs.PivotLists.{AllBefore-at, AllLawful-at, IsLonger, compared, same_head}

same_sizes : (x y : ℤ) → pos 0 ≤ℤ x → pos 0 ≤ℤ y → unsigned_abs x ≡ unsigned_abs y → x ≡ y
same_sizes x y a b e = omega (arith, ints)

abbrev made_followed : ℕ → ℕ → Followed
made_followed forward backward = record { forward = forward; backward = backward }

abbrev made : List ℤ → List ℤ → Option Entry → Followed → Replay
made dens greatest wide followed = record { dens = dens; greatest = greatest; wide = wide; followed = followed }

module _ (p : Program) where
  -- ---- what is told of a basis

  at_most : (e f : ℕ → ℕ → ℤ) (x y : ℤ) → ((r j : ℕ) → r < row_count p + 2 → j < column_count p + row_count p + 1 → e r j ≡ f r j) → IsGreatestEntry p e x → IsGreatestEntry p f y → unsigned_abs x ≤ unsigned_abs y
  at_most e f x y same h k =
      let within : IsWithin (unsigned_abs y) (f h.row h.column) = k.bound h.row h.column h.row_in h.column_in in
      let size : unsigned_abs (f h.row h.column) ≤ unsigned_abs y = within.within in
      let there : unsigned_abs (e h.row h.column) ≡ unsigned_abs (f h.row h.column) = ap unsigned_abs (same h.row h.column h.row_in h.column_in) in
      let reached : unsigned_abs (e h.row h.column) ≡ unsigned_abs x = h.reached in
      omega arith

  same_told : (basis : ℕ → ℕ) (c d x y : ℤ) → IsBasisTold p basis c x → IsBasisTold p basis d y → (c ≡ d) × (x ≡ y)
  same_told basis c d x y h k =
      let same : (r j : ℕ) → r < row_count p + 2 → j < column_count p + row_count p + 1 → h.table r j ≡ k.table r j =
      same_entries (row_count p) (column_count p) (first_entry p) basis c d h.table k.table h.dictionary k.dictionary in
      let less : unsigned_abs x ≤ unsigned_abs y = at_most h.table k.table x y same h.greatest k.greatest in
      let more : unsigned_abs y ≤ unsigned_abs x = at_most k.table h.table y x (λ r j a b. sym (same r j a b)) k.greatest h.greatest in (
        same_dens (row_count p) (column_count p) (first_entry p) basis c d h.table k.table h.dictionary k.dictionary,
        same_sizes x y h.greatest.nonneg k.greatest.nonneg (omega arith),
      )

  same_bases : (carried : List Pivot) (c d x y : List ℤ) → length c ≡ length d → AreBasesTold p carried c x → AreBasesTold p carried d y → (c ≡ d) × (x ≡ y)
  same_bases carried c d x y e h k =
      let a : length x ≡ length c = h.same_length in
      let b : length y ≡ length d = k.same_length in
      let at : (i : ℕ) → i < length c → (number_at c i ≡ number_at d i) × (number_at x i ≡ number_at y i) =
      λ i l. same_told (basis_of p (take i carried)) (number_at c i) (number_at d i) (number_at x i) (number_at y i) (h.told i l) (k.told i (omega arith)) in
      (ext_get_or (pos 0) c d e (λ i l. (at i l).0), ext_get_or (pos 0) x y (a ∙ e ∙ sym b) (λ i l. (at i (omega arith)).1))

  -- ---- how many are followed

  not_fewer : (order : Order) (carried : List Pivot) (m n : ℕ) → IsFollowed order p carried m → IsFollowed order p carried n → m < n → ⊥
  not_fewer order carried m n h k l =
      let inside : n ≤ length carried = k.inside in
      let parts : take n carried ≡ take (suc m) (take n carried) ++ drop (suc m) (take n carried) = sym (take-append-drop (suc m) (take n carried)) in
      let begins : BeginsPath order p (take (suc m) (take n carried)) =
      path_to order (row_count p) (column_count p) (first_entry p) (first_basis p) (take (suc m) (take n carried)) (drop (suc m) (take n carried))
      (subst (λ (xs : List Pivot). BeginsPath order p xs) parts k.path) in
      h.leaves (omega arith) (subst (λ (xs : List Pivot). BeginsPath order p xs) (take-take (suc m) n carried (omega arith)) begins)

  same_count : (order : Order) (carried : List Pivot) (m n : ℕ) → IsFollowed order p carried m → IsFollowed order p carried n → m ≡ n
  same_count order carried m n h k = elim (cases_lt m n) [
    | inl l ↦ absurd (not_fewer order carried m n h k l)
    | inr l ↦ elim (cases_lt n m) [ inl g ↦ absurd (not_fewer order carried n m k h g) | inr g ↦ omega arith ]
  ]

  same_followed : (carried : List Pivot) (a b : Followed) → AreFollowed p carried a → AreFollowed p carried b → a ≡ b
  same_followed carried a b h k =
      ap₂ made_followed (same_count Forward carried a.forward b.forward h.forward k.forward) (same_count Backward carried a.backward b.backward h.backward k.backward)

  module _ (width : ℕ) (listed : List Pivot) where
    -- ---- where the pivots are left

    narrow_not_wide : (basis : ℕ → ℕ) (entry : Entry) → IsWithinWidth p width basis → IsWideAt p width basis entry → ⊥
    narrow_not_wide basis entry h k =
        not_above (limit_of width) (h.table entry.row entry.column) entry.num
        (same_entries (row_count p) (column_count p) (first_entry p) basis h.den k.den h.table k.table h.dictionary k.dictionary entry.row entry.column k.first.row_in k.first.column_in ∙ sym k.first.num_is)
        (h.narrow.entries entry.row entry.column k.first.row_in k.first.column_in) k.first.wide

    -- not where another pivot is listed and the basis is not wide
    not_there : (carried : List Pivot) (q : Pivot) (more : List Pivot) (told : ℕ) (wide : Option Entry) → listed ≡ carried ++ (q ∷ more) → IsWithinWidth p width (basis_of p carried) → HasEnded p width listed carried told wide → ⊥
    not_there carried q more told None next narrow h =
        let sizes : length listed ≡ length carried + length (q ∷ more) = ap length next ∙ length-append carried (q ∷ more) in
        let whole : length carried ≡ length listed = ap length h.0 in
        let some : length (q ∷ more) ≡ suc (length more) = refl in
        omega arith
    not_there carried q more told (Some entry) next narrow h = narrow_not_wide (basis_of p carried) entry narrow h.0

    not_before : (short long rest : List Pivot) (told : ℕ) (wide : Option Entry) → listed ≡ short ++ rest → IsLonger short long rest → AllBefore (IsWithinWidth p width) (first_basis p) long → HasEnded p width listed short told wide → ⊥
    not_before short long rest told wide front h narrow ended =
        not_there short h.head h.others told wide (front ∙ ap (λ xs. short ++ xs) h.rest_is)
        (AllBefore-at (IsWithinWidth p width) (first_basis p) short h.head h.tail (subst (λ (xs : List Pivot). AllBefore (IsWithinWidth p width) (first_basis p) xs) h.long_is narrow))
        ended

    same_end : (carried : List Pivot) (m n : ℕ) (a b : Option Entry) → HasEnded p width listed carried m a → HasEnded p width listed carried n b → (m ≡ n) × (a ≡ b)
    same_end carried m n None None h k = (h.1.1 ∙ sym k.1.1, refl)
    same_end carried m n None (Some entry) h k = absurd (narrow_not_wide (basis_of p carried) entry h.1.0 k.0)
    same_end carried m n (Some entry) None h k = absurd (narrow_not_wide (basis_of p carried) entry k.1.0 h.0)
    same_end carried m n (Some a) (Some b) h k = (h.1 ∙ sym k.1, ap Some (one_wide_entry (row_count p) (column_count p) (first_entry p) (limit_of width) (basis_of p carried) a b h.0 k.0))

    -- ---- one answer

    same_carried : (a b : Replay) (h : IsReplay p width listed a) (k : IsReplay p width listed b) → h.carried ≡ k.carried
    same_carried a b h k = elim (compared h.carried k.carried h.carried_out.rest k.carried_out.rest (sym h.carried_out.front ∙ k.carried_out.front)) [
      | inl same ↦ same
      | inr (inl l) ↦ absurd (not_before h.carried k.carried h.carried_out.rest (length a.dens) a.wide h.carried_out.front l k.carried_out.narrow h.ended)
      | inr (inr l) ↦ absurd (not_before k.carried h.carried k.carried_out.rest (length b.dens) b.wide k.carried_out.front l h.carried_out.narrow k.ended)
    ]

    pub one_replay : (a b : Replay) → IsReplay p width listed a → IsReplay p width listed b → a ≡ b
    one_replay a b h k =
        let same : k.carried ≡ h.carried = sym (same_carried a b h k) in
        let ended : HasEnded p width listed h.carried (length b.dens) b.wide = subst (λ (xs : List Pivot). HasEnded p width listed xs (length b.dens) b.wide) same k.ended in
        let bases : AreBasesTold p h.carried b.dens b.greatest = subst (λ (xs : List Pivot). AreBasesTold p xs b.dens b.greatest) same k.bases in
        let followed : AreFollowed p h.carried b.followed = subst (λ (xs : List Pivot). AreFollowed p xs b.followed) same k.followed in
        let ends = same_end h.carried (length a.dens) (length b.dens) a.wide b.wide h.ended ended in
        let lists = same_bases h.carried a.dens b.dens a.greatest b.greatest ends.0 h.bases bases in
        ap₂ (λ dens greatest. made dens greatest a.wide a.followed) lists.0 lists.1
        ∙ ap₂ (λ wide n. made b.dens b.greatest wide n) ends.1 (same_followed h.carried a.followed b.followed h.followed followed)

    -- ---- no answer where a pivot is refused

    -- a pivot that was carried out was not refused
    not_carried : (a : ℕ) (h : IsLawless p width listed a) (long : List Pivot) → IsLonger h.carried long (h.pivot ∷ h.more) → AllLawful p (first_basis p) long → ⊥
    not_carried a h long l lawful =
        let law : IsLawful p (basis_of p h.carried) l.head = AllLawful-at p (first_basis p) h.carried l.head l.tail (subst (λ (xs : List Pivot). AllLawful p (first_basis p) xs) l.long_is lawful) in
        h.unlawful (subst (λ (q : Pivot). IsLawful p (basis_of p h.carried) q) (sym (same_head h.pivot l.head h.more l.others l.rest_is)) law)

    not_lawless : (a : Replay) (n : ℕ) → IsReplay p width listed a → IsLawless p width listed n → ⊥
    not_lawless a n h k = elim (compared h.carried k.carried h.carried_out.rest (k.pivot ∷ k.more) (sym h.carried_out.front ∙ k.next)) [
      | inl same ↦ not_there k.carried k.pivot k.more (length a.dens) a.wide k.next k.narrow (subst (λ (xs : List Pivot). HasEnded p width listed xs (length a.dens) a.wide) same h.ended)
      | inr (inl l) ↦ not_before h.carried k.carried h.carried_out.rest (length a.dens) a.wide h.carried_out.front l k.carried_out.narrow h.ended
      | inr (inr l) ↦ not_carried n k h.carried l h.carried_out.lawful
    ]

    one_number : (m n : ℕ) → IsLawless p width listed m → IsLawless p width listed n → m ≡ n
    one_number m n h k = elim (compared h.carried k.carried (h.pivot ∷ h.more) (k.pivot ∷ k.more) (sym h.next ∙ k.next)) [
      | inl same ↦ h.number_is ∙ ap (λ xs. suc (length xs)) same ∙ sym k.number_is
      | inr (inl l) ↦ absurd (not_carried m h k.carried l k.carried_out.lawful)
      | inr (inr l) ↦ absurd (not_carried n k h.carried l h.carried_out.lawful)
    ]

    -- so the answer is decided

    pub decided_replay : (result : Result Replay ReplayError) → IfOk result (IsReplay p width listed) → IfErr result (Refuses p width listed) → (other : Replay) → IsReplay p width listed other → MatchResult result (λ replay. replay ≡ other) (λ error. error ≡ errors.Memory)
    decided_replay (Ok replay) ok err other h = one_replay replay other ok h
    decided_replay (Err (errors.Pivot number)) ok err other h = absurd (not_lawless other number h err)
    decided_replay (Err errors.Memory) ok err other h = refl

    pub decided_lawless : (result : Result Replay ReplayError) → IfOk result (IsReplay p width listed) → IfErr result (Refuses p width listed) → (number : ℕ) → IsLawless p width listed number → MatchResult result (λ _. ⊥) (TellsNumber number)
    decided_lawless (Ok replay) ok err number h = not_lawless replay number ok h
    decided_lawless (Err (errors.Pivot named)) ok err number h = one_number named number err h
    decided_lawless (Err errors.Memory) ok err number h = tt
