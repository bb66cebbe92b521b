-- There is one cut run: two runs add the same cuts as long as both go on, and none goes on behind its end.
use Rattle.std.proofs.Common.{◌≡◌, ℕ, zero, suc, ◌+◌, ◌-◌, ◌<◌, ◌≤◌, ◌⊎◌, ℤ, true, List, [], ◌∷◌, ◌++◌, length, take, Ok, refl, sym, ap, ap₂, ◌∙◌, subst, arith, inl, inr}
use Rattle.std.specs.Prelude.{slice_index}
use Rattle.std.specs.Int.{bit_at}
use Rattle.std.proofs.lemmas.Bool.Decides.{leb_tells, nat_tests}
use Rattle.std.proofs.lemmas.Int.{ints}
use Rattle.std.proofs.lemmas.Nat.Bits.{bit_at-lt, same_from_bits_below}
use Rattle.std.proofs.Math.Seq.{take-length, take-suc}
use Rattle.md_math.specs.Lists.{number_at}
use Rattle.md_math.specs.Sets.{member}
use Rattle.md_lp.specs.Program.{Program}
use Rattle.md_lp.specs.declared.wide.Wide.{Wide}
use Rattle.md_cert.specs.declared.certificate.Certificate.{Certificate}
use Rattle.md_cert.specs.declared.certificate.Certificate.TheVariants as certificates
use Rattle.md_simplex.specs.declared.end.End.{End}
use Rattle.md_simplex.specs.declared.order.Order.TheVariants.{Forward, Backward}
use Rattle.md_simplex.specs.Runs.{IsFirstWideOf, IsRun}
use Rattle.md_simplex.proofs.OneRun.{one_run}
use Rattle.md_simplex.proofs.RunLaws.{decided_wide as run-decided_wide, first_meets, one_first_wide}
use Rattle.md_cut_runs.specs.declared.optimum.Optimum.{Optimum}
use Rattle.md_cut_runs.specs.Cutting.{Cutting, IsCutting}
use Rattle.md_cut_runs.specs.CutRuns.{AreWide, EndsSettled, EndsWide, IsCutRun, IsNextCut, IsOptimumOf, IsSettled, certificate_of}
use Rattle.md_cut_runs.specs.Worst.{IsWorst}
use Rattle.md_cut_runs.proofs.SingleCuts.{places-le}

-- ---- sets with the same places

two : (n : ℕ) → n < 2 → (n ≡ 0) ⊎ (n ≡ 1)
two zero l = inl refl
two (suc zero) l = inr refl
two (suc (suc n)) l = absurd (omega (arith, l))

member-bit : (set v : ℕ) → member set v ≡ true → bit_at set v ≡ 1
unfolding member
member-bit set v h = grind (arith, nat_tests)

bit-member : (set v : ℕ) → bit_at set v ≡ 1 → member set v ≡ true
unfolding member
bit-member set v h = grind (arith, nat_tests)

same-bit : (s t v : ℕ) → (member s v ≡ true → member t v ≡ true) → (member t v ≡ true → member s v ≡ true) → bit_at s v ≡ bit_at t v
same-bit s t v forth back = elim (two (bit_at s v) (bit_at-lt s v)) [
  | inl none ↦ elim (two (bit_at t v) (bit_at-lt t v)) [
    | inl also ↦ none ∙ sym also
    | inr there ↦ member-bit s v (back (bit-member t v there)) ∙ sym there
  ]
  | inr here ↦ here ∙ sym (member-bit t v (forth (bit-member s v here)))
]

-- ---- what is read

-- what a certificate tells of a greatest point, in place of another one
told : Optimum → Certificate → Optimum
told other (certificates.Optimal den point bound) = record { den = den; point = point; bound = bound }
told other (certificates.Infeasible face) = other
told other (certificates.Unbounded den point ray) = other

-- a run within the width leaves no two wide bases
wide-run : (p : Program) (width : ℕ) (end : End) (first second : Wide) → IsRun p width end → IsFirstWideOf Forward p width first → IsFirstWideOf Backward p width second → ⊥
wide-run p width end first second run forward backward =
    run-decided_wide p width (Ok end) run (first_meets p Forward width first forward) (first_meets p Backward width second backward)

module _ (m : Cutting) (is : IsCutting m) (width : ℕ) where
  pub one_optimum : (cuts : List ℕ) (a b : Optimum) → IsOptimumOf m width cuts a → IsOptimumOf m width cuts b → a ≡ b
  unfolding told
  one_optimum cuts a b h k =
      let moved : IsRun h.program width k.end = (is.one cuts k.program h.program k.is_program h.is_program).run width k.end k.run in
      let same : h.end ≡ k.end = one_run h.program width h.end k.end h.run moved in
      let read : certificate_of a ≡ certificate_of b = sym h.reads ∙ ap (λ (end : End). end.certificate) same ∙ k.reads in
      ap (told a) read

  one_worst : (den : ℤ) (x : ℕ → ℤ) (s t : ℕ) → IsWorst m den x s → IsWorst m den x t → s ≡ t
  one_worst den x s t h k =
      let below = k.greatest s h.inside in
      let above = h.greatest t k.inside in
      let same : m.excess den x s ≡ m.excess den x t = omega (arith, ints, below, above) in
      same_from_bits_below m.places s t h.inside k.inside (λ v b. same-bit s t v (k.largest s h.inside same v b) (h.largest t k.inside (sym same) v b))

  one_next : (cuts : List ℕ) (s t : ℕ) → IsNextCut m width cuts s → IsNextCut m width cuts t → s ≡ t
  one_next cuts s t h k =
      let same : h.optimum ≡ k.optimum = one_optimum cuts h.optimum k.optimum h.is_optimum k.is_optimum in
      one_worst k.optimum.den (number_at k.optimum.point) s t (subst (λ (o : Optimum). IsWorst m o.den (number_at o.point) s) same h.worst) k.worst

  pub one_wide : (cuts : List ℕ) (a b c d : Wide) → AreWide m width cuts a b → AreWide m width cuts c d → (a ≡ c) × (b ≡ d)
  one_wide cuts a b c d h k =
      let same = is.one cuts k.program h.program k.is_program h.is_program in (
        one_first_wide h.program Forward width a c h.forward (same.wide Forward width c k.forward),
        one_first_wide h.program Backward width b d h.backward (same.wide Backward width d k.backward),
      )

  -- ---- ends

  -- a program that has a taken path is not one that has none
  pub not_both : (cuts : List ℕ) (optimum : Optimum) (first second : Wide) → IsOptimumOf m width cuts optimum → AreWide m width cuts first second → ⊥
  not_both cuts optimum first second h k =
      let same = is.one cuts k.program h.program k.is_program h.is_program in
      wide-run h.program width h.end first second h.run (same.wide Forward width first k.forward) (same.wide Backward width second k.backward)

  -- no cut is added behind these
  pub record IsLast (cuts : List ℕ) : Type 0 where
    pub none : (set : ℕ) → ¬ IsNextCut m width cuts set

  pub last-settled : (cuts : List ℕ) (optimum : Optimum) → IsOptimumOf m width cuts optimum → IsSettled m optimum → IsLast cuts
  last-settled cuts optimum h settled = record {
    none = λ set next.
        let same : next.optimum ≡ optimum = one_optimum cuts next.optimum optimum next.is_optimum h in
        let worst : IsWorst m optimum.den (number_at optimum.point) set = subst (λ (o : Optimum). IsWorst m o.den (number_at o.point) set) same next.worst in
        let positive = worst.positive in
        let none = settled.none_over set worst.inside in
        omega (arith, ints, positive, none);
  }

  pub last-wide : (cuts : List ℕ) (first second : Wide) → AreWide m width cuts first second → IsLast cuts
  last-wide cuts first second wide = record { none = λ set next. not_both cuts next.optimum first second next.is_optimum wide }

  -- ---- runs

  -- two runs have the same cuts up to a place that both have
  same-front : (a b : List ℕ) → IsCutRun m width a → IsCutRun m width b → (n k : ℕ) → k ≡ n + m.places → k ≤ length a → k ≤ length b → take k a ≡ take k b
  same-front a b h g zero k e la lb =
      let here : k ≡ m.places = omega (arith, e) in
      ap (λ j. take j a) here ∙ h.begins ∙ sym g.begins ∙ ap (λ j. take j b) (sym here)
  same-front a b h g (suc n) k e la lb =
      let j : ℕ = n + m.places in
      let next : k ≡ suc j = omega (arith, e) in
      let before : take j a ≡ take j b = same-front a b h g n j refl (omega (arith, next, la)) (omega (arith, next, lb)) in
      let adds_a : IsNextCut m width (take j a) (slice_index a j) = h.adds j (omega arith) (omega (arith, next, la)) in
      let adds_b : IsNextCut m width (take j b) (slice_index b j) = g.adds j (omega arith) (omega (arith, next, lb)) in
      let cut : slice_index a j ≡ slice_index b j = one_next (take j b) (slice_index a j) (slice_index b j) (subst (λ (cs : List ℕ). IsNextCut m width cs (slice_index a j)) before adds_a) adds_b in
      ap (λ i. take i a) next
      ∙ take-suc a j 0 (omega (arith, next, la))
      ∙ ap₂ (λ xs x. xs ++ x ∷ []) before cut
      ∙ sym (take-suc b j 0 (omega (arith, next, lb)))
      ∙ ap (λ i. take i b) (sym next)

  front : (a b : List ℕ) → IsCutRun m width a → IsCutRun m width b → length a ≤ length b → a ≡ take (length a) b
  front a b h g less =
      sym (take-length a)
      ∙ same-front a b h g (length a - m.places) (length a) (omega (arith, places-le m width a h)) (omega arith) less

  -- a run does not go on behind one that has come to its end
  not_shorter : (a b : List ℕ) → IsCutRun m width a → IsCutRun m width b → IsLast a → length a < length b → ⊥
  not_shorter a b h g last less =
      let all : a ≡ take (length a) b = front a b h g (omega (arith, less)) in
      let adds : IsNextCut m width (take (length a) b) (slice_index b (length a)) = g.adds (length a) (places-le m width a h) less in
      last.none (slice_index b (length a)) (subst (λ (cs : List ℕ). IsNextCut m width cs (slice_index b (length a))) (sym all) adds)

  pub one_cut_run : (a b : List ℕ) → IsCutRun m width a → IsCutRun m width b → IsLast a → IsLast b → a ≡ b
  one_cut_run a b h g last final = elim (leb_tells (length a) (length b)) [
    | inl most ↦ elim (leb_tells (length b) (length a)) [
      | inl least ↦ front a b h g most.1 ∙ ap (λ n. take n b) (omega (arith, most.1, least.1)) ∙ take-length b
      | inr less ↦ absurd (not_shorter a b h g last less.1)
    ]
    | inr more ↦ absurd (not_shorter b a g h final more.1)
  ]

  -- ---- so there is one end

  pub same_settled : (cuts other : List ℕ) (a b : Optimum) → EndsSettled m width cuts a → EndsSettled m width other b → (cuts ≡ other) × (a ≡ b)
  same_settled cuts other a b h k =
      let same : cuts ≡ other = one_cut_run cuts other h.run k.run (last-settled cuts a h.optimum_of h.settled) (last-settled other b k.optimum_of k.settled) in
      (same, one_optimum other a b (subst (λ (cs : List ℕ). IsOptimumOf m width cs a) same h.optimum_of) k.optimum_of)

  pub same_wide : (cuts other : List ℕ) (a b c d : Wide) → EndsWide m width cuts a b → EndsWide m width other c d → (cuts ≡ other) × (a ≡ c) × (b ≡ d)
  same_wide cuts other a b c d h k =
      let same : cuts ≡ other = one_cut_run cuts other h.run k.run (last-wide cuts a b h.wide) (last-wide other c d k.wide) in
      let both : (a ≡ c) × (b ≡ d) = one_wide other a b c d (subst (λ (cs : List ℕ). AreWide m width cs a b) same h.wide) k.wide in
      (same, both.0, both.1)

  pub not_settled_wide : (cuts other : List ℕ) (optimum : Optimum) (first second : Wide) → EndsSettled m width cuts optimum → EndsWide m width other first second → ⊥
  not_settled_wide cuts other optimum first second h k =
      let same : cuts ≡ other = one_cut_run cuts other h.run k.run (last-settled cuts optimum h.optimum_of h.settled) (last-wide other first second k.wide) in
      not_both other optimum first second (subst (λ (cs : List ℕ). IsOptimumOf m width cs optimum) same h.optimum_of) k.wide
