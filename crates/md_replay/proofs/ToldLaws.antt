-- What is told of bases: of one more, and of no more where a pivot is carried out.
use Rattle.std.proofs.Common.{◌≡◌, ℕ, ◌+◌, ◌≤◌, ℤ, pos, List, [], ◌∷◌, ◌++◌, length, take, sym, ap, ◌∙◌, subst, arith, inl, inr}
use Rattle.std.proofs.lemmas.Bool.{cases_lt}
use Rattle.std.proofs.lemmas.List.{length_push, take_all, take-append-le, get_or_append_left}
use Rattle.std.proofs.Math.Seq.{get_or-append_seam}
use Rattle.md_math.specs.Lists.{number_at}
use Rattle.md_lp.specs.Program.{Program}
use Rattle.md_lp.specs.declared.pivot.Pivot.{Pivot}
use Rattle.md_dict.specs.Condensed.{Condensed}
use Rattle.md_simplex.specs.declared.order.Order.TheVariants.{Forward, Backward}
use Rattle.md_simplex.specs.Runs.{basis_of}
use Rattle.md_replay.specs.declared.outcome.Replay.{Replay}
use Rattle.md_replay.specs.Replay.{AreBasesTold, AreFollowed, IsBasisTold, IsFollowed}
use Rattle.md_replay.specs.Standing.{IsAt, IsToldTo, IsUntold, TellsMore}
use Rattle.md_replay.proofs.FollowedLaws.{followed_first}
use Rattle.md_replay.proofs.StandingLaws.{at_told}

pub told_first : (p : Program) (told : Replay) → IsUntold told → IsToldTo p [] 0 told
told_first p told h =
    let none : length told.dens ≡ 0 = ap length h.dens in
    record {
      bases = record { same_length = ap length h.greatest ∙ sym none; told = λ k b. absurd (omega arith) };
      count_is = none;
      wide = h.wide;
      followed = record { forward = subst (IsFollowed Forward p []) (sym h.forward) (followed_first Forward p); backward = subst (IsFollowed Backward p []) (sym h.backward) (followed_first Backward p) };
    }

-- ---- one more basis

bases_more : (p : Program) (carried : List Pivot) (dens greatest : List ℤ) (den size : ℤ) → AreBasesTold p carried dens greatest → length dens ≡ length carried → IsBasisTold p (basis_of p carried) den size → AreBasesTold p carried (dens ++ den ∷ []) (greatest ++ size ∷ [])
bases_more p carried dens greatest den size h count here =
    let same : length greatest ≡ length dens = h.same_length in
    let longer : length (dens ++ den ∷ []) ≡ length dens + 1 = length_push dens den in
    let others : length (greatest ++ size ∷ []) ≡ length greatest + 1 = length_push greatest size in
    let last_den : number_at (dens ++ den ∷ []) (length dens) ≡ den = get_or-append_seam dens den [] (pos 0) in
    let last_size : number_at (greatest ++ size ∷ []) (length dens) ≡ size = subst (λ k. number_at (greatest ++ size ∷ []) k ≡ size) same (get_or-append_seam greatest size [] (pos 0)) in
    record {
      same_length = omega arith;
      told = λ k b. elim (cases_lt k (length dens)) [
        | inl l ↦
            subst (λ y. IsBasisTold p (basis_of p (take k carried)) (number_at (dens ++ den ∷ []) k) y) (sym (get_or_append_left greatest (size ∷ []) (pos 0) k (omega arith)))
            (subst (λ x. IsBasisTold p (basis_of p (take k carried)) x (number_at greatest k)) (sym (get_or_append_left dens (den ∷ []) (pos 0) k l)) (h.told k l))
        | inr l ↦
            let last : length dens ≡ k = omega arith in
            subst (λ i. IsBasisTold p (basis_of p (take i carried)) (number_at (dens ++ den ∷ []) i) (number_at (greatest ++ size ∷ []) i)) last
            (subst (λ (xs : List Pivot). IsBasisTold p (basis_of p xs) (number_at (dens ++ den ∷ []) (length dens)) (number_at (greatest ++ size ∷ []) (length dens))) (sym (take_all (length dens) carried (omega arith)))
            (subst (λ y. IsBasisTold p (basis_of p carried) (number_at (dens ++ den ∷ []) (length dens)) y) (sym last_size)
            (subst (λ x. IsBasisTold p (basis_of p carried) x size) (sym last_den) here)))
      ];
    }

pub told_here : (p : Program) (width : ℕ) (carried : List Pivot) (d : Condensed) (old new : Replay) → IsAt p width carried d → IsToldTo p carried (length carried) old → TellsMore d old new → IsToldTo p carried (length carried + 1) new
told_here p width carried d old new at h more =
    let longer : length (old.dens ++ d.den ∷ []) ≡ length old.dens + 1 = length_push old.dens d.den in
    let count : length old.dens ≡ length carried = h.count_is in
    let all : AreBasesTold p carried (old.dens ++ d.den ∷ []) (old.greatest ++ more.size ∷ []) =
    bases_more p carried old.dens old.greatest d.den more.size h.bases count (at_told p width carried d at more.size more.nonneg more.is_greatest) in
    record {
      bases = subst (λ y. AreBasesTold p carried new.dens y) (sym more.greatest) (subst (λ x. AreBasesTold p carried x (old.greatest ++ more.size ∷ [])) (sym more.dens) all);
      count_is = ap length more.dens ∙ longer ∙ ap (λ n. n + 1) count;
      wide = more.wide ∙ h.wide;
      followed = subst (AreFollowed p carried) (sym more.followed) h.followed;
    }

-- ---- one more pivot

pub bases_kept : (p : Program) (carried : List Pivot) (q : Pivot) (dens greatest : List ℤ) → AreBasesTold p carried dens greatest → length dens ≤ length carried + 1 → AreBasesTold p (carried ++ q ∷ []) dens greatest
bases_kept p carried q dens greatest h most = record {
  same_length = h.same_length;
  told = λ k b.
      subst (λ (xs : List Pivot). IsBasisTold p (basis_of p xs) (number_at dens k) (number_at greatest k))
      (sym (take-append-le k carried (q ∷ []) (omega arith))) (h.told k b);
}
