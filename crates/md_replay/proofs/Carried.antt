-- What is answered after some of the listed pivots.
use Rattle.std.proofs.Common.{◌≡◌, ℕ, zero, suc, ◌+◌, ◌<◌, ℤ, List, [], ◌∷◌, ◌++◌, length, take, drop, Option, None, Some, refl, sym, ap, ◌∙◌, subst, arith, add-one, append_assoc}
use Rattle.std.specs.Prelude.{slice_get}
use Rattle.std.proofs.lemmas.List.{length_push, take-append-drop}
use Rattle.std.proofs.lemmas.Option.{slice_get_within}
use Rattle.md_lp.specs.Program.{Program, row_count}
use Rattle.md_lp.specs.declared.entry.Entry.{Entry}
use Rattle.md_lp.specs.declared.pivot.Pivot.{Pivot}
use Rattle.md_num.specs.Limits.{limit_of}
use Rattle.md_dict.specs.Condensed.{Condensed, Holds, IsShapedDictionary, TakesColumn, basic_at}
use Rattle.md_dict.specs.FirstTable.{column_count, first_basis, first_entry}
use Rattle.md_dict.specs.Pivot.{with_column}
use Rattle.md_dict.specs.Wide.{IsWideBasis}
use Rattle.md_replay.specs.declared.outcome.Followed.{Followed}
use Rattle.md_replay.specs.declared.outcome.Replay.{Replay}
use Rattle.md_replay.specs.Replay.{AreBasesTold, AreFollowed, HasEnded, IsCarriedOut, IsLawless, IsReplay}
use Rattle.md_replay.specs.Standing.{CanPivot, IsAt, IsToldTo, IsUntold}
use Rattle.md_replay.proofs.StandingLaws.{IsWideAfter, at_can, at_more, at_wide, at_within}
use Rattle.md_replay.proofs.ToldLaws.{bases_kept, told_first}

-- ---- a place of the listed pivots

one_more_of : (xs : List Pivot) (r : ℕ) → r < length xs → (y : Pivot) × ((slice_get xs r ≡ Some y) × (take (suc r) xs ≡ take r xs ++ y ∷ []))
one_more_of [] r b = absurd (omega arith)
one_more_of (x ∷ xs) zero b = (x, (refl, refl))
one_more_of (x ∷ xs) (suc r) b = let h = one_more_of xs r (omega arith) in (h.0, (h.1.0, ap (λ ys. x ∷ ys) h.1.1))

same_some : (x y : Pivot) (a : Option Pivot) → a ≡ Some x → a ≡ Some y → x ≡ y
same_some x y a h k = cc

pub one_more : (xs : List Pivot) (r : ℕ) (q : Pivot) → slice_get xs r ≡ Some q → take (r + 1) xs ≡ take r xs ++ q ∷ []
one_more xs r q h =
    let next = one_more_of xs r (slice_get_within xs r q h) in
    rw add-one (next.1.1 ∙ ap (λ y. take r xs ++ y ∷ []) (same_some next.0 q (slice_get xs r) next.1.0 h))

split_at : (xs : List Pivot) (r : ℕ) (q : Pivot) → slice_get xs r ≡ Some q → xs ≡ (take r xs ++ q ∷ []) ++ drop (r + 1) xs
split_at xs r q h = sym (take-append-drop (r + 1) xs) ∙ ap (λ ys. ys ++ drop (r + 1) xs) (one_more xs r q h)

-- ---- what is answered

abbrev made : List ℤ → List ℤ → Option Entry → Followed → Replay
made dens greatest wide followed = record { dens = dens; greatest = greatest; wide = wide; followed = followed }

-- the first basis is wide
pub replayed_first : (p : Program) (width : ℕ) (listed : List Pivot) (told : Replay) (entry : Entry) → IsUntold told → IsWideBasis (row_count p) (column_count p) (first_entry p) (first_basis p) (limit_of width) entry → IsReplay p width listed (made told.dens told.greatest (Some entry) told.followed)
replayed_first p width listed told entry h wide =
    let first : IsToldTo p [] 0 told = told_first p told h in
    record {
      carried = [];
      carried_out = record { rest = listed; front = refl; lawful = tt; narrow = tt };
      bases = first.bases;
      ended = (wide, first.count_is);
      followed = first.followed;
    }

module _ (p : Program) (width : ℕ) (listed : List Pivot) (r : ℕ) (d : Condensed) (at : IsAt p width (take r listed) d) (shape : IsShapedDictionary d) where
  -- no pivot was refused so far
  so_far : IsCarriedOut p width listed (take r listed)
  so_far = record { rest = drop r listed; front = sym (take-append-drop r listed); lawful = at.lawful; narrow = at.before }

  -- all pivots were carried out
  pub replayed_whole : (told : Replay) → take r listed ≡ listed → IsToldTo p (take r listed) (length (take r listed) + 1) told → IsReplay p width listed told
  replayed_whole told whole h =
      let count : length told.dens ≡ length (take r listed) + 1 = h.count_is in
      record {
        carried = take r listed;
        carried_out = so_far;
        bases = h.bases;
        ended = subst (λ (w : Option Entry). HasEnded p width listed (take r listed) (length told.dens) w) (sym h.wide) (whole, (at_within p width (take r listed) d at shape, omega arith));
        followed = h.followed;
      }

  module _ (q : Pivot) (here : slice_get listed r ≡ Some q) where
    -- this pivot leads to a basis that is not wide
    pub at_on : (new : Condensed) → CanPivot d q → Holds p new → TakesColumn d new q.row q.column → IsAt p width (take (r + 1) listed) new
    at_on new can holds takes = subst (λ (xs : List Pivot). IsAt p width xs new) (sym (one_more listed r q here)) (at_more p width (take r listed) d at q new shape can holds takes)

    pub told_on : (dens greatest : List ℤ) (wide : Option Entry) (followed : Followed) → AreBasesTold p (take r listed) dens greatest → length dens ≡ length (take r listed) + 1 → wide ≡ None → AreFollowed p (take r listed ++ q ∷ []) followed → IsToldTo p (take (r + 1) listed) (length (take (r + 1) listed)) (made dens greatest wide followed)
    told_on dens greatest wide followed bases count none path =
        let longer : length (take r listed ++ q ∷ []) ≡ length (take r listed) + 1 = length_push (take r listed) q in
        subst (λ (xs : List Pivot). IsToldTo p xs (length xs) (made dens greatest wide followed)) (sym (one_more listed r q here))
        (record {
          bases = bases_kept p (take r listed) q dens greatest bases (omega arith);
          count_is = count ∙ sym longer;
          wide = none;
          followed = path;
        })

    -- this pivot leads to a wide basis
    pub replayed_wide : (dens greatest : List ℤ) (followed : Followed) (entry : Entry)
        → AreBasesTold p (take r listed) dens greatest → length dens ≡ length (take r listed) + 1 → AreFollowed p (take r listed ++ q ∷ []) followed → CanPivot d q
        → IsWideBasis d.rows d.columns (first_entry p) (with_column (basic_at d) q.row q.column) (limit_of d.bits) entry
        → IsReplay p width listed (made dens greatest (Some entry) followed)
    replayed_wide dens greatest followed entry bases count path can wide =
        let next : IsWideAfter p width (take r listed) d at q entry = at_wide p width (take r listed) d at q entry shape can wide in
        let longer : length (take r listed ++ q ∷ []) ≡ length (take r listed) + 1 = length_push (take r listed) q in
        record {
          carried = take r listed ++ q ∷ [];
          carried_out = record { rest = drop (r + 1) listed; front = split_at listed r q here; lawful = next.lawful; narrow = next.before };
          bases = bases_kept p (take r listed) q dens greatest bases (omega arith);
          ended = (next.wide, count ∙ sym longer);
          followed = path;
        }

    -- this pivot cannot be carried out
    pub refused_here : (number : ℕ) → number ≡ length (take r listed) + 1 → ¬ CanPivot d q → IsLawless p width listed number
    refused_here number e cannot = record {
      carried = take r listed;
      carried_out = so_far;
      narrow = at_within p width (take r listed) d at shape;
      pivot = q;
      more = drop (r + 1) listed;
      next = split_at listed r q here ∙ append_assoc (take r listed) (q ∷ []) (drop (r + 1) listed);
      number_is = omega arith;
      unlawful = λ law. cannot (at_can p width (take r listed) d at q law);
    }
