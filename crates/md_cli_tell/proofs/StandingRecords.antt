-- The records of standings, one after another.
use Rattle.std.proofs.Common.{◌≡◌, ℕ, suc, ◌+◌, ◌<◌, List, [], ◌∷◌, ◌++◌, length, take, get_or, ap, ◌∙◌, arith}
use Rattle.std.proofs.lemmas.List.{length-take-le, take_more}
use Rattle.md_require.specs.declared.standing.Standing.{Standing}
use Rattle.md_cli_tell.specs.Standings.{standing_record, standing_records}

records-push : (first : ℕ) (xs : List Standing) (x : Standing) → standing_records first (xs ++ x ∷ []) ≡ standing_records first xs ++ standing_record (first + length xs) x ∷ []
records-push first [] x =
    let place : first ≡ first + 0 = omega arith in
    ap (λ (k : ℕ). standing_record k x ∷ []) place
records-push first (y ∷ ys) x =
    let place : suc first + length ys ≡ first + suc (length ys) = omega arith in
    ap (λ rest. standing_record first y ∷ rest) (records-push (suc first) ys x)
    ∙ ap (λ (k : ℕ). standing_record first y ∷ (standing_records (suc first) ys ++ standing_record k x ∷ [])) place

pub records-next : (xs : List Standing) (i : ℕ) (d : Standing) → i < length xs → standing_records 0 (take (i + 1) xs) ≡ standing_records 0 (take i xs) ++ standing_record i (get_or xs i d) ∷ []
records-next xs i d below =
    let place : 0 + length (take i xs) ≡ i = omega (arith, length-take-le i xs (omega arith)) in
    ap (standing_records 0) (take_more xs i d below) ∙ records-push 0 (take i xs) (get_or xs i d)
    ∙ ap (λ (k : ℕ). standing_records 0 (take i xs) ++ standing_record k (get_or xs i d) ∷ []) place
