-- What is told of values, one after another.
use Rattle.std.proofs.Common.{◌≡◌, ℕ, ◌+◌, List, [], ◌∷◌, ◌++◌, refl, sym, ap₂, ◌∙◌}
use Rattle.std.proofs.lemmas.List.{map-append}
use Rattle.std.proofs.lemmas.List.Elements.{All-push, All-nil}
use Rattle.md_math.proofs.Builders.{list_to-more}
use Rattle.md_setting.specs.Auction.{SymmetricAuction}
use Rattle.md_border.specs.declared.interim.Interim.{Interim}
use Rattle.md_auction_report.specs.declared.value_numbers.ValueNumbers.{ValueNumbers}
use Rattle.md_auction_report.specs.Types.{IsToldOf, AreTold}

pub told-none : (a : SymmetricAuction) (interim : Interim) → AreTold a interim 0 []
told-none a interim = record { are = refl; each = All-nil (IsToldOf a interim) }

-- one value more
pub told-more : (a : SymmetricAuction) (interim : Interim) (count : ℕ) (told : List ValueNumbers) (next : ValueNumbers) → AreTold a interim count told → IsToldOf a interim next → next.kind ≡ count
    → AreTold a interim (count + 1) (told ++ next ∷ [])
told-more a interim count told next h is e = record {
  are = map-append (λ one. one.kind) told (next ∷ []) ∙ ap₂ (λ xs x. xs ++ x ∷ []) h.are e ∙ sym (list_to-more count (λ v. v));
  each = All-push (IsToldOf a interim) told next h.each is;
}
