-- The records that tell a report on an auction.
use Rattle.std.specs.Prelude.{ℕ, List, [], ◌∷◌, ◌++◌, map, codes, Option, None, Some, slice_get}
use Rattle.md_records.specs.Written.{text_of_records}
use Rattle.md_setting.specs.Auction.{SymmetricAuction, value_count}
use Rattle.md_reduced.specs.declared.condition.ReducedCondition.{ReducedCondition}
use Rattle.md_reduced.specs.declared.condition.ReducedCondition.TheVariants.{Truth, Rational, Cut}
use Rattle.md_reduced.specs.Conditions.{conditions_of}
use Rattle.md_reduced.specs.Names.{name_of, value_text}
use Rattle.md_report.specs.Records.{fraction, number_record, end_record}
use Rattle.md_auction_report.specs.declared.auction_report.AuctionReport.{AuctionReport}
use Rattle.md_auction_report.specs.declared.greatest.Greatest.{Greatest}
use Rattle.md_auction_report.specs.declared.value_numbers.ValueNumbers.{ValueNumbers}

-- what a bidder with a value gets, and what it pays
abbrev pub type_record : SymmetricAuction → ValueNumbers → List (List ℕ)
type_record a told = codes "type" ∷ value_text a told.kind ∷ fraction told.utility ++ fraction told.payment

-- which condition it is; of a cut nothing is told
abbrev pub worst_head : SymmetricAuction → ReducedCondition → List (List ℕ)
worst_head a (Truth v w) = codes "gain" ∷ value_text a v ∷ value_text a w ∷ []
worst_head a (Rational v) = codes "loss" ∷ value_text a v ∷ []
worst_head a (Cut set) = []

abbrev pub worst_record : SymmetricAuction → Greatest → List (List ℕ)
worst_record a told = worst_head a told.condition ++ fraction told.amount

-- the record of what is told, if something is
abbrev pub told_records : SymmetricAuction → Option Greatest → List (List (List ℕ))
told_records a None = []
told_records a (Some told) = worst_record a told ∷ []

-- the name of the condition of this row
abbrev pub name_in : SymmetricAuction → Option ReducedCondition → List ℕ
name_in a None = []
name_in a (Some c) = name_of a c

abbrev pub tight_record : SymmetricAuction → List ℕ → ℕ → List (List ℕ)
tight_record a cuts row = codes "tight" ∷ name_in a (slice_get (conditions_of (value_count a) cuts) row) ∷ []

-- the value, the revenue and the welfare
abbrev pub head_records : AuctionReport → List (List (List ℕ))
head_records report =
    number_record (codes "value") report.value ∷ number_record (codes "revenue") report.revenue ∷ number_record (codes "welfare") report.welfare ∷ []

-- all records, in their order
abbrev pub report_records : SymmetricAuction → List ℕ → AuctionReport → List (List (List ℕ))
report_records a cuts report =
    head_records report
    ++ map (type_record a) report.types.items
    ++ told_records a report.gain
    ++ worst_record a report.loss ∷ []
    ++ map (tight_record a cuts) report.tight.items
    ++ end_record ∷ []

abbrev pub report_text : SymmetricAuction → List ℕ → AuctionReport → List ℕ
report_text a cuts report = text_of_records (report_records a cuts report)
