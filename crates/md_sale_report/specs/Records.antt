-- The records of a report on a sale.
use Rattle.std.specs.Prelude.{ℕ, List, [], ◌∷◌, map, codes, pos}
use Rattle.md_num.specs.WholeText.{text_of}
use Rattle.md_setting.specs.Setting.{GeneralSetting}
use Rattle.md_mech.specs.RowName.{path}
use Rattle.md_report.specs.Records.{report_text}
use Rattle.md_sale_report.specs.declared.sale_report.SaleReport.{SaleReport}

-- the name of a cut, and its record
abbrev pub cut_name : ℕ → List ℕ
cut_name set = path (codes "cut" ∷ text_of (pos set) ∷ [])

abbrev pub cut_record : ℕ → List (List ℕ)
cut_record set = codes "tight" ∷ cut_name set ∷ []

-- the records of the figures, and in front of the end those of the cuts
abbrev pub sale_report_text : GeneralSetting → SaleReport → List ℕ
sale_report_text s report = report_text s report.figures (map cut_record report.cuts.items)
