-- The lists of an answer to a setting fit the programs of its nodes.
use Rattle.std.proofs.Common.{◌≡◌, ◌↔◌, IsTrue, MatchBool, Bool, true, false, not, List, Option, ℕ, refl, sym, ◌∙◌, subst}
use mathlib.Core.Bool.{false≢true}
use Rattle.md_setting.specs.Setting.{GeneralSetting}
use Rattle.md_lp.specs.Program.{Program, row_count}
use Rattle.md_cert.specs.declared.certificate.Certificate.{Certificate}
use Rattle.md_cert.specs.Certified.{Certified}
use Rattle.md_cert.specs.Fitting.{Fits}
use Rattle.md_claims.proofs.FitLaws.{fits-optimal, fits-rows}
use Rattle.md_determ_node.specs.NodeProgram.{IsNodeProgram, row_count_of}
use Rattle.md_tree.specs.AnswerTo.{IsLeafFor}
use Rattle.md_tree.specs.Leaves.{OfCertificate, IsCertified, IsRefused, IsCertifiedLeaf, IsRefusedLeaf}
use Rattle.md_tree.specs.declared.node.Node.{Node}
use Rattle.md_tree.specs.declared.node.Node.TheVariants.{Branch, Infeasible, Optimal}

-- the certificate of a leaf fits the program of what is fixed there
pub leaf-fits : (s : GeneralSetting) (fixed : List (Option ℕ)) (leaf : Node) (p : Program) → IsNodeProgram s fixed p → row_count p ≡ row_count_of s fixed → IsLeafFor s fixed leaf
    → OfCertificate s (Fits p) leaf
leaf-fits s fixed (Branch rank) p is count for = absurd for
leaf-fits s fixed (Infeasible face) p is count for = fits-rows p (row_count_of s fixed) face count for
leaf-fits s fixed (Optimal m bound) p is count for = fits-optimal s p (row_count_of s fixed) m bound is.columns count for.0 for.1

-- what holds of the certificate that the leaf states holds of one that is the same, and what holds of this one holds of the other
pub of-certificate : (s : GeneralSetting) (Has : Certificate → Type 0) (leaf : Node) (certificate : Certificate) → OfCertificate s (λ stated. certificate ≡ stated) leaf → OfCertificate s Has leaf
    → Has certificate
of-certificate s Has (Branch rank) certificate is h = absurd h
of-certificate s Has (Infeasible face) certificate is h = subst Has (sym is) h
of-certificate s Has (Optimal m bound) certificate is h = subst Has (sym is) h

pub certificate-of : (s : GeneralSetting) (Has : Certificate → Type 0) (leaf : Node) (certificate : Certificate) → OfCertificate s (λ stated. certificate ≡ stated) leaf → Has certificate
    → OfCertificate s Has leaf
certificate-of s Has (Branch rank) certificate is h = is
certificate-of s Has (Infeasible face) certificate is h = subst Has is h
certificate-of s Has (Optimal m bound) certificate is h = subst Has is h

pub none-certified : (some none : Bool) (C : Type 0) → some ≡ not none → (some ≡ false) ↔ C → IsTrue none ↔ C
none-certified some true C is h = (λ t. h.0 is, λ c. refl)
none-certified some false C is h = (λ t. absurd (false≢true t), λ c. absurd (false≢true (sym (h.1 c) ∙ is)))

-- what a program of what is fixed there says of the certificate that the leaf states
pub leaf-judged : (s : GeneralSetting) (fixed : List (Option ℕ)) (leaf : Node) (p : Program) (certificate : Certificate) (certified : Bool) → IsNodeProgram s fixed p
    → OfCertificate s (λ stated. certificate ≡ stated) leaf → IsTrue certified ↔ Certified p certificate → MatchBool certified (IsCertifiedLeaf s fixed leaf) (IsRefusedLeaf s fixed leaf)
leaf-judged s fixed leaf p certificate true is states h =
    certificate-of s (IsCertified s fixed) leaf certificate states (record { program = p; is_program = is; certified = h.0 refl })
leaf-judged s fixed leaf p certificate false is states h =
    certificate-of s (IsRefused s fixed) leaf certificate states (record { program = p; is_program = is; refused = λ c. false≢true (h.1 c) })
