-- What a leaf of a search tree shows.
use Rattle.std.specs.Prelude.{ℕ, ◌*ℤ◌, ◌≤ℤ◌, List, Option, None, Some}
use Rattle.md_setting.specs.Setting.{GeneralSetting}
use Rattle.md_mech.specs.declared.mechanism.Mechanism.{Mechanism}
use Rattle.md_mech.specs.Optimal.{worth_of}
use Rattle.md_lp.specs.Program.{Program}
use Rattle.md_cert.specs.declared.certificate.Certificate.{Certificate}
use Rattle.md_cert.specs.declared.certificate.Certificate.TheVariants as certificates
use Rattle.md_cert.specs.Certified.{Certified}
use Rattle.md_claims.specs.Certificates.{optimal_certificate}
use Rattle.md_determ_node.specs.NodeProgram.{IsNodeProgram}
use Rattle.md_tree.specs.declared.node.Node.{Node}
use Rattle.md_tree.specs.declared.node.Node.TheVariants.{Branch, Infeasible, Optimal}

-- the program of what is fixed there certifies it
pub record IsCertified (s : GeneralSetting) (fixed : List (Option ℕ)) (certificate : Certificate) : Type 0 where
  pub program : Program
  pub is_program : IsNodeProgram s fixed program
  pub certified : Certified program certificate

-- the program of what is fixed there refuses it
pub record IsRefused (s : GeneralSetting) (fixed : List (Option ℕ)) (certificate : Certificate) : Type 0 where
  pub program : Program
  pub is_program : IsNodeProgram s fixed program
  pub refused : ¬ Certified program certificate

-- `Has` holds of the certificate that the leaf states
abbrev pub OfCertificate : GeneralSetting → (Certificate → Type 0) → Node → Type 0
OfCertificate s Has (Branch rank) = ⊥
OfCertificate s Has (Infeasible face) = Has (certificates.Infeasible face)
OfCertificate s Has (Optimal m bound) = Has (optimal_certificate s m bound)

-- the certificate of the leaf holds, or fails, for the program of what is fixed there
abbrev pub IsCertifiedLeaf : GeneralSetting → List (Option ℕ) → Node → Type 0
IsCertifiedLeaf s fixed leaf = OfCertificate s (IsCertified s fixed) leaf

abbrev pub IsRefusedLeaf : GeneralSetting → List (Option ℕ) → Node → Type 0
IsRefusedLeaf s fixed leaf = OfCertificate s (IsRefused s fixed) leaf

-- one mechanism is worth at most what another one is
abbrev pub IsWorthAtMost : GeneralSetting → Mechanism → Mechanism → Type 0
IsWorthAtMost s m other = (worth_of s m *ℤ other.den) ≤ℤ (worth_of s other *ℤ m.den)

-- the mechanism of the leaf is worth at most what the best mechanism is; where there is no best one, the leaf has none either
abbrev pub IsNoBetter : GeneralSetting → Option Mechanism → Node → Type 0
IsNoBetter s best (Branch rank) = ⊥
IsNoBetter s best (Infeasible face) = Unit {0}
IsNoBetter s (Some best) (Optimal m bound) = IsWorthAtMost s m best
IsNoBetter s None (Optimal m bound) = ⊥

-- The leaf shows that no admissible deterministic mechanism with what is fixed there is better than the best one, or that there is
-- none at all.
pub record IsSoundLeaf (s : GeneralSetting) (best : Option Mechanism) (fixed : List (Option ℕ)) (leaf : Node) : Type 0 where
  pub certified : IsCertifiedLeaf s fixed leaf
  pub within : IsNoBetter s best leaf
