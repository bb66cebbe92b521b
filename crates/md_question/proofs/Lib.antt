pub mod OneFraction
pub mod RayFits
pub mod SameForms
pub mod PointCertificates
pub mod BestLaws
pub mod FindingLaws
