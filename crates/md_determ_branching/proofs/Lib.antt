pub mod Laws
pub mod Measure
pub mod Trails
