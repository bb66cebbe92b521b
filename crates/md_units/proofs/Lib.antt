pub mod UnitLaws
mod UnitEnds
