pub mod SmallSums
