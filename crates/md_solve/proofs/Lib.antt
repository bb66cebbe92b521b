pub mod Claims
pub mod OneAnswer
pub mod AuctionAnswers
