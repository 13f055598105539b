-- What the contracts of the exchange cite.
pub mod Behind
pub mod Exchange
