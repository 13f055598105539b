-- Laws of the exchange.
pub mod Behind
pub mod Rights
pub mod Assembly
