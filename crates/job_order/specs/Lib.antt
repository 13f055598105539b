-- Where reading a job stands.
pub mod Standing
