-- What a run is given and leaves once planning has answered.
pub mod Calling
