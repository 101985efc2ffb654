-- The laws of the image, what the types of the program say of a state, two's complement, what events do to an image, and that answers are told apart.
pub mod Codec
pub mod Typed
pub mod Parts
pub mod Filled
pub mod Heard
pub mod Told
