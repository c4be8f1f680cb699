pub mod Order
pub mod Answer
pub mod Taking
pub mod Layers
pub mod Placed
pub mod Shown
pub mod inner
