pub mod Critical
pub mod Laws
pub mod inner
