pub mod Islands
pub mod Firsts
pub mod inner
