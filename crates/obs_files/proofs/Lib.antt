pub mod Taking
pub mod Contents
pub mod Filed
pub mod Worded
pub mod Valid
pub mod Beside
