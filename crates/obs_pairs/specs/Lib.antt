pub mod Partners
pub mod PairWork
pub mod inner
