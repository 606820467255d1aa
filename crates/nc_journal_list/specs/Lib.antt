pub mod NameReader
