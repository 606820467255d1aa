pub mod Bodies
pub mod Items
pub mod Lists
pub mod Held
pub mod Answered
pub mod Reading
pub mod Answering
pub mod Laws
