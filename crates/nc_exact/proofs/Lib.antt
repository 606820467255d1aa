pub mod Lives
pub mod Life
pub mod SentSo
pub mod Climbs
pub mod Rises
pub mod Settled
pub mod Exacts
pub mod Promises
