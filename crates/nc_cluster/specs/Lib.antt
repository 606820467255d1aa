pub mod PureLine
pub mod Comers
pub mod Made
pub mod Cluster
pub mod Stands
