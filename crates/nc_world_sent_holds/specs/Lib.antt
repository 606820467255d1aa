pub mod SentHolds
