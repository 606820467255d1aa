pub mod HistoriesStand
