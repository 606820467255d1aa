pub mod Cuts
pub mod Flows
pub mod Said
pub mod Known
pub mod Loop
pub mod Parted
pub mod Ends
mod Verdicts
mod OneFront
mod OneEnd
pub mod Always
pub mod Loads
