pub mod EdgesStand
pub mod Edgeless
pub mod Taking
pub mod Reaching
pub mod Laws
