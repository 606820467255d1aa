mod Blanks
mod Stays
mod Unique
mod Steps
mod Heads
mod Bodies
mod Feeding
mod Answering
