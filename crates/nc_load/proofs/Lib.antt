mod Text
mod Short
