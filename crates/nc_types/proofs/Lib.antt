mod MovedTags
mod Decimal
mod Pieces
mod UnquoteLaws
mod LaterNames
mod DecimalLaws
mod Owner
mod Behind
