mod Asking
mod Joined
pub mod Lines
pub mod Listings
mod EntriesShown
mod Showing
pub mod Orders
pub mod Missed
pub mod Arrays
pub mod Plain
mod Written
mod Reader
mod ShownNames
pub mod OneLine
pub mod FlagWords
mod ListedNames
mod TitleKept
mod CallsRead
mod Formed
pub mod FieldLines
pub mod RecordWritten
mod HexWords
mod ShortNames
mod Padding
mod Columns
mod Painting
mod AddressRows
mod AddressesRead
