pub mod Digits
pub mod HeadersRead
pub mod MembersRead
pub mod MemberLaws
pub mod SymbolsRead
pub mod SymbolLaws
pub mod TextsThere
pub mod ArchiveLaws
