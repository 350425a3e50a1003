pub mod ItemLines
pub mod Items
pub mod Reported
pub mod Verified
pub mod MembersReported
mod Placed
