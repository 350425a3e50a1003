pub mod Numbers
pub mod Furthest
pub mod OpenClaims
pub mod SectionItems
pub mod OneByOne
mod States
mod Firsts
pub mod Joined
pub mod Reported
pub mod Names
pub mod Chains
pub mod Ahead
pub mod Texts
pub mod OneArrangement
mod Sharing
pub mod Slices
pub mod OneListOfSlices
