pub mod Headers
pub mod SegmentViews
pub mod NumberedSections
mod PastTheEnd
mod ShortTexts
pub mod SlotLists
pub mod ReadyLists
pub mod SlotLaws
