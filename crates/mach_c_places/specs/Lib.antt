pub mod Ranges
pub mod SitesAlone
pub mod WeakCursors
pub mod RebaseCursors
pub mod SignaturePlaces
