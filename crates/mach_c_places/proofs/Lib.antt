pub mod AloneSites
pub mod WeakNames
pub mod SameMore
mod PlacesHeld
