pub mod CutLemmas
pub mod GatherLemmas
pub mod HeardLemmas
pub mod HeldLemmas
pub mod PeerLemmas
pub mod QueueLemmas
pub mod TrackLemmas
