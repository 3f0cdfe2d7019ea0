pub mod CableRun
pub mod SegmentRun
pub mod CleanTicks
pub mod Quiet
pub mod DatabaseFacts
pub mod Cuts
pub mod Rising
