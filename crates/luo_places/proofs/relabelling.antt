pub mod LabelLemmas
pub mod Relabelled
pub mod LabelMaps
