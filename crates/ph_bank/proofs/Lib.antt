pub mod DriveLemmas
pub mod ScriptLemmas
pub mod SimulationLemmas
