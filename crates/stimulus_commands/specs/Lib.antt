pub mod Stimuli
pub mod Stim
pub mod CountsOf
pub mod SelfTest
pub mod Ending
pub mod SelfEnding
pub mod Laws
