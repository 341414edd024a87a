pub mod CountLaws
pub mod HolderLaws
pub mod NextLaws
pub mod SoundLaws
