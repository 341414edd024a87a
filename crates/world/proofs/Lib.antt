mod Begun
mod Boots
mod Endings
mod Letters
mod Memory
mod StepsTaken
