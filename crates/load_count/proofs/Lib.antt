mod ItemLines
mod LinesTaken
mod Plain
mod Totals
