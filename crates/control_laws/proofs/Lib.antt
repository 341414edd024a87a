mod Dues
mod Rules
mod Orders
mod Effects
mod Marks
mod Steps
