mod Contents
mod Lines
