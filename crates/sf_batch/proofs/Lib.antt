mod Common
mod Coming
mod Counts
mod Reading
mod Tables
mod Answering
