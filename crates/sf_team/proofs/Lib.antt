mod Common
mod Moves
mod Right
mod Tables
