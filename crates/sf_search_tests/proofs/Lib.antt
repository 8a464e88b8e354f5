mod Common
mod TwoLeaves
