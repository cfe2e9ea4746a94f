mod Pieces
mod Sources
