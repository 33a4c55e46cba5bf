mod Behind
mod Tails
