pub mod ListedChannels
mod Numbers
