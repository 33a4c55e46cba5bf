mod PlainBlocks
mod Rooms
