mod ToyBlocks
mod ToyOpening
