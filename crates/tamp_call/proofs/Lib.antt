mod Chunk
