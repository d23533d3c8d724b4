mod KernelReady
mod WindowIdentity
mod TileReads
mod Adding
mod Finishing
