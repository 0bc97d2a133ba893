mod Members
mod Parts
