mod Behind
mod Named
