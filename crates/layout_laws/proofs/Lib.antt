mod TreeLemmas
mod PlaceLemmas
mod OasisLemmas
