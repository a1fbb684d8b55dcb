mod GettingLemmas
mod PuttingLemmas
mod ServingLemmas
