mod KeptLemmas
mod PlaceLemmas
mod StepLemmas
mod Taking
