mod Numbers
mod WordCounts
