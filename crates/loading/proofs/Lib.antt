mod OpenedLogs
mod Appending
mod CutSets
mod Rewritten
mod Room
