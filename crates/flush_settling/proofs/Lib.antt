mod CellSteps
mod SettledSteps
mod SettleSteps
