mod KeySteps
mod EndSteps
mod ReadSteps
