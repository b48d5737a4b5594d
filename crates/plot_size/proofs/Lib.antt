-- Lemmas and worked examples.
mod Reading
mod SizeExamples
