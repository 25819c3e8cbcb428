-- The laws that the proofs of the reader use: `ColumnLaws` ties its columns to the layout, `Taking` has the steps of the loops that take
-- values off a sheet and store them, `BodyLaws` what the reader promises from what its parts answer.
mod BodyLaws
mod ColumnLaws
mod Taking
