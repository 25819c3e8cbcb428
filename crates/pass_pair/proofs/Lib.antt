-- The laws of two sine conditions together. For a caller: `Exact` (within the bounds that number 9 leaves, the numerator is that of the
-- definition) and `Clamping` (a clamped correction puts an angle out of range exactly if the correction itself does).
pub mod Clamping
pub mod Exact
