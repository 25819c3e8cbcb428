-- The steps that both passes share meet their contracts; and for the passes: how large sums and numerators are, what a step gives where
-- what is lent fits, and the counts of a figure.
mod AppliedRows
pub mod Bounds
pub mod Counted
pub mod Fitting
pub mod Held
pub mod Judged
pub mod Narrowing
pub mod Polygons
pub mod StepLaws
mod Tables
pub mod Totals
